-- What a closing of one polynomial ends with is told.
--   polynomial_alone          the polynomial of a list of one
--   closure_told, proving_told     a list, and how the divisions end that prove it closed
--   counter_letters, counter_image     a word that counters, and its image
--   run_found, run_told       its run
--   counter_told              a run with it, or a number that may not fit
--   stop_told                 why it stopped
--   map_told                  a map that can't be formed
--   asked_none                the meter was opened, and no entry is made
--   closes_counter, counter_fits       a verdict, as it is matched
--   closure_answered, proving_answered, begun_asked     answers over a list of one polynomial
--   answers_equation, leaves_equation, answers_unread     the answer by what the equation is
use Rattle.std.proofs.Common.{◌≡◌, ◌⊎◌, inl, inr, ℕ, List, [], ◌∷◌, length, refl, sym, ap, ap₂, subst, ◌∙◌, All, Ok, Err, Result}
use Rattle.std.specs.Prelude.{Some, IfOk}
use Rattle.std.specs.Global.{Vec}
use Rattle.std.specs.declared.alloc.AllocError.{AllocError}
use Rattle.std.proofs.lemmas.Result.{IfOk-weaker}
use Rattle.std.proofs.lemmas.List.Elements.{All-head}
use Rattle.algebra.specs.Each.{Each}
use Rattle.algebra.specs.Fraction.{Fraction, ℚ}
use Rattle.algebra.proofs.Basics.{same_head}
use Rattle.algebra.proofs.Fractions.{ℚ_ring}
use Rattle.polynomials.specs.Order.{grevlex}
use Rattle.polynomials.specs.Polynomial.{IsPolynomial, Falls}
use Rattle.polynomials.specs.Terms.{Terms, Same}
use Rattle.polynomials.proofs.Canonical.{polynomial_unique}
use Rattle.polynomials.proofs.Orders.{grevlex_order}
use Rattle.polynomials.proofs.Same.{Same-trans}
use Rattle.machines.specs.Journal.{Journal, Entry}
use Rattle.machines.specs.Run.{IsRun}
use Rattle.loops.specs.Program.{Expr, Program}
use Rattle.loops.specs.WellFormed.{IsWellFormed}
use Rattle.rounds.specs.Word.{IsLetter}
use Rattle.poly.specs.Seen.{terms_in, terms_each}
use Rattle.poly.proofs.Standing.{polynomial_over}
use Rattle.poly_text.specs.Reasons.{Fault}
use Rattle.loop_model.specs.FracPoly.{FracPoly}
use Rattle.loop_model.specs.Stops.{Stops}
use Rattle.loop_model.specs.declared.map_error.MapError.{MapError}
use Rattle.loop_model.specs.Maps.{maps_operations, AreFree}
use Rattle.ideal_ops.specs.Calls.{AreOver}
use Rattle.frac128.specs.declared.fraction.Frac.{Frac}
use Rattle.frac128.specs.FracMeaning.{fraction_of}
use Rattle.counter_run.specs.Answers.{states_of, IsRunFrom, IsRunOf}
use Rattle.counter_run.specs.declared.Found.{Found}
use Rattle.counter_run.specs.declared.Found.TheVariants as found
use Rattle.counter_run.specs.Search.{IsNonzeroImage}
use Rattle.corollaries.specs.Image.{image}
use Rattle.closures.specs.Closing.{Candidate, closed, countered, fresh, moves}
use Rattle.closures.specs.Ends.{ComesNext, IsFirstCounter}
use Rattle.closures.specs.Follows.{IsOut}
use Rattle.closures.proofs.Agrees.{closed_yes}
use Rattle.closures.proofs.Ended.{closed_is, countered_is, countered_first}
use Rattle.closures.proofs.Follows.{follows_begun}
use Rattle.closing.specs.Progress.{IsGoing, IfStops, candidate_of, Closes, FitsVerdict}
use Rattle.closing.specs.declared.error.ClosingError.{ClosingError}
use Rattle.closing.specs.declared.error.ClosingError.TheVariants as error
use Rattle.closing.specs.declared.joining.Counter.{Counter}
use Rattle.closing.specs.declared.levels.Verdict.{Verdict}
use Rattle.closing.specs.declared.levels.Verdict.TheVariants as verdict
use Rattle.io_edge.specs.declared.answer.Answer as made
use Rattle.io_edge.specs.Texts.{Answer}
use Rattle.io_edge.specs.Views.{answer_view}
use Rattle.io_edge.proofs.OfStatuses.{no_answer, some_answer}
use Rattle.command_parts.specs.Equations.{equation_in}
use Rattle.command_parts.specs.EquationReading.{IsPolynomialOf, IsUnread}
use Rattle.command_parts.specs.ReadBack.{IsReadBack}
use Rattle.replay_commands.specs.CounterTexts.{limit_answer, wide_answer, map_answer}
use Rattle.closing_commands.specs.declared.evidence.Evidence.{Evidence}
use Rattle.closing_commands.specs.declared.evidence.Evidence.TheVariants as kinds
use Rattle.closing_commands.specs.Deciding.{HasCountered, IsOnTheWay, IsOutOf, TellsCounter, Decides, HasAsked, Answers, Leaves}
use Rattle.closing_commands.specs.ProvedLists.{AreBegun, AreExhausted, TellsProving}
use Rattle.command_parts.specs.FaultTexts.{exhausted_answer}
use Rattle.closing_commands.specs.DecideTexts.{closure_answer, no_answer as told_no}
use Rattle.closing_commands.specs.DecideViews.{stop_answer}

no_terms : (m : ℕ) → IsPolynomial ℚ grevlex m []
unfolding Each Falls
no_terms m = record { nonzero = tt; arity = tt; falls = tt }

pub polynomial_alone : (m : ℕ) (ps : List FracPoly) → AreOver m ps → (p : Terms Fraction)
    → terms_each ps ≡ p ∷ [] → IsPolynomial ℚ grevlex m p
polynomial_alone m [] over p is = absurd (let f : ⊥ = cc in f)
polynomial_alone m (q ∷ qs) over p is =
    subst (IsPolynomial ℚ grevlex m) (same_head is)
    (polynomial_over m q (All-head (λ x. x.arity ≡ m) q qs over))

-- what the search of a run has found, as it is matched
pub run_found : (l : Program (Expr ℕ)) (p : Terms Fraction) (w : List ℕ) (f : Found)
    (v : Vec ℕ) (ss : Vec (Vec Frac)) (x : Frac) → f ≡ found.Run v ss x → IsRunOf l p w f
    → (v.items ≡ w) × IsRunFrom l p w (states_of ss.items) (fraction_of x)
run_found l p w f v ss x is r = subst (IsRunOf l p w) is r

-- a run with the word, over the names, the word and the states as they are written
pub run_told : (l : Program (Expr ℕ)) (p : Terms Fraction) (w v : List ℕ)
    (names : List (List ℕ)) (ss ts : List (List Fraction)) (x : Fraction) → names ≡ l.names
    → v ≡ w → ts ≡ ss → IsRunFrom l p w ss x → (a : Answer) → a ≡ told_no names v ts x
    → TellsCounter l p w a
run_told l p w v names ss ts x same is are r a says = inl (record {
  states = ts;
  value = x;
  run = subst (λ us. IsRunFrom l p w us x) (sym are) r;
  says = says ∙ ap₂ (λ ns u. told_no ns u ts x) same is;
})

module _ (l : Program (Expr ℕ)) (p : Terms Fraction) (m : Journal) where
  abbrev P : List (Terms Fraction)
  P = p ∷ []

  -- ---- the entries
  on_the_way : (evidence : Evidence) → IsGoing l P m.entries → IsOnTheWay l p m.entries evidence
  on_the_way kinds.Basis g = g
  on_the_way kinds.Certificate g = inl g

  out_of : (evidence : Evidence) (n : ℕ) → IsOut l P n m.entries
      → IsOutOf l p m.entries evidence n
  out_of kinds.Basis n o = o
  out_of kinds.Certificate n o = inl o

  module _ (evidence : Evidence) (n : ℕ) (limit : m.limit ≡ n) where
    asked : IsGoing l P m.entries → HasAsked l p m evidence n
    asked g = record { limit = limit; going = on_the_way evidence g }

    pub asked_none : m.entries ≡ [] → HasAsked l p m evidence n
    asked_none e =
        asked (subst (IsGoing l P) (sym e)
        (record { state = fresh; follows = follows_begun l P }))

    -- ---- a map
    pub map_told : m.entries ≡ [] → (e : MapError)
        → Stops (length l.names) (maps_operations l) e → (a : Answer) → map_answer e ≡ Some a
        → Decides l p m evidence n a
    map_told none e s a says = record {
      limit = limit;
      tells = inr (inr (inl (inl (record { stop = e; is = s; none = none; says = says }))));
    }

    module _ (maps : AreFree l) where
      -- ---- a stop
      pub stop_told : (e : ClosingError) → IfStops l P m.limit m.entries e → (a : Answer)
          → stop_answer n e ≡ Some a → Decides l p m evidence n a
      stop_told (error.Limit w) s a says = record {
        limit = limit;
        tells =
            inr (inr (inl (inr (inl (record {
              maps = maps;
              word = w.items;
              is = s;
              says = some_answer (limit_answer w.items) a says;
            })))));
      }
      stop_told (error.Wide w) s a says = record {
        limit = limit;
        tells =
            inr (inr (inl (inr (inr (inl (record {
              maps = maps;
              word = w.items;
              is = inl s;
              says = some_answer (wide_answer w.items) a says;
            }))))));
      }
      stop_told error.Budget s a says = record {
        limit = limit;
        tells =
            inr (inr (inr (record {
              maps = maps;
              out = out_of evidence n (subst (λ k. IsOut l P k m.entries) limit s);
              says = some_answer (exhausted_answer n) a says;
            })));
      }
      stop_told error.Memory s a says = absurd (no_answer a says)

      pub stop_alone : (Q : List (Terms Fraction)) → Q ≡ P → (e : ClosingError)
          → IfStops l Q m.limit m.entries e → (a : Answer) → stop_answer n e ≡ Some a
          → Decides l p m evidence n a
      stop_alone Q one e s a says =
          stop_told e (subst (λ R. IfStops l R m.limit m.entries e) one s) a says

      module _ (well : IsWellFormed l) (hp : IsPolynomial ℚ grevlex (length l.names) p) where
        each : Each (IsPolynomial ℚ grevlex (length l.names)) P
        unfolding Each
        each = (hp, tt)

        -- ---- a word
        module _ (x : Candidate) (i : Terms Fraction)
            (c : ComesNext l P m.entries (countered x i)) where
          is : IsFirstCounter l P x i
          is = countered_is l P each m.entries x i c

          pub counter_letters : All (IsLetter l) x.word
          counter_letters = is.letters

          of_is : x.of ≡ p
          of_is = elim is.given [ inl e ↦ e | inr none ↦ absurd none ]

          pub counter_image : (r : FracPoly) → r.arity ≡ length l.names → terms_in r ≡ i
              → IsNonzeroImage l p x.word r
          counter_image r a e =
              let same = subst (λ f. Same ℚ i (image l f x.word)) of_is is.is in
              record {
                stands =
                    record {
                      order = refl;
                      arity = a;
                      same = subst (λ j. Same ℚ j (image l p x.word)) (sym e) same;
                    };
                not_zero =
                    λ z. is.nonzero
                    (polynomial_unique grevlex grevlex_order ℚ_ring (length l.names)
                    (length l.names) i [] is.polynomial (no_terms (length l.names))
                    (Same-trans ℚ same z));
              }

          countered_word : HasCountered l p m.entries x.word
          countered_word = record {
            candidate = x;
            image = i;
            ends = c;
            is_word = refl;
            first = countered_first l well p hp m.entries x i c;
          }

          pub counter_told : (a : Answer) → TellsCounter l p x.word a
              → Decides l p m evidence n a
          counter_told a (inl t) = record {
            limit = limit;
            tells =
                inr (inl (record { maps = maps; word = x.word; is = countered_word; tells = t }));
          }
          counter_told a (inr (w, says)) = record {
            limit = limit;
            tells =
                inr (inr (inl (inr (inr (inl (record {
                  maps = maps;
                  word = x.word;
                  is = inr (countered_word, w);
                  says = says;
                }))))));
          }

  module _ (n : ℕ) (limit : m.limit ≡ n) (maps : AreFree l) where
    -- ---- a list
    module _ (well : IsWellFormed l) (hp : IsPolynomial ℚ grevlex (length l.names) p) where
      all : Each (IsPolynomial ℚ grevlex (length l.names)) P
      unfolding Each
      all = (hp, tt)

      pub closure_told : (gs : List (Terms Fraction)) → ComesNext l P m.entries (closed gs)
          → IsReadBack l.names gs → (a : Answer) → a ≡ closure_answer l.names gs
          → Decides l p m kinds.Basis n a
      closure_told gs c back a says = record {
        limit = limit;
        tells =
            inl (record {
              maps = maps;
              list = gs;
              ends = c;
              closure = closed_is l P all m.entries gs c;
              invariant = closed_yes l well p hp m.entries gs c;
              reads_back = back;
              says = says;
            });
      }

      -- ---- the divisions that prove it closed
      pub proving_told : (gs : List (Terms Fraction)) (a : Answer) → TellsProving l P gs m n a
          → Decides l p m kinds.Certificate n a
      proving_told gs a (inl t) =
          let closes = t.ends.over.follows.closes in
          let before = t.ends.over.follows.before in
          record {
            limit = limit;
            tells =
                inl (record {
                  maps = maps;
                  list = gs;
                  closure = closed_is l P all before gs closes;
                  invariant = closed_yes l well p hp before gs closes;
                  proof = t;
                });
          }
      proving_told gs a (inr (inl t)) = record {
        limit = limit;
        tells =
            inr (inr (inl (inr (inr (inr (record {
              maps = maps;
              branch = t.branch;
              number = t.number;
              is = (gs, t.is);
              says = t.says;
            }))))));
      }
      proving_told gs a (inr (inr (out, says))) = record {
        limit = limit;
        tells =
            inr (inr (inr (record {
              maps = maps;
              out = inr (gs, subst (AreExhausted l P m.entries gs) limit out);
              says = says;
            })));
      }

-- ---- a verdict, as it is matched
module _ (l : Program (Expr ℕ)) (P : List (Terms Fraction)) (es : List Entry) (v : Verdict)
    (c : Counter) (is : v ≡ verdict.Counter c) where
  pub closes_counter : Closes l P es v → (p : Terms Fraction) → P ≡ p ∷ []
      → ComesNext l (p ∷ []) es
      (countered (candidate_of (p ∷ []) c.candidate) (terms_in c.image))
  closes_counter h p same =
      subst (λ Q. ComesNext l Q es (countered (candidate_of Q c.candidate) (terms_in c.image)))
      same (subst (Closes l P es) is h)

  pub counter_fits : (m units : ℕ) → FitsVerdict m units v → c.image.arity ≡ m
  counter_fits m units h = subst (FitsVerdict m units) is h

-- ---- answers over a list of one polynomial
module _ (l : Program (Expr ℕ)) (well : IsWellFormed l) (ps : List FracPoly)
    (over : AreOver (length l.names) ps) (m : Journal) (n : ℕ) (limit : m.limit ≡ n)
    (maps : AreFree l) (gs : List (Terms Fraction)) (names : List (List ℕ))
    (same : names ≡ l.names) (r : Result made.Answer AllocError) (p : Terms Fraction)
    (one : terms_each ps ≡ p ∷ []) where
  alone : IsPolynomial ℚ grevlex (length l.names) p
  alone = polynomial_alone (length l.names) ps over p one

  pub closure_answered : ComesNext l (terms_each ps) m.entries (closed gs)
      → IfOk r (λ a. answer_view a ≡ closure_answer names gs)
      → IfOk r (λ a. IsReadBack names gs)
      → IfOk r (λ a. Decides l p m kinds.Basis n (answer_view a))
  closure_answered c says back = go r says back
    where
      go : (r : Result made.Answer AllocError)
          → IfOk r (λ a. answer_view a ≡ closure_answer names gs)
          → IfOk r (λ a. IsReadBack names gs)
          → IfOk r (λ a. Decides l p m kinds.Basis n (answer_view a))
      go (Ok a) says back =
          closure_told l p m n limit maps well alone gs
          (subst (λ P. ComesNext l P m.entries (closed gs)) one c)
          (subst (λ ns. IsReadBack ns gs) same back) (answer_view a)
          (says ∙ ap (λ ns. closure_answer ns gs) same)
      go (Err e) says back = tt

  pub proving_answered : IfOk r (λ a. TellsProving l (terms_each ps) gs m n (answer_view a))
      → IfOk r (λ a. Decides l p m kinds.Certificate n (answer_view a))
  proving_answered told =
      IfOk-weaker r _ _
      (λ a t. proving_told l p m n limit maps well alone gs (answer_view a)
      (subst (λ P. TellsProving l P gs m n (answer_view a)) one t)) told

  pub begun_asked : ComesNext l (terms_each ps) m.entries (closed gs)
      ⊎ AreBegun l (terms_each ps) m.entries gs → HasAsked l p m kinds.Certificate n
  begun_asked (inl c) = record {
    limit = limit;
    going =
        inl (record {
          state = c.state;
          follows =
              record { run = subst (λ P. IsRun (moves l P) fresh m.entries c.state) one c.run };
        });
  }
  begun_asked (inr b) = record {
    limit = limit;
    going = inr (gs, subst (λ P. AreBegun l P m.entries gs) one b);
  }

-- ---- by what the equation is
module _ (evidence : Evidence) (l : Program (Expr ℕ)) (text : List ℕ) (n : ℕ) (before m : Journal)
    (r : Result made.Answer AllocError) where
  pub answers_equation : (q : FracPoly) → IsPolynomialOf l text q
      → IfOk r (λ a. Decides l (terms_in q) m evidence n (answer_view a))
      → IfOk r (λ a. Answers evidence l (equation_in l.names text) n before m (answer_view a))
  answers_equation q h told =
      IfOk-weaker r _ _
      (λ a d. subst (λ said. Answers evidence l said n before m (answer_view a))
      (sym h.is_equation)
      (inr (h.free, subst (λ x. Decides l x m evidence n (answer_view a)) h.terms d))) told

  pub leaves_equation : (q : FracPoly) → IsPolynomialOf l text q
      → HasAsked l (terms_in q) m evidence n → Leaves evidence l (equation_in l.names text) n m
  leaves_equation q h asked =
      subst (λ said. Leaves evidence l said n m) (sym h.is_equation)
      (h.free, subst (λ x. HasAsked l x m evidence n) h.terms asked)

  pub answers_unread : m ≡ before
      → IfOk r (λ a. IsUnread l (equation_in l.names text) (answer_view a))
      → IfOk r (λ a. Answers evidence l (equation_in l.names text) n before m (answer_view a))
  answers_unread same told =
      IfOk-weaker r _ _ (λ a h. go (equation_in l.names text) (answer_view a) h) told
    where
      go : (said : Result (Expr ℕ) Fault) (a : Answer) → IsUnread l said a
          → Answers evidence l said n before m a
      go (Ok e) a h = inl (h, same)
      go (Err fault) a h = (h, same)
