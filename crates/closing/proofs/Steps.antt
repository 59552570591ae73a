-- One candidate of a closing, as the code takes it: what comes behind its division, at the start, and behind the completion.
--   take_refused, take_none, take_goes, take_rest      a division that stops; that leaves nothing, or a rest
--   is_none, is_some                        tests
--   divided_along, extended_along           tasks by the same list
--   start_stopped                           the composition with the start's map that stops
--   join_counters, join_begins              its result isn't 0, and ends the closing; it is, and the completion begins
--   join_refused, join_goes, join_ends      a completion that stops, for want of memory behind it, or ends
--   grown, joined_later                     what was joined stays so
use Rattle.std.proofs.Common.{◌≡◌, ◌≢◌, ◌↔◌, Bool, true, false, IsTrue, inl, inr, ℕ, suc, ◌+◌, List, [], ◌∷◌, ◌++◌, refl, sym, ap, ap₂, subst, ◌∙◌, add-one}
use Rattle.std.proofs.lemmas.List.{append-nil, append_assoc, map-append}
use Rattle.std.specs.Global.{Vec}
use Rattle.algebra.specs.Each.{Each}
use Rattle.algebra.proofs.Each.{each-append, each_weaker}
use Rattle.algebra.specs.Fraction.{Fraction, fractions}
use Rattle.polynomials.specs.Order.{grevlex}
use Rattle.polynomials.specs.Terms.{Terms}
use Rattle.machines.specs.Division as division
use Rattle.machines.specs.Elimination as elimination
use Rattle.machines.specs.Journal.{Entry, Begin, Image, Extend, Journal}
use Rattle.machines.specs.Machine.{Machine, Outcome, done, stopped, out_of_units}
use Rattle.machines.specs.Machines as machines
use Rattle.loops.specs.Program.{Expr, Program}
use Rattle.poly.specs.Seen.{terms_in, terms_each}
use Rattle.divide.specs.Division.{division_of}
use Rattle.divide.specs.Outcomes.{refusal_of}
use Rattle.divide.specs.declared.EngineError as engine
use Rattle.divide.specs.declared.EngineError.TheVariants as engine_error
use Rattle.loop_model.specs.FracPoly.{FracPoly}
use Rattle.closures.specs.Closing as seen
use Rattle.closures.specs.Closing.{dividing, extending, goes, countered, begin_extended, from_waiting, by_start, from_start, with_polynomial}
use Rattle.closures.specs.Ends.{ComesNext}
use Rattle.closures.specs.Follows.{Follows, IsOut}
use Rattle.closures.proofs.Follows.{division_over, rest_none, rest_some, start_none, start_some, extension_over}
use Rattle.closing.specs.Causes.{HasRest, IsJoined, AreJoined}
use Rattle.closing.specs.Compositions.{IsFromStart, IfStartStops, start_operations}
use Rattle.closing.specs.Progress.{candidate_of, candidates_of, Awaits, Grows, IsGoing, IfStops, Reaches}
use Rattle.closing.specs.Tasks.{RanTask, IsExtendedList, in_task}
use Rattle.closing.specs.declared.candidates.Candidate.{Candidate}
use Rattle.closing.specs.declared.error.ClosingError.{ClosingError}
use Rattle.closing.specs.declared.error.ClosingError.TheVariants as error
use Rattle.closing.specs.declared.joining.Progress.{Progress}
use Rattle.closing.proofs.Tied.{IsDivided, IsExtended, ran_limit, ran_grows, divided_on, divided_out, divided_past, divided_going, extended_on, extended_out, extended_past, extended_going}

-- ---- tests whether a polynomial is 0
pub is_none : {b : Bool} {p : Terms Fraction} → IsTrue b ↔ (p ≡ []) → b ≡ true → p ≡ []
is_none is e = is.0 e

pub is_some : {b : Bool} {p : Terms Fraction} → IsTrue b ↔ (p ≡ []) → b ≡ false → p ≢ []
is_some {b = b} is e z = let k : b ≡ true = is.1 z in let f : true ≡ false = sym k ∙ e in cc

-- ---- a task by the same list
pub divided_along : {A : Type 0} (n : ℕ) (p : FracPoly) {ls ms : List FracPoly} → ls ≡ ms
    → (G : A → division.State Fraction → Type 0) (before : Journal) {after : Journal}
    (o : Outcome A)
    → RanTask (Image n) (division_of p ls) G before after o
    → RanTask (Image n) (division_of p ms) G before after o
divided_along n p e G before {after = after} o r =
    subst (λ l. RanTask (Image n) (division_of p l) G before after o) e r

abbrev extension_of : List FracPoly → FracPoly → Machine (elimination.State Fraction)
extension_of ls r =
    machines.elimination fractions grevlex grevlex (λ gs. gs) (terms_each ls ++ terms_in r ∷ [])

pub extended_along : (n : ℕ) (r : FracPoly) {ls ms : List FracPoly} → ls ≡ ms
    → (before : Journal) {after : Journal} (o : Outcome (Vec FracPoly))
    → RanTask (Extend n) (extension_of ls r) IsExtendedList before after o
    → RanTask (Extend n) (extension_of ms r) IsExtendedList before after o
extended_along n r e before {after = after} o h =
    subst (λ l. RanTask (Extend n) (extension_of l r) IsExtendedList before after o) e h

pub grown : (es fs gs : List Entry) → Grows es fs → Grows fs gs → Grows es gs
grown es fs gs g h = (g.0 ++ h.0, h.1 ∙ ap (λ s. s ++ h.0) g.1 ∙ append_assoc es g.0 h.0)

pub joined_later : (program : Program (Expr ℕ)) (P : List (Terms Fraction)) (es : List Entry)
    {fs : List Entry}
    → Grows es fs → (xs : List seen.Candidate) → AreJoined program P es xs
    → AreJoined program P fs xs
joined_later program P es {fs = fs} g xs j =
    each_weaker (IsJoined program P es) (IsJoined program P fs)
    (λ x k. record {
      before = k.before;
      behind = k.behind ++ g.0;
      order = g.1 ∙ ap (λ s. s ++ g.0) k.order ∙ append_assoc k.before k.behind g.0;
      number = k.number;
      list = k.list;
      kept = k.kept;
      waiting = k.waiting;
      state = k.state;
      follows = k.follows;
    }) xs j

module _ (program : Program (Expr ℕ)) (P : List (Terms Fraction)) (p : Progress) (x : Candidate)
    (waiting : List seen.Candidate) (before after : Journal) where
  abbrev gs : List (Terms Fraction)
  gs = terms_each p.list.items

  abbrev kept : List seen.Candidate
  kept = candidates_of P p.kept.items

  abbrev D : Machine (division.State Fraction)
  D = division_of x.polynomial p.list.items

  module _ (h : Reaches program P before.entries p (candidate_of P x) waiting) where
    start : Follows program P before.entries h.comes.state
    start = record { run = h.comes.run }

    pub take_refused : {A : Type 0} (G : A → division.State Fraction → Type 0)
        (e : engine.EngineError)
        → RanTask (Image p.number) D G before after (stopped (refusal_of e))
        → IfStops program P after.limit after.entries (in_task x.word e)
    take_refused {A = A} G engine_error.Wide r = record {
      candidate = candidate_of P x;
      is_word = refl;
      cause =
          inr (divided_past program P p.number gs kept (candidate_of P x) waiting {A = A} before
          after
          h.comes.state start h.comes.is G r);
    }
    take_refused {A = A} G engine_error.Budget r =
        subst (λ l. IsOut program P l after.entries)
        (sym (ran_limit (Image p.number) D G before after (stopped out_of_units) r))
        (divided_out program P p.number gs kept (candidate_of P x) waiting {A = A} before after
        h.comes.state start h.comes.is G r)
    take_refused {A = A} G engine_error.Memory r =
        divided_going program P p.number gs kept (candidate_of P x) waiting {A = A} before after
        h.comes.state start h.comes.is G r

    -- what the division gives has this rest
    module _ {A : Type 0} (G : A → division.State Fraction → Type 0) (a : A)
        (r : RanTask (Image p.number) D G before after (done a)) (rest : Terms Fraction)
        (gives : (s : division.State Fraction) → G a s → rest ≡ division.remainder s) where
      to : IsDivided program P p.number gs kept (candidate_of P x) waiting before after
          h.comes.state start G a
      to = divided_on program P p.number gs kept (candidate_of P x) waiting before after
          h.comes.state start h.comes.is G a r

      rest_is : rest ≡ division.remainder to.last
      rest_is = gives to.last to.gives

      pub take_none : rest ≡ []
          → ComesNext program P after.entries
          (from_waiting program (suc p.number) gs kept waiting)
      take_none z = record {
        state = dividing p.number gs kept (candidate_of P x) waiting to.last;
        run = to.follows.run;
        is = division_over program P p.number gs kept (candidate_of P x) waiting to.last to.ended
            ∙ rest_none program P p.number gs kept (candidate_of P x) waiting
            (division.remainder to.last) (sym rest_is ∙ z);
      }

      pub take_goes : rest ≡ [] → (q : Progress) → q.number ≡ p.number + 1 → q.list ≡ p.list
          → q.kept ≡ p.kept → Awaits program P after.entries q waiting
      take_goes z q n l k =
          let c = take_none z in
          record {
            comes =
                record {
                  state = c.state;
                  run = c.run;
                  is =
                      c.is
                      ∙ ap (λ j. from_waiting program j gs kept waiting)
                      (sym (n ∙ add-one p.number))
                      ∙ ap (λ (ps : Vec FracPoly). from_waiting program q.number
                      (terms_each ps.items) kept waiting) (sym l)
                      ∙ ap (λ (xs : Vec Candidate). from_waiting program q.number
                      (terms_each q.list.items) (candidates_of P xs.items) waiting) (sym k);
                };
            joined =
                subst (λ (xs : Vec Candidate). AreJoined program P after.entries
                (candidates_of P xs.items)) (sym k) (joined_later program P before.entries
                (ran_grows (Image p.number) D G before a r) kept h.joined);
          }

      pub take_rest : rest ≢ []
          → HasRest program P after.entries p.number gs kept (candidate_of P x) waiting rest
      take_rest z = record {
        last = to.last;
        follows = to.follows;
        ended = to.ended;
        is = sym rest_is;
        some = z;
      }

module _ (program : Program (Expr ℕ)) (P : List (Terms Fraction)) (p : Progress) (y : Candidate)
    (whole : Terms Fraction) (waiting : List seen.Candidate) (before after : Journal)
    (h : HasRest program P before.entries p.number (terms_each p.list.items)
    (candidates_of P p.kept.items) (with_polynomial whole (candidate_of P y)) waiting
    (terms_in y.polynomial)) where
  abbrev hs : List (Terms Fraction)
  hs = terms_each p.list.items

  abbrev ks : List seen.Candidate
  ks = candidates_of P p.kept.items

  abbrev x : seen.Candidate
  x = with_polynomial whole (candidate_of P y)

  abbrev at : seen.State
  at = dividing p.number hs ks x waiting h.last

  by : seen.next program P at
      ≡ by_start program p.number hs ks (candidate_of P y) waiting
      (from_start program (terms_in y.polynomial))
  by =
      division_over program P p.number hs ks x waiting h.last h.ended
      ∙ rest_some program P p.number hs ks x waiting (division.remainder h.last)
      (λ e. h.some (sym h.is ∙ e))
      ∙ ap (λ r. by_start program p.number hs ks (with_polynomial r x) waiting
      (from_start program r)) h.is

  pub going : IsGoing program P before.entries
  going = record { state = at; follows = h.follows }

  pub start_stopped : (e : ClosingError) → IfStartStops program y e
      → IfStops program P before.limit before.entries e
  start_stopped (error.Limit w) s = record {
    candidate = x;
    is_word = sym s.0;
    cause =
        record {
          operations = start_operations program (terms_in y.polynomial);
          composing =
              inr (record {
                number = p.number;
                list = hs;
                kept = ks;
                waiting = waiting;
                rest = terms_in y.polynomial;
                has = h;
                operations = refl;
              });
          limit = s.1;
        };
  }
  start_stopped (error.Wide w) s = record {
    candidate = x;
    is_word = sym s.0;
    cause =
        inl (record {
          operations = start_operations program (terms_in y.polynomial);
          composing =
              inr (record {
                number = p.number;
                list = hs;
                kept = ks;
                waiting = waiting;
                rest = terms_in y.polynomial;
                has = h;
                operations = refl;
              });
          wide = s.1;
        });
  }
  start_stopped error.Budget s = absurd s
  start_stopped error.Memory s = going

  module _ {q : FracPoly} (is : IsFromStart program y q) where
    pub join_counters : terms_in q ≢ []
        → ComesNext program P before.entries (countered (candidate_of P y) (terms_in q))
    join_counters z = record {
      state = at;
      run = h.follows.run;
      is =
          by ∙ start_some program P p.number hs ks x waiting (candidate_of P y) _
          (λ e. z (is.terms ∙ e)) ∙ ap (countered (candidate_of P y)) (sym is.terms);
    }

    module _ (z : terms_in q ≡ []) where
      begins : seen.next program P at
          ≡ goes (Begin (Extend p.number))
          (extending p.number hs ks (candidate_of P y) waiting
          (begin_extended hs (terms_in y.polynomial)))
      begins =
          by ∙ start_none program P p.number hs ks x waiting (candidate_of P y) _ (sym is.terms ∙ z)

      abbrev E : Machine (elimination.State Fraction)
      E = machines.elimination fractions grevlex grevlex (λ gs. gs)
          (hs ++ terms_in y.polynomial ∷ [])

      pub join_refused : (e : engine.EngineError)
          → RanTask (Extend p.number) E IsExtendedList before after (stopped (refusal_of e))
          → IfStops program P after.limit after.entries (in_task y.word e)
      join_refused engine_error.Wide r = record {
        candidate = candidate_of P y;
        is_word = refl;
        cause =
            inr (extended_past program P p.number hs ks (candidate_of P y) waiting before after
            at h.follows begins IsExtendedList r);
      }
      join_refused engine_error.Budget r =
          subst (λ l. IsOut program P l after.entries)
          (sym (ran_limit (Extend p.number) E IsExtendedList before after
          (stopped out_of_units) r))
          (extended_out program P p.number hs ks (candidate_of P y) waiting before after
          at h.follows begins IsExtendedList r)
      join_refused engine_error.Memory r =
          extended_going program P p.number hs ks (candidate_of P y) waiting before after
          at h.follows begins IsExtendedList r

      module _ (ls : Vec FracPoly)
          (r : RanTask (Extend p.number) E IsExtendedList before after (done ls)) where
        done_to : IsExtended program P p.number hs ks (candidate_of P y) waiting before after at
            h.follows
            IsExtendedList ls
        done_to = extended_on program P p.number hs ks (candidate_of P y) waiting before after
            at h.follows begins IsExtendedList ls r

        pub join_goes : IsGoing program P after.entries
        join_goes = record {
          state = extending p.number hs ks (candidate_of P y) waiting done_to.last;
          follows = done_to.follows;
        }

        seen_joined : IsJoined program P after.entries (candidate_of P y)
        seen_joined = record {
          before = after.entries;
          behind = [];
          order = sym (append-nil after.entries);
          number = p.number;
          list = hs;
          kept = ks;
          waiting = waiting;
          state = done_to.last;
          follows = done_to.follows;
        }

        all_joined : AreJoined program P before.entries ks
            → AreJoined program P after.entries (ks ++ candidate_of P y ∷ [])
        unfolding Each
        all_joined j =
            each-append (IsJoined program P after.entries) ks (candidate_of P y ∷ [])
            (joined_later program P before.entries
            (ran_grows (Extend p.number) E IsExtendedList before ls r) ks j) (seen_joined, tt)

        pub join_ends : AreJoined program P before.entries ks → (q : Progress)
            → q.number ≡ p.number + 1 → q.list ≡ ls
            → q.kept.items ≡ p.kept.items ++ y ∷ []
            → Awaits program P after.entries q waiting
        join_ends j q number list kept' =
            let all = ap (candidates_of P) kept'
            ∙ map-append (candidate_of P) p.kept.items (y ∷ []) in
            record {
              comes =
                  record {
                    state = extending p.number hs ks (candidate_of P y) waiting done_to.last;
                    run = done_to.follows.run;
                    is =
                        extension_over program P p.number hs ks (candidate_of P y) waiting
                        done_to.last done_to.ended
                        ∙ ap (λ gs. from_waiting program (suc p.number) gs
                        (ks ++ candidate_of P y ∷ []) waiting)
                        (sym done_to.gives
                        ∙ ap (λ (l : Vec FracPoly). terms_each l.items) (sym list))
                        ∙ ap₂ (λ n xs. from_waiting program n (terms_each q.list.items) xs waiting)
                        (sym (number ∙ add-one p.number)) (sym all);
                  };
              joined = subst (AreJoined program P after.entries) (sym all) (all_joined j);
            }
