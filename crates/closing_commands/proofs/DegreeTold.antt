-- What a search for the invariants up to a degree ends with is told.
--   none_begun, begun_told     the entries are a beginning of those of a search
--   map_told, stop_told        a map that can't be formed, and why the search stopped
--   basis_told, proving_told   what was found, and how the divisions end that prove it closed
--   found_begun, proving_begun     the entries of what was found are a beginning
--   is_found, many_stops, lead_over     the result of a search, as it is matched
--   stopped_answer             the answer to a search that stopped
--   list_begun, list_told, proof_begun, proof_told     the answer to one that has ended
use Rattle.std.proofs.Common.{◌≡◌, ◌⊎◌, inl, inr, ℕ, ◌+◌, List, [], ◌++◌, length, refl, sym, ap, subst, ◌∙◌, append_assoc, Result, Ok, Err}
use Rattle.std.specs.Prelude.{Some, IfOk, IsErrOf}
use Rattle.std.specs.declared.alloc.AllocError.{AllocError}
use Rattle.std.proofs.lemmas.Result.{IfOk-weaker}
use Rattle.algebra.specs.Each.{Each}
use Rattle.algebra.specs.Fraction.{Fraction, ℚ}
use Rattle.polynomials.specs.Order.{grevlex}
use Rattle.polynomials.specs.Polynomial.{IsPolynomial}
use Rattle.polynomials.specs.Terms.{Terms}
use Rattle.machines.specs.Journal.{Journal, Entry, units_of}
use Rattle.loops.specs.Inv.{Inv}
use Rattle.loops.specs.Program.{Expr, Program}
use Rattle.poly.specs.Seen.{terms_each}
use Rattle.loop_model.specs.FracPoly.{FracPoly}
use Rattle.loop_model.specs.Stops.{Stops}
use Rattle.loop_model.specs.declared.map_error.MapError.{MapError}
use Rattle.loop_model.specs.Maps.{maps_operations, AreFree}
use Rattle.closures.specs.Closing.{closed}
use Rattle.closures.specs.Ends.{ComesNext}
use Rattle.closures.specs.UpTo.{IsReducedUpTo}
use Rattle.closures.proofs.Ended.{closed_is}
use Rattle.closing.specs.SearchCauses as search
use Rattle.closing.specs.SearchCauses.{IsClosing, Finds}
use Rattle.closing.specs.Found.{FindsFirst, FitsFinding, IsPartOf, IfSearchStops}
use Rattle.closing.specs.Search.{Part, entries_of, IsSearch}
use Rattle.closing.specs.declared.search_error.SearchError.{SearchError}
use Rattle.closing.specs.declared.whole_search.Finding.{Finding}
use Rattle.closing.specs.declared.search_error.SearchError.TheVariants as error
use Rattle.io_edge.specs.declared.answer.Answer as made
use Rattle.io_edge.specs.Texts.{Answer}
use Rattle.io_edge.specs.Views.{answer_view}
use Rattle.io_edge.proofs.OfStatuses.{no_answer, some_answer}
use Rattle.command_parts.specs.ReadBack.{IsReadBack}
use Rattle.replay_commands.specs.CounterTexts.{limit_answer, wide_answer, map_answer}
use Rattle.closing_commands.specs.declared.evidence.Evidence.{Evidence}
use Rattle.closing_commands.specs.declared.evidence.Evidence.TheVariants as kinds
use Rattle.closing_commands.specs.ProvedLists.{AreBegun, TellsProving}
use Rattle.command_parts.specs.FaultTexts.{exhausted_answer}
use Rattle.closing_commands.specs.DegreeTexts.{basis_answer, degree_answer, sample_answer, element_answer}
use Rattle.closing_commands.specs.DegreeViews.{search_answer, HasLeadOver, IsFound}
use Rattle.closing_commands.proofs.ProvedTold.{polynomials_over}
use Rattle.closing_commands.specs.Degrees.{HasMany, IsOnTheWay, IsOutOf, TellsStop, Searches, HasSearched}

module _ (l : Program (Expr ℕ)) (d : ℕ) where
  pub none_begun : (es : List Entry) → es ≡ [] → search.AreBegun l d es
  unfolding entries_of IsSearch
  none_begun es none = record {
    more = [];
    parts = [];
    search = tt;
    behind = [];
    order = ap (λ fs. fs ++ []) none;
    follows = inl refl;
  }

  on_the_way : (es : List Entry) (evidence : Evidence) → search.AreBegun l d es
      → IsOnTheWay l d es evidence
  on_the_way es kinds.Basis b = b
  on_the_way es kinds.Certificate b = inl b

  out_of : (es : List Entry) (evidence : Evidence) (n : ℕ) → search.IsOut l d es n
      → IsOutOf l d es evidence n
  out_of es kinds.Basis n o = o
  out_of es kinds.Certificate n o = inl o

module _ (l : Program (Expr ℕ)) (d : ℕ) (m : Journal) (n : ℕ) (limit : m.limit ≡ n) where
  module _ (evidence : Evidence) where
    pub begun_told : search.AreBegun l d m.entries → HasSearched l d m evidence n
    begun_told b = record { limit = limit; going = on_the_way l d m.entries evidence b }

    pub map_told : m.entries ≡ [] → (e : MapError)
        → Stops (length l.names) (maps_operations l) e → (a : Answer) → map_answer e ≡ Some a
        → Searches l d m evidence n a
    map_told none e s a says = record {
      limit = limit;
      tells = inr (inl (inl (record { stop = e; is = s; none = none; says = says })));
      many = λ h. inr (record { stop = e; is = s; none = none; says = says });
    }

    -- ---- a stop
    module _ (maps : AreFree l) (a : Answer) where
      stopped : TellsStop l d m evidence a → (HasMany l d → a ≡ degree_answer d)
          → Searches l d m evidence n a
      stopped t many = record { limit = limit; tells = inr (inl t); many = λ h. inl (many h) }

      pub stop_told : (e : SearchError) → IfSearchStops l d m.limit m.entries e
          → (HasMany l d → (e ≡ error.Degree) ⊎ (e ≡ error.Memory))
          → search_answer l.names n d e ≡ Some a → Searches l d m evidence n a
      stop_told error.Degree s many says =
          let same = some_answer (degree_answer d) a says in
          stopped (inr (inl (record { maps = maps; many = s; says = same }))) (λ h. same)
      stop_told error.Sample s many says =
          stopped
          (inr (inr (inr (inl (record {
            maps = maps;
            is = s;
            says = some_answer sample_answer a says;
          })))))
          (λ h. absurd (elim (many h) [ inl e ↦ cc | inr e ↦ cc ]))
      stop_told (error.Element lead) s many says =
          stopped
          (inr (inr (inr (inr (inl (record {
            maps = maps;
            lead = lead;
            is = s;
            says = some_answer (element_answer l.names lead) a says;
          }))))))
          (λ h. absurd (elim (many h) [ inl e ↦ cc | inr e ↦ cc ]))
      stop_told (error.Limit w) s many says =
          stopped
          (inr (inr (inl (record {
            maps = maps;
            word = w.items;
            is = s;
            says = some_answer (limit_answer w.items) a says;
          }))))
          (λ h. absurd (elim (many h) [ inl e ↦ cc | inr e ↦ cc ]))
      stop_told (error.Wide w) s many says =
          stopped
          (inr (inr (inr (inr (inr (inl (record {
            maps = maps;
            word = w.items;
            is = s;
            says = some_answer (wide_answer w.items) a says;
          })))))))
          (λ h. absurd (elim (many h) [ inl e ↦ cc | inr e ↦ cc ]))
      stop_told error.Budget s many says = record {
        limit = limit;
        tells =
            inr (inr (record {
              maps = maps;
              out = out_of l d m.entries evidence n
                  (subst (λ k. search.IsOut l d m.entries k) limit s);
              says = some_answer (exhausted_answer n) a says;
            }));
        many = λ h. absurd (elim (many h) [ inl e ↦ cc | inr e ↦ cc ]);
      }
      stop_told error.Memory s many says = absurd (no_answer a says)

  -- ---- what was found
  module _ (maps : AreFree l) (few : HasMany l d → ⊥) (before : List Entry)
      (gs hs : List (Terms Fraction))
      (reduced : IsReducedUpTo (length l.names) d gs (Inv l)) where
    pub basis_told : (behind : List Entry) → m.entries ≡ before ++ behind
        → Finds l d before behind gs hs → IsReadBack l.names gs → (a : Answer)
        → a ≡ basis_answer l.names gs → Searches l d m kinds.Basis n a
    basis_told behind order finds back a says = record {
      limit = limit;
      tells =
          inl (record {
            maps = maps;
            list = gs;
            closure = hs;
            ends = record { before = before; behind = behind; order = order; finds = finds };
            reduced = reduced;
            reads_back = back;
            says = says;
          });
      many = λ h. absurd (few h);
    }

    pub proving_told : (closing : Journal) → m.entries ≡ before ++ closing.entries
        → (parts : List Part) → IsClosing l d before parts gs
        → Each (IsPolynomial ℚ grevlex (length l.names)) gs
        → units_of before + closing.limit ≡ n → (a : Answer) → TellsProving l gs hs closing n a
        → Searches l d m kinds.Certificate n a
    proving_told closing order parts leads each rest a (inl t) = record {
      limit = limit;
      tells =
          inl (record {
            maps = maps;
            list = gs;
            closure = hs;
            ends = record {
              before = before;
              parts = parts;
              closing = leads;
              behind = closing.entries;
              order = order;
              proved = t.ends;
            };
            reduced = reduced;
            is_closure =
                closed_is l gs each t.ends.over.follows.before hs t.ends.over.follows.closes;
            shows = t.shows;
            yes = t.yes;
          });
      many = λ h. absurd (few h);
    }
    proving_told closing order parts leads each rest a (inr (inl t)) = record {
      limit = limit;
      tells =
          inr (inl (inr (inr (inr (inr (inr (inr (record {
            maps = maps;
            branch = t.branch;
            number = t.number;
            is = record {
              before = before;
              parts = parts;
              elements = gs;
              closing = leads;
              behind = closing.entries;
              order = order;
              cause = (hs, t.is);
            };
            says = t.says;
          }))))))));
      many = λ h. absurd (few h);
    }
    proving_told closing order parts leads each rest a (inr (inr (out, says))) = record {
      limit = limit;
      tells =
          inr (inr (record {
            maps = maps;
            out =
                inr (record {
                  before = before;
                  parts = parts;
                  elements = gs;
                  closing = leads;
                  behind = closing.entries;
                  order = order;
                  cause = (hs, (closing.limit, out, rest));
                });
            says = says;
          }));
      many = λ h. absurd (few h);
    }

  -- ---- a beginning of what was found
  module _ (before part : List Entry) (gs hs : List (Terms Fraction)) (parts : List Part)
      (leads : IsClosing l d before parts gs) (some : IsPartOf before part m.entries) where
    whole : m.entries ++ some.more ≡ before ++ part
    whole = ap (λ es. es ++ some.more) some.after_is
        ∙ (append_assoc before some.taken some.more
        ∙ ap (λ es. before ++ es) (sym some.part_is))

    closing_begun : ComesNext l gs part (closed hs) → search.AreBegun l d m.entries
    closing_begun c = record {
      more = some.more;
      parts = parts;
      search = leads.search;
      behind = part;
      order = whole ∙ ap (λ es. es ++ part) leads.entries;
      follows =
          inr (inr (
            gs,
            subst (λ es. IsClosing l d es parts gs) leads.entries leads,
            record { state = c.state; follows = record { run = c.run } },
          ));
    }

    pub found_begun : (evidence : Evidence) → ComesNext l gs part (closed hs)
        → HasSearched l d m evidence n
    found_begun evidence c = begun_told evidence (closing_begun c)

    pub proving_begun : ComesNext l gs part (closed hs) ⊎ AreBegun l gs part hs
        → HasSearched l d m kinds.Certificate n
    proving_begun (inl c) = found_begun kinds.Certificate c
    proving_begun (inr b) = record {
      limit = limit;
      going =
          inr (
            some.more,
            record {
              before = before;
              parts = parts;
              elements = gs;
              closing = leads;
              behind = part;
              order = whole;
              cause = (hs, b);
            },
          );
    }

-- ---- the result of a search, as it is matched
module _ (l : Program (Expr ℕ)) (d : ℕ) where
  abbrev stopped_by : SearchError → Result Finding SearchError
  stopped_by e = Err e

  abbrev IsMany : Result Finding SearchError → Type 0
  IsMany r = HasMany l d → IsErrOf r error.Degree ⊎ IsErrOf r error.Memory

  pub is_found : (n : ℕ) (m : Journal) → m.limit ≡ n → (f : Finding) → FindsFirst l d m.entries f
      → FitsFinding (length l.names) m f
      → IsReducedUpTo (length l.names) d (terms_each f.elements.items) (Inv l) → IsMany (Ok f)
      → IsFound l d n m f
  is_found n m limit f finds fits reduced many = record {
    limit = limit;
    finds = finds;
    fits = fits;
    reduced = reduced;
    few = λ h. elim (many h) [ inl e ↦ cc | inr e ↦ cc ];
  }

  pub many_stops : (e : SearchError) → IsMany (Err e) → HasMany l d
      → (e ≡ error.Degree) ⊎ (e ≡ error.Memory)
  many_stops e many h = elim (many h) [ inl s ↦ inl cc | inr s ↦ inr cc ]

  pub lead_over : (limit : ℕ) (es : List Entry) (e : SearchError) → IfSearchStops l d limit es e
      → (names : List (List ℕ)) → names ≡ l.names → HasLeadOver (length names) e
  lead_over limit es error.Degree s names same = tt
  lead_over limit es error.Sample s names same = tt
  lead_over limit es (error.Element lead) s names same = s.arity ∙ ap length (sym same)
  lead_over limit es (error.Limit word) s names same = tt
  lead_over limit es (error.Wide word) s names same = tt
  lead_over limit es error.Budget s names same = tt
  lead_over limit es error.Memory s names same = tt

-- ---- the answer to a search that stopped
pub stopped_answer : (l : Program (Expr ℕ)) (d : ℕ) (m : Journal) (n : ℕ) → m.limit ≡ n
    → (evidence : Evidence) → AreFree l → (names : List (List ℕ)) → names ≡ l.names
    → (e : SearchError) → IfSearchStops l d m.limit m.entries e
    → (HasMany l d
    → IsErrOf (stopped_by l d e) error.Degree ⊎ IsErrOf (stopped_by l d e) error.Memory)
    → (r : Result made.Answer AllocError)
    → IfOk r (λ a. search_answer names n d e ≡ Some (answer_view a))
    → IfOk r (λ a. Searches l d m evidence n (answer_view a))
stopped_answer l d m n limit evidence maps names same e stops many r says =
    IfOk-weaker r _ _
    (λ a is. stop_told l d m n limit evidence maps (answer_view a) e stops
    (many_stops l d e many)
    (subst (λ ns. search_answer ns n d e ≡ Some (answer_view a)) same is)) says

-- ---- the answer to a search that has ended
module _ (l : Program (Expr ℕ)) (d n : ℕ) (before m : Journal) (kept : m.limit ≡ before.limit)
    (f : Finding) (found : IsFound l d n before f) where
  abbrev gs : List (Terms Fraction)
  gs = terms_each f.elements.items

  abbrev hs : List (Terms Fraction)
  hs = terms_each f.closure.items

  limit : m.limit ≡ n
  limit = kept ∙ found.limit

  pub list_begun : IsPartOf before.entries f.closing.entries m.entries
      → HasSearched l d m kinds.Basis n
  list_begun some =
      found_begun l d m n limit before.entries f.closing.entries gs hs found.finds.parts
      found.finds.closing some kinds.Basis found.finds.closed

  pub list_told : AreFree l → m.entries ≡ before.entries ++ f.closing.entries
      → (names : List (List ℕ)) → names ≡ l.names → (ps : List FracPoly)
      → ps ≡ f.elements.items → (r : Result made.Answer AllocError)
      → IfOk r (λ a. answer_view a ≡ basis_answer names (terms_each ps))
      → IfOk r (λ a. IsReadBack names (terms_each ps))
      → IfOk r (λ a. Searches l d m kinds.Basis n (answer_view a))
  list_told maps order names same ps is (Ok a) says back =
      basis_told l d m n limit maps found.few before.entries gs hs found.reduced
      f.closing.entries order found.finds
      (subst (λ ns. IsReadBack ns gs) same (subst (λ qs. IsReadBack names (terms_each qs)) is back))
      (answer_view a)
      (says ∙ ap (λ ns. basis_answer ns (terms_each ps)) same
      ∙ ap (λ qs. basis_answer l.names (terms_each qs)) is)
  list_told maps order names same ps is (Err e) says back = tt

  module _ (closing : Journal) (ps : List FracPoly) (is : ps ≡ f.elements.items)
      (qs : List FracPoly) (are : qs ≡ f.closure.items) where
    pub proof_begun : ComesNext l (terms_each ps) closing.entries (closed (terms_each qs))
        ⊎ AreBegun l (terms_each ps) closing.entries (terms_each qs)
        → IsPartOf before.entries closing.entries m.entries
        → HasSearched l d m kinds.Certificate n
    proof_begun b some =
        proving_begun l d m n limit before.entries closing.entries gs hs found.finds.parts
        found.finds.closing some
        (subst (λ xs. ComesNext l gs closing.entries (closed (terms_each xs))
        ⊎ AreBegun l gs closing.entries (terms_each xs)) are
        (subst (λ xs. ComesNext l (terms_each xs) closing.entries (closed (terms_each qs))
        ⊎ AreBegun l (terms_each xs) closing.entries (terms_each qs)) is b))

    pub proof_told : closing.limit ≡ f.closing.limit → AreFree l
        → m.entries ≡ before.entries ++ closing.entries → (r : Result made.Answer AllocError)
        → IfOk r (λ a. TellsProving l (terms_each ps) (terms_each qs) closing n (answer_view a))
        → IfOk r (λ a. Searches l d m kinds.Certificate n (answer_view a))
    proof_told same maps order r told =
        IfOk-weaker r _ _
        (λ a t. proving_told l d m n limit maps found.few before.entries gs hs found.reduced
        closing order found.finds.parts found.finds.closing
        (polynomials_over (length l.names) f.elements.items found.fits.elements)
        (ap (λ k. units_of before.entries + k) same ∙ found.fits.rest ∙ found.limit)
        (answer_view a)
        (subst (λ xs. TellsProving l gs (terms_each xs) closing n (answer_view a)) are
        (subst (λ xs. TellsProving l (terms_each xs) (terms_each qs) closing n (answer_view a)) is
        t))) told
