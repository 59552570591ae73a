-- The divisions behind the closing of the polynomial 0, of any loop: one for each branch, which leaves nothing. Nothing stops them.
--   zero_iterations          0 composed with the map of a branch is 0
--   IsZeroTest t, AreZero s     the test is one of 0; so are all of the state, and what is divided is 0
--   zero_fits           no such division may not fit
--   zero_proved         they end, within the unit of the closing
use Rattle.std.proofs.Common.{◌≡◌, inl, inr, ℕ, zero, suc, ◌≤◌, List, [], ◌∷◌, ◌++◌, length, refl, sym, ap, subst, ◌∙◌, Option, Some, None, arith}
use Rattle.std.specs.Prelude.{⊤}
use Rattle.algebra.specs.Each.{Each}
use Rattle.algebra.specs.Fraction.{Fraction, fractions, rationals}
use Rattle.algebra.specs.Sum.{sum_over}
use Rattle.polynomials.specs.Order.{grevlex}
use Rattle.polynomials.specs.Terms.{Terms, evaluate}
use Rattle.polynomials.specs.Weight.{composition_weight, composition_degrees, IsPastComposition}
use Rattle.machines.specs.Collect.{collect}
use Rattle.machines.specs.Cut.{Cutting, find_cut, all_places}
use Rattle.machines.specs.Division as division
use Rattle.machines.specs.Division.{next_cut, next_division}
use Rattle.machines.specs.Event.{Event, Zero}
use Rattle.machines.specs.Journal.{Entry, Begin, Did, Image, units_of}
use Rattle.machines.specs.Past.{IsPastDivision}
use Rattle.machines.specs.Run.{IsRun}
use Rattle.loops.specs.Program.{Expr, Program}
use Rattle.rounds.specs.Word.{after_iteration}
use Rattle.closures.specs.Certified.{AreOthers, IsListOf}
use Rattle.closures.specs.Closing.{closed}
use Rattle.closures.specs.Ends.{ComesNext}
use Rattle.closures.specs.Proving.{Test, State, testing, dividing, task_of, tests_of, tests_from, tests, iteration_of, images_of, begin, divided, next, IsPastProof}
use Rattle.closing_commands.proofs.DecideZero.{comes_one, zero_entries, zero_closed}
use Rattle.closing_commands.specs.declared.evidence.Evidence.TheVariants as kinds
use Rattle.closing_commands.specs.DecideClauses.{HasWideTest, HasEnd}

abbrev Z : Terms Fraction
Z = []

abbrev IsZeroTest : Test → Type 0
IsZeroTest t = t.element ≡ Z

abbrev IsZeroLeft : Option (Terms Fraction) → Type 0
IsZeroLeft None = ⊤
IsZeroLeft (Some p) = p ≡ Z

abbrev AreZero : State → Type 0
AreZero (testing w) = Each IsZeroTest w
AreZero (dividing t w s) = IsZeroTest t × (Each IsZeroTest w × IsZeroLeft s.current)

zero_tests : (b n : ℕ) → Each IsZeroTest (tests_from b n (Z ∷ []))
unfolding Each tests_from tests_of
zero_tests b zero = tt
zero_tests b (suc n) = (refl, zero_tests (suc b) n)

zero_list : (gs bs : List (Terms Fraction)) → gs ≡ [] → IsListOf (Z ∷ []) gs bs → bs ≡ Z ∷ []
unfolding AreOthers
zero_list gs bs none h =
    h.is ∙ ap (λ qs. Z ∷ qs) (subst (λ ks. AreOthers (Z ∷ []) ks h.others) none h.are)

-- ---- nothing is past
not_composed : (images : List (Terms Fraction)) → IsPastComposition fractions Z images → ⊥
unfolding composition_weight composition_degrees evaluate sum_over
not_composed images (inl (inl h)) = omega (arith, h)
not_composed images (inl (inr h)) = omega (arith, h)
not_composed images (inr h) = h (λ k less. absurd (omega (arith, less)))

left_uncut : (o : Option (Terms Fraction)) → IsZeroLeft o → (left : Terms Fraction)
    → o ≡ Some left → (c : Cutting Fraction) → find_cut rationals all_places [] left ≡ Some c → ⊥
unfolding find_cut
left_uncut None z left is c found =
    let n : ◌≡◌ {A = Option (Terms Fraction)} None (Some left) = is in
    let f : ⊥ = cc in
    f
left_uncut (Some p) z left is c found =
    let same : p ≡ left = (let e : Some p ≡ Some left = is in cc) in
    let cut : find_cut rationals all_places [] Z ≡ Some c =
    subst (λ q. find_cut rationals all_places [] q ≡ Some c) (sym same ∙ z) found in
    let n : ◌≡◌ {A = Option (Cutting Fraction)} None (Some c) = cut in
    let f : ⊥ = cc in
    f

not_cut : (s : division.State Fraction) → IsZeroLeft s.current
    → IsPastDivision fractions rationals [] s → ⊥
not_cut s z h = left_uncut s.current z h.left h.current h.cutting h.found

units_behind : (es : List Entry) → units_of es ≡ 0
    → units_of (Begin (Image 0) ∷ Did Zero ∷ es) ≤ 1
unfolding units_of
units_behind es u = omega (arith, u)

module _ (l : Program (Expr ℕ)) where
  zero_iterations : (t : Test) → IsZeroTest t → iteration_of l t ≡ Z
  unfolding evaluate sum_over collect
  zero_iterations t z = ap (λ p. collect rationals grevlex (after_iteration l t.branch p)) z

  -- ---- what comes next
  begins_zero : (w : List Test) → Each IsZeroTest w → (e : Entry) (u : State)
      → begin l [] w ≡ Some (e, u) → AreZero u
  unfolding Each begin
  begins_zero [] h e u is =
      absurd (let n : ◌≡◌ {A = Option (Entry × State)} None (Some (e, u)) = is in
      let f : ⊥ = cc in f)
  begins_zero (t ∷ w) h e u is =
      let first = dividing t w (division.initial_state [] (iteration_of l t)) in
      let both : ◌≡◌ {A = Option (Entry × State)} (Some (Begin (task_of t), first)) (Some (e, u)) =
      is in
      let pair : ◌≡◌ {A = Entry × State} (Begin (task_of t), first) (e, u) = cc in
      subst AreZero (ap (λ (x : Entry × State). x.1) pair) (h.0, (h.1, zero_iterations t h.0))

  left_zero : (o : Option (Terms Fraction)) (qs : List (Terms Fraction)) → IsZeroLeft o
      → (e : Event) (u : division.State Fraction)
      → next_division rationals grevlex [] o qs ≡ Some (e, u) → IsZeroLeft u.current
  unfolding next_division next_cut find_cut
  left_zero None qs z e u is =
      absurd (let n : ◌≡◌ {A = Option (Event × division.State Fraction)} None (Some (e, u)) = is in
      let f : ⊥ = cc in f)
  left_zero (Some p) qs z e u is =
      let at : next_division rationals grevlex [] (Some Z) qs ≡ Some (e, u) =
      subst (λ q. next_division rationals grevlex [] (Some q) qs ≡ Some (e, u)) z is in
      let last : division.State Fraction = record { current = None; cofactors = qs } in
      let both : ◌≡◌ {A = Option (Event × division.State Fraction)} (Some (Zero, last))
      (Some (e, u)) = at in
      let pair : ◌≡◌ {A = Event × division.State Fraction} (Zero, last) (e, u) = cc in
      subst (λ (v : division.State Fraction). IsZeroLeft v.current)
      (ap (λ (x : Event × division.State Fraction). x.1) pair) tt

  comes_zero : (s : State) → AreZero s → (e : Entry) (u : State) → next l [] s ≡ Some (e, u)
      → AreZero u
  unfolding next divided division.next
  comes_zero (testing w) h e u is = begins_zero w h e u is
  comes_zero (dividing t w s) h e u is = go (division.next rationals grevlex [] s) refl is
    where
      go : (o : Option (Event × division.State Fraction))
          → division.next rationals grevlex [] s ≡ o → divided l [] t w s o ≡ Some (e, u)
          → AreZero u
      go None n is = begins_zero w h.1.0 e u is
      go (Some (f, v)) n is =
          let after = dividing t w v in
          let both : ◌≡◌ {A = Option (Entry × State)} (Some (Did f, after)) (Some (e, u)) = is in
          let pair : ◌≡◌ {A = Entry × State} (Did f, after) (e, u) = cc in
          subst AreZero (ap (λ (x : Entry × State). x.1) pair)
          (h.0, (h.1.0, left_zero s.current s.cofactors h.1.1 f v n))

  run_zero : (es : List Entry) (s t : State) → AreZero s → IsRun (next l []) s es t → AreZero t
  unfolding IsRun
  run_zero [] s t h r = subst AreZero r h
  run_zero (e ∷ es) s t h (u, is, r) = run_zero es u t (comes_zero s h e u is) r

  -- ---- so none may not fit
  list_none : (es : List Entry) (gs : List (Terms Fraction))
      → ComesNext l (Z ∷ []) es (closed gs) → gs ≡ []
  list_none es gs c = elim (comes_one l es _ c) [
    | inl e ↦ absurd (let f : ⊥ = cc in f)
    | inr (inl e) ↦ absurd (let f : ⊥ = cc in f)
    | inr (inr e) ↦ (let same : [] ≡ gs = cc in sym same)
  ]

  none_past : (gs bs : List (Terms Fraction)) (es : List Entry) (t : Test)
      → gs ≡ [] → bs ≡ Z ∷ [] → IsPastProof l (Z ∷ []) gs bs es t → ⊥
  none_past gs bs es t empty one h =
      let run : IsRun (next l []) (testing (tests l (Z ∷ []))) h.follows.behind
      (dividing t h.waiting h.state) =
      subst (λ ps. IsRun (next l []) (testing (tests l ps)) h.follows.behind
      (dividing t h.waiting h.state)) one
      (subst (λ ks. IsRun (next l ks) (testing (tests l bs)) h.follows.behind
      (dividing t h.waiting h.state)) empty h.follows.run) in
      let zeros = run_zero h.follows.behind (testing (tests l (Z ∷ [])))
      (dividing t h.waiting h.state) (zero_tests 1 (length l.branches)) run in
      elim h.past [
        | inl p ↦
            not_cut h.state zeros.1.1
            (subst (λ ks. IsPastDivision fractions rationals ks h.state) empty p)
        | inr p ↦
            not_composed (images_of l t)
            (subst (λ q. IsPastComposition fractions q (images_of l t)) zeros.0 p.1)
      ]

  pub zero_fits : HasWideTest l Z kinds.Certificate → ⊥
  zero_fits h =
      let gs = h.is.0 in
      let p = h.is.1 in
      let empty = list_none p.past.follows.before gs p.past.follows.closes in
      none_past gs p.elements h.entries p.test empty (zero_list gs p.elements empty p.listed) p.past

  -- ---- they end
  pub record Finishes (s : State) : Type 0 where
    pub entries : List Entry
    pub last : State
    pub run : IsRun (next l []) s entries last
    pub ended : next l [] last ≡ begin l [] []
    pub units : units_of entries ≡ 0

  abbrev over : Test → List Test → State
  over t w = dividing t w (record { current = None; cofactors = [] })

  leaves_nothing : (t : Test) (w : List Test) (p : Terms Fraction) → p ≡ Z
      → next l [] (dividing t w (division.initial_state [] p)) ≡ Some (Did Zero, over t w)
  unfolding next divided division.next next_division next_cut find_cut
  leaves_nothing t w p z = subst (λ q. next l [] (dividing t w (division.initial_state [] q))
      ≡ Some (Did Zero, over t w)) (sym z) refl

  goes_on : (t : Test) (w : List Test) → next l [] (over t w) ≡ begin l [] w
  unfolding next divided division.next next_division
  goes_on t w = refl

  finishes : (w : List Test) → Each IsZeroTest w → (s : State) → next l [] s ≡ begin l [] w
      → Finishes s
  unfolding IsRun Each begin units_of
  finishes [] h s is = record { entries = []; last = s; run = refl; ended = is; units = refl }
  finishes (t ∷ w) h s is =
      let first = dividing t w (division.initial_state [] (iteration_of l t)) in
      let rest = finishes w h.1 (over t w) (goes_on t w) in
      record {
        entries = Begin (task_of t) ∷ Did Zero ∷ rest.entries;
        last = rest.last;
        run = (
          first,
          is,
          (
            over t w,
            leaves_nothing t w (iteration_of l t) (zero_iterations t h.0),
            rest.run,
          ),
        );
        ended = rest.ended;
        units = (let u = rest.units in omega (arith, u));
      }

  pub zero_proved : HasEnd l Z kinds.Certificate 1
  unfolding AreOthers next
  zero_proved =
      let rest = finishes (tests l (Z ∷ [])) (zero_tests 1 (length l.branches))
      (testing (tests l (Z ∷ []))) refl in
      record {
        entries = zero_entries l ++ rest.entries;
        ends =
            inl (
              [],
              record {
                elements = Z ∷ [];
                listed = record { others = []; are = refl; is = refl };
                over =
                    record {
                      state = rest.last;
                      follows =
                          record {
                            before = zero_entries l;
                            closes = zero_closed l;
                            behind = rest.entries;
                            order = refl;
                            run = rest.run;
                          };
                      is = rest.ended;
                    };
              },
            );
        few = units_behind rest.entries rest.units;
      }
