-- The divisions that prove a closed list, as the code makes them.
--   images_are, turned_is        the images of a branch, and what an element becomes there
--   begun_runs                   a task that has begun, and then what runs
--   composed_is, ran_turned      a composition of the code, and what divide has done, in the words of the test
--   test_ends, test_passed       a division that has ended; behind it the next test comes
--   test_past, test_out, test_going     one that stops
--   element_over, closure_elements     the element of a test, by its place, and the list that it is divided by
--   cofactors_many, test_row     its row
--   row_passed, row_past, row_out, row_going     what comes behind it
use Rattle.std.proofs.Common.{◌≡◌, inl, inr, ℕ, suc, ◌<◌, List, [], ◌∷◌, ◌++◌, map, get_or, length, replicate, refl, sym, ap, ap₂, subst, ◌∙◌, arith}
use Rattle.std.proofs.lemmas.List.{get_or-map, length-map}
use Rattle.std.specs.Global.{Vec}
use Rattle.algebra.specs.Each.{Each}
use Rattle.algebra.specs.In.{In}
use Rattle.algebra.proofs.In.{in_map, in_place}
use Rattle.algebra.specs.Fraction.{Fraction, ℚ, rationals, fractions}
use Rattle.algebra.proofs.Fractions.{ℚ_ring, ℚ_field}
use Rattle.polynomials.specs.Order.{grevlex}
use Rattle.polynomials.specs.Terms.{Terms, Same, compose}
use Rattle.polynomials.specs.Polynomial.{AllArity, IsPolynomial}
use Rattle.polynomials.specs.Weight.{IsPastComposition}
use Rattle.polynomials.proofs.Arity.{arity-compose}
use Rattle.polynomials.proofs.Composition.{same_compose}
use Rattle.polynomials.proofs.Orders.{grevlex_order}
use Rattle.polynomials.proofs.Same.{Same-refl, Same-trans}
use Rattle.machines.specs.Collect.{collect}
use Rattle.machines.specs.Division as division
use Rattle.machines.specs.Journal.{Task, Begin, Closed, Journal}
use Rattle.machines.specs.Machine.{Machine, Outcome, done, stopped, too_wide, out_of_units, out_of_memory, Ran}
use Rattle.machines.specs.Machines as machines
use Rattle.machines.specs.Run.{Ends}
use Rattle.machines.proofs.Elements.{IsElement}
use Rattle.machines.proofs.Collecting.{collect-is, collect-polynomial, collect-same}
use Rattle.loops.specs.Map.{branch_map}
use Rattle.loops.specs.Program.{Expr, Program}
use Rattle.loops.proofs.Maps.{arity-branch_map}
use Rattle.rounds.specs.Word.{branch_of, after_iteration}
use Rattle.journal.specs.View.{with_entry}
use Rattle.poly.specs.Seen.{arity_of, terms_in, terms_each, Is}
use Rattle.poly.specs.Standing.{AllStandFor}
use Rattle.poly.proofs.Standing.{arity_over, arities_over, first_arity, polynomial_over, stands_over, stands_same}
use Rattle.divide.specs.Division.{division_of, HasCofactors}
use Rattle.divide.specs.Outcomes.{refusal_of}
use Rattle.divide.specs.declared.EngineError as engine
use Rattle.divide.specs.declared.EngineError.TheVariants as engine_error
use Rattle.divide.specs.declared.dividing.Division.{Division}
use Rattle.frac128.specs.declared.fraction.Frac.{Frac}
use Rattle.frac128.specs.contracts.fraction.FracRing.TheImpl as ring
use Rattle.frac128.specs.contracts.fraction.FracPartialEq.TheImpl as equal
use Rattle.monos.specs.declared.order.Grevlex.{Grevlex}
use Rattle.monos.specs.contracts.order.GrevlexOrder.TheImpl as graded
use Rattle.monos.specs.contracts.order.GrevlexPartialEq.TheImpl as equal_graded
use Rattle.ideal_ops.specs.Calls.{AreOver}
use Rattle.loop_model.specs.FracPoly.{FracPoly}
use Rattle.closures.specs.Proving.{Test, dividing, task_of, iteration_of, images_of, AwaitsTests, FollowsProof, IsOutProof, IsPastProof}
use Rattle.closures.specs.Certified.{placed}
use Rattle.closures.proofs.Proving as proving
use Rattle.closures.proofs.Tests.{cofactors_count}
use Rattle.counter_run.proofs.WordImages.{terms_are}
use Rattle.closing.specs.LoopMaps.{IsBranchAt}
use Rattle.closing.specs.Proving.{FitsElements, FollowsTests, IsRow, PastTest, proving_division, test_at, iteration_test}
use Rattle.closing.specs.declared.listing.Elements.{Elements}
use Rattle.closing.specs.Tasks.{RanTask}

abbrev pub Divided : Type 0
Divided = Division Frac Grevlex ring.ghosts equal.ghosts graded.ghosts equal_graded.ghosts

-- ---- a task that has begun
pub begun_runs : {S A : Type 0} (task : Task) (M : Machine S) (G : A → S → Type 0)
    (before : Journal) {begun after : Journal} (o : Outcome A)
    → begun ≡ with_entry before (Begin task) → Ran M G begun after o
    → RanTask task M G before after o
begun_runs task M G before {after = after} o is r = inr (subst (λ j. Ran M G j after o) is r)

-- ---- the map of a branch
images_collected : (m : ℕ) (ps : List FracPoly) (qs : List (Terms Fraction)) → AllArity m qs
    → AllStandFor m ps qs → terms_each ps ≡ map (collect rationals grevlex) qs
unfolding Each
images_collected m [] [] a s = refl
images_collected m [] (q ∷ qs) a s = absurd s
images_collected m (p ∷ ps) [] a s = absurd s
images_collected m (p ∷ ps) (q ∷ qs) a s =
    ap₂ (λ x xs. x ∷ xs) (terms_are m p q a.0 s.0) (images_collected m ps qs a.1 s.1)

module _ (program : Program (Expr ℕ)) (letter : ℕ) (images : Vec FracPoly)
    (at : IsBranchAt program letter images) where
  abbrev m : ℕ
  m = length program.names

  abbrev maps : List (Terms Fraction)
  maps = branch_map program (branch_of program letter)

  maps_arity : AllArity m maps
  maps_arity = arity-branch_map program (branch_of program letter)

  pub images_over : AreOver m images.items
  images_over = stands_over m images.items maps at

  pub images_are : terms_each images.items ≡ map (collect rationals grevlex) maps
  images_are = images_collected m images.items maps maps_arity at

  module _ (g : FracPoly) (over : g.arity ≡ m) where
    abbrev made : Terms Fraction
    made = compose ℚ m (terms_in g) (terms_each images.items)

    pub turned_is : collect rationals grevlex (compose ℚ g.arity (terms_in g)
        (terms_each images.items))
        ≡ collect rationals grevlex (after_iteration program letter (terms_in g))
    turned_is =
        let many : AllArity m (terms_each images.items) = arities_over m images.items images_over in
        let some = arity-compose m ℚ (terms_in g) (terms_each images.items) many in
        ap (λ n. collect rationals grevlex (compose ℚ n (terms_in g) (terms_each images.items)))
        over ∙ collect-is ℚ_field grevlex grevlex_order m _ _
        (arity-compose m ℚ (terms_in g) maps maps_arity) (collect-polynomial ℚ_field grevlex
        grevlex_order m made some) (Same-trans ℚ (collect-same ℚ_field grevlex grevlex_order made)
        (same_compose ℚ_ring m m (terms_in g) (terms_in g) (terms_each images.items) maps
        (arity_over m g over) (arity_over m g over) many maps_arity (Same-refl ℚ (terms_in g))
        (stands_same m images.items maps at)))

-- ---- a composition of the code
module _ (g : FracPoly) (images : List FracPoly) (some : 0 < g.arity)
    (over : AreOver g.arity images)
    (count : length images ≡ g.arity) (t : FracPoly)
    (is : Is g.order (arity_of images) (compose ℚ (arity_of images) (terms_in g)
    (terms_each images)) t) where
  first : arity_of images ≡ g.arity
  first = first_arity g.arity images over (omega (arith, some, count))

  pub composed_arity : t.arity ≡ g.arity
  composed_arity = is.arity ∙ first

  pub composed_is : terms_in t
      ≡ collect rationals grevlex (compose ℚ g.arity (terms_in g) (terms_each images))
  composed_is =
      collect-is ℚ_field grevlex grevlex_order g.arity _ (terms_in t) (arity-compose g.arity ℚ
      (terms_in g) (terms_each images) (arities_over g.arity images over))
      (polynomial_over g.arity t composed_arity) (subst (λ n. Same ℚ (terms_in t)
      (compose ℚ n (terms_in g) (terms_each images))) first is.same)

  -- what divide has done, in the words of the test
  module _ (gs : List FracPoly) (before after : Journal) where
    made_start : (Past : Type 0) (p : Terms Fraction) {A : Type 0}
        (G : A → division.State Fraction → Type 0) (o : Outcome A)
        → Ran (machines.division fractions grevlex (terms_each gs) p) G before after o
        → Ran (proving_division (terms_each gs) p Past) G before after o
    made_start Past p G (done d) r = record {
      limit = r.limit;
      to = record { last = r.to.last; finished = r.to.finished; gives = r.to.gives };
    }
    made_start Past p G (stopped too_wide) r = record {
      limit = r.limit;
      to = elim r.to [ inl y ↦ inl y | inr y ↦ absurd y.1 ];
    }
    made_start Past p G (stopped out_of_units) r = record { limit = r.limit; to = r.to }
    made_start Past p G (stopped out_of_memory) r = record { limit = r.limit; to = r.to }

    pub ran_turned : (o : Outcome Divided)
        → Ran (division_of t gs) (HasCofactors t.order t.arity) before after o
        → Ran (iteration_test g images gs) (HasCofactors g.order g.arity) before after o
    ran_turned o r =
        made_start (IsPastComposition fractions (terms_in g) (terms_each images))
        (collect rationals grevlex (compose ℚ g.arity (terms_in g) (terms_each images)))
        (HasCofactors g.order g.arity) o
        (subst (λ n. Ran (machines.division fractions grevlex (terms_each gs)
        (collect rationals grevlex (compose ℚ g.arity (terms_in g) (terms_each images))))
        (HasCofactors g.order n) before after o) composed_arity
        (subst (λ p. Ran (machines.division fractions grevlex (terms_each gs) p)
        (HasCofactors g.order t.arity) before after o) composed_is r))

-- ---- a test that has run
module _ (program : Program (Expr ℕ)) (t : Test) (gs : List (Terms Fraction))
    (p : Terms Fraction) (made : p ≡ iteration_of program t) (Past : Type 0)
    (before after : Journal)
    {A : Type 0} (G : A → division.State Fraction → Type 0) where
  turned : (o : Outcome A) → RanTask (task_of t) (proving_division gs p Past) G before after o
      → RanTask (task_of t) (proving_division gs (iteration_of program t) Past) G before after o
  turned o r = subst (λ q. RanTask (task_of t) (proving_division gs q Past) G before after o) made r

  pub record HasEnds (d : A) : Type 0 where
    pub division : Ends (division.next rationals grevlex gs)
        (division.initial_state gs (iteration_of program t))
    pub gives : G d division.last

  pub test_ends : (d : A)
      → RanTask (task_of t) (proving_division gs p Past) G before after (done d) → HasEnds d
  test_ends d r = go (turned (done d) r)
    where
      go : RanTask (task_of t) (proving_division gs (iteration_of program t) Past) G before after
          (done d)
          → HasEnds d
      go (inl x) = absurd x
      go (inr x) = record {
        division =
            record {
              events = x.to.finished.work.events;
              last = x.to.last;
              run = x.to.finished.work.run;
              ended = x.to.finished.ended;
            };
        gives = x.to.gives;
      }

  module _ (P bs : List (Terms Fraction)) (w : List Test)
      (a : AwaitsTests program P gs bs before.entries (t ∷ w)) where
    abbrev M : Machine (division.State Fraction)
    M = proving_division gs p Past

    abbrev N : Machine (division.State Fraction)
    N = proving_division gs (iteration_of program t) Past

    begun : FollowsProof program P gs bs (before.entries ++ Begin (task_of t) ∷ [])
        (dividing t w (division.initial_state gs (iteration_of program t)))
    begun = proving.test_begins program P gs bs t w before.entries a

    pub test_passed : (d : A) → RanTask (task_of t) M G before after (done d)
        → AwaitsTests program P gs bs after.entries w
    test_passed d r = go (turned (done d) r)
      where
        go : RanTask (task_of t) N G before after (done d)
            → AwaitsTests program P gs bs after.entries w
        go (inl x) = absurd x
        go (inr x) =
            proving.test_over program P gs bs t w (before.entries ++ Begin (task_of t) ∷ [])
            after.entries x.to.last x.to.finished.ended
            (proving.test_follows program P gs bs t w
            (before.entries ++ Begin (task_of t) ∷ []) after.entries
            (division.initial_state gs (iteration_of program t)) x.to.last x.to.finished.work begun)

    pub test_past : (Past → IsPastComposition fractions t.element (images_of program t))
        → RanTask (task_of t) M G before after (stopped too_wide)
        → IsPastProof program P gs bs after.entries t
    test_past past r = go (turned (stopped too_wide) r)
      where
        go : RanTask (task_of t) N G before after (stopped too_wide)
            → IsPastProof program P gs bs after.entries t
        go (inl x) = absurd x
        go (inr x) = elim x.to [
          | inl y ↦ proving.test_past program P gs bs t w
              (before.entries ++ Begin (task_of t) ∷ []) after.entries
              (division.initial_state gs (iteration_of program t)) y begun
          | inr y ↦ proving.start_past program P gs bs t w after.entries
              (subst (λ (j : Journal). FollowsProof program P gs bs j.entries
              (dividing t w (division.initial_state gs (iteration_of program t))))
              (sym y.0) begun) (past y.1)
        ]

    pub test_out : RanTask (task_of t) M G before after (stopped out_of_units)
        → IsOutProof program P gs bs after.limit after.entries
    test_out r = go (turned (stopped out_of_units) r)
      where
        go : RanTask (task_of t) N G before after (stopped out_of_units)
            → IsOutProof program P gs bs after.limit after.entries
        go (inl x) = absurd (let e = x.1 in cc)
        go (inr x) =
            proving.test_out program P gs bs t w (before.entries ++ Begin (task_of t) ∷ [])
            after.entries after.limit (division.initial_state gs (iteration_of program t)) x.to
            begun

    pub test_going : RanTask (task_of t) M G before after (stopped out_of_memory)
        → FollowsTests program P gs bs after.entries
    test_going r = go (turned (stopped out_of_memory) r)
      where
        go : RanTask (task_of t) N G before after (stopped out_of_memory)
            → FollowsTests program P gs bs after.entries
        go (inl x) = record {
          state = a.state;
          follows =
              subst (λ (j : Journal). FollowsProof program P gs bs j.entries a.state) (sym x)
              a.follows;
        }
        go (inr x) = record {
          state = dividing t w x.to.at;
          follows =
              proving.test_follows program P gs bs t w
              (before.entries ++ Begin (task_of t) ∷ []) after.entries
              (division.initial_state gs (iteration_of program t)) x.to.at x.to.work begun;
        }

-- ---- the test of an element, by its place
module _ (program : Program (Expr ℕ)) (closure : List FracPoly) (e : Elements)
    (f : FitsElements (length program.names) closure e) (place : ℕ)
    (l : place < length e.list.items) (g : FracPoly) (at : g ≡ get_or e.list.items place g) where
  pub element_over : g.arity ≡ length program.names
  element_over = ap (λ (q : FracPoly). q.arity) at ∙ f.over place g l

  element_at : get_or (terms_each e.list.items) place [] ≡ terms_in g
  element_at = get_or-map terms_in e.list.items place g [] l ∙ ap terms_in (sym at)

  pub closure_elements : (q : Terms Fraction) → In q (terms_each closure)
      → IsElement ℚ_field grevlex grevlex_order (length program.names) q
  closure_elements q n =
      let (p, i, is) = in_map terms_in closure q n in
      let (j, k, h) = in_place closure p p i in
      let over = ap (λ (x : FracPoly). x.arity) (sym h) ∙ f.closure_over j p k in
      record {
        polynomial =
            subst (IsPolynomial ℚ grevlex (length program.names)) (sym is)
            (polynomial_over (length program.names) p over);
        nonzero = λ z. f.nonzero j p k (ap terms_in h ∙ sym is ∙ z);
      }

  module _ (letter : ℕ) (images : Vec FracPoly) (there : IsBranchAt program letter images) where
    abbrev t : Test
    t = test_at letter place e.list.items

    made_is : collect rationals grevlex (compose ℚ g.arity (terms_in g) (terms_each images.items))
        ≡ iteration_of program t
    made_is =
        turned_is program letter images there g element_over
        ∙ ap (λ q. collect rationals grevlex (after_iteration program letter q)) (sym element_at)

    past_is : IsPastComposition fractions (terms_in g) (terms_each images.items)
        → IsPastComposition fractions t.element (images_of program t)
    past_is h =
        subst (λ q. IsPastComposition fractions q (images_of program t)) (sym element_at)
        (subst (IsPastComposition fractions (terms_in g))
        (images_are program letter images there) h)

    module _ {number : ℕ} (named : number ≡ suc place) (before after : Journal) where
      abbrev Tested : Outcome Divided → Type 0
      Tested o = RanTask (Closed 0 letter number) (iteration_test g images.items closure)
          (HasCofactors g.order g.arity) before after o

      along : (o : Outcome Divided) → Tested o
          → RanTask (task_of t) (iteration_test g images.items closure)
          (HasCofactors g.order g.arity)
          before after o
      along o r =
          subst (λ n. RanTask (Closed 0 letter n) (iteration_test g images.items closure)
          (HasCofactors g.order g.arity) before after o) named r

      module _ (d : Divided) (r : Tested (done d)) where
        ends : HasEnds program t (terms_each closure)
            (collect rationals grevlex (compose ℚ g.arity (terms_in g) (terms_each images.items)))
            made_is (IsPastComposition fractions (terms_in g) (terms_each images.items)) before
            after
            (HasCofactors g.order g.arity) d
        ends =
            test_ends program t (terms_each closure) _ made_is _ before after
            (HasCofactors g.order g.arity) d (along (done d) r)

        pub cofactors_many : length d.cofactors.items ≡ length e.places.items
        cofactors_many =
            sym (length-map d.cofactors.items terms_in) ∙ ap length ends.gives.cofactors
            ∙ cofactors_count (length program.names) (terms_each closure) closure_elements
            (iteration_of program t) (collect-polynomial ℚ_field grevlex grevlex_order
            (length program.names) _ (arity-compose (length program.names) ℚ t.element _
            (arity-branch_map program (branch_of program letter)))) ends.division ∙ length-map
            closure terms_in ∙ sym f.count

        pub test_row : (row : List FracPoly)
            → terms_each row ≡ placed e.places.items (terms_each d.cofactors.items)
            (replicate (length e.list.items) []) → IsRow program closure e letter place row
        test_row row h = record {
          division = ends.division;
          are =
              h
              ∙ ap₂ (λ qs n. placed e.places.items qs (replicate n [])) ends.gives.cofactors
              (sym (length-map e.list.items terms_in));
        }

      module _ (P : List (Terms Fraction)) (w : List Test)
          (a : AwaitsTests program P (terms_each closure) (terms_each e.list.items) before.entries
          (t ∷ w)) where
        pub row_passed : (d : Divided) → Tested (done d)
            → AwaitsTests program P (terms_each closure) (terms_each e.list.items) after.entries w
        row_passed d r =
            test_passed program t (terms_each closure) _ made_is _ before after
            (HasCofactors g.order g.arity) P (terms_each e.list.items) w a d (along (done d) r)

        told : (x y : engine.EngineError) → x ≡ y → Tested (stopped (refusal_of x))
            → Tested (stopped (refusal_of y))
        told x y is r = subst (λ z. Tested (stopped (refusal_of z))) is r

        pub row_past : (b : ℕ) {n : ℕ} → b ≡ letter → n ≡ number → (x : engine.EngineError)
            → x ≡ engine_error.Wide → Tested (stopped (refusal_of x))
            → PastTest program P (terms_each closure) (terms_each e.list.items) after.entries b n
        row_past b bl nn x is r = record {
          test = t;
          is_branch = sym bl;
          is_number = sym (nn ∙ named);
          past =
              test_past program t (terms_each closure) _ made_is _ before after
              (HasCofactors g.order g.arity) P (terms_each e.list.items) w a past_is
              (along (stopped too_wide) (told x engine_error.Wide is r));
        }

        pub row_out : (x : engine.EngineError) → x ≡ engine_error.Budget
            → Tested (stopped (refusal_of x))
            → IsOutProof program P (terms_each closure) (terms_each e.list.items) after.limit
            after.entries
        row_out x is r =
            test_out program t (terms_each closure) _ made_is _ before after
            (HasCofactors g.order g.arity) P (terms_each e.list.items) w a
            (along (stopped out_of_units) (told x engine_error.Budget is r))

        pub row_going : (x : engine.EngineError) → x ≡ engine_error.Memory
            → Tested (stopped (refusal_of x))
            → FollowsTests program P (terms_each closure) (terms_each e.list.items) after.entries
        row_going x is r =
            test_going program t (terms_each closure) _ made_is _ before after
            (HasCofactors g.order g.arity) P (terms_each e.list.items) w a
            (along (stopped out_of_memory) (told x engine_error.Memory is r))
