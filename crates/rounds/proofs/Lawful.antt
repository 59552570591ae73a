-- What is known of an analysis by the layers below: no more is asked of them than what they prove.
--   lawful                 the laws of the analysis of a program with its closed forms
--   kept-nothing           where no variable is eliminated, all of a list is kept
use Rattle.std.proofs.Common.{◌≡◌, ◌↔◌, ℕ, suc, ◌+◌, ◌<◌, true, cond, List, [], ◌∷◌, map, get_or, length, arith, refl, sym, ap, ap₂, subst, ◌∙◌, Option, zero-add}
use Rattle.algebra.specs.Each.{Each}
use Rattle.algebra.proofs.Each.{each-map, each_weaker}
use Rattle.algebra.specs.Fraction.{Fraction, ℚ, rationals}
use Rattle.algebra.proofs.Fractions.{ℚ_ring, ℚ_field}
use Rattle.polynomials.specs.Exponent.{same}
use Rattle.polynomials.specs.Order.{grevlex, blocks}
use Rattle.polynomials.specs.Terms.{Terms, Same, retold}
use Rattle.polynomials.specs.Polynomial.{Arity, AllArity, IsPolynomial}
use Rattle.polynomials.proofs.Composition.{retold_itself}
use Rattle.polynomials.proofs.Orders.{grevlex_order, blocks_order}
use Rattle.polynomials.proofs.Same.{Same-sym}
use Rattle.polynomials.proofs.ValueAt.{value_at_same}
use Rattle.ideals.specs.Members.{IsMember}
use Rattle.machines.specs.Basis.{AtPlaces, IsBasisOf}
use Rattle.machines.specs.Collect.{collect}
use Rattle.machines.specs.Elimination.{all_free, free_part, in_front, blend}
use Rattle.machines.specs.Reduced.{IsReducedFor}
use Rattle.machines.specs.Completion as completion
use Rattle.machines.specs.Elimination as elimination
use Rattle.machines.specs.Event.{Event}
use Rattle.machines.specs.Run.{IsRun, HasEnded}
use Rattle.machines.specs.Tidying as tidying
use Rattle.machines.proofs.Completed.{completed}
use Rattle.machines.proofs.Eliminating.{kept_members, kept_basis}
use Rattle.machines.proofs.Joined.{Parts, parts_of}
use Rattle.machines.proofs.Meeting.{blend_members, blend_polynomials}
use Rattle.machines.proofs.Reducing.{tidied}
use Rattle.machines.proofs.Starting.{reordered_members}
use Rattle.loops.specs.Program.{Expr, Program}
use Rattle.polynomials.proofs.Arity.{arity_at}
use Rattle.rounds.specs.Word.{after_iteration}
use Rattle.rounds.specs.Orbit.{IsEliminated}
use Rattle.rounds.specs.Start.{start_list}
use Rattle.rounds.specs.Form.{Form, orbit_front, iteration_front, IsClosedForm}
use Rattle.rounds.specs.Analysis.{Setting, Work, starts, iteration, iteration_meet, orbit, meet, block, order, starting, list_at, pullback}
use Rattle.rounds.specs.Journal.{setting_from, AreForms}
use Rattle.rounds.specs.Results.{IsBranch, EndsWork, IsReducedList, IsOverWork, Laws}
use Rattle.machines.proofs.Collecting.{collect-polynomial, collect-same}
use Rattle.ideals.proofs.FractionMembers.{member_same}
use Rattle.polynomials.proofs.ByValues.{same_by_values}
use Rattle.machines.proofs.Padding.{arity-pad, in_front_at}
use Rattle.rounds.proofs.Orbits.{orbit_polynomials, form_orbit, iteration_polynomials, form_iteration}
use Rattle.rounds.proofs.Start.{start_list_arity}
use Rattle.rounds.proofs.Turned.{turned_polynomial, turned_same, map_iterations}
use Rattle.algebra.proofs.In.{each_from}
use Rattle.machines.proofs.Places.{each_at, at_each}
use Rattle.machines.proofs.ReducedLists.{reduced_arity, reduced_generates, reduced_for_itself, generated, division_decides}

-- ---- what is reduced and what it generates
-- a polynomial with variables in front, and collected
in_front_collected : (k m : ℕ) (p : Terms Fraction) → Arity m p
    → Same ℚ (in_front k (collect rationals grevlex p)) (in_front k p)
in_front_collected k m p a =
    same_by_values (k + m) _ _ (arity-pad k m _ (collect-polynomial ℚ_field grevlex grevlex_order m
    p a).arity) (arity-pad k m p a)
    (λ s l. in_front_at k m (collect rationals grevlex p) s l
    ∙ value_at_same ℚ_ring _ _ _ (collect-same ℚ_field grevlex grevlex_order p)
    ∙ sym (in_front_at k m p s l))

pub nothing-free : (g : Terms Fraction) → all_free 0 g ≡ true
unfolding all_free same
nothing-free [] = refl
nothing-free (t ∷ p) = nothing-free p

pub kept-nothing : (gs : List (Terms Fraction)) → free_part 0 gs ≡ gs
unfolding free_part
kept-nothing [] = refl
kept-nothing (g ∷ gs) = ap (λ o. cond o (retold (λ e. e) g ∷ free_part 0 gs) (free_part 0 gs))
    (nothing-free g) ∙ ap₂ ◌∷◌ (retold_itself g) (kept-nothing gs)

nothing-front : (p : Terms Fraction) → in_front 0 p ≡ p
nothing-front p = retold_itself p

-- ---- tidying what was kept
module _ (m : ℕ) (hs gs list : List (Terms Fraction)) (ph : AtPlaces (IsPolynomial ℚ grevlex m) hs)
    (b : IsBasisOf rationals grevlex m hs hs)
    (es : List Event) (c : IsRun (tidying.next rationals grevlex) (tidying.by_lead grevlex hs) es
    list)
    (e : HasEnded (tidying.next rationals grevlex) list) (is : gs ≡ list) where
  places_arity : AllArity m hs
  places_arity = at_each (Arity m) hs (λ k g at. (ph k g at).arity)

  reduced : IsReducedFor rationals grevlex m gs (IsMember ℚ m hs)
  reduced = subst (λ l. IsReducedFor rationals grevlex m l (IsMember ℚ m hs)) (sym is)
      (tidied ℚ_field grevlex grevlex_order m hs hs ph b list es c e)

  made_reduced : IsReducedList m gs
  made_reduced = reduced_for_itself grevlex grevlex_order m hs ph gs reduced places_arity

  made_members : (p : Terms Fraction) → Arity m p → IsMember ℚ m gs p ↔ IsMember ℚ m hs p
  made_members p a = (
    generated grevlex grevlex_order m hs ph gs reduced p a places_arity,
    reduced_generates grevlex grevlex_order m hs ph gs reduced p a,
  )

  made_arity : AllArity m gs
  made_arity = reduced_arity grevlex grevlex_order m gs (IsMember ℚ m hs) reduced

-- ---- a work of elimination
module _ (k m : ℕ) (hs basis gs list : List (Terms Fraction))
    (ph : AtPlaces (IsPolynomial ℚ (blocks k grevlex grevlex) (k + m)) hs)
    (b : IsBasisOf rationals (blocks k grevlex grevlex) (k + m) basis hs)
    (es : List Event) (c : IsRun (tidying.next rationals grevlex)
    (tidying.by_lead grevlex (free_part k basis)) es list)
    (e : HasEnded (tidying.next rationals grevlex) list) (is : gs ≡ list) where
  kb : IsBasisOf rationals grevlex m (free_part k basis) (free_part k basis)
  kb = kept_basis ℚ_field k m grevlex grevlex grevlex_order grevlex_order basis hs ph b

  in_block : (p : Terms Fraction) → Arity m p → IsMember ℚ m (free_part k basis) p
      ↔ IsMember ℚ (k + m) hs (in_front k p)
  in_block p a =
      let q : Terms Fraction = collect rationals grevlex p in
      let both = kept_members ℚ_field k m grevlex grevlex grevlex_order grevlex_order basis hs ph b
      q (collect-polynomial ℚ_field grevlex grevlex_order m p a) in (
        (λ i. member_same (k + m) hs (in_front k q) (in_front k p)
            (Same-sym ℚ (in_front_collected k m p a))
            (both.0 (member_same m (free_part k basis) p q (collect-same ℚ_field grevlex
            grevlex_order
            p) i))),
        (λ i. member_same m (free_part k basis) q p
            (Same-sym ℚ (collect-same ℚ_field grevlex grevlex_order p))
            (both.1 (member_same (k + m) hs (in_front k p) (in_front k q)
            (in_front_collected k m p a) i))),
      )

  work_eliminates : IsEliminated k m hs gs
  work_eliminates = record {
    arities = made_arity m (free_part k basis) gs list kb.polynomials kb es c e is;
    only = λ p a i.
        (in_block p a).0 ((made_members m (free_part k basis) gs list kb.polynomials kb es c e is p
        a).0
        i);
    all = λ p a i. (made_members m (free_part k basis) gs list kb.polynomials kb es c e is p a).1
        ((in_block p a).1 i);
  }

  work_reduces : IsReducedList m gs
  work_reduces = made_reduced m (free_part k basis) gs list kb.polynomials kb es c e is

-- ---- the first work, which eliminates nothing
module _ (m : ℕ) (hs basis gs list : List (Terms Fraction)) (ha : AllArity m hs)
    (ph : AtPlaces (IsPolynomial ℚ grevlex m) hs) (b : IsBasisOf rationals grevlex m basis hs)
    (es : List Event) (c : IsRun (tidying.next rationals grevlex)
    (tidying.by_lead grevlex (free_part 0 basis)) es list)
    (e : HasEnded (tidying.next rationals grevlex) list) (is : gs ≡ list) where
  itself : IsBasisOf rationals grevlex m basis basis
  itself = record {
    polynomials = b.polynomials;
    nonzero = b.nonzero;
    monic = b.monic;
    same = λ p h. ((λ i. i), (λ i. i));
    led = λ t p h i. b.led t p h ((b.same (t ∷ p) h).0 i);
  }

  c' : IsRun (tidying.next rationals grevlex) (tidying.by_lead grevlex basis) es list
  c' = subst (λ l. IsRun (tidying.next rationals grevlex) (tidying.by_lead grevlex l) es list)
      (kept-nothing basis) c

  first_reduces : IsReducedList m gs
  first_reduces = made_reduced m basis gs list b.polynomials itself es c' e is

  first_members : (p : Terms Fraction) → Arity m p → IsMember ℚ m gs p ↔ IsMember ℚ m hs p
  first_members p a =
      let q : Terms Fraction = collect rationals grevlex p in
      let s : Same ℚ q p = collect-same ℚ_field grevlex grevlex_order p in
      let both = b.same q (collect-polynomial ℚ_field grevlex grevlex_order m p a) in
      let to = made_members m basis gs list b.polynomials itself es c' e is p a in (
        (λ i. member_same m hs q p (Same-sym ℚ s) (both.0 (member_same m basis p q s (to.0 i)))),
        (λ i. to.1 (member_same m basis q p (Same-sym ℚ s) (both.1 (member_same m hs p q s i)))),
      )

  first_eliminates : IsEliminated 0 m hs gs
  first_eliminates = record {
    arities = made_arity m basis gs list b.polynomials itself es c' e is;
    only = λ p a i. subst (λ n. IsMember ℚ n hs (in_front 0 p)) (sym (zero-add m))
        (subst (IsMember ℚ m hs) (sym (nothing-front p)) ((first_members p a).0 i));
    all = λ p a i. (first_members p a).1 (subst (IsMember ℚ m hs) (nothing-front p)
        (subst (λ n. IsMember ℚ n hs (in_front 0 p)) (zero-add m) i));
  }

module _ {At : Type 0} (program : Program (Expr At)) (given : Option (List (Terms Fraction)))
    (forms : List Form) (asked : Option (Terms Fraction)) (are : AreForms program forms) where
  abbrev A : Setting
  A = setting_from program given forms asked

  abbrev m : ℕ
  m = length program.names

  abbrev none : Form
  none = record { base = []; polys = []; since = 0 }

  abbrev form : ℕ → Form
  form b = get_or forms b none

  -- ---- the starting lists
  first_list : List (Terms Fraction)
  first_list = map (collect rationals grevlex) (start_list program)

  first_each : Each (IsPolynomial ℚ grevlex m) first_list
  unfolding first_list
  first_each = each-map (IsPolynomial ℚ grevlex m) (collect rationals grevlex) (start_list program)
      (each_weaker (Arity m) (λ q. IsPolynomial ℚ grevlex m (collect rationals grevlex q)) (λ q c.
      collect-polynomial ℚ_field grevlex grevlex_order m q c) (start_list program)
      (start_list_arity program))

  first_arity : AllArity m first_list
  first_arity = each_weaker (IsPolynomial ℚ grevlex m) (Arity m) (λ q h. h.arity) first_list
      first_each

  list_arity : (gs : List (Terms Fraction)) → IsReducedList m gs → AllArity m gs
  list_arity gs r = reduced_arity grevlex grevlex_order m gs (IsMember ℚ m gs) r

  list_each : (gs : List (Terms Fraction)) → IsReducedList m gs → Each (IsPolynomial ℚ grevlex m) gs
  list_each gs r = each_from gs r.polynomials

  start_members : (p : Terms Fraction) → IsMember ℚ (0 + m) first_list (in_front 0 p)
      ↔ IsMember ℚ m (start_list program) p
  unfolding first_list
  start_members p =
      let both = reordered_members ℚ_field grevlex grevlex_order m (start_list program) p in (
        (λ i. both.0 (subst (IsMember ℚ m (map (collect rationals grevlex) (start_list program)))
            (nothing-front p)
            (subst (λ n. IsMember ℚ n (map (collect rationals grevlex) (start_list program))
            (in_front 0 p)) (zero-add m) i))),
        (λ i. subst (λ n. IsMember ℚ n (map (collect rationals grevlex) (start_list program))
            (in_front 0 p)) (sym (zero-add m))
            (subst (IsMember ℚ m (map (collect rationals grevlex) (start_list program)))
            (sym (nothing-front p)) (both.1 i))),
      )

  blend_places : (so_far hs : List (Terms Fraction)) → IsReducedList m so_far → IsReducedList m hs
      → AtPlaces (IsPolynomial ℚ (blocks 1 grevlex grevlex) (1 + m))
      (blend rationals (blocks 1 grevlex grevlex) so_far hs)
  blend_places so_far hs a b =
      each_at _ _ (blend_polynomials ℚ_field m grevlex grevlex grevlex_order grevlex_order so_far hs
      (list_each so_far a) (list_each hs b))

  is_closed : (b : ℕ) → b < length program.branches → IsClosedForm program (suc b) (form b)
  is_closed b l = are.each b none (let c = are.count in omega (arith, c, l))

  orbit_places : (k b : ℕ) (gs so_far : List (Terms Fraction)) → AllArity m gs
      → b < length program.branches
      → AtPlaces (IsPolynomial ℚ (blocks (orbit_front (form b) m) grevlex grevlex)
      (orbit_front (form b) m + m)) (starting A (orbit k b gs so_far))
  unfolding starting
  orbit_places k b gs so_far ga l =
      each_at (IsPolynomial ℚ (blocks (orbit_front (form b) m) grevlex grevlex)
      (orbit_front (form b) m + m)) (starting A (orbit k b gs so_far))
      (orbit_polynomials program (suc b) (form b) (is_closed b l) gs ga)

  iteration_places : (k b n : ℕ) (gs before so_far : List (Terms Fraction)) → AllArity m before
      → b < length program.branches
      → AtPlaces (IsPolynomial ℚ (blocks (iteration_front (form b) m) grevlex grevlex)
      (iteration_front (form b) m + m)) (starting A (iteration k b n gs before so_far))
  unfolding starting
  iteration_places k b n gs before so_far ga l =
      each_at (IsPolynomial ℚ (blocks (iteration_front (form b) m) grevlex grevlex)
      (iteration_front (form b) m + m)) (starting A (iteration k b n gs before so_far))
      (iteration_polynomials program (suc b) (form b) (is_closed b l) before ga (get_or A.maps b [])
      (map_iterations program given forms asked b l))

  -- ---- what works end with
  parts : (w : Work) (e : EndsWork A w)
      → Parts rationals (order A w) grevlex (free_part (block A w))
      (completion.initial_state rationals (order A w) (starting A w)) e.last
  parts w e = parts_of rationals (order A w) grevlex (free_part (block A w))
      (completion.initial_state rationals (order A w) (starting A w)) e.last e.events e.run e.ended

  -- a work that eliminates d variables
  ended : (d : ℕ) (xs : List (Terms Fraction)) (t : elimination.State Fraction)
      → Parts rationals (blocks d grevlex grevlex) grevlex (free_part d)
      (completion.initial_state rationals (blocks d grevlex grevlex) xs) t
      → AtPlaces (IsPolynomial ℚ (blocks d grevlex grevlex) (d + m)) xs
      → IsEliminated d m xs (elimination.list_of grevlex (free_part d) t)
      × IsReducedList m (elimination.list_of grevlex (free_part d) t)
  ended d xs t made hp =
      let b = completed ℚ_field (blocks d grevlex grevlex) (blocks_order d grevlex grevlex
      grevlex_order grevlex_order) (d + m) xs hp made.last made.events made.run made.ended in (
        work_eliminates d m xs made.last.basis _ made.list hp b made.more made.tidies made.tidy
            made.is,
        work_reduces d m xs made.last.basis _ made.list hp b made.more made.tidies made.tidy
            made.is,
      )

  both : (w : Work) → IsBranch program w → IsOverWork m w → (e : EndsWork A w)
      → IsEliminated (block A w) m (starting A w) (list_at A w e.last)
      × IsReducedList m (list_at A w e.last)
  unfolding block starting first_list
  both starts t o e =
      let made = parts starts e in
      let b = completed ℚ_field grevlex grevlex_order m first_list (each_at _ _ first_each)
      made.last made.events made.run made.ended in (
        first_eliminates m first_list made.last.basis _ made.list first_arity
            (each_at _ _ first_each) b made.more made.tidies made.tidy made.is,
        first_reduces m first_list made.last.basis _ made.list first_arity (each_at _ _ first_each)
            b made.more made.tidies made.tidy made.is,
      )
  both (iteration k b n xs before so_far) l o e =
      let w = iteration k b n xs before so_far in
      ended (iteration_front (form b) m) (starting A w) e.last (parts w e)
      (iteration_places k b n xs before so_far (list_arity before o) l)
  both (iteration_meet k b n xs so_far ks) t o e =
      let w = iteration_meet k b n xs so_far ks in
      ended 1 (starting A w) e.last (parts w e) (blend_places so_far ks o.0 o.1)
  both (orbit k b xs so_far) l o e =
      let w = orbit k b xs so_far in
      ended (orbit_front (form b) m) (starting A w) e.last (parts w e)
      (orbit_places k b xs so_far (list_arity xs o) l)
  both (meet k b xs so_far hs) t o e =
      let w = meet k b xs so_far hs in
      ended 1 (starting A w) e.last (parts w e) (blend_places so_far hs o.0 o.1)

  pub lawful : Laws program A
  unfolding block starting first_list
  lawful = record {
    eliminates = λ w l o e. (both w l o e).0;
    reduces = λ w l o e. (both w l o e).1;
    answers = λ gs p s r h c e. division_decides m gs p c.events s r h c.run e;
    divides = λ gs b i s r lb li c h.
        let g : Terms Fraction = get_or gs i [] in
        let ga : Arity m g = arity_at m gs (list_arity gs r) i in
        let e = division_decides m gs (pullback A b g) c.events s r (turned_polynomial program given
        forms asked b g lb) c.run h in
        let q = turned_same program given forms asked b g ga lb in (
          (λ n. e.0 (member_same m gs (after_iteration program (suc b) g) (pullback A b g) q n)),
          (λ n. member_same m gs (pullback A b g) (after_iteration program (suc b) g) (Same-sym ℚ q)
              (e.1 n)),
        );
    start_members = λ p a. start_members p;
    orbits = λ k b gs so_far hs r l e. form_orbit program (suc b) (form b) (is_closed b l) gs
        (list_arity gs r) hs e;
    iterations = λ k b n gs before so_far ks r l e. form_iteration program (suc b) (form b)
        (is_closed b l)
        before (list_arity before r) (get_or A.maps b []) (map_iterations program given forms asked
        b l)
        ks e;
    meets = λ so_far hs ra rb p a. blend_members ℚ_field m (blocks 1 grevlex grevlex)
        (blocks_order 1 grevlex grevlex grevlex_order grevlex_order) so_far hs
        (list_arity so_far ra) (list_arity hs rb) p a;
  }
