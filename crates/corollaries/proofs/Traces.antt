-- What the tasks of a trace give holds (specs/Traced).
--   divided_sum            what is divided with nothing left is the sum of its cofactors times the list
--   traced_holds           the stage of a task that is traced holds
--   traced_gives           and what it gives is reduced, and has just what has no variable in front in the ideal
--   start_holds            so it is for the start
use Rattle.std.proofs.Common.{◌≡◌, ◌≢◌, ℕ, ◌+◌, ◌<◌, List, [], ◌∷◌, ◌++◌, length, slice_get, get_or, Some, sym, ap, subst, ◌∙◌, arith, append-nil}
use Rattle.std.proofs.lemmas.Option.{get_or_from_slice_get}
use Rattle.algebra.proofs.In.{in_get, each_in}
use Rattle.algebra.specs.Fraction.{Fraction, ℚ, rationals}
use Rattle.algebra.proofs.Fractions.{ℚ_ring, ℚ_field}
use Rattle.polynomials.specs.Exponent.{lcm}
use Rattle.polynomials.specs.Terms.{Terms, Same, combination, shift}
use Rattle.polynomials.specs.Order.{Rank, IsMonomialOrder, grevlex}
use Rattle.polynomials.specs.Polynomial.{IsPolynomial}
use Rattle.polynomials.proofs.Orders.{grevlex_order, blocks_order}
use Rattle.machines.specs.Basis.{AtPlaces, SomeLeadDivides, IsBasisOf}
use Rattle.machines.specs.Completion.{s_polynomial}
use Rattle.machines.specs.Completion as completion
use Rattle.machines.specs.Cut.{lead_of, lead_number}
use Rattle.machines.specs.Division as division
use Rattle.machines.specs.Elimination.{free_part}
use Rattle.machines.specs.Pairs.{multiple}
use Rattle.machines.proofs.Completed.{completed, from_has, rest_decides}
use Rattle.machines.proofs.ReducedLists.{generated, reduced_generates}
use Rattle.machines.proofs.Spanning.{Has, has_at, has_difference}
use Rattle.ideals.proofs.Ideal.{in_ideal_same, in_ideal_mul}
use Rattle.ideals.proofs.FractionMembers.{member_at}
use Rattle.polynomials.proofs.Arity.{arity_at}
use Rattle.polynomials.proofs.Poly.{poly_ring, poly_term, poly-shift}
use Rattle.polynomials.specs.Polynomial.{Arity, AllArity}
use Rattle.machines.proofs.Dividing.{division_sum}
use Rattle.machines.proofs.Holding.{Elements, Treating, multiple_is}
use Rattle.machines.proofs.Places.{below_get, at_each, in_slice, slice_in}
use Rattle.machines.proofs.Treated.{treating_pair, s_is}
use Rattle.machines.specs.Reduced.{IsReducedFor}
use Rattle.machines.proofs.Eliminating.{kept_basis}
use Rattle.machines.proofs.Reducing.{tidied}
use Rattle.ideals.specs.Members.{IsMember}
use Rattle.corollaries.specs.Representation.{pairs_of, AreBelow, IsLcmRepresentation}
use Rattle.corollaries.specs.Stage.{Stage, block_order, pair_at, StageHolds}
use Rattle.corollaries.proofs.AllParts.{pairs_below}
use Rattle.corollaries.specs.Traced.{IsDivided, IsTraced}
use Rattle.corollaries.proofs.Staying.{IsLow, products_below}

module _ (O : Rank) (o : IsMonomialOrder O) (n : ℕ) (gs : List (Terms Fraction))
    (h : AtPlaces (λ g. IsPolynomial ℚ O n g × (g ≢ [])) gs)
    (leads : (t : List ℕ × Fraction) (q : Terms Fraction) → IsPolynomial ℚ O n (t ∷ q)
    → IsMember ℚ n gs (t ∷ q) → SomeLeadDivides gs t.0)
    (p : Terms Fraction) (hp : IsPolynomial ℚ O n p) (member : IsMember ℚ n gs p)
    (qs : List (Terms Fraction)) (d : IsDivided O gs p qs) where
  no_rest : division.remainder d.ends.last ≡ []
  no_rest =
      (rest_decides ℚ_field O o n gs (λ k g at. record {
        polynomial = (h k g at).0;
        nonzero = (h k g at).1;
      }) leads p hp d.ends.last d.ends.events d.ends.run d.ends.ended).0 member

  pub divided_sum : Same ℚ p (combination ℚ qs gs)
  divided_sum =
      let whole : Same ℚ p (combination ℚ d.ends.last.cofactors gs ++ division.remainder
      d.ends.last) =
      division_sum ℚ_field O o n gs p d.ends.last d.ends.events h hp d.ends.run in
      subst (λ l. Same ℚ p (combination ℚ l gs)) (sym d.is)
      (subst (Same ℚ p) (append-nil (combination ℚ d.ends.last.cofactors gs))
      (subst (λ r. Same ℚ p (combination ℚ d.ends.last.cofactors gs ++ r)) no_rest whole))

  pub divided_below : (l : List ℕ)
      → IsLow ℚ_field O o n gs (λ k g at. record {
        polynomial = (h k g at).0;
        nonzero = (h k g at).1;
      }) l p → AreBelow rationals O l qs gs
  divided_below l low = subst (λ x. AreBelow rationals O l x gs) (sym d.is)
      (products_below ℚ_field O o n gs (λ k g at. record {
        polynomial = (h k g at).0;
        nonzero = (h k g at).1;
      }) l p hp low d.ends.last d.ends.events d.ends.run)

module _ (k m : ℕ) (hs : List (Terms Fraction))
    (ph : AtPlaces (IsPolynomial ℚ (block_order k) (k + m)) hs) (s : Stage)
    (t : IsTraced k hs s) where
  abbrev n : ℕ
  n = k + m

  abbrev o : IsMonomialOrder (block_order k)
  o = blocks_order k grevlex grevlex grevlex_order grevlex_order

  pub basis : IsBasisOf rationals (block_order k) (k + m) s.list hs
  basis = subst (λ l. IsBasisOf rationals (block_order k) (k + m) l hs) (sym t.list.is)
      (completed ℚ_field (block_order k) o (k + m) hs ph t.list.ends.last t.list.ends.events
      t.list.ends.run t.list.ends.ended)

  pub elements : Elements ℚ_field (block_order k) (blocks_order k grevlex grevlex grevlex_order
      grevlex_order) (k + m) s.list
  elements i g at = record {
    element = record { polynomial = basis.polynomials i g at; nonzero = basis.nonzero i g at };
    one = basis.monic i g at;
  }

  two : AtPlaces (λ g. IsPolynomial ℚ (block_order k) (k + m) g × (g ≢ [])) s.list
  two i g at = (basis.polynomials i g at, basis.nonzero i g at)

  monic : (i : ℕ) → i < length s.list → lead_number rationals (get_or s.list i []) ≡ ℚ.one
  monic i l = let (g, at) = below_get s.list i l in
      ap (lead_number rationals) (get_or_from_slice_get s.list i g [] at) ∙ basis.monic i g at

  starting : (i : ℕ) → i < length hs → IsPolynomial ℚ (block_order k) (k + m) (get_or hs i [])
  starting i l = let (g, at) = below_get hs i l in subst (IsPolynomial ℚ (block_order k) (k + m))
      (sym (get_or_from_slice_get hs i g [] at)) (ph i g at)

  list_leads : (u : List ℕ × Fraction) (q : Terms Fraction) → IsPolynomial ℚ (block_order k) (k + m)
      (u ∷ q) → IsMember ℚ (k + m) s.list (u ∷ q) → SomeLeadDivides s.list u.0
  list_leads u q hq i = basis.led u q hq ((basis.same (u ∷ q) hq).0 i)

  starting_arity : AllArity (k + m) hs
  starting_arity = at_each (Arity (k + m)) hs (λ i g at. (ph i g at).arity)

  starting_member : (i : ℕ) → i < length hs → IsMember ℚ (k + m) s.list (get_or hs i [])
  starting_member i l = (basis.same (get_or hs i []) (starting i l)).1
      (member_at (k + m) hs starting_arity i l)

  -- ---- the S-polynomial of a pair
  pub s_treated : (a : ℕ × ℕ) → a.0 < length s.list → a.1 < length s.list
      → Treating ℚ_field (block_order k) o (k + m) s.list a (s_polynomial rationals (block_order k)
      s.list a)
  s_treated a i j =
      let (g, ig) = below_get s.list a.0 i in
      let (h, jh) = below_get s.list a.1 j in
      treating_pair ℚ_field (block_order k) o (k + m) s.list a g h ig jh (elements a.0 g ig)
      (elements a.1 h jh) elements

  list_has : (i : ℕ) (g : Terms Fraction) → slice_get s.list i ≡ Some g → (d : List ℕ)
      → Has ℚ_field (block_order k) o (k + m) s.list (shift ℚ d ℚ.one g)
  list_has i g at d = in_ideal_same (poly_ring (k + m) ℚ_ring) (poly-shift (k + m) ℚ_ring d ℚ.one g)
      (in_ideal_mul (poly_ring (k + m) ℚ_ring) (poly_term (k + m) ℚ_ring d ℚ.one)
      (has_at ℚ_field (block_order k) o (k + m) s.list i g at))

  s_member : (a : ℕ × ℕ) → a.0 < length s.list → a.1 < length s.list
      → IsPolynomial ℚ (block_order k) (k + m) (s_polynomial rationals (block_order k) s.list a)
      → IsMember ℚ (k + m) s.list (s_polynomial rationals (block_order k) s.list a)
  s_member a i j hs =
      let (g, ig) = below_get s.list a.0 i in
      let (h, jh) = below_get s.list a.1 j in
      from_has ℚ_field (block_order k) o (k + m) s.list (s_polynomial rationals (block_order k)
      s.list a) basis.polynomials hs.arity
      (subst (Has ℚ_field (block_order k) o (k + m) s.list)
      (sym (s_is ℚ_field (block_order k) o (k + m) s.list a g h ig jh (elements a.0 g ig)
      (elements a.1 h jh)))
      (has_difference ℚ_field (block_order k) o (k + m) s.list _ _ (list_has a.0 g ig _)
      (list_has a.1 h jh _)))

  pair_within : (i : ℕ) → i < length (pairs_of (length s.list))
      → ((pair_at s i).0 < (pair_at s i).1) × ((pair_at s i).1 < length s.list)
  pair_within i l = each_in (λ (a : ℕ × ℕ). (a.0 < a.1) × (a.1 < length s.list))
      (pairs_of (length s.list)) (pair_at s i) (pairs_below (length s.list))
      (in_get (pairs_of (length s.list)) i (0, 0) l)

  pair_told : (i : ℕ) → i < length (pairs_of (length s.list))
      → IsLcmRepresentation rationals (block_order k) s.list (pair_at s i) (get_or s.pairs i [])
  pair_told i l =
      let two_places = pair_within i l in
      let a : ℕ × ℕ = pair_at s i in
      let r = s_treated a (omega (arith, two_places)) two_places.1 in
      let is : multiple (completion.leads s.list) a ≡ lcm (lead_of r.left) (lead_of r.right) =
      multiple_is ℚ_field (block_order k) o (k + m) s.list a r.left r.right r.at_left
      r.at_right in (
        divided_sum (block_order k) o (k + m) s.list two list_leads
            (s_polynomial rationals (block_order k) s.list a) r.polynomial
            (s_member a (omega (arith, two_places)) two_places.1 r.polynomial) (get_or s.pairs i [])
            (t.pairs i l),
        subst (λ e. AreBelow rationals (block_order k) e (get_or s.pairs i []) s.list) (sym is)
            (divided_below (block_order k) o (k + m) s.list two list_leads
            (s_polynomial rationals (block_order k) s.list a) r.polynomial
            (s_member a (omega (arith, two_places)) two_places.1 r.polynomial)
            (get_or s.pairs i []) (t.pairs i l) (lcm (lead_of r.left) (lead_of r.right))
            r.low),
      )

  -- ---- what is kept
  list_basis : IsBasisOf rationals (block_order k) (k + m) s.list s.list
  list_basis = record {
    polynomials = basis.polynomials;
    nonzero = basis.nonzero;
    monic = basis.monic;
    same = λ p h. ((λ i. i), (λ i. i));
    led = λ u p h i. basis.led u p h ((basis.same (u ∷ p) h).0 i);
  }

  pub kept_is : IsBasisOf rationals grevlex m (free_part k s.list) (free_part k s.list)
  kept_is = kept_basis ℚ_field k m grevlex grevlex grevlex_order grevlex_order s.list s.list
      basis.polynomials list_basis

  pub out_reduced : IsReducedFor rationals grevlex m s.out (IsMember ℚ m (free_part k s.list))
  out_reduced = subst (λ l. IsReducedFor rationals grevlex m l (IsMember ℚ m (free_part k s.list)))
      (sym t.out.is)
      (tidied ℚ_field grevlex grevlex_order m (free_part k s.list) (free_part k s.list)
      kept_is.polynomials
      kept_is t.out.ends.last t.out.ends.events t.out.ends.run t.out.ends.ended)

  out_two : AtPlaces (λ g. IsPolynomial ℚ grevlex m g × (g ≢ [])) s.out
  out_two i g at = let j = in_slice s.out i g at in (
    out_reduced.polynomials g j,
    out_reduced.nonzero g j,
  )

  kept_arity : AllArity m (free_part k s.list)
  kept_arity = at_each (Arity m) (free_part k s.list) (λ i g at. (kept_is.polynomials i g at).arity)

  out_leads : (u : List ℕ × Fraction) (q : Terms Fraction) → IsPolynomial ℚ grevlex m (u ∷ q)
      → IsMember ℚ m s.out (u ∷ q) → SomeLeadDivides s.out u.0
  out_leads u q hq i =
      let (g, among, d) =
      out_reduced.led u q hq (generated grevlex grevlex_order m (free_part k s.list)
      kept_is.polynomials s.out out_reduced (u ∷ q) hq.arity kept_arity i) in
      let (n, at) = slice_in s.out g among in
      record { place = n; element = g; at = at; divided = d }

  kept_member : (i : ℕ) → i < length (free_part k s.list)
      → IsMember ℚ m s.out (get_or (free_part k s.list) i [])
  kept_member i l = reduced_generates grevlex grevlex_order m (free_part k s.list)
      kept_is.polynomials
      s.out out_reduced (get_or (free_part k s.list) i []) (arity_at m (free_part k s.list)
      kept_arity i)
      (member_at m (free_part k s.list) kept_arity i l)

  kept_polynomial : (i : ℕ) → i < length (free_part k s.list)
      → IsPolynomial ℚ grevlex m (get_or (free_part k s.list) i [])
  kept_polynomial i l = let (g, at) = below_get (free_part k s.list) i l in
      subst (IsPolynomial ℚ grevlex m) (sym (get_or_from_slice_get (free_part k s.list) i g [] at))
      (kept_is.polynomials i g at)

  -- THE STAGE OF A TASK THAT IS TRACED HOLDS
  pub traced_holds : StageHolds k hs s
  traced_holds = record {
    list = monic;
    gens = λ i l. divided_sum (block_order k) o (k + m) s.list two list_leads (get_or hs i [])
        (starting i l) (starting_member i l) (get_or s.gens i []) (t.gens i l);
    pairs = pair_told;
    links = λ i l. divided_sum grevlex grevlex_order m s.out out_two out_leads
        (get_or (free_part k s.list) i []) (kept_polynomial i l) (kept_member i l)
        (get_or s.links i [])
        (t.links i l);
  }
