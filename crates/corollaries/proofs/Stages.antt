-- What a stage that holds shows (specs/Stage): what has no variable in front in the ideal of its starting list is in the ideal of what it gives.
--   stage_eliminates
use Rattle.std.proofs.Common.{◌≡◌, ℕ, ◌+◌, ◌<◌, List, [], length, get_or, sym, subst, ◌∙◌}
use Rattle.std.proofs.lemmas.Option.{get_or_from_slice_get}
use Rattle.algebra.specs.Each.{Each}
use Rattle.algebra.proofs.Each.{each_weaker}
use Rattle.algebra.proofs.In.{in_place}
use Rattle.algebra.specs.Fraction.{Fraction, ℚ, rationals}
use Rattle.algebra.proofs.Fractions.{ℚ_field}
use Rattle.algebra.proofs.Fractions.{ℚ_ring}
use Rattle.polynomials.specs.Terms.{Terms, Same}
use Rattle.polynomials.specs.Order.{IsMonomialOrder, grevlex}
use Rattle.polynomials.specs.Polynomial.{Arity, AllArity, IsPolynomial}
use Rattle.polynomials.proofs.ByValues.{same_by_values}
use Rattle.polynomials.proofs.Orders.{grevlex_order, blocks_order}
use Rattle.polynomials.proofs.Same.{Same-sym}
use Rattle.polynomials.proofs.ValueAt.{value_at_same}
use Rattle.ideals.specs.Members.{IsMember}
use Rattle.ideals.proofs.FractionMembers.{member_same, member_members}
use Rattle.machines.specs.Basis.{AtPlaces, IsBasisOf}
use Rattle.machines.specs.Collect.{collect}
use Rattle.machines.specs.Cut.{lead_number}
use Rattle.machines.specs.Elimination.{free_part, in_front}
use Rattle.machines.proofs.Collecting.{collect-polynomial, collect-same}
use Rattle.machines.proofs.Eliminating.{kept_members}
use Rattle.machines.proofs.Padding.{arity-pad, in_front_at}
use Rattle.machines.proofs.Places.{each_at, get_below}
use Rattle.corollaries.specs.Representation.{pairs_of, IsLcmRepresentation}
use Rattle.corollaries.specs.Stage.{Stage, block_order, StageHolds, IsStageOver}
use Rattle.corollaries.proofs.Lists.{each_place, in_pairs_of}
use Rattle.corollaries.proofs.Representations.{all_represented}

-- a polynomial with variables in front, and collected
in_front_collected : (k m : ℕ) (p : Terms Fraction) → Arity m p
    → Same ℚ (in_front k (collect rationals grevlex p)) (in_front k p)
in_front_collected k m p a =
    let q : Terms Fraction = collect rationals grevlex p in
    same_by_values (k + m) (in_front k q) (in_front k p)
    (arity-pad k m q (collect-polynomial ℚ_field grevlex grevlex_order m p a).arity)
    (arity-pad k m p a)
    (λ s l. in_front_at k m q s l
    ∙ value_at_same ℚ_ring _ _ _ (collect-same ℚ_field grevlex grevlex_order p)
    ∙ sym (in_front_at k m p s l))

module _ (k m : ℕ) (hs : List (Terms Fraction)) (s : Stage)
    (over : IsStageOver k m s) (all : StageHolds k hs s) where
  order : IsMonomialOrder (block_order k)
  order = blocks_order k grevlex grevlex grevlex_order grevlex_order

  abbrev InList : Terms Fraction → Type 0
  InList = IsPolynomial ℚ (block_order k) (k + m)

  -- ---- the list is a Gröbner basis
  nothing : Each (IsPolynomial ℚ (block_order k) (k + m)) []
  unfolding Each
  nothing = tt

  represented : (i j : ℕ) → i < j → j < length s.list
      → (qs : List (Terms Fraction)) × Each InList qs
      × IsLcmRepresentation rationals (block_order k) s.list (i, j) qs
  represented i j l h =
      let (n, below, is) = in_place (pairs_of (length s.list)) (0, 0) (i, j)
      (in_pairs_of (length s.list) i j l h) in (
        get_or s.pairs n [],
        each_place (Each InList) s.pairs [] nothing over.pairs n,
        subst (λ a. IsLcmRepresentation rationals (block_order k) s.list a (get_or s.pairs n []))
            is (all.pairs n below),
      )

  list_places : AtPlaces (IsPolynomial ℚ (block_order k) (k + m)) s.list
  list_places = each_at InList s.list over.list

  monic : AtPlaces (λ g. lead_number rationals g ≡ ℚ.one) s.list
  monic i g at = subst (λ x. lead_number rationals x ≡ ℚ.one)
      (get_or_from_slice_get s.list i g [] at) (all.list i (get_below s.list i g at))

  basis : IsBasisOf rationals (block_order k) (k + m) s.list s.list
  basis = all_represented ℚ_field (block_order k) order (k + m) s.list list_places monic represented

  list_arity : AllArity (k + m) s.list
  list_arity = each_weaker InList (Arity (k + m)) (λ q h. h.arity) s.list over.list

  out_arity : AllArity m s.out
  out_arity = each_weaker (IsPolynomial ℚ grevlex m) (Arity m) (λ q h. h.arity) s.out over.out

  no_rows : (n : ℕ) → AllArity {A = Fraction} n []
  unfolding Each
  no_rows n = tt

  -- ---- from the starting list to the list, to what is left of it, to what is given
  from_start : (i : ℕ) → i < length hs → IsMember ℚ (k + m) s.list (get_or hs i [])
  from_start i l = record {
    cofactors = get_or s.gens i [];
    arity = each_place (AllArity (k + m)) s.gens [] (no_rows (k + m)) over.gens i;
    is = all.gens i l;
  }

  to_out : (i : ℕ) → i < length (free_part k s.list)
      → IsMember ℚ m s.out (get_or (free_part k s.list) i [])
  to_out i l = record {
    cofactors = get_or s.links i [];
    arity = each_place (AllArity m) s.links [] (no_rows m) over.links i;
    is = all.links i l;
  }

  pub stage_eliminates : (p : Terms Fraction) → Arity m p → IsMember ℚ (k + m) hs (in_front k p)
      → IsMember ℚ m s.out p
  stage_eliminates p a i =
      let q : Terms Fraction = collect rationals grevlex p in
      let hq : IsPolynomial ℚ grevlex m q =
      collect-polynomial ℚ_field grevlex grevlex_order m p a in
      let in_list : IsMember ℚ (k + m) s.list (in_front k q) =
      member_same (k + m) s.list (in_front k p) (in_front k q) (in_front_collected k m p a)
      (member_members (k + m) hs s.list (in_front k p) list_arity (arity-pad k m p a)
      from_start i) in
      let in_kept : IsMember ℚ m (free_part k s.list) q =
      (kept_members ℚ_field k m grevlex grevlex grevlex_order grevlex_order s.list s.list
      list_places basis q hq).1 in_list in
      member_same m s.out q p (Same-sym ℚ (collect-same ℚ_field grevlex grevlex_order p))
      (member_members m (free_part k s.list) s.out q out_arity hq.arity to_out in_kept)
