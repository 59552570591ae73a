-- An elimination that has ended.
--   eliminated_basis    its list is the reduced basis of what has none of the first variables
use Rattle.std.proofs.Common.{◌≡◌, ℕ, ◌+◌, List, [], ◌∷◌, map, sym, subst}
use Rattle.algebra.specs.Each.{Each}
use Rattle.algebra.specs.Fraction.{Fraction, ℚ, rationals}
use Rattle.algebra.proofs.Fractions.{ℚ_field}
use Rattle.polynomials.specs.Terms.{Terms}
use Rattle.polynomials.specs.Order.{Rank, grevlex, blocks}
use Rattle.polynomials.specs.Polynomial.{AllArity, IsPolynomial}
use Rattle.polynomials.proofs.Orders.{grevlex_order, blocks_order}
use Rattle.ideals.specs.Members.{IsMember}
use Rattle.machines.specs.Basis.{AtPlaces, IsBasisOf}
use Rattle.machines.specs.Collect.{collect}
use Rattle.machines.specs.Completion as completion
use Rattle.machines.specs.Cut.{monic}
use Rattle.machines.specs.Elimination.{free_part, in_front, initial_state, next, list_of, State}
use Rattle.machines.specs.Event.{Event}
use Rattle.machines.specs.Reduced.{IsReducedBasis}
use Rattle.machines.specs.Run.{IsRun, HasEnded}
use Rattle.machines.specs.Tidying as tidying
use Rattle.machines.proofs.Collecting.{collect-polynomial}
use Rattle.machines.proofs.Completed.{completed}
use Rattle.machines.proofs.Eliminating.{kept_basis}
use Rattle.machines.proofs.Ends.{monic_list, eliminated}
use Rattle.machines.proofs.Joined.{Parts, parts_of}
use Rattle.machines.proofs.Places.{each_at}

module _ (k m : ℕ) (hs : List (Terms Fraction)) (arities : AllArity (k + m) hs) where
  abbrev O : Rank
  O = blocks k grevlex grevlex

  abbrev gens : List (Terms Fraction)
  gens = map (collect rationals O) hs

  collected : (gs : List (Terms Fraction)) → AllArity (k + m) gs
      → Each (IsPolynomial ℚ (blocks k grevlex grevlex) (k + m))
      (map (collect rationals (blocks k grevlex grevlex)) gs)
  unfolding Each
  collected [] a = tt
  collected (g ∷ gs) a = (
    collect-polynomial ℚ_field O (blocks_order k grevlex grevlex grevlex_order grevlex_order)
        (k + m) g a.0,
    collected gs a.1,
  )

  pub eliminated_basis : (es : List Event) (t : State Fraction)
      → IsRun (next rationals (blocks k grevlex grevlex) grevlex (free_part k))
      (initial_state rationals (blocks k grevlex grevlex)
      (map (collect rationals (blocks k grevlex grevlex)) hs)) es t
      → HasEnded (next rationals (blocks k grevlex grevlex) grevlex (free_part k)) t
      → IsReducedBasis rationals grevlex m (list_of grevlex (free_part k) t)
      (λ y. IsMember ℚ (k + m) hs (in_front k y))
  eliminated_basis es t r h =
      let p : Parts rationals O grevlex (free_part k) (completion.initial_state rationals O gens)
      t =
      parts_of rationals O grevlex (free_part k) (completion.initial_state rationals O gens) t es r
      h in
      let polys : AtPlaces (IsPolynomial ℚ O (k + m)) gens =
      each_at (IsPolynomial ℚ O (k + m)) gens (collected hs arities) in
      let b : IsBasisOf rationals O (k + m) p.last.basis gens =
      completed ℚ_field O (blocks_order k grevlex grevlex grevlex_order grevlex_order)
      (k + m) gens polys p.last p.events p.run p.ended in
      let e : map (monic rationals) (free_part k p.last.basis) ≡ free_part k p.last.basis =
      monic_list ℚ_field grevlex grevlex_order m (free_part k p.last.basis)
      (kept_basis ℚ_field k m grevlex grevlex grevlex_order grevlex_order p.last.basis gens
      polys b).monic in
      subst (λ l. IsReducedBasis rationals grevlex m l (λ y. IsMember ℚ (k + m) hs (in_front k y)))
      (sym p.is)
      (eliminated ℚ_field k m grevlex grevlex grevlex_order grevlex_order hs arities p.last p.events
      p.run p.ended p.list p.more
      (subst (λ l. IsRun (tidying.next rationals grevlex) (tidying.by_lead grevlex l) p.more p.list)
      (sym e) p.tidies)
      p.tidy)
