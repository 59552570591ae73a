-- Rows in echelon, whose pivots have inverses modulo a number, are independent modulo it.
--   dot_from             a product with a row from a place on, its first entry apart
--   triangular_none      what gives multiples with triangular rows has multiples alone
--   pivots_independent   so rows of which such rows are combinations are independent
use Rattle.std.proofs.Common.{◌≡◌, ℕ, zero, suc, ℤ, pos, ◌*ℤ◌, ◌+ℤ◌, List, [], ◌∷◌, drop, get_or, length, refl, sym, ap, ◌∙◌, arith}
use Rattle.algebra.specs.Each.{Each}
use Rattle.algebra.specs.Ring.{CommRing, operations}
use Rattle.algebra.proofs.Each.{each_weaker}
use Rattle.algebra.proofs.IntRing.{ℤ_ring}
use Rattle.algebra.proofs.RingSolver.{ring, ring_rules}
use Rattle.polynomials.specs.Terms.{sum_of_products}
use Rattle.ideals.proofs.Ideal.{in_ideal_same, in_ideal_zero, in_ideal_add, in_ideal_mul, in_ideal_neg}
use Rattle.closures.specs.Modulo.{IsMultiple, HasPivot, IsTriangularFrom, IsCombinationModulo, IsIndependentModulo}

module _ {A : Type 0} (R : CommRing A) where
  open R use {zero as 𝟘, one as 𝟙, add as ◌⊕◌, mul as ◌⊗◌, neg}

  infixl 60 ◌⊕◌
  infixl 70 ◌⊗◌
  first_apart : (s t : A) → t ≡ s ⊕ t ⊕ neg s
  first_apart s t = ring R (s ∷ t ∷ []) (search ring_rules depth 40) refl

  by_inverse : (x a i : A) → x ≡ i ⊗ (x ⊗ a) ⊕ neg (x ⊗ (a ⊗ i ⊕ neg 𝟙))
  by_inverse x a i = ring R (x ∷ a ∷ i ∷ []) (search ring_rules depth 40) refl

  no_row : (x : A) → 𝟘 ≡ x ⊗ 𝟘 ⊕ 𝟘
  no_row x = ring R (x ∷ []) (search ring_rules depth 40) refl

abbrev dot : List ℤ → List ℤ → ℤ
dot z row = sum_of_products (operations ℤ_ring) z row

dot_none : (z : List ℤ) → dot z [] ≡ pos 0
unfolding sum_of_products
dot_none [] = refl
dot_none (x ∷ z) = refl

pub dot_from : (k : ℕ) (x : ℤ) (z row : List ℤ)
    → dot (x ∷ z) (drop k row) ≡ x *ℤ get_or row k (pos 0) +ℤ dot z (drop (suc k) row)
unfolding sum_of_products
dot_from zero x z [] = no_row ℤ_ring x ∙ ap (λ y. x *ℤ pos 0 +ℤ y) (sym (dot_none z))
dot_from (suc k) x z [] = no_row ℤ_ring x ∙ ap (λ y. x *ℤ pos 0 +ℤ y) (sym (dot_none z))
dot_from zero x z (a ∷ row) = refl
dot_from (suc k) x z (a ∷ row) = dot_from k x z row

module _ (q : ℤ) where
  all_multiples : (z row : List ℤ) → Each (IsMultiple q) z → IsMultiple q (dot z row)
  unfolding Each sum_of_products
  all_multiples [] row h = in_ideal_zero ℤ_ring
  all_multiples (x ∷ z) [] h = in_ideal_zero ℤ_ring
  all_multiples (x ∷ z) (a ∷ row) h =
      in_ideal_add ℤ_ring
      (in_ideal_same ℤ_ring (ℤ_ring.mul_comm x a) (in_ideal_mul ℤ_ring a h.0))
      (all_multiples z row h.1)

  -- a row behind the first
  later : (k : ℕ) (x : ℤ) (z row : List ℤ) → IsMultiple q (get_or row k (pos 0))
      → IsMultiple q (dot (x ∷ z) (drop k row)) → IsMultiple q (dot z (drop (suc k) row))
  later k x z row a h =
      in_ideal_same ℤ_ring (first_apart ℤ_ring (x *ℤ get_or row k (pos 0))
      (dot z (drop (suc k) row)))
      (in_ideal_add ℤ_ring (in_ideal_same ℤ_ring (sym (dot_from k x z row)) h)
      (in_ideal_neg ℤ_ring (in_ideal_mul ℤ_ring x a)))

  -- the first row, where the others give multiples
  first : (k : ℕ) (x : ℤ) (z row : List ℤ) → HasPivot q (get_or row k (pos 0))
      → Each (IsMultiple q) z → IsMultiple q (dot (x ∷ z) (drop k row)) → IsMultiple q x
  first k x z row p a h =
      let entry = get_or row k (pos 0) in
      let rest = dot z (drop (suc k) row) in
      let one : IsMultiple q (x *ℤ entry) =
      in_ideal_same ℤ_ring (first_apart ℤ_ring rest (x *ℤ entry)
      ∙ ap (λ y. y +ℤ ℤ_ring.neg rest) (ℤ_ring.add_comm rest (x *ℤ entry)
      ∙ sym (dot_from k x z row)))
      (in_ideal_add ℤ_ring h
      (in_ideal_neg ℤ_ring (all_multiples z (drop (suc k) row) a))) in
      in_ideal_same ℤ_ring (by_inverse ℤ_ring x entry p.inverse)
      (in_ideal_add ℤ_ring (in_ideal_mul ℤ_ring p.inverse one)
      (in_ideal_neg ℤ_ring (in_ideal_mul ℤ_ring x p.is.difference)))

  rows_later : (k : ℕ) (x : ℤ) (z : List ℤ) (rows : List (List ℤ))
      → Each (λ r. IsMultiple q (get_or r k (pos 0))) rows
      → Each (λ r. IsMultiple q (dot (x ∷ z) (drop k r))) rows
      → Each (λ r. IsMultiple q (dot z (drop (suc k) r))) rows
  unfolding Each
  rows_later k x z [] a h = tt
  rows_later k x z (row ∷ rows) a h = (later k x z row a.0 h.0, rows_later k x z rows a.1 h.1)

  pub triangular_none : (rows : List (List ℤ)) (k : ℕ) (z : List ℤ) → length z ≡ length rows
      → IsTriangularFrom q k rows → Each (λ r. IsMultiple q (dot z (drop k r))) rows
      → Each (IsMultiple q) z
  unfolding Each IsTriangularFrom
  triangular_none [] k [] l t h = tt
  triangular_none [] k (x ∷ z) l t h = absurd (omega (arith, l))
  triangular_none (row ∷ rows) k [] l t h = absurd (omega (arith, l))
  triangular_none (row ∷ rows) k (x ∷ z) l t h =
      let rest = triangular_none rows (suc k) z (omega (arith, l)) t.2
      (rows_later k x z rows t.1 h.1) in
      (first k x z row t.0 rest h.0, rest)

  pub pivots_independent : (rows stored : List (List ℤ)) → IsTriangularFrom q 0 stored
      → Each (IsCombinationModulo q rows) stored
      → IsIndependentModulo q (length stored) rows
  pivots_independent rows stored t c = record {
    none = λ z l h.
        triangular_none stored 0 z l t
        (each_weaker (IsCombinationModulo q rows) (λ s. IsMultiple q (dot z s))
        (λ s i. i.gives z h) stored c);
  }
