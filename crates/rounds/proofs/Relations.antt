-- The relations are zero at points where s s and u v are one: at those of each natural n, and of each -n.
--   relations_zero        at such a point
--   zero_at_points, zero_at_back_points
--   relations_of_base     so they are relations of a base's points
use Rattle.std.proofs.Common.{◌≡◌, ℕ, zero, suc, ◌+◌, ◌<◌, ◌≤◌, pos, negsuc, List, [], ◌∷◌, ◌++◌, map, get_or, length, arith, sym, ap, ap₂, subst, ◌∙◌, All}
use Rattle.std.proofs.lemmas.List.{get_or-map, length-map, length-append, get_or_append_left, get_or-append-add}
use Rattle.std.proofs.lemmas.List.Elements.{All-nil, All-cons, All-append, length_all_zip, AllZip-get_or}
use Rattle.std.specs.List.{AllZip}
use Rattle.algebra.proofs.RingLaws as L
use Rattle.algebra.specs.Fraction.{Fraction, ℚ, whole, inverse}
use Rattle.algebra.proofs.Fractions.{ℚ_ring, ℚ_field}
use Rattle.algebra.proofs.Wholes.{whole-some, opposite-whole}
use Rattle.polynomials.specs.Terms.{constant, variables, times, negate}
use Rattle.polynomials.proofs.ValueAt.{value_at-append, value_at-times, value_at-negate, value_at-constant, value_at-variables}
use Rattle.exponentials.specs.Base.{Coprime}
use Rattle.exponentials.proofs.Monomial.{power_inverse}
use Rattle.solvable_maps.specs.Iterations.{point, back_point, powers, inverses, sign}
use Rattle.solvable_maps.proofs.Operations.{point-append}
use Rattle.rounds.specs.Orbit.{AreRelations}
use Rattle.rounds.specs.Form.{front, point_of, variable_at, relation, relations_to, relations}
use Rattle.machines.proofs.Padding.{at}
use Rattle.rounds.proofs.Independent.{arity_relations}

relation_at : (w i j : ℕ) (p : List Fraction) → length p ≡ w → i < w → j < w
    → ℚ.mul (get_or p i ℚ.zero) (get_or p j ℚ.zero) ≡ ℚ.one → at (relation w i j) p ≡ ℚ.zero
unfolding relation
relation_at w i j p l hi hj h =
    value_at-append ℚ_ring (times ℚ (variable_at w i) (variable_at w j))
    (negate ℚ (constant w ℚ.one)) p
    ∙ ap₂ ℚ.add (value_at-times ℚ_ring (variable_at w i) (variable_at w j) p
    ∙ ap₂ ℚ.mul (place i hi) (place j hj) ∙ h) (value_at-negate ℚ_ring (constant w ℚ.one) p
    ∙ ap ℚ.neg (value_at-constant ℚ_ring w ℚ.one p))
    ∙ ℚ_ring.add-neg ℚ.one
  where
    all : map (λ q. at q p) (variables ℚ w) ≡ p
    all = value_at-variables ℚ_ring w p l

    count : length (variables ℚ w) ≡ w
    count = sym (length-map (variables ℚ w) (λ q. at q p)) ∙ ap length all ∙ l

    place : (i : ℕ) → i < w → at (variable_at w i) p ≡ get_or p i ℚ.zero
    place i h =
        sym (get_or-map (λ q. at q p) (variables ℚ w) i [] ℚ.zero (subst (λ n. i < n) (sym count)
        h)) ∙ ap (λ z. get_or z i ℚ.zero) all

module _ (m : ℕ) (a e : Fraction) (us vs s : List Fraction) (square : ℚ.mul e e ≡ ℚ.one)
    (inverse : AllZip (λ u v. ℚ.mul u v ≡ ℚ.one) us vs) (size : length s ≡ m) where
  abbrev p : List Fraction
  p = a ∷ e ∷ (us ++ (vs ++ s))

  module _ (r : ℕ) (lu : length us ≡ r) where
    long : length p ≡ front r + m
    long = let f = length_all_zip (λ u v. ℚ.mul u v ≡ ℚ.one) us vs inverse in let g =
        length-append us (vs ++ s) in let h = length-append vs s in omega (arith, f, g, h, lu, size)

    pair_at : (j : ℕ) → j < r → at (relation (front r + m) (suc (suc j)) (suc (suc (r + j)))) p
        ≡ ℚ.zero
    pair_at j h = relation_at (front r + m) (suc (suc j)) (suc (suc (r + j))) p long (omega arith)
        (omega arith)
        (ap₂ ℚ.mul (get_or_append_left us (vs ++ s) ℚ.zero j (omega (arith, lu)))
        (ap (λ n. get_or (us ++ (vs ++ s)) (n + j) ℚ.zero) (sym lu)
        ∙ get_or-append-add us (vs ++ s) j ℚ.zero ∙ get_or_append_left vs s ℚ.zero j (let f =
        length_all_zip (λ u v. ℚ.mul u v ≡ ℚ.one) us vs inverse in omega (arith, f, lu)))
        ∙ AllZip-get_or (λ u v. ℚ.mul u v ≡ ℚ.one) us vs j ℚ.zero ℚ.zero inverse
        (omega (arith, lu)))

    pairs_zero : (n : ℕ) → n ≤ r → All (λ q. at q p ≡ ℚ.zero) (relations_to r (front r + m) n)
    unfolding relations_to
    pairs_zero zero h = All-nil _
    pairs_zero (suc n) h = All-append (λ q. at q p ≡ ℚ.zero) (relations_to r (front r + m) n) _
        (pairs_zero n (omega arith)) (All-cons (λ q. at q p ≡ ℚ.zero) _ [] (pair_at n (omega arith))
        (All-nil _))

    pub relations_zero : All (λ q. at q (a ∷ e ∷ (us ++ (vs ++ s))) ≡ ℚ.zero) (relations r m)
    relations_zero = All-cons (λ q. at q p ≡ ℚ.zero) _ _ (relation_at (front r + m) 1 1 p long
        (omega arith) (omega arith) square) (pairs_zero r (omega arith))

-- ---- the points
minus_squared : ℚ.mul (whole (negsuc 0)) (whole (negsuc 0)) ≡ ℚ.one
minus_squared = ap (λ x. ℚ.mul x x) (sym (opposite-whole (pos 1))) ∙ L.minus_squared ℚ_ring

sign_squared : (n : ℕ) → ℚ.mul (sign n) (sign n) ≡ ℚ.one
sign_squared n = power_inverse ℚ_ring (whole (negsuc 0)) (whole (negsuc 0)) n minus_squared

units : (bs : List ℕ) → Coprime bs → (n : ℕ) → AllZip (λ u v. ℚ.mul u v ≡ ℚ.one) (powers bs n)
    (inverses bs n)
units [] c n = tt
units (b ∷ bs) c n = (
  power_inverse ℚ_ring (whole (pos b)) (inverse (whole (pos b))) n
      (ℚ_field.mul-inverse (whole (pos b)) (whole-some b (let l : 1 < b = c.0 in
      omega (arith, l)))),
  units bs c.2 n,
)

units_back : (bs : List ℕ) → Coprime bs → (n : ℕ)
    → AllZip (λ u v. ℚ.mul u v ≡ ℚ.one) (inverses bs n) (powers bs n)
units_back [] c n = tt
units_back (b ∷ bs) c n = (
  power_inverse ℚ_ring (inverse (whole (pos b))) (whole (pos b)) n
      (ℚ_ring.mul_comm (inverse (whole (pos b))) (whole (pos b))
      ∙ ℚ_field.mul-inverse (whole (pos b)) (whole-some b (let l : 1 < b = c.0 in
      omega (arith, l)))),
  units_back bs c.2 n,
)

module _ (bs : List ℕ) (c : Coprime bs) (m : ℕ) where
  pub zero_at_points : (n : ℕ) (s : List Fraction) → length s ≡ m
      → All (λ q. at q (point bs n s) ≡ ℚ.zero) (relations (length bs) m)
  zero_at_points n s l = relations_zero m (whole (pos n)) (sign n) (powers bs n) (inverses bs n) s
      (sign_squared n) (units bs c n) l (length bs) (length-map bs _)

  pub zero_at_back_points : (n : ℕ) (s : List Fraction) → length s ≡ m
      → All (λ q. at q (back_point bs n s) ≡ ℚ.zero) (relations (length bs) m)
  zero_at_back_points n s l = relations_zero m (ℚ.neg (whole (pos n))) (sign n) (inverses bs n)
      (powers bs n) s (sign_squared n) (units_back bs c n) l (length bs) (length-map bs _)

  pub relations_of_base : AreRelations (front (length bs)) m (point_of bs) (relations (length bs) m)
  relations_of_base = record {
    arities = arity_relations (length bs) m;
    zero = λ n s l. subst (λ x. All (λ q. at q x ≡ ℚ.zero) (relations (length bs) m))
        (sym (point-append bs n s)) (zero_at_points n s l);
  }
