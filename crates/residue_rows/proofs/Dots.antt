-- Sums of products with rows modulo a number.
--   dot_first, dot_zero     by the first entries;  of no entries: 0
--   multiple_to, none_of, multiple_of     what is congruent to a multiple or to 0
--   first_part           a number is a multiple where its sum with a multiple is one
--   dot_blend            with a row that is congruent to a blend of two
--   scatter              a vector with numbers at some places;  dot_scatter: with it, and with what is picked at these places
--   spread               and with 1 in a column besides;  dot_spread
use Rattle.std.proofs.Common.{◌≡◌, ℕ, zero, suc, ◌<◌, ℤ, pos, ◌+ℤ◌, ◌*ℤ◌, List, [], ◌∷◌, drop, length, replicate, refl, sym, ap, ap₂, subst, ◌∙◌, arith}
use Rattle.std.proofs.lemmas.List.{length-replicate}
use Rattle.algebra.specs.Each.{Each}
use Rattle.algebra.specs.Ring.{CommRing}
use Rattle.algebra.proofs.IntRing.{ℤ_ring}
use Rattle.algebra.proofs.RingLaws.{zero-mul}
use Rattle.algebra.proofs.RingSolver.{ring, ring_rules}
use Rattle.polynomials.specs.Terms.{sum_of_products}
use Rattle.ideals.proofs.Ideal.{in_ideal_same, in_ideal_zero, in_ideal_add, in_ideal_neg}
use Rattle.ideals.proofs.Congruence.{congruent_refl, congruent_same, congruent_add, congruent_mul, congruent_member}
use Rattle.closures.specs.Modulo.{IsMultiple, AreCongruent}
use Rattle.closures.proofs.Pivots.{dot_from}
use Rattle.residue_rows.specs.EchelonForm.{dot, entry, pick}

-- ---- identities of rings
module _ {A : Type 0} (R : CommRing A) where
  open R use {zero as 𝟘, one as 𝟙, add as ◌⊕◌, mul as ◌⊗◌, neg}

  infixl 60 ◌⊕◌
  infixl 70 ◌⊗◌
  blended : (x a r b o s t : A)
      → a ⊗ (x ⊗ r ⊕ s) ⊕ b ⊗ (x ⊗ o ⊕ t) ≡ x ⊗ (a ⊗ r ⊕ b ⊗ o) ⊕ (a ⊗ s ⊕ b ⊗ t)
  blended x a r b o s t = ring R (x ∷ a ∷ r ∷ b ∷ o ∷ s ∷ t ∷ []) (search ring_rules depth 40) refl

  no_blend : (a b : A) → a ⊗ 𝟘 ⊕ b ⊗ 𝟘 ≡ 𝟘
  no_blend a b = ring R (a ∷ b ∷ []) (search ring_rules depth 40) refl

  put_first : (a x y s : A) → (a ⊕ x) ⊗ y ⊕ s ≡ x ⊗ y ⊕ (a ⊗ y ⊕ s)
  put_first a x y s = ring R (a ∷ x ∷ y ∷ s ∷ []) (search ring_rules depth 40) refl

  put_later : (p x y s : A) → p ⊕ (x ⊗ y ⊕ s) ≡ x ⊗ y ⊕ (p ⊕ s)
  put_later p x y s = ring R (p ∷ x ∷ y ∷ s ∷ []) (search ring_rules depth 40) refl

  no_put : (x : A) → 𝟘 ≡ x ⊗ 𝟘 ⊕ 𝟘
  no_put x = ring R (x ∷ []) (search ring_rules depth 40) refl

  less_none : (x : A) → x ⊕ neg 𝟘 ≡ x
  less_none x = ring R (x ∷ []) (search ring_rules depth 40) refl

  only : (x y : A) → x ≡ (x ⊕ y) ⊕ neg y
  only x y = ring R (x ∷ y ∷ []) (search ring_rules depth 40) refl

  one_term : (x : A) → 𝟙 ⊗ x ≡ x
  one_term x = ring R (x ∷ []) (search ring_rules depth 40) refl

-- ---- congruence
module _ (q : ℤ) where
  pub multiple_to : {x y : ℤ} → AreCongruent q x y → IsMultiple q y → IsMultiple q x
  multiple_to {x = x} {y = y} h i = congruent_member ℤ_ring (q ∷ []) x y h i

  pub none_of : {x : ℤ} → IsMultiple q x → AreCongruent q x (pos 0)
  none_of {x = x} i = record { difference = in_ideal_same ℤ_ring (less_none ℤ_ring x) i }

  pub multiple_of : {x : ℤ} → AreCongruent q x (pos 0) → IsMultiple q x
  multiple_of {x = x} h = multiple_to h (in_ideal_zero ℤ_ring)

  -- a sum with a multiple
  pub first_part : (x : ℤ) {y : ℤ} → IsMultiple q (x +ℤ y) → IsMultiple q y → IsMultiple q x
  first_part x {y = y} h i =
      in_ideal_same ℤ_ring (only ℤ_ring x y) (in_ideal_add ℤ_ring h (in_ideal_neg ℤ_ring i))

-- ---- rows
dot_none : (z : List ℤ) → dot z [] ≡ pos 0
unfolding sum_of_products
dot_none [] = refl
dot_none (x ∷ z) = refl

pub dot_first : (x a : ℤ) (z row : List ℤ) → dot (x ∷ z) (a ∷ row) ≡ x *ℤ a +ℤ dot z row
unfolding sum_of_products
dot_first x a z row = refl

pub dot_zero : (row : List ℤ) → dot [] row ≡ pos 0
unfolding sum_of_products
dot_zero row = refl

module _ (q : ℤ) where
  blend_from : (a b : ℤ) (row other out : List ℤ)
      → ((k : ℕ) → AreCongruent q (entry out k) (a *ℤ entry row k +ℤ b *ℤ entry other k))
      → (k : ℕ) (z : List ℤ)
      → AreCongruent q (dot z (drop k out)) (a *ℤ dot z (drop k row) +ℤ b *ℤ dot z (drop k other))
  blend_from a b row other out h k [] =
      congruent_same ℤ_ring (q ∷ []) (dot_zero (drop k out))
      (ap₂ (λ s t. a *ℤ s +ℤ b *ℤ t) (dot_zero (drop k row)) (dot_zero (drop k other))
      ∙ no_blend ℤ_ring a b) (congruent_refl ℤ_ring (q ∷ []) (pos 0))
  blend_from a b row other out h k (x ∷ z) =
      let r = entry row k in
      let o = entry other k in
      let s = dot z (drop (suc k) row) in
      let t = dot z (drop (suc k) other) in
      congruent_same ℤ_ring (q ∷ []) (dot_from k x z out)
      (ap₂ (λ y w. a *ℤ y +ℤ b *ℤ w) (dot_from k x z row) (dot_from k x z other)
      ∙ blended ℤ_ring x a r b o s t)
      (congruent_add ℤ_ring (q ∷ []) (x *ℤ entry out k) (x *ℤ (a *ℤ r +ℤ b *ℤ o))
      (dot z (drop (suc k) out)) (a *ℤ s +ℤ b *ℤ t)
      (congruent_mul ℤ_ring (q ∷ []) x x (entry out k) (a *ℤ r +ℤ b *ℤ o)
      (congruent_refl ℤ_ring (q ∷ []) x) (h k)) (blend_from a b row other out h (suc k) z))

  pub dot_blend : (a b : ℤ) (row other out z : List ℤ)
      → ((k : ℕ) → AreCongruent q (entry out k) (a *ℤ entry row k +ℤ b *ℤ entry other k))
      → AreCongruent q (dot z out) (a *ℤ dot z row +ℤ b *ℤ dot z other)
  dot_blend a b row other out z h = blend_from a b row other out h 0 z

-- ---- vectors with numbers at some places
pub put_at : ℕ → ℤ → List ℤ → List ℤ
put_at k x [] = []
put_at zero x (a ∷ v) = (a +ℤ x) ∷ v
put_at (suc k) x (a ∷ v) = a ∷ put_at k x v

length-put : (k : ℕ) (x : ℤ) (v : List ℤ) → length (put_at k x v) ≡ length v
unfolding put_at
length-put k x [] = refl
length-put zero x (a ∷ v) = refl
length-put (suc k) x (a ∷ v) = ap suc (length-put k x v)

dot_put : (k : ℕ) (x : ℤ) (v row : List ℤ) → k < length v
    → dot (put_at k x v) row ≡ x *ℤ entry row k +ℤ dot v row
unfolding put_at
dot_put k x [] row l = absurd (omega (arith, l))
dot_put zero x (a ∷ v) [] l =
    dot_none ((a +ℤ x) ∷ v) ∙ no_put ℤ_ring x
    ∙ ap (λ y. x *ℤ pos 0 +ℤ y) (sym (dot_none (a ∷ v)))
dot_put (suc k) x (a ∷ v) [] l =
    dot_none (a ∷ put_at k x v) ∙ no_put ℤ_ring x
    ∙ ap (λ y. x *ℤ pos 0 +ℤ y) (sym (dot_none (a ∷ v)))
dot_put zero x (a ∷ v) (b ∷ row) l =
    dot_first (a +ℤ x) b v row ∙ put_first ℤ_ring a x b (dot v row)
    ∙ ap (λ y. x *ℤ b +ℤ y) (sym (dot_first a b v row))
dot_put (suc k) x (a ∷ v) (b ∷ row) l =
    dot_first a b (put_at k x v) row
    ∙ ap (λ y. a *ℤ b +ℤ y) (dot_put k x v row (omega (arith, l)))
    ∙ put_later ℤ_ring (a *ℤ b) x (entry row k) (dot v row)
    ∙ ap (λ y. x *ℤ entry row k +ℤ y) (sym (dot_first a b v row))

dot_zeros : (n : ℕ) (row : List ℤ) → dot (replicate n (pos 0)) row ≡ pos 0
dot_zeros zero row = dot_zero row
dot_zeros (suc n) [] = dot_none (replicate (suc n) (pos 0))
dot_zeros (suc n) (a ∷ row) =
    dot_first (pos 0) a (replicate n (pos 0)) row
    ∙ ap₂ ◌+ℤ◌ (zero-mul ℤ_ring a) (dot_zeros n row)

pub scatter : ℕ → List ℕ → List ℤ → List ℤ
scatter n [] w = replicate n (pos 0)
scatter n (k ∷ ks) [] = replicate n (pos 0)
scatter n (k ∷ ks) (x ∷ w) = put_at k x (scatter n ks w)

length-scatter : (n : ℕ) (ks : List ℕ) (w : List ℤ) → length (scatter n ks w) ≡ n
unfolding scatter
length-scatter n [] w = length-replicate n (pos 0)
length-scatter n (k ∷ ks) [] = length-replicate n (pos 0)
length-scatter n (k ∷ ks) (x ∷ w) = length-put k x (scatter n ks w) ∙ length-scatter n ks w

pub dot_scatter : (n : ℕ) (ks : List ℕ) (w row : List ℤ) → Each (λ k. k < n) ks
    → dot (scatter n ks w) row ≡ dot w (pick (pos 0) ks row)
unfolding scatter Each
dot_scatter n [] w row h = dot_zeros n row ∙ sym (dot_none w)
dot_scatter n (k ∷ ks) [] row h = dot_zeros n row ∙ sym (dot_zero (pick (pos 0) (k ∷ ks) row))
dot_scatter n (k ∷ ks) (x ∷ w) row h =
    dot_put k x (scatter n ks w) row (subst (λ m. k < m) (sym (length-scatter n ks w)) h.0)
    ∙ ap (λ y. x *ℤ entry row k +ℤ y) (dot_scatter n ks w row h.1)
    ∙ sym (dot_first x (entry row k) w (pick (pos 0) ks row))

-- 1 in a column, and numbers at some places
pub spread : ℕ → ℕ → List ℕ → List ℤ → List ℤ
spread n c ks w = put_at c (pos 1) (scatter n ks w)

pub dot_spread : (n c : ℕ) (ks : List ℕ) (w row : List ℤ) → c < n → Each (λ k. k < n) ks
    → dot (spread n c ks w) row ≡ entry row c +ℤ dot w (pick (pos 0) ks row)
unfolding spread
dot_spread n c ks w row l h =
    dot_put c (pos 1) (scatter n ks w) row (subst (λ m. c < m) (sym (length-scatter n ks w)) l)
    ∙ ap₂ ◌+ℤ◌ (one_term ℤ_ring (entry row c)) (dot_scatter n ks w row h)
