-- Sums and products modulo 2^127 - 1.
--   same_rest, lower_rest     a number, and it less the modulus
--   signed_congruent, whole_is     opposites of congruent numbers; a size with its sign
--   opposite_is, difference_is     by what is left to the modulus
--   middle_is          a number times 2^64
--   product_is         a product, by halves of 64 bits
use Rattle.std.proofs.Common.{◌≡◌, ℕ, ◌+◌, ◌*◌, ◌/◌, ◌%◌, ◌^◌, ℤ, pos, ◌+ℤ◌, ◌*ℤ◌, neg_ℤ, unsigned_abs, Bool, true, false, [], ◌∷◌, refl, sym, ap, ap₂, ◌∙◌, arith}
use lib.Signed.{lt_z}
use borrow.Author.Differences.{ints}
use Rattle.algebra.specs.Ring.{CommRing}
use Rattle.algebra.proofs.IntRing.{ℤ_ring}
use Rattle.algebra.proofs.RingLaws.{neg-mul, one-mul}
use Rattle.algebra.proofs.RingSolver.{ring, ring_rules, from_one}
use Rattle.ideals.proofs.Congruence.{congruent_refl, congruent_same, congruent_add, congruent_mul}
use Rattle.frac128.specs.Sums.{negate_if}
use Rattle.closures.specs.Modulo.{AreCongruent}
use Rattle.closures.proofs.Congruent.{congruent_from, congruent_trans}
use Rattle.residue_rows.specs.Modulus.{modulus, half_limit}

abbrev q : ℤ
q = pos modulus

pub same_rest : (r : ℕ) {n : ℕ} → r ≡ n → AreCongruent q (pos r) (pos n)
same_rest r {n = n} e = congruent_from q (pos r) (pos n) (pos 0) (omega (arith, ints))

pub lower_rest : (r n : ℕ) → r + modulus ≡ n → AreCongruent q (pos r) (pos n)
lower_rest r n e = congruent_from q (pos r) (pos n) (neg_ℤ (pos 1)) (omega (arith, ints))

-- opposites of congruent numbers
by_minus_one : (x : ℤ) → neg_ℤ x ≡ neg_ℤ (pos 1) *ℤ x
by_minus_one x = sym (neg-mul ℤ_ring (pos 1) x ∙ ap neg_ℤ (one-mul ℤ_ring x))

pub signed_congruent : (q : ℤ) (negative : Bool) {x y : ℤ} → AreCongruent q x y
    → AreCongruent q (negate_if negative x) (negate_if negative y)
signed_congruent q false h = h
signed_congruent q true {x = x} {y = y} h =
    congruent_same ℤ_ring (q ∷ []) (by_minus_one x) (by_minus_one y)
    (congruent_mul ℤ_ring (q ∷ []) (neg_ℤ (pos 1)) (neg_ℤ (pos 1)) x y
    (congruent_refl ℤ_ring (q ∷ []) (neg_ℤ (pos 1))) h)

signed_size : (z : ℤ) → negate_if (lt_z z (pos 0)) (pos (unsigned_abs z)) ≡ z
signed_size z = go (lt_z z (pos 0)) refl
  where
    go : (b : Bool) → lt_z z (pos 0) ≡ b → negate_if b (pos (unsigned_abs z)) ≡ z
    go true e = omega (arith, ints)
    go false e = omega (arith, ints)

-- a size with its sign
pub whole_is : (r s n : ℕ) (z : ℤ) → AreCongruent q (pos r) (negate_if (lt_z z (pos 0)) (pos s))
    → AreCongruent q (pos s) (pos n) → n ≡ unsigned_abs z → AreCongruent q (pos r) z
whole_is r s n z h k e =
    let b = lt_z z (pos 0) in
    congruent_trans q (pos r) (negate_if b (pos s)) z h (congruent_same ℤ_ring (q ∷ []) refl
    (sym (ap (λ m. negate_if b (pos m)) e ∙ signed_size z)) (signed_congruent q b k))

-- what is congruent to what is left of the modulus
pub opposite_is : (r a left : ℕ) → AreCongruent q (pos r) (pos left) → left + a ≡ modulus
    → AreCongruent q (pos r) (neg_ℤ (pos a))
opposite_is r a left h e =
    congruent_trans q (pos r) (pos left) (neg_ℤ (pos a)) h
    (congruent_from q (pos left) (neg_ℤ (pos a)) (pos 1) (omega (arith, ints)))

pub difference_is : (r a b left : ℕ) → AreCongruent q (pos r) (pos (a + left))
    → left + b ≡ modulus → AreCongruent q (pos r) (pos a +ℤ neg_ℤ (pos b))
difference_is r a b left h e =
    congruent_trans q (pos r) (pos (a + left)) (pos a +ℤ neg_ℤ (pos b)) h
    (congruent_from q (pos (a + left)) (pos a +ℤ neg_ℤ (pos b)) (pos 1) (omega (arith, ints)))

pub middle_is : (r number : ℕ)
    → AreCongruent q (pos r) (pos (number / 2 ^ 63 + number % 2 ^ 63 * half_limit))
    → AreCongruent q (pos r) (pos (number * half_limit))
middle_is r number h =
    let folded = pos (number / 2 ^ 63 + number % 2 ^ 63 * half_limit) in
    congruent_trans q (pos r) folded (pos (number * half_limit)) h
    (congruent_from q folded (pos (number * half_limit)) (neg_ℤ (pos (number / 2 ^ 63)))
    (omega (arith, ints)))

module _ {A : Type 0} (R : CommRing A) where
  open R use {zero as 𝟘, one as 𝟙, add as ◌⊕◌, mul as ◌⊗◌, neg}

  infixl 60 ◌⊕◌
  infixl 70 ◌⊗◌
  halves : (h l k m w two q : A) → w ⊗ w ≡ two ⊗ q ⊕ two
      → ((two ⊗ (h ⊗ k)) ⊕ (h ⊗ m ⊕ l ⊗ k) ⊗ w) ⊕ l ⊗ m
      ≡ (h ⊗ w ⊕ l) ⊗ (k ⊗ w ⊕ m) ⊕ neg (two ⊗ (h ⊗ k)) ⊗ q
  halves h l k m w two q e =
      from_one R (neg (h ⊗ k)) e
      (ring R (h ∷ l ∷ k ∷ m ∷ w ∷ two ∷ q ∷ []) (search ring_rules depth 40) refl)

pub product_is : (r sum top middle bottom h l k m a b : ℕ)
    → a ≡ h * half_limit + l → b ≡ k * half_limit + m
    → top ≡ 2 * (h * k) → AreCongruent q (pos middle) (pos ((h * m + l * k) * half_limit))
    → AreCongruent q (pos bottom) (pos (l * m))
    → AreCongruent q (pos sum) (pos top +ℤ pos middle)
    → AreCongruent q (pos r) (pos sum +ℤ pos bottom)
    → AreCongruent q (pos r) (pos a *ℤ pos b)
product_is r sum top middle bottom h l k m a b ea eb et mid bot first second =
    let gs = q ∷ [] in
    let t = pos (2 * (h * k)) in
    let u = pos ((h * m + l * k) * half_limit) in
    let v = pos (l * m) in
    let begun : AreCongruent q (pos sum) (t +ℤ u) =
    congruent_trans q (pos sum) (pos top +ℤ pos middle) (t +ℤ u) first
    (congruent_add ℤ_ring gs (pos top) t (pos middle) u (same_rest top et) mid) in
    congruent_trans q (pos r) (pos sum +ℤ pos bottom) (pos a *ℤ pos b) second
    (congruent_trans q (pos sum +ℤ pos bottom) ((t +ℤ u) +ℤ v) (pos a *ℤ pos b)
    (congruent_add ℤ_ring gs (pos sum) (t +ℤ u) (pos bottom) v begun bot)
    (congruent_from q ((t +ℤ u) +ℤ v) (pos a *ℤ pos b) (neg_ℤ t)
    (halves ℤ_ring (pos h) (pos l) (pos k) (pos m) (pos half_limit) (pos 2) q refl
    ∙ ap₂ (λ x y. pos (x * y) +ℤ neg_ℤ t *ℤ q) (sym ea) (sym eb))))
