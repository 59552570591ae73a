-- The greatest common divisor.
--   gcd-left, gcd-right     it divides both numbers
--   gcd-pos                 it is above zero where the second number is
--   gcd_comm                it is the same for the numbers in either order
--   dvd-mul-gcd             what divides a multiple of both divides that multiple of it
--   dvd_from_coprime        Gauss's lemma
--   gcd_of_rest             two numbers over their greatest common divisor have none
--   gcd-IsGcd               it is std's; gcd-zero, gcd-mod: the steps of Euclid's loop
use Rattle.std.proofs.Common.{◌≡◌, ℕ, zero, suc, ◌+◌, ◌*◌, ◌/◌, ◌%◌, ◌<◌, refl, sym, ap, subst, ◌∙◌, arith}
use Prim.Native.Nat.{◌∣◌}
use native.Mathlib.Nat as N
use Rattle.std.specs.Int.{IsGcd}
use Rattle.std.proofs.lemmas.Nat.Gcd.{IsGcd-from_mod, same_from_IsGcd}
use Rattle.algebra.specs.Gcd.{gcd_within, gcd}

gcd_divides : (n a b : ℕ) → b < n → (gcd_within n a b ∣ a) × (gcd_within n a b ∣ b)
gcd_divides zero a b h = absurd (omega arith)
gcd_divides (suc n) a zero h = (N.dvd_refl a, N.dvd-zero a)
gcd_divides (suc n) a (suc b) h =
    let below : a % suc b < n = omega arith in
    let both = gcd_divides n (suc b) (a % suc b) below in
    ((N.dvd-mod_iff (gcd_within n (suc b) (a % suc b)) both.0).0 both.1, both.0)

split : (k a b : ℕ) → k * a ≡ k * suc b * (a / suc b) + k * (a % suc b)
split k a b = omega (arith, ap (λ x. k * x) (sym (N.div-add-mod a (suc b))))

gcd_greatest : (n a b k d : ℕ) → b < n → d ∣ k * a → d ∣ k * b → d ∣ k * gcd_within n a b
gcd_greatest zero a b k d h p q = absurd (omega arith)
gcd_greatest (suc n) a zero k d h p q = p
gcd_greatest (suc n) a (suc b) k d h p q =
    let below : a % suc b < n = omega arith in
    let rest : d ∣ k * (a % suc b) =
    (N.dvd-add_iff_right d (N.dvd-mul_right_of_dvd d q (a / suc b))).1
    (subst (λ x. d ∣ x) (split k a b) p) in
    gcd_greatest n (suc b) (a % suc b) k d below q rest

pub gcd-left : (a b : ℕ) → gcd a b ∣ a
unfolding gcd
gcd-left a b = (gcd_divides (suc b) a b (N.lt-suc_self b)).0

pub gcd-right : (a b : ℕ) → gcd a b ∣ b
unfolding gcd
gcd-right a b = (gcd_divides (suc b) a b (N.lt-suc_self b)).1

pub dvd-mul-gcd : (a b k d : ℕ) → d ∣ k * a → d ∣ k * b → d ∣ k * gcd a b
unfolding gcd
dvd-mul-gcd a b k d p q = gcd_greatest (suc b) a b k d (N.lt-suc_self b) p q

pub gcd_comm : (a b : ℕ) → gcd a b ≡ gcd b a
gcd_comm a b = N.dvd_antisymm (half a b) (half b a)
  where
    half : (a b : ℕ) → gcd a b ∣ gcd b a
    half a b =
        let d = gcd a b in
        subst (λ x. d ∣ x) (N.one-mul (gcd b a))
        (dvd-mul-gcd b a 1 d (subst (λ x. d ∣ x) (sym (N.one-mul b)) (gcd-right a b))
        (subst (λ x. d ∣ x) (sym (N.one-mul a)) (gcd-left a b)))

pub dvd_from_coprime : (a b k : ℕ) → gcd a b ≡ 1 → b ∣ k * a → b ∣ k
dvd_from_coprime a b k e h = subst (λ x. b ∣ x) (ap (λ x. k * x) e ∙ N.mul-one k)
    (dvd-mul-gcd a b k b h (N.dvd-mul_left b k))

pub gcd_of_rest : (g x y : ℕ) → 0 < g → gcd (g * x) (g * y) ≡ g → gcd x y ≡ 1
gcd_of_rest g x y some e =
    let d = gcd x y in
    let half : g * d ∣ gcd (g * x) (g * y) =
    subst (λ z. g * d ∣ z) (N.one-mul (gcd (g * x) (g * y))) (dvd-mul-gcd (g * x) (g * y) 1 (g * d)
    (subst (λ z. g * d ∣ z) (sym (N.one-mul (g * x))) (N.mul-dvd-mul_left d g (gcd-left x y)))
    (subst (λ z. g * d ∣ z) (sym (N.one-mul (g * y))) (N.mul-dvd-mul_left d g (gcd-right x y)))) in
    let whole : g * d ∣ g * 1 = subst (λ z. g * d ∣ z) (e ∙ sym (N.mul-one g)) half in
    N.eq-one_of_dvd-one (N.dvd_of_mul-dvd-mul_left d some whole)

pub gcd-pos : (a b : ℕ) → 0 < b → 0 < gcd a b
gcd-pos a b h = N.pos_of_dvd_of_pos (gcd-right a b) h

pub gcd-IsGcd : (a b : ℕ) → IsGcd a b (gcd a b)
gcd-IsGcd a b = (
  gcd-left a b,
  gcd-right a b,
  λ d p q. subst (λ x. d ∣ x) (N.one-mul (gcd a b))
      (dvd-mul-gcd a b 1 d (subst (λ x. d ∣ x) (sym (N.one-mul a)) p)
      (subst (λ x. d ∣ x) (sym (N.one-mul b)) q)),
)

pub gcd-zero : (a : ℕ) → gcd a 0 ≡ a
unfolding gcd
gcd-zero a = refl

pub gcd-mod : (a b : ℕ) → 0 < b → gcd b (a % b) ≡ gcd a b
gcd-mod a b h = same_from_IsGcd a b (gcd b (a % b)) (gcd a b) (IsGcd-from_mod a b (gcd b (a % b))
    (gcd-IsGcd b (a % b))) (gcd-IsGcd a b)
