-- Numbers with no common divisor above 1, from the laws of gcd alone.
--   coprime_sym      being coprime doesn't depend on the order
--   coprime_out      a common divisor of coprime numbers divides 1; coprime_divisor: a number is coprime to the divisors of what it is coprime to
use Rattle.std.proofs.Common.{◌≡◌, ℕ, zero, suc, ◌*◌, ◌^◌, sym, ap, subst, ◌∙◌}
use Rattle.algebra.proofs.Coprime.{coprime-mul, coprime_divisors}
use Prim.Native.Nat.{◌∣◌}
use native.Mathlib.Nat as N
use Rattle.algebra.specs.Gcd.{gcd}
use Rattle.algebra.proofs.GcdLaws as G

pub dvd-gcd : (a b d : ℕ) → d ∣ a → d ∣ b → d ∣ gcd a b
dvd-gcd a b d p q = subst (λ x. d ∣ x) (N.one-mul (gcd a b))
    (G.dvd-mul-gcd a b 1 d (subst (λ x. d ∣ x) (sym (N.one-mul a)) p)
    (subst (λ x. d ∣ x) (sym (N.one-mul b)) q))

pub coprime_from : (a b : ℕ) → ((d : ℕ) → d ∣ a → d ∣ b → d ∣ 1) → gcd a b ≡ 1
coprime_from a b h = N.eq-one_of_dvd-one (h (gcd a b) (G.gcd-left a b) (G.gcd-right a b))

pub coprime_out : (a b d : ℕ) → gcd a b ≡ 1 → d ∣ a → d ∣ b → d ∣ 1
coprime_out a b d e p q = subst (λ x. d ∣ x) e (dvd-gcd a b d p q)

pub coprime_sym : (a b : ℕ) → gcd a b ≡ 1 → gcd b a ≡ 1
coprime_sym a b e = G.gcd_comm b a ∙ e

pub coprime_one : (a : ℕ) → gcd a 1 ≡ 1
coprime_one a = coprime_from a 1 (λ d p q. q)

pub coprime_divisor : (a b c : ℕ) → gcd a b ≡ 1 → c ∣ b → gcd a c ≡ 1
coprime_divisor a b c e h = coprime_divisors a b a c e (N.dvd_refl a) h

pub coprime_power : (a b n : ℕ) → gcd a b ≡ 1 → gcd a (b ^ n) ≡ 1
coprime_power a b zero e = ap (gcd a) (N.pow-zero b) ∙ coprime_one a
coprime_power a b (suc n) e = ap (gcd a) (N.pow-succ' b n)
    ∙ coprime-mul a b (b ^ n) e (coprime_power a b n e)

-- the common part is taken out
pub gcd-times : (k a b : ℕ) → gcd a b ≡ 1 → gcd (k * a) (k * b) ≡ k
gcd-times k a b e =
    let d = gcd (k * a) (k * b) in
    N.dvd_antisymm (subst (λ x. d ∣ x) (ap (λ x. k * x) e ∙ N.mul-one k)
    (G.dvd-mul-gcd a b k d (G.gcd-left (k * a) (k * b)) (G.gcd-right (k * a) (k * b))))
    (dvd-gcd (k * a) (k * b) k (N.dvd-mul_right k a) (N.dvd-mul_right k b))

-- one power more of b
pub power_none : (b k : ℕ) → k ≡ 0 → (x : ℕ) → x ≡ b ^ k * x
power_none b k z x = sym (ap (λ i. b ^ i * x) z ∙ ap (λ y. y * x) (N.pow-zero b) ∙ N.one-mul x)

pub power_apart : (b x k y : ℕ) → gcd b x ≡ 1 → gcd x y ≡ 1 → gcd x (b ^ k * y) ≡ 1
power_apart b x k y p q = coprime-mul x (b ^ k) y (coprime_power x b k (coprime_sym b x p)) q
