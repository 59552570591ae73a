-- The least common multiple.
--   lcm-left, lcm-right     it is a multiple of both
--   lcm_least               it divides each common multiple
--   lcm-pos                 it is above zero where both are
--   lcm_comm, lcm_assoc, one-lcm     of numbers above zero
use Rattle.std.proofs.Common.{◌≡◌, ℕ, ◌*◌, ◌/◌, ◌<◌, sym, ap, subst, ◌∙◌, arith}
use Prim.Native.Nat.{◌∣◌}
use native.Mathlib.Nat as N
use Rattle.algebra.specs.Gcd.{gcd, lcm}
use Rattle.algebra.proofs.GcdLaws.{gcd-left, gcd-right, gcd-pos, dvd-mul-gcd}

pub lcm-left : (a b : ℕ) → a ∣ lcm a b
unfolding lcm
lcm-left a b = N.dvd-mul_right a (b / gcd a b)

-- a times b is the product of the two
pub lcm-mul-gcd : (a b : ℕ) → lcm a b * gcd a b ≡ a * b
unfolding lcm
lcm-mul-gcd a b = N.mul_assoc a (b / gcd a b) (gcd a b)
    ∙ ap (λ x. a * x) (N.div-mul_cancel (gcd a b) (gcd-right a b))

pub lcm-right : (a b : ℕ) → 0 < b → b ∣ lcm a b
lcm-right a b h =
    let g = gcd a b in
    N.dvd_of_mul-dvd-mul_left b (gcd-pos a b h)
    (subst (λ x. g * b ∣ x) (sym (lcm-mul-gcd a b) ∙ N.mul_comm (lcm a b) g)
    (subst (λ x. g * b ∣ x) (N.mul_comm b a) (subst (λ x. x ∣ b * a) (N.mul_comm b g)
    (N.mul-dvd-mul_left g b (gcd-left a b)))))

pub lcm_least : (a b m : ℕ) → 0 < b → a ∣ m → b ∣ m → lcm a b ∣ m
lcm_least a b m h p q =
    let g = gcd a b in
    let one : a * b ∣ m * a = subst (λ x. a * b ∣ x) (N.mul_comm a m) (N.mul-dvd-mul_left b a q) in
    let other : a * b ∣ m * b = subst (λ x. x ∣ m * b) (N.mul_comm b a)
    (subst (λ x. b * a ∣ x) (N.mul_comm b m) (N.mul-dvd-mul_left a b p)) in
    let both : a * b ∣ m * g = dvd-mul-gcd a b m (a * b) one other in
    N.dvd_of_mul-dvd-mul_left (lcm a b) (gcd-pos a b h)
    (subst (λ x. g * lcm a b ∣ x) (N.mul_comm m g) (subst (λ x. x ∣ m * g) (sym (lcm-mul-gcd a b)
    ∙ N.mul_comm (lcm a b) g) both))

pub lcm-pos : (a b : ℕ) → 0 < a → 0 < b → 0 < lcm a b
lcm-pos a b h k =
    let p : 0 < a * b = grind arith in
    N.pos_of_ne-zero (λ e. let z : a * b ≡ 0 = sym (lcm-mul-gcd a b) ∙ ap (λ x. x * gcd a b) e
    ∙ N.zero-mul (gcd a b) in omega arith)

pub lcm_comm : (a b : ℕ) → 0 < a → 0 < b → lcm a b ≡ lcm b a
lcm_comm a b h k = N.dvd_antisymm (lcm_least a b (lcm b a) k (lcm-right b a h) (lcm-left b a))
    (lcm_least b a (lcm a b) h (lcm-right a b k) (lcm-left a b))

pub lcm_assoc : (a b c : ℕ) → 0 < a → 0 < b → 0 < c → lcm (lcm a b) c ≡ lcm a (lcm b c)
lcm_assoc a b c h k j =
    let l = lcm (lcm a b) c in
    let r = lcm a (lcm b c) in
    let bc : 0 < lcm b c = lcm-pos b c k j in
    let b_r : b ∣ r = N.dvd_trans b (lcm-left b c) (lcm-right a (lcm b c) bc) in
    let c_r : c ∣ r = N.dvd_trans c (lcm-right b c j) (lcm-right a (lcm b c) bc) in
    let a_l : a ∣ l = N.dvd_trans a (lcm-left a b) (lcm-left (lcm a b) c) in
    let b_l : b ∣ l = N.dvd_trans b (lcm-right a b k) (lcm-left (lcm a b) c) in
    N.dvd_antisymm (lcm_least (lcm a b) c r j (lcm_least a b r k (lcm-left a (lcm b c)) b_r) c_r)
    (lcm_least a (lcm b c) l bc a_l (lcm_least b c l j b_l (lcm-right (lcm a b) c j)))

pub one-lcm : (b : ℕ) → 0 < b → lcm 1 b ≡ b
one-lcm b h = N.dvd_antisymm (lcm_least 1 b b h (N.one-dvd b) (N.dvd_refl b)) (lcm-right 1 b h)
