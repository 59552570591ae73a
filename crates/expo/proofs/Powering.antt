-- A number times a power, one factor after another.
--   Raised by number times found      found is number times the power, and both fit in 128 bits
use Rattle.std.proofs.Common.{◌≡◌, ℕ, ◌+◌, ◌*◌, ◌^◌, ◌<◌, ◌≤◌, sym, ap, subst, ◌∙◌, arith}
use native.Mathlib.Nat as N
use Rattle.std.proofs.lemmas.Grind.{pow_more}
use Rattle.algebra.proofs.RatioLaws.{mul-pos}
use Rattle.coprime_base.proofs.Dividing.{few_times}

pub record Raised (by number times found : ℕ) : Type 0 where
  pub power : found ≡ by ^ times * number
  pub some : 0 < found
  pub few : times < 128

at_least : (x y : ℕ) → 0 < y → x ≤ x * y
at_least x y h = subst (λ z. z ≤ x * y) (N.mul-one x) (N.mul-le-mul_left x (let o : 1 ≤ y =
    omega arith in o))

two_power : (by n : ℕ) → 1 < by → 2 ^ n ≤ by ^ n
two_power by n h = N.pow-le-pow_left (let o : 2 ≤ by = omega arith in o) n

next_power : (by number t found : ℕ) → found ≡ by ^ t * number → found * by ≡ by ^ (t + 1) * number
next_power by number t found e =
    ap (λ x. x * by) e ∙ N.mul_assoc (by ^ t) number by
    ∙ ap (λ x. by ^ t * x) (N.mul_comm number by) ∙ sym (N.mul_assoc (by ^ t) by number)
    ∙ ap (λ x. x * number) (sym (pow_more by t))

pub raised_next : (by number t found next : ℕ) → 1 < by → 0 < number → next ≡ found * by
    → next < 2 ^ 128 → Raised by number t found → Raised by number (t + 1) next
raised_next by number t found next h k e f r =
    let is : next ≡ by ^ (t + 1) * number = e ∙ next_power by number t found r.power in
    let low : 2 ^ (t + 1) ≤ by ^ (t + 1) = two_power by (t + 1) h in
    let part : by ^ (t + 1) ≤ by ^ (t + 1) * number = at_least (by ^ (t + 1)) number k in
    let all : 2 ^ (t + 1) ≤ next = omega arith in
    record {
      power = is;
      some = subst (λ x. 0 < x) (sym e) (mul-pos found by r.some (omega arith));
      few = few_times (t + 1) next all f;
    }

pub raised_past : (by number t found times : ℕ) → 1 < by → t < times → 2 ^ 128 ≤ found * by
    → Raised by number t found → 2 ^ 128 ≤ by ^ times * number
raised_past by number t found times h l past r =
    let is : found * by ≡ by ^ (t + 1) * number = next_power by number t found r.power in
    let more : by ^ (t + 1) ≤ by ^ times = N.pow-le-pow_right (let o : 0 < by = omega arith in o)
    (let o : t + 1 ≤ times = omega arith in o) in
    let all : by ^ (t + 1) * number ≤ by ^ times * number = N.mul-le-mul_right number more in
    omega arith
