-- Numbers that may not fit, one after another.
use Rattle.std.proofs.Common.{◌≡◌, ℕ, ◌^◌, ◌<◌, ◌≤◌, Option, None, subst}
use native.Mathlib.Nat as N
use Rattle.std.proofs.Math.Nat.{le_of_dvd}
use Rattle.algebra.specs.Gcd.{lcm}
use Rattle.algebra.proofs.LcmLaws.{lcm-left, lcm-right, lcm-pos}
use Rattle.eigen_split.specs.Fitting.{Fitting}

pub fitting_none : (o : Option ℕ) (x : ℕ) → o ≡ None → Fitting o x → 2 ^ 127 ≤ x
fitting_none o x e f = subst (λ o. Fitting o x) e f

pub left_past : (x y : ℕ) → 0 < x → 0 < y → 2 ^ 127 ≤ x → 2 ^ 127 ≤ lcm x y
left_past x y s r h = N.le_trans h (le_of_dvd (lcm-pos x y s r) (lcm-left x y))

pub right_past : (x y : ℕ) → 0 < x → 0 < y → 2 ^ 127 ≤ y → 2 ^ 127 ≤ lcm x y
right_past x y s r h = N.le_trans h (le_of_dvd (lcm-pos x y s r) (lcm-right x y r))
