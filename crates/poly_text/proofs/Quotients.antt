-- A fraction of numbers of at most 2^127 - 1 fits, since lowest terms are no larger.
use Rattle.std.proofs.Common.{◌≡◌, ◌≢◌, ℕ, suc, ◌<◌, ◌≤◌, ◌^◌, ◌/◌, refl, subst, ap₂, ◌∙◌, arith, ℤ, pos, negsuc, unsigned_abs, inl, inr, rules, Result, Ok, Err}
use Rattle.std.proofs.Math.Nat.{div-le_self}
use Rattle.std.proofs.lemmas.Int.{ints}
use Rattle.std.specs.Prelude.{◌↔◌, IsErrOf}
use Rattle.std.specs.Result.{IsOk}
use lib.Signed.{◌<ℤ◌}
use Rattle.algebra.specs.Gcd.{gcd}
use Rattle.algebra.specs.Ratio.{ratio, exact, reduce, ratio_size}
use Rattle.algebra.specs.Size.{IsPast}
use Rattle.algebra.proofs.SizeLaws.{abs-neg}
use Rattle.algebra.specs.Fraction.{over, fraction_size}
use Rattle.algebra.proofs.RatioLaws.{reduce-value}
use Rattle.algebra.proofs.Fractions.{ratio-fraction}
use Rattle.frac128.specs.FracMeaning.{fraction_of}
use Rattle.frac128.specs.Sums as signed
use Rattle.frac128.specs.declared.fraction.Frac.{Frac}
use Rattle.frac128.specs.declared.fraction.FracError.{FracError}
use Rattle.frac128.specs.declared.fraction.FracError.TheVariants.{ZeroDenominator, Wide}

abs-exact : (n : ℤ) (g : ℕ) → unsigned_abs (exact n g) ≤ unsigned_abs n
abs-exact (pos n) g = div-le_self n g
abs-exact (negsuc n) g = omega (arith, abs-neg (pos (suc n / g)), div-le_self (suc n) g)

no_past : (n : ℤ) (d : ℕ) → unsigned_abs n < 2 ^ 127 → d < 2 ^ 127
    → IsPast (ratio_size (reduce (ratio n d))) → ⊥
unfolding reduce
no_past n d small few (inl past) = omega (arith, abs-exact n (gcd (unsigned_abs n) d))
no_past n d small few (inr past) = omega (arith, div-le_self d (gcd (unsigned_abs n) d))

fraction_no_past : (n : ℤ) (d : ℕ) → unsigned_abs n < 2 ^ 127 → d < 2 ^ 127 → 0 < d
    → IsPast (fraction_size (over n d)) → ⊥
fraction_no_past n d small few some past =
    no_past n d small few (subst (λ r. IsPast (ratio_size r)) (ratio-fraction (reduce (ratio n d))
    (reduce-value (ratio n d) some)) past)

pub fits : (r : Result Frac FracError) (n d : ℤ) → unsigned_abs n < 2 ^ 127
    → unsigned_abs d < 2 ^ 127 → pos 0 <ℤ d
    → (IsErrOf r ZeroDenominator ↔ (d ≡ pos 0))
    → (IsErrOf r Wide ↔ ((d ≢ pos 0) × IsPast (fraction_size (signed.over n d)))) → IsOk r
fits (Ok f) n d small few some none wide = search rules
fits (Err ZeroDenominator) n d small few some none wide = absurd (omega (arith, ints, none.0 refl))
fits (Err Wide) n (pos d) small few some none wide =
    absurd (fraction_no_past n d small few (omega (arith, ints, some)) (wide.0 refl).1)
fits (Err Wide) n (negsuc d) small few some none wide = absurd (omega (arith, ints))

-- over a denominator above zero
pub over_is : (f : Frac) (n d m e : ℤ) → n ≡ m → d ≡ e → fraction_of f ≡ signed.over n d
    → pos 0 <ℤ e → fraction_of f ≡ over m (unsigned_abs e)
over_is f n d m (pos e) top bottom means some = means ∙ ap₂ signed.over top bottom
over_is f n d m (negsuc e) top bottom means some = absurd (omega (arith, ints))
