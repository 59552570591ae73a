-- What a `Frac` means.
--   frac_meaning x            its numerator over its denominator, as a pair; is_in_lowest_terms: it is in lowest terms
--   fraction_of x             the fraction that they are
--   fraction_decides          each means another
--   frac_eq_is                the test `==` tells them apart
use Rattle.std.specs.Prelude.{◌≡◌, ◌↔◌, ◌&&◌, true, ℤ, pos, ◌≤ℤ◌, unsigned_abs}
use Rattle.std.proofs.Common.{ap, ap₂, subst}
use Rattle.std.specs.Ordering.{int_eq}
use Rattle.std.proofs.lemmas.Bool.{and_parts}
use native.Mathlib.Nat.{ℕ_set}
use lib.Dec.{T, T_prop}
use lib.Signed.{le_z}
use Rattle.algebra.specs.Gcd.{gcd}
use Rattle.algebra.specs.Ratio.{Ratio, ratio, IsLowest}
use Rattle.algebra.proofs.SizeLaws.{abs-pos, same_abs}
use Rattle.algebra.proofs.RatioLaws.{is_lowest-in}
use Rattle.algebra.specs.Fraction.{Fraction}
use Rattle.frac128.specs.WholeMeaning.{whole_meaning_decides, whole_eq_is}
use Rattle.frac128.specs.declared.Whole.{Whole}
use Rattle.frac128.specs.declared.fraction.Frac.{Frac}

abbrev pub frac_meaning : Frac → Ratio
frac_meaning x = ratio x.num.value (unsigned_abs x.den.value)

pub is_in_lowest_terms : (x : Frac) → IsLowest (frac_meaning x)
is_in_lowest_terms x = record { some = abs-pos x.den.value x.den_low; lowest = x.lowest }

unfoldable pub fraction_of : Frac → Fraction
fraction_of x = record {
  ratio = frac_meaning x;
  lowest = is_lowest-in (frac_meaning x)
      (is_in_lowest_terms x);
}

abbrev make : (n d : Whole) → pos 1 ≤ℤ d.value → gcd (unsigned_abs n.value) (unsigned_abs d.value)
    ≡ 1 → Frac
make n d h k = record { num = n; den = d; den_low = h; lowest = k }

at_least_prop : (z : ℤ) (h k : pos 1 ≤ℤ z) → h ≡ k
at_least_prop z h k = ap (λ (t : T (le_z (pos 1) z)). record { le = t })
    (T_prop (le_z (pos 1) z) h.le k.le)

frac_eq : (n m d e : Whole) (h : pos 1 ≤ℤ d.value) (k : gcd (unsigned_abs n.value)
    (unsigned_abs d.value) ≡ 1)
    (h' : pos 1 ≤ℤ e.value) (k' : gcd (unsigned_abs m.value) (unsigned_abs e.value) ≡ 1) → n ≡ m
    → d ≡ e → make n d h k ≡ make m e h' k'
frac_eq n m d e h k h' k' p q =
    subst (λ (e : Whole).
    (h' : pos 1 ≤ℤ e.value) (k' : gcd (unsigned_abs m.value) (unsigned_abs e.value) ≡ 1)
    → make n d h k ≡ make m e h' k') q
    (subst (λ (m : Whole).
    (h' : pos 1 ≤ℤ d.value) (k' : gcd (unsigned_abs m.value) (unsigned_abs d.value) ≡ 1)
    → make n d h k ≡ make m d h' k') p
    (λ h' k'. ap₂ (make n d) (at_least_prop d.value h h') (ℕ_set _ _ k k'))) h' k'

frac_meaning_decides : (x y : Frac) → frac_meaning x ≡ frac_meaning y → x ≡ y
frac_meaning_decides x y e =
    frac_eq x.num y.num x.den y.den x.den_low x.lowest y.den_low y.lowest
    (whole_meaning_decides x.num y.num (ap (λ (a : Ratio). ratio a.num 1) e))
    (whole_meaning_decides x.den y.den (ap (λ (z : ℤ). ratio z 1) (same_abs x.den.value y.den.value
    x.den_low y.den_low (ap (λ (a : Ratio). a.den) e))))

pub fraction_decides : (x y : Frac) → fraction_of x ≡ fraction_of y → x ≡ y
unfolding fraction_of
fraction_decides x y e = frac_meaning_decides x y (ap (λ (a : Fraction). a.ratio) e)

pub frac_eq_is : (x y : Frac) → ((int_eq x.num.value y.num.value && int_eq x.den.value y.den.value)
    ≡ true) ↔ (x ≡ y)
frac_eq_is x y = (
  (λ e.
      let both = and_parts _ _ e in
      frac_eq x.num y.num x.den y.den x.den_low x.lowest y.den_low y.lowest
      ((whole_eq_is x.num y.num).0 both.0) ((whole_eq_is x.den y.den).0 both.1)),
  (λ e. ap₂ ◌&&◌ ((whole_eq_is x.num y.num).1 (ap (λ (z : Frac). z.num) e))
      ((whole_eq_is x.den y.den).1 (ap (λ (z : Frac). z.den) e))),
)
