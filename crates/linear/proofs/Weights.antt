-- The weight of a row less a multiple of another bounds what is computed on the way.
use Rattle.std.proofs.Common.{◌≡◌, ◌<◌, List, [], ◌∷◌, refl, sym, subst, arith}
use Rattle.algebra.proofs.LcmLaws.{lcm-pos}
use Rattle.algebra.proofs.RatioLaws.{mul-pos}
use Rattle.algebra.specs.Fraction.{Fraction, fraction_size, fraction_arithmetic, ℚ}
use Rattle.algebra.specs.Size.{Size, sum_size, times_size, IsPast, IsUnder}
use Rattle.algebra.proofs.Fractions.{fractions_ring}
use Rattle.algebra.proofs.SizeLaws.{under_trans, under_refl, under-sum, sum-left, sum-right, past_under, fractions_bounded}
use Rattle.algebra.proofs.ProductSizes.{IsClean, clean_of, clean-sum, under_times}
use Rattle.vectors.specs.Adding.{row_size}
use Rattle.frac128.specs.FracMeaning.{fraction_of}
use Rattle.frac128.specs.declared.fraction.Frac.{Frac}
use Rattle.linear.specs.Rows.{fractions_of}
use Rattle.linear.specs.Parts.{IsPastLess}

abbrev pub weigh : Fraction → Size
weigh a = fraction_size a

pub some : (a : Fraction) → 0 < (weigh a).den
some a = fractions_bounded.den_pos a

pub clean : (a : Fraction) → IsClean (weigh a)
clean a = clean_of fraction_arithmetic fraction_size fractions_bounded a

pub row_clean : (row : List Fraction) → IsClean (row_size row)
row_clean [] = record { some = omega arith; no_size = λ e. refl }
row_clean (a ∷ row) = clean-sum (weigh a) (row_size row) (clean a) (row_clean row)

pub row_some : (row : List Fraction) → 0 < (row_size row).den
row_some row = (row_clean row).some

pub times-some : (x y : Size) → 0 < x.den → 0 < y.den → 0 < (times_size x y).den
times-some x y p q = mul-pos x.den y.den p q

module _ (a b c : Fraction) (row other : List Fraction) where
  abbrev rows : Size
  rows = sum_size (weigh a) (row_size row)

  abbrev others : Size
  others = sum_size (weigh b) (row_size other)

  abbrev total : Size
  total = sum_size rows (times_size others (weigh c))

  rows-some : 0 < (sum_size (weigh a) (row_size row)).den
  rows-some = (clean-sum (weigh a) (row_size row) (clean a) (row_clean row)).some

  others-some : 0 < (sum_size (weigh b) (row_size other)).den
  others-some = (clean-sum (weigh b) (row_size other) (clean b) (row_clean other)).some

  total-some : 0 < (sum_size (sum_size (weigh a) (row_size row))
      (times_size (sum_size (weigh b) (row_size other)) (weigh c))).den
  total-some = lcm-pos rows.den _ rows-some
      (times-some others (weigh c) others-some (some c))

  part : {x : Size} → 0 < x.den → IsUnder x others
      → IsUnder (times_size x (weigh c)) (times_size others (weigh c))
  part {x = x} p u =
      under_times x (weigh c) others (weigh c) p (some c) u (under_refl (weigh c) (some c))

  product_part : IsUnder (weigh (ℚ.mul c b)) (times_size others (weigh c))
  product_part =
      under_trans (weigh (ℚ.mul c b)) _ _
      (some (ℚ.mul c b)) (times-some others (weigh c) others-some (some c))
      (subst (λ z. IsUnder (weigh z) (times_size (weigh b) (weigh c))) (fractions_ring.mul_comm b c)
      (fractions_bounded.mul_size b c))
      (part (some b) (sum-left (weigh b) (row_size other) (some b) (row_some other)))

  pub past_product : IsPast (weigh (ℚ.mul c b)) → IsPast total
  past_product h =
      past_under (weigh (ℚ.mul c b)) total total-some (under_trans (weigh (ℚ.mul c b)) _ total
      (some (ℚ.mul c b)) total-some product_part (sum-right rows (times_size others (weigh c))
      rows-some (times-some others (weigh c) others-some (some c)))) h

  pub past_difference : IsPast (sum_size (weigh a) (weigh (ℚ.mul c b))) → IsPast total
  past_difference h =
      past_under _ total total-some (under-sum (weigh a) (weigh (ℚ.mul c b)) rows _ (some a)
      (some (ℚ.mul c b)) rows-some (times-some others (weigh c) others-some (some c))
      (sum-left (weigh a) (row_size row) (some a) (row_some row)) product_part) h

  pub past_rest : IsPast (sum_size (row_size row) (times_size (row_size other) (weigh c)))
      → IsPast total
  past_rest h =
      past_under _ total total-some (under-sum (row_size row) _ rows _ (row_some row)
      (times-some (row_size other) (weigh c) (row_some other) (some c)) rows-some
      (times-some others (weigh c) others-some (some c))
      (sum-right (weigh a) (row_size row) (some a) (row_some row)) (part (row_some other)
      (sum-right (weigh b) (row_size other) (some b) (row_some other)))) h

-- ---- the same of rows of the program
abbrev Total : List Frac → List Frac → Frac → Type 0
Total row other c = IsPastLess (fractions_of row) (fraction_of c) (fractions_of other)

pub wide_mul : {row : List Frac} (other : List Frac) {row' other' : List Frac} {a b : Frac}
    (c : Frac)
    → row ≡ a ∷ row' → other ≡ b ∷ other' → IsPast (weigh (ℚ.mul (fraction_of c) (fraction_of b)))
    → Total row other c
wide_mul other {row' = row'} {other' = other'} {a = a} {b = b} c p q h =
    subst (λ z. Total z other c) (sym p) (subst (λ z. Total (a ∷ row') z c) (sym q)
    (past_product (fraction_of a) (fraction_of b) (fraction_of c) (fractions_of row') _ h))

pub wide_sub : {row : List Frac} (other : List Frac) {row' other' : List Frac} {a b : Frac}
    (c d : Frac)
    → row ≡ a ∷ row' → other ≡ b ∷ other' → fraction_of d ≡ ℚ.mul (fraction_of c) (fraction_of b)
    → IsPast (sum_size (weigh (fraction_of a)) (weigh (fraction_of d))) → Total row other c
wide_sub other {row' = row'} {other' = other'} {a = a} {b = b} c d p q e h =
    subst (λ z. Total z other c) (sym p) (subst (λ z. Total (a ∷ row') z c) (sym q)
    (past_difference (fraction_of a) (fraction_of b) (fraction_of c) (fractions_of row') _
    (subst (λ z. IsPast (sum_size (weigh (fraction_of a)) (weigh z))) e h)))

pub wide_rest : {row : List Frac} (other : List Frac) {row' other' : List Frac} {a b : Frac}
    (c : Frac)
    → row ≡ a ∷ row' → other ≡ b ∷ other' → Total row' other' c → Total row other c
wide_rest other {row' = row'} {other' = other'} {a = a} {b = b} c p q h =
    subst (λ z. Total z other c) (sym p) (subst (λ z. Total (a ∷ row') z c) (sym q)
    (past_rest (fraction_of a) (fraction_of b) (fraction_of c) (fractions_of row') _ h))
