-- What lists of splittings and of exponential polynomials are.
--   values_in splits       the values of the splittings that there are, one after another
--   size_at below x        the size of the numerator of x, or its denominator
--   bodies_of es           the polynomials themselves
--   AreOver base m es      each is over this base and m variables
use Rattle.std.specs.Prelude.{◌≡◌, ℕ, Bool, cond, unsigned_abs, List, [], ◌∷◌, ◌++◌, map, All, Option, Some, None}
use Rattle.algebra.specs.Fraction.{Fraction}
use Rattle.polynomials.specs.Terms.{Terms}
use Rattle.linear.specs.Rows.{fractions_of}
use Rattle.poly.specs.Seen.{terms_in}
use Rattle.eigen_split.specs.declared.splitting.Split.{Split}
use Rattle.expo.specs.declared.exponential.Expo.{Expo}
use Rattle.expo.specs.View.{base_of}

abbrev pub values_in : List (Option Split) → List Fraction
values_in [] = []
values_in (None ∷ splits) = values_in splits
values_in (Some split ∷ splits) = fractions_of split.values.items ++ values_in splits

abbrev pub size_at : Bool → Fraction → ℕ
size_at below x = cond below x.den (unsigned_abs x.num)

abbrev pub bodies_of : List Expo → List (Terms Fraction)
bodies_of es = map (λ (e : Expo). terms_in e.body) es

pub record IsExpoOver (base : List ℕ) (m : ℕ) (e : Expo) : Type 0 where
  pub over_base : base_of e ≡ base
  pub over_vars : e.vars ≡ m

abbrev pub AreOver : List ℕ → ℕ → List Expo → Type 0
AreOver base m es = All (IsExpoOver base m) es
