-- n iterations of a map, and polynomials in n, s, u, v and variables whose values they are. `base` is a list of whole numbers above 1, pairwise coprime.
--   powers base n           b^n for each b of the base; inverses base n: b^(-n); sign n: (-1)^n
--   point base n s          n, (-1)^n, the powers, the inverses, and the state s
--   back_point base n s     -n, (-1)^n, the inverses, the powers, and s
--   values_at ps s          the values of polynomials at a state
--   iterations map n s           n times the values of the map
--   width r m               how many variables: n, s, u and v for each of the r numbers of the base, and m
--   IsNormal base p         no monomial of p has s s, or both u and v of one b
--   IsNormalForm base O m p     p in descending order, and normal
--   IsClosedFormFrom base map since ps     from `since` iterations on, the values of ps at n are the state after n iterations
--   IsClosedForm base map ps     so from 0 on
--   IsItself base m ps i            at n = 0 the variable i is itself; one that doesn't stay passes
use Rattle.std.specs.Prelude.{◌≡◌, ◌≤◌, ℕ, zero, suc, pos, negsuc, ◌+◌, List, ◌∷◌, ◌++◌, map, length, get_or}
use Rattle.algebra.specs.Arithmetic.{power}
use Rattle.algebra.specs.Each.{Each}
use Rattle.algebra.specs.Fraction.{Fraction, ℚ, whole, opposite, inverse}
use Rattle.polynomials.specs.Terms.{Terms, value_at}
use Rattle.polynomials.specs.Polynomial.{AllArity, IsPolynomial}
use Rattle.polynomials.specs.Order.{Rank}
use Rattle.exponentials.specs.Keys.{IsNormalKey, key_of}

abbrev pub powers : List ℕ → ℕ → List Fraction
powers base n = map (λ b. power ℚ (whole (pos b)) n) base

abbrev pub inverses : List ℕ → ℕ → List Fraction
inverses base n = map (λ b. power ℚ (inverse (whole (pos b))) n) base

abbrev pub sign : ℕ → Fraction
sign n = power ℚ (whole (negsuc 0)) n

abbrev pub point : List ℕ → ℕ → List Fraction → List Fraction
point base n s = whole (pos n) ∷ sign n ∷ (powers base n ++ (inverses base n ++ s))

abbrev pub back_point : List ℕ → ℕ → List Fraction → List Fraction
back_point base n s = opposite (whole (pos n)) ∷ sign n ∷ (inverses base n ++ (powers base n ++ s))

abbrev pub values_at : List (Terms Fraction) → List Fraction → List Fraction
values_at ps s = map (λ p. value_at ℚ p s) ps

abbrev pub iterations : List (Terms Fraction) → ℕ → List Fraction → List Fraction
iterations images zero s = s
iterations images (suc n) s = values_at images (iterations images n s)

abbrev pub width : ℕ → ℕ → ℕ
width r m = suc (suc (r + (r + m)))

abbrev pub IsNormal : {A : Type 0} → List ℕ → Terms A → Type 0
IsNormal base p = Each (λ t. IsNormalKey base (key_of (length base) t.0)) p

-- one of the polynomials as an `Expo` keeps it
pub record IsNormalForm (base : List ℕ) (O : Rank) (m : ℕ) (p : Terms Fraction) : Type 0 where
  pub polynomial : IsPolynomial ℚ O (width (length base) m) p
  pub normal : IsNormal base p

pub record IsClosedFormFrom (base : List ℕ) (images : List (Terms Fraction)) (since : ℕ)
    (ps : List (Terms Fraction)) : Type 0 where
  pub arity : AllArity (width (length base) (length images)) ps
  pub values : (n : ℕ) (s : List Fraction) → length s ≡ length images → since ≤ n
      → values_at ps (point base n s) ≡ iterations images n s

abbrev pub IsClosedForm : List ℕ → List (Terms Fraction) → List (Terms Fraction) → Type 0
IsClosedForm base images ps = IsClosedFormFrom base images 0 ps

pub record IsItself (base : List ℕ) (m : ℕ) (ps : List (Terms Fraction)) (i : ℕ) : Type 0 where
  pub is : (s : List Fraction) → length s ≡ m
      → get_or (values_at ps (point base 0 s)) i ℚ.zero ≡ get_or s i ℚ.zero
