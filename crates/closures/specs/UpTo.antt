-- The reduced basis of a set of polynomials up to a degree.
--   IsReducedUpTo m d gs I         gs is the part of degree at most d of the reduced basis of the polynomials in I
--   low_part d gs                  the elements of degree at most d
--   HasStandard m d gs es          the monomials of degree at most d that no lead of gs divides are among es
--   AreDistinct es                 no two of the monomials es are the same
--   HasNoCombination m es I        the only combination of the monomials es in I is 0
use Rattle.std.specs.Prelude.{◌≡◌, ◌≢◌, ℕ, ◌≤◌, true, false, List, [], ◌∷◌, length, sum, cond, leb}
use Rattle.algebra.specs.Each.{Each}
use Rattle.algebra.specs.In.{In}
use Rattle.algebra.specs.Fraction.{Fraction, ℚ, rationals}
use Rattle.polynomials.specs.Exponent.{same}
use Rattle.polynomials.specs.Terms.{Terms, Same}
use Rattle.polynomials.specs.Order.{grevlex}
use Rattle.polynomials.specs.Polynomial.{Arity, IsPolynomial}
use Rattle.machines.specs.Cut.{lead_of, lead_number, divides}
use Rattle.machines.specs.Reduced.{Ascends}

unfoldable pub low_part : ℕ → List (Terms Fraction) → List (Terms Fraction)
low_part d [] = []
low_part d (g ∷ gs) = cond (leb (sum (lead_of g)) d) (g ∷ low_part d gs) (low_part d gs)

module _ (m d : ℕ) (gs : List (Terms Fraction)) where
  pub record AreTidy : Type 0 where
    pub polynomials : (g : Terms Fraction) → In g gs → IsPolynomial ℚ grevlex m g
    pub nonzero : (g : Terms Fraction) → In g gs → g ≢ []
    pub degrees : (g : Terms Fraction) → In g gs → sum (lead_of g) ≤ d
    pub monic : (g : Terms Fraction) → In g gs → lead_number rationals g ≡ ℚ.one
    pub ascends : Ascends grevlex gs
    pub clean : (g h : Terms Fraction) → In g gs → In h gs → (lead_of h ≡ lead_of g → ⊥)
        → (t : List ℕ × Fraction) → In t g → divides (lead_of h) t.0 ≡ false

  pub record IsReducedUpTo (I : Terms Fraction → Type 0) : Type 0 where
    pub tidy : AreTidy
    pub members : (g : Terms Fraction) → In g gs → I g
    pub led : (t : List ℕ × Fraction) (p : Terms Fraction) → IsPolynomial ℚ grevlex m (t ∷ p)
        → sum t.0 ≤ d → I (t ∷ p)
        → (g : Terms Fraction) × In g gs × (divides (lead_of g) t.0 ≡ true)

  pub record HasStandard (es : List (List ℕ)) : Type 0 where
    pub covers : (e : List ℕ) → length e ≡ m → sum e ≤ d
        → ((g : Terms Fraction) → In g gs → divides (lead_of g) e ≡ false) → In e es

unfoldable pub AreDistinct : List (List ℕ) → Type 0
AreDistinct [] = Unit {0}
AreDistinct (e ∷ es) = Each (λ d. same d e ≡ false) es × AreDistinct es

pub record HasNoCombination (m : ℕ) (es : List (List ℕ)) (I : Terms Fraction → Type 0) : Type
    0 where
  pub none : (r : Terms Fraction) → Arity m r → Each (λ t. In t.0 es) r → I r → Same ℚ r []
