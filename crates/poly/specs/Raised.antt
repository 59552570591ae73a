-- A polynomial that stands in two parts, and is raised term by term from the greatest down.
--   Exceeds O e p      each term of p is above e
--   Begins O e b p     p has no term above e, and b is whether its first has the exponents e
--   IsRaised S O e a olds front back      the parts `front` and `back` are the polynomial olds and the term of exponents e and number a, and no term of the first part is below e
--   IsPastRaise S olds d c t              of olds and c times the monomial d times the term t: an exponent, the product or the sum is past
use Rattle.std.specs.Prelude.{◌≡◌, ◌≢◌, ◌⊎◌, ℕ, Bool, false, cond, List, [], ◌∷◌, ◌++◌, length}
use Rattle.std.specs.declared.cmp.Ordering.TheVariants.{Less, Equal, Greater}
use Rattle.algebra.specs.Each.{Each}
use Rattle.algebra.specs.Scalars.{Scalars, IsPastAdd, IsPastMul}
use Rattle.polynomials.specs.Exponent.{plus}
use Rattle.polynomials.specs.Order.{Rank, compare}
use Rattle.polynomials.specs.Polynomial.{IsPolynomial}
use Rattle.polynomials.specs.Terms.{Terms, Same, coefficient}
use Rattle.polynomials.specs.Weight.{FitsMonomial}

abbrev pub Exceeds : Rank → {A : Type 0} → List ℕ → Terms A → Type 0
Exceeds O e p = Each (λ t. compare O t.0 e ≡ Greater) p

abbrev pub Begins : Rank → {A : Type 0} → List ℕ → Bool → Terms A → Type 0
Begins O e b [] = b ≡ false
Begins O e b (t ∷ p) = compare O t.0 e ≡ cond b Equal Less

module _ (S : Scalars) where
  pub record IsRaised (O : Rank) (e : List ℕ) (a : S.Elem) (olds front back : Terms S.Elem) : Type
      0 where
    pub descending : IsPolynomial S.arithmetic O (length e) (front ++ back)
    pub sum : Same S.arithmetic (front ++ back) (olds ++ (e, a) ∷ [])
    pub none_below : Each (λ t. compare O t.0 e ≢ Less) front

  abbrev pub IsPastRaise : Terms S.Elem → List ℕ → S.Elem → List ℕ × S.Elem → Type 0
  IsPastRaise olds d c t =
      ¬ (FitsMonomial (plus d t.0))
      ⊎ IsPastMul S c t.1
      ⊎ IsPastAdd S (coefficient S.arithmetic olds (plus d t.0)) (S.mul c t.1)
