-- A polynomial that is linear in some variables: its linear part in them, and the rest, which has none of them.
--   mine_in               a variable of cs in it
--   linear_part           the sum of the coefficients of the variables of cs times these
--   value_split           the value is that of both
--   rest_has_none         the rest has none of cs
use Rattle.std.proofs.Common.{◌≡◌, ◌⊎◌, inl, inr, ℕ, zero, suc, ◌<◌, List, [], ◌∷◌, length, replicate, Bool, true, false, T, cond, refl, sym, ap, ap₂, subst, ◌∙◌, arith, ltb→lt}
use Rattle.algebra.specs.Each.{Each}
use Rattle.algebra.specs.In.{In}
use Rattle.algebra.specs.Ring.{CommRing, Field, operations}
use Rattle.algebra.specs.Sum.{sum_over}
use Rattle.algebra.proofs.RingLaws as L
use Rattle.algebra.proofs.Sums as Sums
use Rattle.polynomials.specs.Exponent.{same, exponents}
use Rattle.polynomials.specs.Terms.{Terms, coefficient, monomial_at, evaluate, value_at}
use Rattle.polynomials.proofs.Exponent.{same_cases, same_refl}
use Rattle.polynomials.proofs.Algebra.{coefficient-nil, coefficient-cons, single, single_true, single_false}
use Rattle.polynomials.proofs.Value.{monomial-cons, monomial-zeros}
use Rattle.solvable_maps.specs.Uses.{exponent, has, unit}
use Rattle.solvable_maps.proofs.Reach.{or_left, or_right}
use Rattle.vectors.specs.Lists.{entries}
use Rattle.algebra.proofs.In.{each_in, each_from}
use Rattle.exponentials.proofs.Lists.{Distinct, sum_alike, sum_none, pick}
use Rattle.solvable_maps.specs.AfterIterations.{mine, rest_of}

pub mine_in : (cs : List ℕ) (e : List ℕ) (j : ℕ) → In j cs → T (has j e) → T (mine cs e)
mine_in [] e j i h = absurd i
mine_in (k ∷ cs) e j (inl q) h = or_left (has k e) (mine cs e) (subst (λ x. T (has x e)) q h)
mine_in (k ∷ cs) e j (inr i) h = or_right (has k e) (mine cs e) (mine_in cs e j i h)

unit_has : (m j : ℕ) → j < m → T (has j (unit m j))
unit_has zero j l = absurd (omega arith)
unit_has (suc m) zero l = tt
unit_has (suc m) (suc j) l = unit_has m j (omega arith)

zeros_have : (m j : ℕ) → exponent (replicate m 0) j ≡ 0
zeros_have zero j = refl
zeros_have (suc m) zero = refl
zeros_have (suc m) (suc j) = zeros_have m j

unit_apart : (m i j : ℕ) → T (has i (unit m j)) → i ≡ j
unit_apart zero i j h = absurd h
unit_apart (suc m) zero zero h = refl
unit_apart (suc m) (suc i) zero h = absurd (let z = zeros_have m i in let l =
    ltb→lt 0 (exponent (replicate m 0) i) h in omega (arith, z, l))
unit_apart (suc m) zero (suc j) h = absurd h
unit_apart (suc m) (suc i) (suc j) h = ap suc (unit_apart m i j h)

module _ {A : Type 0} (F : Field A) (m : ℕ) (cs : List ℕ) (distinct : Distinct (λ (x : ℕ). x) cs)
    (within : Each (λ j. j < m) cs) (s : List A) (size : length s ≡ m) where
  abbrev R : CommRing A
  R = F.ring

  abbrev pub value : Terms A → A
  value p = value_at (operations R) p s

  abbrev cell : (List ℕ → A) → ℕ → A
  cell f j = R.mul (f (unit m j)) (entries F s j)

  abbrev pub linear_part : Terms A → A
  linear_part p = sum_over (operations R) (cell (coefficient (operations R) p)) cs

  -- what a term says of itself: it has none of cs, or is one of them
  abbrev pub IsLinearTerm : List ℕ × A → Type 0
  IsLinearTerm t = T (mine cs t.0) → (j : ℕ) × In j cs × (t.0 ≡ unit m j)

  linear_step : (t : List ℕ × A) (p : Terms A)
      → linear_part (t ∷ p)
      ≡ R.add (sum_over (operations R) (cell (λ e. R.mul t.1 (single exponents R e t.0))) cs)
      (linear_part p)
  linear_step t p =
      sum_alike R (cell (coefficient (operations R) (t ∷ p)))
      (λ j. R.add (cell (λ e. R.mul t.1 (single exponents R e t.0)) j)
      (cell (coefficient (operations R) p) j)) cs
      (λ j. ap (λ z. R.mul z (entries F s j)) (coefficient-cons exponents R t p (unit m j))
      ∙ L.add-mul R (R.mul t.1 (single exponents R (unit m j) t.0))
      (coefficient (operations R) p (unit m j)) (entries F s j))
      ∙ Sums.sum-add R (cell (λ e. R.mul t.1 (single exponents R e t.0)))
      (cell (coefficient (operations R) p)) cs

  other_zero : (c : A) (d : List ℕ) (j : ℕ) → (unit m j ≡ d → ⊥)
      → R.mul (R.mul c (single exponents R (unit m j) d)) (entries F s j) ≡ R.zero
  other_zero c d j ne = go (same_cases (unit m j) d)
    where
      go : (unit m j ≡ d) ⊎ (same (unit m j) d ≡ false)
          → R.mul (R.mul c (single exponents R (unit m j) d)) (entries F s j) ≡ R.zero
      go (inl e) = absurd (ne e)
      go (inr e) = ap (λ z. R.mul (R.mul c z) (entries F s j)) (single_false exponents R (unit m j)
          d e) ∙ ap (λ z. R.mul z (entries F s j)) (L.mul-zero R c) ∙ L.zero-mul R (entries F s j)

  unit_value : (m : ℕ) (s : List A) (j : ℕ) → length s ≡ m → j < m
      → monomial_at (operations R) s (unit m j) ≡ entries F s j
  unit_value zero s j l k = absurd (omega arith)
  unit_value (suc m) [] j l k = absurd (omega arith)
  unit_value (suc m) (x ∷ s) zero l k = monomial-cons R x s 1 (replicate m 0)
      ∙ ap₂ R.mul (L.power-suc R x 0 ∙ ap (R.mul x) (L.power-zero R x) ∙ R.mul-one x)
      (monomial-zeros R m s) ∙ R.mul-one x
  unit_value (suc m) (x ∷ s) (suc j) l k = monomial-cons R x s 0 (unit m j)
      ∙ ap₂ R.mul (L.power-zero R x) (unit_value m s j (omega arith) (omega arith))
      ∙ L.one-mul R (entries F s j)

  within_at : (j : ℕ) → In j cs → j < m
  within_at j i = each_in (λ j. j < m) cs j within i

  own_term : (t : List ℕ × A) (j : ℕ) → In j cs → t.0 ≡ unit m j
      → sum_over (operations R) (cell (λ e. R.mul t.1 (single exponents R e t.0))) cs
      ≡ R.mul t.1 (monomial_at (operations R) s t.0)
  own_term t j i e =
      pick R (λ (x : ℕ). x) (cell (λ e. R.mul t.1 (single exponents R e t.0))) cs j distinct i
      (λ k ne. other_zero t.1 t.0 k
      (λ q. ne (sym
      (unit_apart m j k (subst (λ d. T (has j d)) (sym (q ∙ e))
      (unit_has m j (within_at j i)))))))
      ∙ ap (λ z. R.mul (R.mul t.1 z) (entries F s j)) (single_true exponents R (unit m j) t.0
      (ap (λ d. same (unit m j) d) e ∙ same_refl (unit m j)))
      ∙ ap₂ R.mul (R.mul-one t.1) (sym (unit_value m s j size (within_at j i))
      ∙ ap (monomial_at (operations R) s) (sym e))

  other_term : (t : List ℕ × A) → (T (mine cs t.0) → ⊥)
      → sum_over (operations R) (cell (λ e. R.mul t.1 (single exponents R e t.0))) cs ≡ R.zero
  other_term t none =
      sum_none R (cell (λ e. R.mul t.1 (single exponents R e t.0))) cs
      (each_from cs (λ j i.
      other_zero t.1 t.0 j
      (λ q. none
      (mine_in cs t.0 j i (subst (λ d. T (has j d)) q (unit_has m j (within_at j i)))))))

  pub value_split : (p : Terms A) → Each IsLinearTerm p
      → value p ≡ R.add (linear_part p) (value (rest_of cs p))
  unfolding Each evaluate sum_over
  value_split [] e =
      sym (ap₂ R.add (sum_none R (cell (coefficient (operations R) [])) cs
      (each_from cs (λ j i. ap (λ z. R.mul z (entries F s j))
      (coefficient-nil exponents R (unit m j)) ∙ L.zero-mul R (entries F s j))))
      (refl {a = R.zero}) ∙ R.add-zero R.zero)
  value_split (t ∷ p) e = go (mine cs t.0) refl (value_split p e.1)
    where
      own : A
      own = R.mul t.1 (monomial_at (operations R) s t.0)

      go : (b : Bool) → mine cs t.0 ≡ b → value p ≡ R.add (linear_part p) (value (rest_of cs p))
          → R.add own (value p) ≡ R.add (linear_part (t ∷ p))
          (value (cond b (rest_of cs p) (t ∷ rest_of cs p)))
      go true h ih =
          let k = e.0 (subst T (sym h) tt) in
          ap (R.add own) ih ∙ sym (R.add_assoc own (linear_part p) (value (rest_of cs p)))
          ∙ ap (λ z. R.add z (value (rest_of cs p))) (ap (λ z. R.add z (linear_part p))
          (sym (own_term t k.0 k.1 k.2)) ∙ sym (linear_step t p))
      go false h ih =
          ap (R.add own) ih ∙ L.add_left_comm R own (linear_part p) (value (rest_of cs p))
          ∙ ap (λ z. R.add z (R.add own (value (rest_of cs p)))) (sym (linear_step t p
          ∙ ap (λ z. R.add z (linear_part p)) (other_term t (λ x. subst T h x))
          ∙ L.zero-add R (linear_part p)))

pub rest_has_none : {A : Type 0} (cs : List ℕ) (p : Terms A)
    → Each (λ (t : List ℕ × A). mine cs t.0 ≡ false) (rest_of cs p)
unfolding Each
rest_has_none cs [] = tt
rest_has_none {A} cs (t ∷ p) = go (mine cs t.0) refl (rest_has_none cs p)
  where
    go : (b : Bool) → mine cs t.0 ≡ b → Each (λ (t : List ℕ × A). mine cs t.0 ≡ false)
        (rest_of cs p) → Each (λ (t : List ℕ × A). mine cs t.0 ≡ false)
        (cond b (rest_of cs p) (t ∷ rest_of cs p))
    go true h ih = ih
    go false h ih = (h, ih)
