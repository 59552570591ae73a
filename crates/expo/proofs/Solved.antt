-- The terms of a solution.
--   other_parts, equal_parts       they have the right number of exponents, are normal, and have different monomials
--   powers-push                    a term more of a power
--   step_powers, other_made, equal_made     one term after another
--   IsEvaluated bs p x y           x is the number of p, and y has the exponents of its n-th power
--   power_nonzero                  the number of a power is not zero
--   tabled_at                      the terms by the numbers of two powers, which the next are of
--   tabled_parts, tabled_solution, tabled_expo, past_solution     their parts; they solve the recurrence; what is made of them; what is past
--   same_number, other_number                      numbers that the code tells apart
--   handed_on                                      a refusal that is handed on
use Rattle.std.proofs.Common.{◌≡◌, ◌≢◌, inl, inr, ℕ, zero, suc, ◌+◌, true, false, List, [], ◌∷◌, ◌++◌, length, replicate, ◌&&◌, Result, Ok, Err, sym, ap, ap₂, subst, ◌∙◌, arith}
use Rattle.std.specs.Ordering.{int_eq}
use Rattle.std.specs.Result.{IsErrOf, IsErrAnd}
use Rattle.std.proofs.lemmas.List.{length-append, length-replicate}
use Rattle.algebra.specs.Each.{Each}
use Rattle.algebra.proofs.Each.{each-append}
use Rattle.algebra.specs.Fraction.{Fraction, ℚ, opposite}
use Rattle.polynomials.specs.Polynomial.{Arity}
use Rattle.polynomials.specs.Terms.{Terms}
use Rattle.exponentials.specs.Base.{Coprime}
use Rattle.frac128.specs.declared.fraction.Frac.{Frac}
use Rattle.frac128.specs.FracMeaning.{fraction_of, fraction_decides, frac_eq_is}
use Rattle.exponentials.specs.Keys.{Key, IsNormalKey}
use Rattle.solvable_maps.specs.Expo.{with_key, power_terms, other_terms, equal_terms, IsSolution}
use Rattle.solvable_maps.specs.Iterations.{width}
use Rattle.solvable_maps.proofs.Solving.{other_solution, equal_solution}
use Rattle.ring_laws.specs.declared.ArithmeticError.{ArithmeticError}
use Rattle.ring_laws.specs.declared.ArithmeticError.TheVariants.{Wide}
use Rattle.expo.specs.declared.exponential.Expo.{Expo}
use Rattle.expo.specs.declared.powers.Power.{Power}
use Rattle.expo.specs.Powers.{number_of, key_of_power}
use Rattle.expo.specs.Solutions.{AreTabled, different, same, IsPastTable, IsTabled, IsPastSolution, other, equal}
use Rattle.expo.specs.View.{IsExpo}
use Rattle.expo.proofs.Distinct.{Differ, differ_powers, differ_other, keys_apart}
use Rattle.solvable_maps.proofs.Normal.{Stays, AllStay, exponents_stay, power_stay, power_key_normal}
use Rattle.expo.proofs.Ratios.{number_nonzero}
use Rattle.solvable_maps.proofs.Realized.{lengths_agree}

pub record AreParts (bs : List ℕ) (m : ℕ) (ts : Terms Fraction) : Type 0 where
  pub arity : Arity (width (length bs) m) ts
  pub stay : AllStay (length bs) ts
  pub differ : Differ ts

module _ (bs : List ℕ) (m : ℕ) where
  key_length : (n : ℕ) (x : Key) → IsNormalKey bs x → length (with_key n x (replicate m 0))
      ≡ width (length bs) m
  key_length n x h =
      ap (λ k. suc (suc k))
      (length-append x.1 (x.2 ++ replicate m 0)
      ∙ ap₂ ◌+◌ (lengths_agree bs x.1 h.1) (length-append x.2 (replicate m 0)
      ∙ ap₂ ◌+◌ (lengths_agree bs x.2 h.2) (length-replicate m 0)))

  arity-powers : (x : Key) (q : ℕ → Fraction) (lo n : ℕ) → IsNormalKey bs x
      → Arity (width (length bs) m) (power_terms m x q lo n)
  unfolding Each
  arity-powers x q lo zero h = tt
  arity-powers x q lo (suc n) h = (key_length lo x h, arity-powers x q (suc lo) n h)

  pub equal_parts : (a : ℕ) (y : Key) (q : ℕ → Fraction) → IsNormalKey bs y
      → AreParts bs m (equal_terms m y a q)
  equal_parts a y q h = record {
    arity = arity-powers y q 0 (suc (suc a)) h;
    stay = power_stay bs m y q 0 (suc (suc a)) h;
    differ = differ_powers m y q 0 (suc (suc a));
  }

  pub other_parts : (a : ℕ) (x y : Key) (q : ℕ → Fraction) → IsNormalKey bs x → IsNormalKey bs y
      → x ≢ y → AreParts bs m (other_terms m x y a q)
  unfolding Each
  other_parts a x y q h k ne = record {
    arity = each-append (λ t. length t.0 ≡ width (length bs) m) (power_terms m x q 0 (suc a)) _
        (arity-powers x q 0 (suc a) h) (key_length 0 y k, tt);
    stay = each-append (λ t. Stays (length bs) t.0) (power_terms m x q 0 (suc a)) _
        (power_stay bs m x q 0 (suc a) h) (exponents_stay bs 0 y (replicate m 0) k, tt);
    differ = differ_other bs m x y q (opposite (q 0)) (suc a) h.1 h.2 k.1 k.2 ne;
  }

pub powers-push : (m : ℕ) (x : Key) (q : ℕ → Fraction) (lo n : ℕ) → power_terms m x q lo (n + 1)
    ≡ power_terms m x q lo n ++ (with_key (lo + n) x (replicate m 0), q (lo + n)) ∷ []
powers-push m x q lo zero = ap (λ k. (with_key k x (replicate m 0), q k) ∷ []) (let e : lo ≡ lo
    + 0 = omega arith in e)
powers-push m x q lo (suc n) =
    ap (power_terms m x q lo) (let e : suc n + 1 ≡ suc (n + 1) = omega arith in e)
    ∙ ap (λ l. (with_key lo x (replicate m 0), q lo) ∷ l)
    (powers-push m x q (suc lo) n
    ∙ ap (λ k. power_terms m x q (suc lo) n ++ (with_key k x (replicate m 0), q k) ∷ [])
    (let e : suc lo + n ≡ lo + suc n = omega arith in e))

-- ---- as the code has them
pub record IsEvaluated (bs : List ℕ) (p : Power) (x : Fraction) (y : Key) : Type 0 where
  pub number : x ≡ number_of bs p
  pub key : y ≡ key_of_power p

pub evaluated_at : (ws bs : List ℕ) (p : Power) (x : Fraction) (y : Key) → ws ≡ bs
    → x ≡ number_of ws p → y ≡ key_of_power p → IsEvaluated bs p x y
evaluated_at ws bs p x y e f g = record { number = f ∙ ap (λ l. number_of l p) e; key = g }

pub power_nonzero : (bs : List ℕ) → Coprime bs → (p : Power) (x : Fraction) (y : Key)
    → IsEvaluated bs p x y → x ≢ ℚ.zero
power_nonzero bs c p x y is z = number_nonzero bs c p.exponents.items p.negative (sym is.number ∙ z)

module _ (bs : List ℕ) (m a : ℕ) (inhomogeneity own : Power) where
  abbrev pub Tabled : Terms Fraction → Type 0
  Tabled ts = AreTabled m a (number_of bs inhomogeneity) (number_of bs own)
      (key_of_power inhomogeneity)
      (key_of_power own) ts

  pub tabled_expo : (ts : Terms Fraction) (e : Expo) → Tabled ts → IsExpo bs m ts e
      → IsTabled bs m a inhomogeneity own e
  tabled_expo ts e (different ne t) i = other ts ne t i
  tabled_expo ts e (same q t) i = equal ts q t i

  module _ (s o : Fraction) (x y : Key) (e : IsEvaluated bs inhomogeneity s x)
      (f : IsEvaluated bs own o y) where
    pub tabled_at : (ts : Terms Fraction) → AreTabled m a s o x y ts → Tabled ts
    tabled_at ts h = subst (λ (t : Fraction × Fraction × Key × Key). AreTabled m a t.0 t.1 t.2 t.3
        ts) (λ i. (e.number i, f.number i, e.key i, f.key i)) h

    pub past_solution : IsPastTable s o a → IsPastSolution bs a inhomogeneity own
    past_solution h = go (subst (λ (t : Fraction × Fraction). IsPastTable t.0 t.1 a)
        (λ i. (e.number i, f.number i)) h)
      where
        go : IsPastTable (number_of bs inhomogeneity) (number_of bs own) a
            → IsPastSolution bs a inhomogeneity own
        go (inl h) = other h.0 h.1
        go (inr h) = equal h.0 h.1

  module _ (l : length inhomogeneity.exponents.items ≡ length bs) (k : length own.exponents.items
      ≡ length bs) where
    pub tabled_parts : (ts : Terms Fraction) → Tabled ts → AreParts bs m ts
    tabled_parts ts (different ne t) = subst (AreParts bs m) (sym t.terms)
        (other_parts bs m a (key_of_power inhomogeneity) (key_of_power own) t.numbers
        (power_key_normal bs inhomogeneity.negative inhomogeneity.exponents.items l)
        (power_key_normal bs own.negative own.exponents.items k)
        (keys_apart bs inhomogeneity.negative own.negative inhomogeneity.exponents.items
        own.exponents.items ne))
    tabled_parts ts (same e t) = subst (AreParts bs m) (sym t.terms)
        (equal_parts bs m a (key_of_power own) t.numbers (power_key_normal bs own.negative
        own.exponents.items k))

    pub tabled_solution : Coprime bs → (ts : Terms Fraction) → Tabled ts
        → IsSolution bs m a (number_of bs inhomogeneity) (number_of bs own) ts
    tabled_solution c ts (different ne t) =
        subst (IsSolution bs m a (number_of bs inhomogeneity) (number_of bs own)) (sym t.terms)
        (other_solution bs c m a inhomogeneity.negative own.negative inhomogeneity.exponents.items
        own.exponents.items l k ne t.numbers t.table)
    tabled_solution c ts (same e t) = subst (λ s. IsSolution bs m a s (number_of bs own) ts) (sym e)
        (subst (IsSolution bs m a (number_of bs own) (number_of bs own)) (sym t.terms)
        (equal_solution bs c m a own.negative own.exponents.items k
        (number_nonzero bs c own.exponents.items own.negative) t.numbers t.table))

pub step_powers : (m : ℕ) (x : Key) (q : ℕ → Fraction) (n : ℕ) (news out : Terms Fraction)
    (t : List ℕ × Fraction) → news ≡ out ++ t ∷ [] → t.0 ≡ with_key n x (replicate m 0) → t.1 ≡ q n
    → out ≡ power_terms m x q 0 n → news ≡ power_terms m x q 0 (n + 1)
step_powers m x q n news out t e f g h =
    e ∙ ap₂ (λ (zs : Terms Fraction) (v : List ℕ × Fraction). zs ++ v ∷ []) h (λ i. (f i, g i))
    ∙ ap (λ k. power_terms m x q 0 n ++ (with_key k x (replicate m 0), q k) ∷ []) (let o : n ≡ 0
    + n = omega arith in o)
    ∙ sym (powers-push m x q 0 n)

pub other_made : (m a : ℕ) (x y : Key) (q : ℕ → Fraction) (n : ℕ) (all out : Terms Fraction)
    (t : List ℕ × Fraction) → all ≡ out ++ t ∷ [] → out ≡ power_terms m x q 0 n → n ≡ a + 1
    → t.0 ≡ with_key 0 y (replicate m 0) → t.1 ≡ opposite (q 0) → all ≡ other_terms m x y a q
other_made m a x y q n all out t e h k f g =
    e ∙ ap₂ (λ (zs : Terms Fraction) (v : List ℕ × Fraction). zs ++ v ∷ []) (h
    ∙ ap (power_terms m x q 0) (let o : n ≡ suc a = omega arith in o)) (λ i. (f i, g i))

pub equal_made : (m a : ℕ) (y : Key) (q : ℕ → Fraction) (n : ℕ) (out : Terms Fraction)
    → out ≡ power_terms m y q 0 n → n ≡ a + 2 → out ≡ equal_terms m y a q
equal_made m a y q n out h k = h ∙ ap (power_terms m y q 0) (let o : n ≡ suc (suc a) =
    omega arith in o)

-- ---- as the code tells numbers apart, and hands refusals on
pub same_number : (x y : Frac)
    → true ≡ (int_eq x.num.value y.num.value && int_eq x.den.value y.den.value)
    → fraction_of x ≡ fraction_of y
same_number x y h = ap fraction_of ((frac_eq_is x y).0 (sym h))

pub other_number : (x y : Frac)
    → false ≡ (int_eq x.num.value y.num.value && int_eq x.den.value y.den.value)
    → fraction_of x ≢ fraction_of y
other_number x y h e = let no : false ≡ true = h ∙ (frac_eq_is x y).1 (fraction_decides x y e) in cc

pub handed_on : {T S P : Type 0} (e : ArithmeticError) (r : Result T ArithmeticError)
    → IsErrAnd r (λ x. x ≡ e)
    → (IsErrOf {T = S} (Err e) Wide → P) → IsErrOf r Wide → P
handed_on e (Ok x) h k w = absurd h
handed_on e (Err x) h k w = let q : x ≡ Wide = cc in k (ap Err (sym h ∙ q))
