-- Polynomials with one variable more.
--   widened_distinct      monomials stay different
--   pairs_distinct        as pairs
--   widened_values        the values at a state with any number for it
--   widened_over          how many variables they have
use Rattle.std.proofs.Common.{◌≡◌, ◌≢◌, ℕ, zero, suc, false, List, [], ◌∷◌, ◌++◌, map, length, arith, refl, sym, ap, ap₂, subst, ◌∙◌, All, true≢false, ◌⊎◌, inl, inr}
use Rattle.std.specs.List.{AllZip, AllPairs}
use Rattle.std.proofs.lemmas.List.Kept.{AllPairs-cons}
use Rattle.std.proofs.lemmas.List.Elements.{All-nil, All-cons, All-head, All-tail}
use Rattle.algebra.specs.Each.{Each}
use Rattle.algebra.specs.Arithmetic.{power}
use Rattle.algebra.specs.Fraction.{Fraction, ℚ, fraction}
use Rattle.algebra.specs.Sum.{sum_over}
use Rattle.algebra.proofs.Fractions.{ℚ_ring}
use Rattle.algebra.proofs.RingLaws.{one-mul}
use Rattle.polynomials.specs.Exponent.{same}
use Rattle.polynomials.specs.Terms.{Terms, retold, monomial_at, evaluate, value_at}
use Rattle.polynomials.specs.Polynomial.{Apart, Arity, IsDistinct}
use Rattle.std.proofs.Common.{Result, Ok, Err, IfOk}
use Rattle.monos.specs.declared.order.Grevlex.{Grevlex}
use Rattle.poly.specs.Seen.{Is}
use Rattle.polynomials.specs.Terms.{Same}
use Rattle.polynomials.proofs.Exponent.{same_refl, same_cases}
use Rattle.polynomials.proofs.Value.{monomial-nil}
use Rattle.polynomials.proofs.ValueAt.{value_at_same}
use Rattle.poly.specs.declared.Term.{Term}
use Rattle.poly.specs.Seen.{terms_in, terms_each}
use Rattle.poly.specs.View.{terms_of}
use Rattle.poly.specs.Standing.{IsInVariables}
use Rattle.loop_model.specs.FracPoly.{FracPoly}
use Rattle.program_model.specs.Widening.{widen, IsWidened}

-- ---- monomials
length-widen : (a : ℕ) (e : List ℕ) → length (widen a e) ≡ suc (length e)
length-widen zero e = refl
length-widen (suc a) [] = refl
length-widen (suc a) (x ∷ e) = ap suc (length-widen a e)

widen_apart : (a : ℕ) (d e : List ℕ) → length d ≡ length e → widen a d ≡ widen a e → d ≡ e
widen_apart zero d e l h = let q : d ≡ e = cc in q
widen_apart (suc a) [] [] l h = refl
widen_apart (suc a) [] (y ∷ e) l h = absurd (omega arith)
widen_apart (suc a) (x ∷ d) [] l h = absurd (omega arith)
widen_apart (suc a) (x ∷ d) (y ∷ e) l h =
    let p : x ≡ y = cc in
    let q : widen a d ≡ widen a e = cc in
    ap₂ ◌∷◌ p (widen_apart a d e (omega arith) q)

apart_widened : {A : Type 0} (a m : ℕ) (d : List ℕ) → length d ≡ m → (p : Terms A) → Arity m p
    → Apart d p → Apart (widen a d) (retold (widen a) p)
unfolding Each retold
apart_widened a m d l [] k h = tt
apart_widened a m d l (t ∷ p) k h = (
  go (same_cases (widen a d) (widen a t.0)),
  apart_widened a m d l p k.1 h.1,
)
  where
    go : (widen a d ≡ widen a t.0) ⊎ (same (widen a d) (widen a t.0) ≡ false)
        → same (widen a d) (widen a t.0) ≡ false
    go (inl is) = absurd (true≢false (sym (same_refl d)
        ∙ ap (same d) (widen_apart a d t.0 (l ∙ sym k.0) is) ∙ h.0))
    go (inr other) = other

retold-push : {A : Type 0} (h : List ℕ → List ℕ) (p : Terms A) (t : List ℕ × A)
    → retold h (p ++ t ∷ []) ≡ retold h p ++ (h t.0, t.1) ∷ []
unfolding retold
retold-push h [] t = refl
retold-push h (u ∷ p) t = ap (λ zs. (h u.0, u.1) ∷ zs) (retold-push h p t)

pub begin_retold : {A : Type 0} (h : List ℕ → List ℕ) (out : Terms A) → out ≡ []
    → out ≡ retold h []
unfolding retold
begin_retold h out e = e

pub step_retold : {A : Type 0} (h : List ℕ → List ℕ) (p p' out news : Terms A) (t u : List ℕ × A)
    → p' ≡ p ++ t ∷ [] → news ≡ out ++ u ∷ [] → u.0 ≡ h t.0 → u.1 ≡ t.1 → out ≡ retold h p
    → news ≡ retold h p'
step_retold h p p' out news t u e f m n i =
    f ∙ ap₂ (λ zs v. zs ++ v ∷ []) i (λ j. (m j, n j))
    ∙ sym (retold-push h p t) ∙ ap (retold h) (sym e)

pub widened_arity : {A : Type 0} (a m : ℕ) (p : Terms A) → Arity m p
    → Arity (suc m) (retold (widen a) p)
unfolding Each retold
widened_arity a m [] k = tt
widened_arity a m (t ∷ p) k = (length-widen a t.0 ∙ ap suc k.0, widened_arity a m p k.1)

arity_all : {K E : Type 0} (meaning : K → E) (m : ℕ) (ts : List (Term K))
    → Arity m (terms_of meaning ts) → All (λ t. length t.mono ≡ m) ts
unfolding Each
arity_all meaning m [] a = All-nil (λ t. length t.mono ≡ m)
arity_all meaning m (t ∷ ts) a = All-cons (λ t. length t.mono ≡ m) t ts a.0
    (arity_all meaning m ts a.1)

pub terms_arity : {K E : Type 0} (meaning : K → E) (m : ℕ) (ts : List (Term K)) (p : Terms E)
    → terms_of meaning ts ≡ p → Arity m p → All (λ t. length t.mono ≡ m) ts
terms_arity meaning m ts p e a = arity_all meaning m ts (subst (Arity m) (sym e) a)

pub widened_distinct : {A : Type 0} (a m : ℕ) (p : Terms A) → Arity m p → IsDistinct p
    → IsDistinct (retold (widen a) p)
unfolding Each IsDistinct retold
widened_distinct a m [] k d = tt
widened_distinct a m (t ∷ p) k d =
    (apart_widened a m t.0 k.0 p k.1 d.0, widened_distinct a m p k.1 d.1)

apart_all : {K E : Type 0} (meaning : K → E) (d : List ℕ) (ts : List (Term K))
    → Apart d (terms_of meaning ts) → All (λ t. d ≢ t.mono) ts
unfolding Each
apart_all meaning d [] a = All-nil (λ t. d ≢ t.mono)
apart_all meaning d (t ∷ ts) a = All-cons (λ t. d ≢ t.mono) t ts
    (λ e. true≢false (sym (same_refl d) ∙ ap (same d) e ∙ a.0)) (apart_all meaning d ts a.1)

pairs_apart : {K E : Type 0} (meaning : K → E) (ts : List (Term K))
    → IsDistinct (terms_of meaning ts) → AllPairs (λ s t. s.mono ≢ t.mono) ts
unfolding IsDistinct
pairs_apart meaning [] d = λ i j x p q. absurd (omega arith)
pairs_apart meaning (t ∷ ts) d = AllPairs-cons (λ s t. s.mono ≢ t.mono) t ts
    (apart_all meaning t.mono ts d.0) (pairs_apart meaning ts d.1)

pub pairs_distinct : {K E : Type 0} (meaning : K → E) (ts : List (Term K)) (p : Terms E)
    → terms_of meaning ts ≡ p → IsDistinct p → AllPairs (λ s t. s.mono ≢ t.mono) ts
pairs_distinct meaning ts p e d = pairs_apart meaning ts (subst IsDistinct (sym e) d)

-- ---- values
monomial-widen : (x s : List Fraction) (y : Fraction) (e : List ℕ)
    → monomial_at ℚ (x ++ y ∷ s) (widen (length x) e) ≡ monomial_at ℚ (x ++ s) e
unfolding monomial_at power fraction
monomial-widen [] s y e = one-mul ℚ_ring (monomial_at ℚ s e)
monomial-widen (b ∷ x) s y [] = one-mul ℚ_ring (monomial_at ℚ (x ++ y ∷ s) [])
    ∙ monomial-nil ℚ_ring (x ++ y ∷ s)
monomial-widen (b ∷ x) s y (n ∷ e) = ap (ℚ.mul _) (monomial-widen x s y e)

value-widen : (x s : List Fraction) (y : Fraction) (p : Terms Fraction)
    → value_at ℚ (retold (widen (length x)) p) (x ++ y ∷ s) ≡ value_at ℚ p (x ++ s)
unfolding retold evaluate sum_over
value-widen x s y [] = refl
value-widen x s y (t ∷ p) = ap₂ ℚ.add (ap (ℚ.mul t.1) (monomial-widen x s y t.0))
    (value-widen x s y p)

pub widened_values : (a : ℕ) (ps qs : List FracPoly) → AllZip (IsWidened a) ps qs
    → (x s : List Fraction) (y : Fraction) → length x ≡ a
    → map (λ q. value_at ℚ q (x ++ y ∷ s)) (terms_each qs)
    ≡ map (λ q. value_at ℚ q (x ++ s)) (terms_each ps)
widened_values a [] [] h x s y l = refl
widened_values a [] (q ∷ qs) h x s y l = absurd h
widened_values a (p ∷ ps) [] h x s y l = absurd h
widened_values a (p ∷ ps) (q ∷ qs) h x s y l = ap₂ ◌∷◌
    (value_at_same ℚ_ring (terms_in q) (retold (widen a) (terms_in p)) (x ++ y ∷ s) h.0.same
    ∙ ap (λ b. value_at ℚ (retold (widen b) (terms_in p)) (x ++ y ∷ s)) (sym l)
    ∙ value-widen x s y (terms_in p))
    (widened_values a ps qs h.1 x s y l)

pub widened_over : (a m : ℕ) (ps qs : List FracPoly) → AllZip (IsWidened a) ps qs
    → All (IsInVariables m) ps → All (IsInVariables (suc m)) qs
widened_over a m [] [] h k = All-nil (IsInVariables (suc m))
widened_over a m [] (q ∷ qs) h k = absurd h
widened_over a m (p ∷ ps) [] h k = absurd h
widened_over a m (p ∷ ps) (q ∷ qs) h k = All-cons (IsInVariables (suc m)) q qs
    (h.0.arity ∙ ap suc (All-head (IsInVariables m) p ps k))
    (widened_over a m ps qs h.1 (All-tail (IsInVariables m) p ps k))

pub widened_length : (a : ℕ) (ps qs : List FracPoly) → AllZip (IsWidened a) ps qs
    → length qs ≡ length ps
widened_length a [] [] h = refl
widened_length a [] (q ∷ qs) h = absurd h
widened_length a (p ∷ ps) [] h = absurd h
widened_length a (p ∷ ps) (q ∷ qs) h = ap suc (widened_length a ps qs h.1)

pub made_widened : {E : Type 0} (a k : ℕ) (p : FracPoly) (ts : Terms Fraction) (o : Grevlex)
    (r : Result FracPoly E) → k ≡ suc p.arity → ts ≡ retold (widen a) (terms_in p)
    → IfOk r (Is o k ts) → IfOk r (IsWidened a p)
made_widened a k p ts o (Ok q) e s h = record {
  order = refl;
  arity = h.arity ∙ e;
  same = subst (λ us. Same ℚ (terms_in q) us) s h.same;
}
made_widened a k p ts o (Err x) e s h = tt
