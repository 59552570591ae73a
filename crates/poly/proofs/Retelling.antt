-- Polynomials with other exponents for their own: `retold h p` has h e for the exponents e.
--   begin_retold, step_retold     so far: nothing, and one term more
--   arity-retold                  how many exponents there are
--   distinct_retold               where h keeps exponents apart
--   behind_distinct, rest_distinct     as it does behind a monomial, and without first variables that are in none
--   free_step, free_none, free_at     what is free of the first variables, term by term
use Rattle.std.proofs.Common.{◌≡◌, ℕ, false, List, [], ◌∷◌, ◌++◌, take, drop, replicate, length, refl, sym, ap, ap₂, subst, ◌∙◌, ◌⊎◌, inl, inr, take-append-drop, true≢false}
use Rattle.algebra.specs.Each.{Each}
use Rattle.algebra.proofs.Each.{each-append, each-right}
use Rattle.polynomials.specs.Exponent.{same}
use Rattle.polynomials.specs.Terms.{Terms, retold}
use Rattle.polynomials.specs.Polynomial.{Apart, Arity, IsDistinct}
use Rattle.polynomials.proofs.Exponent.{same_cases, same_refl}
use Rattle.machines.specs.Front.{IsFreeOfFirst}

module _ {A : Type 0} (h : List ℕ → List ℕ) where
  retold-push : (p : Terms A) (t : List ℕ × A) → retold h (p ++ t ∷ []) ≡ retold h p ++ (h t.0, t.1)
      ∷ []
  unfolding retold
  retold-push [] t = refl
  retold-push (u ∷ p) t = ap (λ (zs : Terms A). (h u.0, u.1) ∷ zs) (retold-push p t)

  pub begin_retold : (out : Terms A) → out ≡ [] → out ≡ retold h []
  unfolding retold
  begin_retold out e = e

  pub step_retold : (p p' out news : Terms A) (t u : List ℕ × A) → p' ≡ p ++ t ∷ []
      → news ≡ out ++ u ∷ [] → u.0 ≡ h t.0 → u.1 ≡ t.1 → out ≡ retold h p → news ≡ retold h p'
  step_retold p p' out news t u e f m n i =
      f ∙ ap₂ (λ (zs : Terms A) (v : List ℕ × A). zs ++ v ∷ []) i (λ j. (m j, n j))
      ∙ sym (retold-push p t) ∙ ap (retold h) (sym e)

  pub arity-retold : (m n : ℕ) → ((e : List ℕ) → length e ≡ m → length (h e) ≡ n) → (p : Terms A)
      → Arity m p → Arity n (retold h p)
  unfolding Each retold
  arity-retold m n f [] a = tt
  arity-retold m n f (t ∷ p) a = (f t.0 a.0, arity-retold m n f p a.1)

  module _ (P : List ℕ → Type 0) (apart : (d e : List ℕ) → P d → P e → h d ≡ h e → d ≡ e) where
    apart_retold : (d : List ℕ) → P d → (p : Terms A) → Each (λ t. P t.0) p → Apart d p
        → Apart (h d) (retold h p)
    unfolding Each retold
    apart_retold d i [] k a = tt
    apart_retold d i (t ∷ p) k a = (go (same_cases (h d) (h t.0)), apart_retold d i p k.1 a.1)
      where
        go : (h d ≡ h t.0) ⊎ (same (h d) (h t.0) ≡ false) → same (h d) (h t.0) ≡ false
        go (inl is) = absurd (true≢false (sym (same_refl d) ∙ ap (same d) (apart d t.0 i k.0 is)
            ∙ a.0))
        go (inr other) = other

    pub distinct_retold : (p : Terms A) → Each (λ t. P t.0) p → IsDistinct p
        → IsDistinct (retold h p)
    unfolding Each IsDistinct retold
    distinct_retold [] k d = tt
    distinct_retold (t ∷ p) k d = (apart_retold t.0 k.0 p k.1 d.0, distinct_retold p k.1 d.1)

-- ---- behind a monomial
behind_apart : (front d e : List ℕ) → front ++ d ≡ front ++ e → d ≡ e
behind_apart [] d e h = h
behind_apart (x ∷ front) d e h = behind_apart front d e (let q : front ++ d ≡ front ++ e = cc in q)

any : {A : Type 0} (p : Terms A) → Each (λ t. Unit {0}) p
unfolding Each
any [] = tt
any (t ∷ p) = (tt, any p)

pub behind_distinct : {A : Type 0} (front : List ℕ) (p : Terms A) → IsDistinct p
    → IsDistinct (retold (λ e. front ++ e) p)
behind_distinct front p d = distinct_retold (λ e. front ++ e) (λ e. Unit {0}) (λ d e i k.
    behind_apart front d e) p (any p) d

-- ---- without first variables
pub rest_distinct : {A : Type 0} (k : ℕ) (p : Terms A) → IsFreeOfFirst k p → IsDistinct p
    → IsDistinct (retold (drop k) p)
rest_distinct k p f d = distinct_retold (drop k) (λ e. take k e ≡ replicate k 0) (λ d e i j is.
    sym (take-append-drop k d) ∙ ap₂ ◌++◌ (i ∙ sym j) is ∙ take-append-drop k e) p f d

pub free_step : {A : Type 0} (k : ℕ) (p p' : Terms A) (t : List ℕ × A) → p' ≡ p ++ t ∷ []
    → take k t.0 ≡ replicate k 0 → IsFreeOfFirst k p → IsFreeOfFirst k p'
unfolding Each
free_step k p p' t e f h = subst (IsFreeOfFirst k) (sym e)
    (each-append (λ t. take k t.0 ≡ replicate k 0) p (t ∷ []) h (f, tt))

pub free_none : {A : Type 0} (k : ℕ) (p : Terms A) → p ≡ [] → IsFreeOfFirst k p
unfolding Each
free_none k p e = subst (IsFreeOfFirst k) (sym e) tt

pub free_at : {A : Type 0} (k : ℕ) (p front back : Terms A) (t : List ℕ × A) → p ≡ front ++ t ∷ back
    → IsFreeOfFirst k p → take k t.0 ≡ replicate k 0
unfolding Each
free_at k p front back t e f = (each-right (λ t. take k t.0 ≡ replicate k 0) front (t ∷ back)
    (subst (IsFreeOfFirst k) e f)).0
