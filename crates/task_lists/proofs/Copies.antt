-- Polynomials with copies of variables behind their first ones.
--   wider_long             how many exponents there are
--   differ_wider           they stay apart
--   widened_same           it is the polynomial with variables for its own
use Rattle.std.proofs.Common.{◌≡◌, ◌≢◌, ℕ, ◌+◌, List, [], ◌∷◌, ◌++◌, take, drop, replicate, length, arith, refl, sym, ap, ap₂, subst, ◌∙◌, take-append-drop}
use Rattle.std.proofs.lemmas.List.{length-append, length-replicate, drop_at}
use Rattle.algebra.specs.Arithmetic.{power}
use Rattle.algebra.specs.Each.{Each}
use Rattle.algebra.specs.Sum.{sum_over}
use Rattle.algebra.proofs.Lists.{length-front, length-back}
use Rattle.algebra.specs.Fraction.{Fraction, ℚ}
use Rattle.polynomials.specs.Polynomial.{Arity}
use Rattle.polynomials.specs.Terms.{Terms, Same, evaluate, monomial_at, retold}
use Rattle.polynomials.proofs.ByValues.{same_by_values}
use Rattle.machines.proofs.Padding.{at, monomial_at-pad}
use Rattle.expo.proofs.Distinct.{Differ}
use Rattle.rounds.specs.Form.{with_room_for}
use Rattle.rounds.proofs.WayBack.{widened_arity, widened_value}
use Rattle.task_lists.specs.Shapes.{wider}

-- ---- exponents
take_at : {X : Type 0} (x y : List X) (k : ℕ) → length x ≡ k → take k (x ++ y) ≡ x
take_at x y k l = ap (λ n. take n (x ++ y)) (sym l) ∙ exact x y
  where
    exact : {X : Type 0} (x y : List X) → take (length x) (x ++ y) ≡ x
    exact [] y = refl
    exact (a ∷ x) y = ap (λ z. a ∷ z) (exact x y)

module _ (k t m : ℕ) where
  pub wider_long : (e : List ℕ) → length e ≡ k + m → length (wider k t e) ≡ k + t + m
  wider_long e l =
      let a = length-append (take k e) (replicate t 0 ++ drop k e) in
      let b = length-append (replicate t 0) (drop k e) in
      let c = length-front k m e l in
      let d = length-back k m e l in
      let zero : ℕ = 0 in
      let f = length-replicate t zero in
      omega (arith, a, b, c, d, f)

  pub wider_apart : (d e : List ℕ) → length d ≡ k + m → length e ≡ k + m
      → wider k t d ≡ wider k t e → d ≡ e
  wider_apart d e l n h =
      sym (take-append-drop k d)
      ∙ ap₂ ◌++◌ (first d l ∙ ap (take k) h ∙ sym (first e n))
      (rest d l ∙ ap (λ x. drop t (drop k x)) h ∙ sym (rest e n))
      ∙ take-append-drop k e
    where
      first : (d : List ℕ) → length d ≡ k + m → take k d ≡ take k (wider k t d)
      first d l = sym (take_at (take k d) (replicate t 0 ++ drop k d) k (length-front k m d l))

      rest : (d : List ℕ) → length d ≡ k + m → drop k d ≡ drop t (drop k (wider k t d))
      rest d l = sym (ap (drop t) (drop_at (take k d) (replicate t 0 ++ drop k d) k
          (length-front k m d l))
          ∙ drop_at (replicate t 0) (drop k d) t (length-replicate t 0))

  pub wider_arity : (p : Terms Fraction) → Arity (k + m) p
      → Arity (k + t + m) (retold (wider k t) p)
  unfolding Each retold
  wider_arity [] a = tt
  wider_arity (u ∷ p) a = (wider_long u.0 a.0, wider_arity p a.1)

  -- ---- they stay apart
  pub differ_wider : (p : Terms Fraction) → Arity (k + m) p → Differ p
      → Differ (retold (wider k t) p)
  unfolding Each retold
  differ_wider [] a d = tt
  differ_wider (u ∷ p) a d = (apart u a.0 p a.1 d.0, differ_wider p a.1 d.1)
    where
      apart : (u : List ℕ × Fraction) → length u.0 ≡ k + m → (p : Terms Fraction) → Arity (k + m) p
          → Each (λ v. u.0 ≢ v.0) p → Each (λ v. wider k t u.0 ≢ v.0) (retold (wider k t) p)
      apart u l [] a h = tt
      apart u l (v ∷ p) a h = ((λ e. h.0 (wider_apart u.0 v.0 l a.0 e)), apart u l p a.1 h.1)

-- ---- values
wide_monomial : (x c y : List Fraction) (d f : List ℕ) → length d ≡ length x
    → monomial_at ℚ (x ++ (c ++ y)) (d ++ (replicate (length c) 0 ++ f)) ≡ monomial_at ℚ (x ++ y)
    (d ++ f)
unfolding monomial_at
wide_monomial [] c y [] f l = monomial_at-pad c y f
wide_monomial [] c y (n ∷ d) f l = absurd (omega (arith, l))
wide_monomial (a ∷ x) c y [] f l = absurd (omega (arith, l))
wide_monomial (a ∷ x) c y (n ∷ d) f l = ap (ℚ.mul (power ℚ a n))
    (wide_monomial x c y d f (omega (arith, l)))

module _ (k t m : ℕ) (x c y : List Fraction) (lx : length x ≡ k) (lc : length c ≡ t) where
  monomial_wider : (e : List ℕ) → length e ≡ k + m → monomial_at ℚ (x ++ (c ++ y)) (wider k t e)
      ≡ monomial_at ℚ (x ++ y) e
  monomial_wider e l =
      ap (λ n. monomial_at ℚ (x ++ (c ++ y)) (take k e ++ (replicate n 0 ++ drop k e))) (sym lc)
      ∙ wide_monomial x c y (take k e) (drop k e) (length-front k m e l ∙ sym lx)
      ∙ ap (monomial_at ℚ (x ++ y)) (take-append-drop k e)

  wider_value : (p : Terms Fraction) → Arity (k + m) p
      → at (retold (wider k t) p) (x ++ (c ++ y)) ≡ at p (x ++ y)
  unfolding Each retold evaluate sum_over
  wider_value [] a = refl
  wider_value (u ∷ p) a = ap₂ ℚ.add (ap (ℚ.mul u.1) (monomial_wider u.0 a.0)) (wider_value p a.1)

pub widened_same : (k t m : ℕ) (p : Terms Fraction) → Arity (k + m) p
    → Same ℚ (retold (wider k t) p) (with_room_for k t m p)
widened_same k t m p a = same_by_values (k + t + m) (retold (wider k t) p) (with_room_for k t m p)
    (wider_arity k t m p a) (widened_arity k t m p) (λ s l. go s l)
  where
    go : (s : List Fraction) → length s ≡ k + t + m
        → at (retold (wider k t) p) s ≡ at (with_room_for k t m p) s
    go s l =
        let x = take k s in
        let r = drop k s in
        let c = take t r in
        let y = drop t r in
        let lr : length r ≡ t + m = length-back k (t + m) s (omega (arith, l)) in
        let lx : length x ≡ k = length-front k (t + m) s (omega (arith, l)) in
        let lc : length c ≡ t = length-front t m r lr in
        let ly : length y ≡ m = length-back t m r lr in
        let is : x ++ (c ++ y) ≡ s = ap (λ z. x ++ z) (take-append-drop t r)
        ∙ take-append-drop k s in
        subst (λ z. at (retold (wider k t) p) z ≡ at (with_room_for k t m p) z) is
        (wider_value k t m x c y lx lc p a ∙ sym (widened_value k t m p x c y lx lc ly))

-- ---- term by term
module _ (k t : ℕ) where
  retold-push : (p : Terms Fraction) (u : List ℕ × Fraction)
      → retold (wider k t) (p ++ u ∷ []) ≡ retold (wider k t) p ++ (wider k t u.0, u.1) ∷ []
  unfolding retold
  retold-push [] u = refl
  retold-push (v ∷ p) u = ap (λ (zs : Terms Fraction). (wider k t v.0, v.1) ∷ zs) (retold-push p u)

  pub begin_wider : (out : Terms Fraction) → out ≡ [] → out ≡ retold (wider k t) []
  unfolding retold
  begin_wider out e = e

  pub step_wider : (p p' out news : Terms Fraction) (u v : List ℕ × Fraction) → p' ≡ p ++ u ∷ []
      → news ≡ out ++ v ∷ [] → v.0 ≡ wider k t u.0 → v.1 ≡ u.1 → out ≡ retold (wider k t) p
      → news ≡ retold (wider k t) p'
  step_wider p p' out news u v e f m n i =
      f ∙ ap₂ (λ (zs : Terms Fraction) (x : List ℕ × Fraction). zs ++ x ∷ []) i (λ j. (m j, n j))
      ∙ sym (retold-push p u) ∙ ap (retold (wider k t)) (sym e)
