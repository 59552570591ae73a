-- A term of one list of exponents, by its parts; and what is left of two lists without what they have in common.
--   term-value     the value of a term at n, s, u, v and the variables: its part in the variables, times the powers of n and s, times those of u and of v
use Rattle.std.proofs.Common.{◌≡◌, ℕ, List, [], ◌∷◌, ◌++◌, length, take, drop, refl, sym, ap, ◌∙◌}
use Rattle.exponentials.specs.Base.{Disjoint}
use Rattle.algebra.specs.Ring.{CommRing, operations}
use Rattle.algebra.specs.Arithmetic.{power}
use Rattle.algebra.proofs.RingLaws as L
use Rattle.algebra.proofs.RingSolver.{ring_rules, ring}
use Rattle.algebra.proofs.Basics.{one_is_zero}
use Rattle.polynomials.proofs.Value.{monomial-nil}
use Rattle.exponentials.specs.Keys.{excess, rest, top}
use Rattle.polynomials.specs.Terms.{monomial_at}
use Rattle.exponentials.proofs.Unique.{monomial-append}

pub left-disjoint : (d e : List ℕ) → Disjoint (excess d e) (excess e d)
unfolding excess
left-disjoint [] e = tt
left-disjoint (m ∷ d) [] = tt
left-disjoint (m ∷ d) (n ∷ e) = (one_is_zero m n, left-disjoint d e)

-- ---- one list of exponents: of n, of s, of u, of v and of the variables
module _ {A : Type 0} (R : CommRing A) where
  monomial-top : (x : A) (xs : List A) (e : List ℕ) → monomial_at (operations R) (x ∷ xs) e
      ≡ R.mul (power (operations R) x (top e)) (monomial_at (operations R) xs (rest e))
  unfolding monomial_at power
  monomial-top x xs [] = sym (ap (R.mul R.one) (monomial-nil R xs) ∙ L.one-mul R R.one)
  monomial-top x xs (a ∷ e) = refl

  -- c times the monomial at the points n, s, us, vs and xs, in three parts
  pub term-value : (c x s : A) (us vs xs : List A) (e : List ℕ)
      → R.mul c (monomial_at (operations R) (x ∷ s ∷ (us ++ (vs ++ xs))) e)
      ≡ R.mul (R.mul c (monomial_at (operations R) xs
      (drop (length vs) (drop (length us) (rest (rest e))))))
      (R.mul (power (operations R) x (top e)) (R.mul (power (operations R) s (top (rest e)))
      (R.mul (monomial_at (operations R) us (take (length us) (rest (rest e))))
      (monomial_at (operations R) vs
      (take (length vs) (drop (length us) (rest (rest e))))))))
  term-value c x s us vs xs e =
      let r = rest (rest e) in
      let p = monomial_at (operations R) us (take (length us) r) in
      let q = monomial_at (operations R) vs (take (length vs) (drop (length us) r)) in
      let m = monomial_at (operations R) xs (drop (length vs) (drop (length us) r)) in
      ap (R.mul c) (monomial-top x (s ∷ (us ++ (vs ++ xs))) e
      ∙ ap (R.mul (power (operations R) x (top e)))
      (monomial-top s (us ++ (vs ++ xs)) (rest e)
      ∙ ap (R.mul (power (operations R) s (top (rest e)))) (monomial-append R us (vs ++ xs) r
      ∙ ap (R.mul p) (monomial-append R vs xs (drop (length us) r)))))
      ∙ iteration c (power (operations R) x (top e)) (power (operations R) s (top (rest e))) p q m
    where
      iteration : (c t w p q m : A) → R.mul c (R.mul t (R.mul w (R.mul p (R.mul q m))))
          ≡ R.mul (R.mul c m) (R.mul t (R.mul w (R.mul p q)))
      iteration c t w p q m = ring R (c ∷ t ∷ w ∷ p ∷ q ∷ m ∷ []) (search ring_rules depth 40) refl
