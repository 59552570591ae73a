-- Combinations, and the sum of their first products.
--   combination-suc                                one place more
--   combination-split                              the first places, and the rest
--   combined_none, combined_step, combined_all     the sum of the first products is the combination of no place, of one more, and of all
use Rattle.std.proofs.Common.{◌≡◌, ℕ, zero, suc, ◌<◌, ◌≤◌, ◌+◌, List, [], ◌∷◌, ◌++◌, get_or, map, take, drop, length, arith, refl, sym, ap, ap₂, subst, ◌∙◌, add-one, append-nil, append_assoc}
use Rattle.std.proofs.lemmas.List.{get_or-map, take_all, length-map}
use Rattle.algebra.specs.Arithmetic.{Arithmetic}
use Rattle.polynomials.specs.Terms.{Terms, Same, times, combination}
use Rattle.polynomials.proofs.Same.{Same-refl, Same-trans, same_append}
use Rattle.algebra.specs.Ring.{CommRing, operations}

pub combination-suc : {A : Type 0} (N : Arithmetic A) (qs gs : List (Terms A)) (i : ℕ)
    → i < length qs → i < length gs
    → combination N (take (suc i) qs) (take (suc i) gs) ≡ combination N (take i qs) (take i gs)
    ++ times N (get_or qs i []) (get_or gs i [])
unfolding combination
combination-suc N [] gs i k l = absurd (omega arith)
combination-suc N (q ∷ qs) [] i k l = absurd (omega arith)
combination-suc N (q ∷ qs) (g ∷ gs) zero k l = append-nil (times N q g)
combination-suc N (q ∷ qs) (g ∷ gs) (suc i) k l =
    ap (λ (x : Terms _). times N q g ++ x) (combination-suc N qs gs i (omega arith) (omega arith))
    ∙ sym (append_assoc (times N q g) (combination N (take i qs) (take i gs))
    (times N (get_or qs i []) (get_or gs i [])))

nothing : {A : Type 0} (N : Arithmetic A) (qs : List (Terms A)) → combination N qs [] ≡ []
unfolding combination
nothing N [] = refl
nothing N (q ∷ qs) = refl

pub combination-split : {A : Type 0} (N : Arithmetic A) (qs gs : List (Terms A)) (i : ℕ)
    → combination N qs gs ≡ combination N (take i qs) (take i gs) ++ combination N (drop i qs)
    (drop i gs)
unfolding combination
combination-split N qs gs zero = refl
combination-split N [] gs (suc i) = refl
combination-split N (q ∷ qs) [] (suc i) = sym (nothing N (drop i qs))
combination-split N (q ∷ qs) (g ∷ gs) (suc i) =
    ap (λ (x : Terms _). times N q g ++ x) (combination-split N qs gs i)
    ∙ sym (append_assoc (times N q g) (combination N (take i qs) (take i gs))
    (combination N (drop i qs) (drop i gs)))

module _ {A : Type 0} (R : CommRing A) {X : Type 0} (terms : X → Terms A)
    (cofactors basis : List X) where
  -- the combination of the first i places
  abbrev pub combined_to : ℕ → Terms A
  combined_to i = combination (operations R) (take i (map terms cofactors))
      (take i (map terms basis))

  pub combined_none : (p : Terms A) → p ≡ [] → Same (operations R) p (combined_to 0)
  unfolding combination
  combined_none p e = subst (λ (x : Terms A). Same (operations R) x []) (sym e)
      (Same-refl (operations R) [])

  pub combined_step : (i : ℕ) {c : X} (g : X) (sum product new : Terms A) → i < length cofactors
      → i < length basis → c ≡ get_or cofactors i c → g ≡ get_or basis i g
      → Same (operations R) sum (combined_to i)
      → Same (operations R) product (times (operations R) (terms c) (terms g))
      → Same (operations R) new (sum ++ product) → Same (operations R) new (combined_to (i + 1))
  combined_step i {c = c} g sum product new k l is at h s t =
      subst (Same (operations R) new) (sym more) (Same-trans (operations R) t (same_append R h s))
    where
      more : combined_to (i + 1) ≡ combined_to i ++ times (operations R) (terms c) (terms g)
      more = ap combined_to (add-one i) ∙ combination-suc (operations R) (map terms cofactors)
          (map terms basis) i (omega (arith, length-map cofactors terms))
          (omega (arith, length-map basis terms))
          ∙ ap₂ (λ x y. combined_to i ++ times (operations R) x y) (get_or-map terms cofactors i c
          [] k ∙ sym (ap terms is)) (get_or-map terms basis i g [] l ∙ sym (ap terms at))

  pub combined_all : (i : ℕ) (p : Terms A) → length cofactors ≤ i → length basis ≤ i
      → Same (operations R) p (combined_to i)
      → Same (operations R) p (combination (operations R) (map terms cofactors) (map terms basis))
  combined_all i p k l h = subst (Same (operations R) p) (ap₂ (combination (operations R))
      (take_all i (map terms cofactors) (omega (arith, length-map cofactors terms)))
      (take_all i (map terms basis) (omega (arith, length-map basis terms)))) h
