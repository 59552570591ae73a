-- Images of polynomials, as the code forms them.
--   image_formed      with the unknowns in front, and images behind one for each unknown, a polynomial is composed with the images
--   image_terms       what is formed, with like terms collected
use Rattle.std.proofs.Common.{◌≡◌, ℕ, ◌+◌, List, [], ◌∷◌, ◌++◌, length, refl, sym, ap, subst, ◌∙◌, Result, Ok, Err}
use Rattle.algebra.specs.Fraction.{Fraction, ℚ, rationals}
use Rattle.polynomials.specs.Order.{grevlex}
use Rattle.polynomials.specs.Polynomial.{AllArity}
use Rattle.polynomials.specs.Terms.{Terms, constant, retold}
use Rattle.polynomials.proofs.Arity.{arity-compose}
use Rattle.machines.specs.Collect.{collect}
use Rattle.machines.specs.Elimination.{pad, in_front}
use Rattle.poly.specs.Seen.{terms_in}
use Rattle.poly.specs.Standing.{StandsFor}
use Rattle.poly.proofs.Standing.{stands_along}
use Rattle.loop_model.specs.FracPoly.{FracPoly}
use Rattle.loop_model.specs.Operations.{sum_at}
use Rattle.loop_model.specs.Stops.{Forms}
use Rattle.loop_model.specs.declared.map_error.MapError.{MapError}
use Rattle.counter_run.specs.Composition.{factors, product_of, product_operations, term_product, composition_onto, composition_operations}
use Rattle.counter_run.proofs.Composed.{composition_onto_is}
use Rattle.counter_run.proofs.WordImages.{terms_are}
use Rattle.flows.specs.Graph.{Transition}
use Rattle.flows.specs.Family.{after}
use Rattle.program_families.specs.Operations.{image_operations, AreImagesBehind}

factors_behind : (first images : List (Terms Fraction)) (e : List ℕ)
    → factors (first ++ images) (pad (length first) e) ≡ factors images e
unfolding factors
factors_behind [] images e = refl
factors_behind (q ∷ first) images e = factors_behind first images e

module _ (m : ℕ) (first images : List (Terms Fraction)) where
  onto_behind : (s p : Terms Fraction)
      → composition_onto m (first ++ images) s (in_front (length first) p)
      ≡ composition_onto m images s p
  unfolding composition_onto retold
  onto_behind s [] = refl
  onto_behind s (t ∷ p) =
      ap (λ fs. composition_onto m (first ++ images) (s ++ product_of (constant m t.1) fs)
      (in_front (length first) p)) (factors_behind first images t.0)
      ∙ onto_behind (s ++ term_product m images t) p

  operations_behind : (s p : Terms Fraction)
      → composition_operations m (first ++ images) s (in_front (length first) p)
      ≡ composition_operations m images s p
  unfolding composition_operations retold
  operations_behind s [] = refl
  operations_behind s (t ∷ p) =
      ap (λ fs. product_operations (constant m t.1) fs
      ++ sum_at 0 s (product_of (constant m t.1) fs)
      ∷ composition_operations m (first ++ images) (s ++ product_of (constant m t.1) fs)
      (in_front (length first) p)) (factors_behind first images t.0)
      ∙ ap (λ os. product_operations (constant m t.1) (factors images t.0)
      ++ sum_at 0 s (term_product m images t) ∷ os)
      (operations_behind (s ++ term_product m images t) p)

module _ (n : ℕ) (t : Transition) (p : Terms Fraction)
    (images : AllArity (t.unknowns + n) t.images) where
  abbrev w : ℕ
  w = t.unknowns + n

  composed : (r : Result FracPoly MapError)
      → Forms w (image_operations n t p) (composition_onto w t.images [] p) r
      → Forms w (image_operations n t p) (after n t p) r
  composed (Ok c) h = (stands_along w c _ _ (composition_onto_is w t.images p images) h.0, h.1)
  composed (Err e) h = h

  pub image_formed : (q : FracPoly) → terms_in q ≡ in_front t.unknowns p → q.arity ≡ w
      → (gs : List (Terms Fraction)) → AreImagesBehind t gs → (r : Result FracPoly MapError)
      → Forms q.arity (composition_operations q.arity gs [] (terms_in q))
      (composition_onto q.arity gs [] (terms_in q)) r
      → Forms w (image_operations n t p) (after n t p) r
  image_formed q terms arity gs b r h =
      let whole = b.first ++ t.images in
      let h1 = subst (λ m. Forms m (composition_operations m gs [] (terms_in q))
      (composition_onto m gs [] (terms_in q)) r) arity h in
      let h2 = subst (λ x. Forms w (composition_operations w gs [] x)
      (composition_onto w gs [] x) r) terms h1 in
      let h3 = subst (λ ys. Forms w (composition_operations w ys [] (in_front t.unknowns p))
      (composition_onto w ys [] (in_front t.unknowns p)) r) b.order h2 in
      let h4 = subst (λ k. Forms w (composition_operations w whole [] (in_front k p))
      (composition_onto w whole [] (in_front k p)) r) (sym b.count) h3 in
      let h5 = subst (λ os. Forms w os
      (composition_onto w whole [] (in_front (length b.first) p)) r)
      (operations_behind w b.first t.images [] p) h4 in
      composed r (subst (λ x. Forms w (image_operations n t p) x r)
      (onto_behind w b.first t.images [] p) h5)

  pub image_terms : (c : FracPoly) → StandsFor w c (after n t p)
      → terms_in c ≡ collect rationals grevlex (after n t p)
  image_terms c s = terms_are w c (after n t p) (arity-compose w ℚ p t.images images) s
