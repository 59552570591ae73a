-- The images of a loop's variables, one after another.
--   no_images, more_images
use Rattle.std.proofs.Common.{◌≡◌, ◌+◌, ℕ, List, [], ◌∷◌, ◌++◌, map, arith, ap₂, length, get_or, sym, ap, ◌∙◌}
use Rattle.std.proofs.lemmas.List.{map-append}
use Rattle.algebra.specs.Fraction.{Fraction, ℚ}
use Rattle.polynomials.specs.Terms.{Terms, variables}
use Rattle.poly.specs.Seen.{terms_in, terms_each}
use Rattle.loops.specs.Turning.{places}
use Rattle.corollaries.specs.Order.{arity, order, place_in}
use Rattle.invariant_fix.proofs.Places.{places_more, order_all}
use Rattle.loop_model.specs.FracPoly.{FracPoly}

abbrev pub image_at : (m : ℕ) (is : List ℕ) → ℕ → Terms Fraction
image_at m is i = get_or (variables ℚ (arity m is)) (place_in (order m is) i) []

module _ (m : ℕ) (is : List ℕ) where
  pub no_images : {ps : List FracPoly} → ps ≡ [] → terms_each ps ≡ map (image_at m is) (places 0 0)
  unfolding places
  no_images e = ap terms_each e

  pub more_images : (i : ℕ) {js : List ℕ} (ps : List FracPoly) {news : List FracPoly} (p : FracPoly)
      → js ≡ order m is → news ≡ ps ++ p ∷ []
      → terms_in p ≡ get_or (variables ℚ (length js)) (place_in js i) []
      → terms_each ps ≡ map (image_at m is) (places 0 i)
      → terms_each news ≡ map (image_at m is) (places 0 (i + 1))
  more_images i ps p o n e h =
      ap terms_each n ∙ map-append terms_in ps (p ∷ []) ∙ ap₂ (λ xs x. xs ++ x ∷ []) h here
      ∙ sym (ap (map (image_at m is)) (places_more 0 i)
      ∙ map-append (image_at m is) (places 0 i) ((0 + i) ∷ [])
      ∙ ap (λ k. map (image_at m is) (places 0 i) ++ image_at m is k ∷ []) (omega arith))
    where
      here : terms_in p ≡ image_at m is i
      here = e ∙ ap (λ l. get_or (variables ℚ (length l)) (place_in l i) []) o
          ∙ ap (λ n. get_or (variables ℚ n) (place_in (order m is) i) []) (order_all m is)
