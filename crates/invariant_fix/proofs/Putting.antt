-- The elements put in order, one after another.
--   images_count, images_arity, images_over    how many images there are, and their arity
--   put_at, block_at                           an element in order
--   past_at                                    where putting it so is past
--   all_put                                    all of them are the list that the elimination begins with
use Rattle.std.proofs.Common.{◌≡◌, ℕ, ◌<◌, List, map, length, sym, ap, ap₂, subst, ◌∙◌, arith}
use Rattle.std.proofs.lemmas.List.{length-map}
use Rattle.std.proofs.lemmas.Simd.{map-map}
use Rattle.algebra.specs.Fraction.{Fraction, ℚ, rationals, fractions}
use Rattle.polynomials.specs.Order.{grevlex, blocks}
use Rattle.polynomials.specs.Terms.{Terms, compose}
use Rattle.polynomials.specs.Weight.{IsPastComposition}
use Rattle.machines.specs.Collect.{collect}
use Rattle.poly.specs.Seen.{arity_of, terms_in, terms_each}
use Rattle.poly.proofs.Standing.{first_arity}
use Rattle.ideal_ops.specs.Calls.{AreOver}
use Rattle.loop_model.specs.FracPoly.{FracPoly}
use Rattle.invariant_fix.specs.Blocked.{Blocked}
use Rattle.loops.specs.Turning.{places}
use Rattle.loops.proofs.Lists.{length-places}
use Rattle.corollaries.specs.Order.{hidden, arity, images, in_order, block_order, starting}
use Rattle.invariant_fix.specs.Ordering.{AreImages, IsStarting}

abbrev pub put : (m : ℕ) (is : List ℕ) → FracPoly → Terms Fraction
put m is g = collect rationals (block_order m is) (in_order m is (terms_in g))

module _ (m : ℕ) (is : List ℕ) (ps : List FracPoly) (a : AreImages m is ps) (some : 0 < m) where
  pub images_count : length ps ≡ m
  images_count = sym (length-map ps terms_in) ∙ ap length a.0 ∙ length-map (places 0 m) _
      ∙ length-places 0 m

  pub images_arity : arity_of ps ≡ arity m is
  images_arity = first_arity (arity m is) ps a.1 (let c = images_count in omega (arith, c, some))

  pub images_over : AreOver (arity_of ps) ps
  images_over = subst (λ n. AreOver n ps) (sym images_arity) a.1

  pub put_at : (k : ℕ) (g : FracPoly) (p : Blocked) → k ≡ length (hidden m is)
      → terms_in p ≡ collect rationals (blocks k grevlex grevlex)
      (compose ℚ (arity_of ps) (terms_in g) (terms_each ps)) → terms_in p ≡ put m is g
  put_at k g p e h = h ∙ ap
      (λ n. collect rationals (blocks n grevlex grevlex)
      (compose ℚ (arity_of ps) (terms_in g) (terms_each ps))) e
      ∙ ap₂ (λ (n : ℕ) (qs : List (Terms Fraction)). collect rationals (block_order m is)
      (compose ℚ n (terms_in g) qs)) images_arity a.0

  pub block_at : (k : ℕ) (p : Blocked) → k ≡ length (hidden m is)
      → (p.order.first ≡ k) × (p.arity ≡ arity_of ps)
      → (p.order.first ≡ length (hidden m is)) × (p.arity ≡ arity m is)
  block_at k p e h = (h.0 ∙ e, h.1 ∙ images_arity)

  pub past_at : (g : FracPoly) → IsPastComposition fractions (terms_in g) (terms_each ps)
      → IsPastComposition fractions (terms_in g) (images m is)
  past_at g p = subst (IsPastComposition fractions (terms_in g)) a.0 p

pub all_put : (m : ℕ) (is : List ℕ) (basis : List FracPoly) (hs : List Blocked)
    → terms_each hs ≡ map (put m is) basis → IsStarting m is basis hs
unfolding starting
all_put m is basis hs h =
    h ∙ sym (map-map (λ (t : Terms Fraction). collect rationals (block_order m is)
    (in_order m is t)) (λ (g : FracPoly). terms_in g) basis)
    ∙ sym (map-map (collect rationals (block_order m is)) (in_order m is) (terms_each basis))
