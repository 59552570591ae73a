-- Sums of multiples of the images of monomials.
--   adds_multiple      a multiple, and then the sum
--   composed           the sum of all terms' images
--   put_in             one image more among those that are known
--   found_at           the image of a monomial, at its place
--   found_image        an image that is known is that of its monomial
--   adds_term, adds_known     the multiple of the image of a term's monomial is the term's image
--   known_at           the images in as many variables
--   each_item          what holds of each holds of the item at a place
use Rattle.std.proofs.Common.{◌≡◌, ◌≢◌, ℕ, zero, suc, ◌<◌, List, [], ◌∷◌, ◌++◌, map, length, get_or, take, drop, refl, sym, subst, ◌∙◌, arith, All, Any, IfOk, Option, Some, Result, Ok, Err, Bor}
use Rattle.std.specs.Slice.{IsItemAt}
use Rattle.std.proofs.lemmas.List.Elements.{All-cons, All-append, All-take, All-drop}
use Rattle.algebra.specs.Each.{Each}
use Rattle.algebra.specs.Fraction.{Fraction, ℚ}
use Rattle.polynomials.specs.Terms.{Terms, constant, times}
use Rattle.poly.specs.Seen.{Is, terms_in, terms_each}
use Rattle.poly.specs.Standing.{IsInVariables, StandsFor}
use Rattle.poly.proofs.Standing.{arities_over}
use Rattle.loop_model.specs.FracPoly.{FracPoly}
use Rattle.loop_model.specs.declared.map_error.MapError.{MapError}
use Rattle.counter_run.specs.Composition.{factors}
use Rattle.counter_run.specs.Combination.{IsPowerProduct, AreMonomialImages, IsComposed, AddsMultiple, Adds}
use Rattle.counter_run.specs.OpenSums.{terms_so_far, IsCollected, IsSumWith}
use Rattle.counter_run.specs.Costs.{image_length}
use Rattle.counter_run.specs.declared.combination.MonomialImage.{MonomialImage}
use Rattle.counter_run.specs.declared.composition.Composition.{Composition}
use Rattle.counter_run.specs.declared.open_sum.OpenSum.{OpenSum}
use Rattle.counter_run.proofs.Composed.{arity-factors}
use Rattle.counter_run.proofs.Compositions.{SummingFrom, summing_from_all}
use Rattle.counter_run.proofs.Costs.{Counts, counts_all}
use Rattle.counter_run.proofs.Scaling.{scaled_formed}

pub adds_multiple : (c : Fraction) (q multiple : FracPoly) (s : OpenSum)
    (r : Result OpenSum MapError)
    → Is q.order q.arity (times ℚ (constant q.arity c) (terms_in q)) multiple
    → IfOk r (IsSumWith multiple s) → IfOk r (AddsMultiple c q s)
adds_multiple c q multiple s (Ok next) h d = record {
  multiple = multiple;
  is = record { order = refl; arity = h.arity; same = h.same };
  sum = d;
}
adds_multiple c q multiple s (Err e) h d = tt

pub composed : (m : ℕ) (images : List (Terms Fraction)) (p left : Terms Fraction) (s : OpenSum)
    (c : Composition) → left ≡ [] → s.total.arity ≡ m
    → SummingFrom m images p left (terms_so_far s) → IsCollected s c.polynomial
    → Counts (image_length m images) left p s.came → c.cost ≡ s.came → IsComposed m images p c
composed m images p left s c e a goes is counts same = (
  summing_from_all m images p left (terms_so_far s) e goes c.polynomial
      (subst (λ k. StandsFor k c.polynomial (terms_so_far s)) a is),
  same ∙ counts_all (image_length m images) p left s.came e counts,
)

pub put_in : (m : ℕ) (images : List (Terms Fraction)) (ts : List MonomialImage) (i : ℕ)
    (t : MonomialImage) → AreMonomialImages m images ts
    → IsPowerProduct m images t.monomial t.image
    → AreMonomialImages m images (take i ts ++ t ∷ drop i ts)
put_in m images ts i t h k =
    let P : MonomialImage → Type 0 = λ x. IsPowerProduct m images x.monomial x.image in
    All-append P (take i ts) (t ∷ drop i ts) (All-take P i ts h)
    (All-cons P t (drop i ts) k (All-drop P i ts h))

pub found_at : (ts : List MonomialImage) (i : ℕ) (r : Option (Bor MonomialImage))
    (item : Bor MonomialImage) (e : List ℕ) → IsItemAt ts i r → r ≡ Some item
    → item.now.monomial ≡ e → Any (λ t. (t.monomial ≡ e) × (t.image ≡ item.now.image)) ts
found_at ts i r item e h is same =
    let g : IsItemAt ts i (Some item) = subst (IsItemAt ts i) is h in
    let at : item.now ≡ get_or ts i item.now = g.1 in
    let inside : i < length ts = g.3.0 in
    (i, item.now, inside, sym at, (same, refl))

pub each_item : {X Y : Type 0} (f : X → Y) (P : Y → Type 0) (xs : List X) (i : ℕ) (x : X)
    → Each P (map f xs) → i < length xs → x ≡ get_or xs i x → P (f x)
unfolding Each
each_item f P [] i x h l is = absurd (omega arith)
each_item f P (y ∷ xs) zero x h l is = subst (λ z. P (f z)) (sym is) h.0
each_item f P (y ∷ xs) (suc i) x h l is = each_item f P xs i x h.1 (omega arith) is

module _ (m : ℕ) where
  pub found_image : (images : List (Terms Fraction)) (ts : List MonomialImage) (e : List ℕ)
      (q : FracPoly) → AreMonomialImages m images ts
      → Any (λ t. (t.monomial ≡ e) × (t.image ≡ q)) ts → IsPowerProduct m images e q
  found_image images ts e q h (k, t, inside, is, same) =
      let here : IsPowerProduct m images t.monomial t.image =
      subst (λ (u : MonomialImage). IsPowerProduct m images u.monomial u.image) is (h k t inside) in
      subst (λ x. IsPowerProduct m images e x) same.1
      (subst (λ d. IsPowerProduct m images d t.image) same.0 here)

  module _ (images : List FracPoly) (over : All (IsInVariables m) images) (t : List ℕ × Fraction)
      (n : t.1 ≢ ℚ.zero) (q : FracPoly) (total : OpenSum)
      (h : IsPowerProduct m (terms_each images) t.0 q) where
    pub adds_term : (next : OpenSum) → AddsMultiple t.1 q total next
        → Adds m (terms_each images) t total next
    adds_term next k = record {
      term = k.multiple;
      formed =
          scaled_formed m t.1 n (factors (terms_each images) t.0)
          (arity-factors m (terms_each images) t.0 (arities_over m images over)) q k.multiple h
          k.is;
      sum = k.sum;
    }

    pub adds_known : (r : Result OpenSum MapError) → IfOk r (AddsMultiple t.1 q total)
        → IfOk r (Adds m (terms_each images) t total)
    adds_known (Ok next) k = adds_term next k
    adds_known (Err e) k = tt

pub known_at : (k m : ℕ) (images : List (Terms Fraction)) (ts : List MonomialImage) → k ≡ m
    → AreMonomialImages k images ts → AreMonomialImages m images ts
known_at k m images ts e h = subst (λ j. AreMonomialImages j images ts) e h
