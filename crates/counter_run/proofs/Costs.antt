-- What words cost.
--   saturated, saturated_sum       sums of numbers that count no further than a greatest one
--   counts_none, counts_more, counts_all      the count of no terms, of one more, and of all
--   formed_length, formed_length_at     what stands for a term's product has so many terms
--   stopped_on                what stops a part of a composition stops it
--   composition_of_word       what is composed costs what the word does
--   keeping_none, keeping_some     what it costs to keep a word
--   costs-append, costs-push, costs-split     the costs of more words
--   cost_of_word              all that a word costs, and all before it;  cost_told: where it isn't too much
use Rattle.std.proofs.Common.{◌≡◌, ℕ, ◌+◌, ◌*◌, ◌<◌, ◌≤◌, true, false, List, [], ◌∷◌, ◌++◌, length, min, nat_lt, sum_by, refl, sym, ap, ap₂, subst, ◌∙◌, arith, Result, Ok, Err}
use Rattle.std.specs.Prelude.{if◌then◌else◌}
use Rattle.std.specs.Result.{IsErrAnd}
use Rattle.std.proofs.lemmas.Bool.Decides.{nat_tests}
use Rattle.std.proofs.lemmas.List.{length-map}
use Rattle.std.proofs.lemmas.List.Sums.{sum_by-cons, sum_by-append, sum_by_push}
use Rattle.algebra.specs.Fraction.{Fraction, ℚ, rationals}
use Rattle.algebra.proofs.Fractions.{ℚ_field}
use Rattle.polynomials.specs.Terms.{Terms, Same, AllSame, constant}
use Rattle.polynomials.specs.Polynomial.{Arity, AllArity}
use Rattle.polynomials.specs.Order.{grevlex}
use Rattle.polynomials.proofs.Arity.{arity-constant}
use Rattle.polynomials.proofs.Orders.{grevlex_order}
use Rattle.polynomials.proofs.Same.{Same-refl, Same-trans}
use Rattle.machines.specs.Collect.{collect}
use Rattle.machines.proofs.Collecting.{collect-is, collect-polynomial, collect-same}
use Rattle.loops.specs.Program.{Expr, Program}
use Rattle.rounds.specs.Word.{after_word}
use Rattle.rounds.proofs.Word.{arity-after_word}
use Rattle.poly.specs.Seen.{terms_in, terms_each}
use Rattle.poly.specs.Standing.{StandsFor, AllStandFor}
use Rattle.poly.proofs.Standing.{stands_same, stands_over, arities_over}
use Rattle.loop_model.specs.FracPoly.{FracPoly}
use Rattle.loop_model.specs.Stops.{Stops, Forms}
use Rattle.loop_model.specs.declared.map_error.MapError.{MapError}
use Rattle.counter_run.specs.Combination.{IsComposition}
use Rattle.counter_run.specs.Composition.{factors, product_operations, term_product, composition_operations}
use Rattle.counter_run.specs.Costs.{kept_cost, most_cost, most_count, image_length, composition_cost, letter_cost, start_cost, keeping_cost, cost, costs}
use Rattle.counter_run.specs.Images.{collected_after}
use Rattle.counter_run.specs.declared.composition.Composition.{Composition}
use Rattle.counter_run.proofs.Compositions.{same_product_of, same_factors}
use Rattle.counter_run.proofs.Composed.{arity-product_of, arity-factors}
use Rattle.counter_run.proofs.WordImages.{terms_are}

-- ---- sums that go no further than a greatest number
pub saturated : (s k most : ℕ) → min (min s most + k) most ≡ min (s + k) most
saturated s k most = omega arith

pub saturated_sum : (s k most : ℕ) → min (min s most + min k most) most ≡ min (s + k) most
saturated_sum s k most = omega arith

-- ---- term by term
pub record Counts (f : List ℕ × Fraction → ℕ) (left p : Terms Fraction) (count : ℕ) : Type 0 where
  done : ℕ
  all : done + sum_by f left ≡ sum_by f p
  counted : count ≡ min done most_count

module _ (f : List ℕ × Fraction → ℕ) (p : Terms Fraction) where
  pub counts_none : (left : Terms Fraction) (count : ℕ) → left ≡ p → count ≡ 0
      → Counts f left p count
  counts_none left count e z = record {
    done = 0;
    all = let same : sum_by f left ≡ sum_by f p = ap (sum_by f) e in omega arith;
    counted = z;
  }

  pub counts_more : (t : List ℕ × Fraction) (left behind : Terms Fraction) (count more next : ℕ)
      → left ≡ t ∷ behind → Counts f left p count → more ≡ f t
      → next ≡ min (count + more) most_count → Counts f behind p next
  counts_more t left behind count more next order h same e = record {
    done = h.done + f t;
    all =
        let first : sum_by f left ≡ f t + sum_by f behind =
        ap (sum_by f) order ∙ sum_by-cons f t behind in
        let so_far : h.done + sum_by f left ≡ sum_by f p = h.all in omega arith;
    counted =
        e ∙ ap (λ k. min k most_count) (ap₂ ◌+◌ h.counted same)
        ∙ saturated h.done (f t) most_count;
  }

  pub counts_all : (left : Terms Fraction) (count : ℕ) → left ≡ [] → Counts f left p count
      → count ≡ min (sum_by f p) most_count
  counts_all left count e h =
      let none : sum_by f left ≡ 0 = ap (sum_by f) e in
      let so_far : h.done + sum_by f left ≡ sum_by f p = h.all in
      let all : h.done ≡ sum_by f p = omega arith in h.counted ∙ ap (λ k. min k most_count) all

pub stopped_on : (m : ℕ) (images : List (Terms Fraction)) (p : Terms Fraction) (e : MapError)
    (r : Result Composition MapError) → IsErrAnd r (λ x. x ≡ e)
    → Stops m (composition_operations m images [] p) e → IsComposition m images p r
stopped_on m images p e (Ok c) is h = absurd is
stopped_on m images p e (Err x) is h =
    subst (Stops m (composition_operations m images [] p)) (sym is) h

-- ---- how long images are
module _ (m : ℕ) where
  arity-term : (images : List (Terms Fraction)) (t : List ℕ × Fraction) → AllArity m images
      → Arity m (term_product m images t)
  arity-term images t a =
      arity-product_of m (constant m t.1) (factors images t.0) (arity-constant m t.1)
      (arity-factors m images t.0 a)

  pub formed_length : (images : List (Terms Fraction)) (t : List ℕ × Fraction) (q : FracPoly)
      → AllArity m images
      → Forms m (product_operations (constant m t.1) (factors images t.0))
      (term_product m images t) (Ok q) → length q.terms.items ≡ image_length m images t
  formed_length images t q a d =
      let is : terms_in q ≡ collect rationals grevlex (term_product m images t) =
      terms_are m q (term_product m images t) (arity-term images t a) d.0 in
      let long : length (terms_in q) ≡ length q.terms.items = length-map _ _ in
      sym long ∙ ap length is

  pub formed_length_at : (k : ℕ) → k ≡ m → (qs images : List (Terms Fraction)) → qs ≡ images
      → (t : List ℕ × Fraction) (q : FracPoly) → AllArity m images
      → Forms k (product_operations (constant k t.1) (factors qs t.0)) (term_product k qs t) (Ok q)
      → length q.terms.items ≡ image_length m images t
  formed_length_at k same qs images are t q a d =
      formed_length images t q a
      (subst (λ j. Forms j (product_operations (constant j t.1) (factors images t.0))
      (term_product j images t) (Ok q)) same
      (subst (λ xs. Forms k (product_operations (constant k t.1) (factors xs t.0))
      (term_product k xs t) (Ok q)) are d))

  module _ (images maps : List (Terms Fraction)) (a : AllArity m images) (b : AllArity m maps)
      (same : AllSame ℚ images maps) where
    same_length : (t : List ℕ × Fraction) → image_length m images t ≡ image_length m maps t
    same_length t =
        let one : Same ℚ (term_product m images t) (term_product m maps t) =
        same_product_of (constant m t.1) (constant m t.1) (factors images t.0) (factors maps t.0)
        (Same-refl ℚ (constant m t.1)) (same_factors images maps t.0 same) in
        ap length
        (collect-is ℚ_field grevlex grevlex_order m (term_product m maps t)
        (collect rationals grevlex (term_product m images t)) (arity-term maps t b)
        (collect-polynomial ℚ_field grevlex grevlex_order m (term_product m images t)
        (arity-term images t a))
        (Same-trans ℚ (collect-same ℚ_field grevlex grevlex_order (term_product m images t)) one))

    same_cost : (p : Terms Fraction) → composition_cost m images p ≡ composition_cost m maps p
    same_cost [] = refl
    same_cost (t ∷ p) =
        sum_by-cons (image_length m images) t p ∙ ap₂ ◌+◌ (same_length t) (same_cost p)
        ∙ sym (sum_by-cons (image_length m maps) t p)

-- ---- what a word costs
module _ (program : Program (Expr ℕ)) (p : Terms Fraction)
    (arity : Arity (length program.names) p) where
  abbrev m : ℕ
  m = length program.names

  module _ (q : FracPoly) (w : List ℕ) (stands : StandsFor m q (after_word program w p)) where
    collected : terms_in q ≡ collected_after program p w
    collected = terms_are m q (after_word program w p) (arity-after_word program w p arity) stands

    pub cost_of_composition : (images : List FracPoly) (maps : List (Terms Fraction))
        → AllStandFor m images maps → AllArity m maps
        → composition_cost q.arity (terms_each images) (terms_in q)
        ≡ composition_cost m maps (collected_after program p w)
    cost_of_composition images maps all maps_arity =
        ap (λ k. composition_cost k (terms_each images) (terms_in q)) stands.arity
        ∙ ap (composition_cost m (terms_each images)) collected
        ∙ same_cost m (terms_each images) maps
        (arities_over m images (stands_over m images maps all)) maps_arity
        (stands_same m images maps all) (collected_after program p w)

    length_is : length q.terms.items ≡ length (collected_after program p w)
    length_is =
        let long : length (terms_in q) ≡ length q.terms.items = length-map _ _ in
        sym long ∙ ap length collected

    pub keeping_some : (n k : ℕ) → nat_lt (length w) n ≡ true
        → k ≡ min (kept_cost * length q.terms.items) most_count
        → k ≡ min (keeping_cost program p n w) most_count
    unfolding keeping_cost
    keeping_some n k is e =
        e ∙ ap (λ j. min j most_count) (ap (λ j. kept_cost * j) length_is
        ∙ sym (ap (λ b. if b then kept_cost * length (collected_after program p w) else 0) is))

  pub keeping_none : (n : ℕ) (w : List ℕ) → nat_lt (length w) n ≡ false
      → 0 ≡ min (keeping_cost program p n w) most_count
  unfolding keeping_cost
  keeping_none n w is =
      ap (λ j. min j most_count)
      (sym (ap (λ b. if b then kept_cost * length (collected_after program p w) else 0) is))

-- ---- what words cost
module _ (program : Program (Expr ℕ)) (p : Terms Fraction) (n : ℕ) where
  pub costs-append : (xs ys : List (List ℕ))
      → costs program p n (xs ++ ys) ≡ costs program p n xs + costs program p n ys
  costs-append xs ys = sum_by-append (cost program p n) xs ys

  pub costs-push : (xs : List (List ℕ)) (w : List ℕ)
      → costs program p n (xs ++ w ∷ []) ≡ costs program p n xs + cost program p n w
  costs-push xs w = sum_by_push (cost program p n) xs w

  pub costs-split : (xs : List (List ℕ)) (w : List ℕ) (ys : List (List ℕ))
      → costs program p n (xs ++ w ∷ ys)
      ≡ costs program p n (xs ++ w ∷ []) + costs program p n ys
  costs-split xs w ys =
      let front = costs-append xs (w ∷ ys) in
      let last = costs-push xs w in
      let one : costs program p n (w ∷ ys) ≡ cost program p n w + costs program p n ys =
      sum_by-cons (cost program p n) w ys in omega arith

  module _ (w : List ℕ) (before first at_start kept composing so_far all : ℕ)
      (l : first ≡ min (letter_cost program p w) most_count)
      (s : at_start ≡ min (start_cost program p w) most_count)
      (k : kept ≡ min (keeping_cost program p n w) most_count)
      (a : composing ≡ min (first + at_start) most_count)
      (b : so_far ≡ min (before + composing) most_count)
      (c : all ≡ min (so_far + kept) most_count) where
    right : (x y most : ℕ) → min (x + min y most) most ≡ min (x + y) most
    right x y most = omega arith

    counted : all ≡ min (before + cost program p n w) most_count
    counted =
        let both : composing ≡ min (letter_cost program p w + start_cost program p w) most_count =
        a ∙ ap (λ j. min j most_count) (ap₂ ◌+◌ l s)
        ∙ saturated_sum (letter_cost program p w) (start_cost program p w) most_count in
        let front : so_far
        ≡ min (before + (letter_cost program p w + start_cost program p w)) most_count =
        b ∙ ap (λ j. min (before + j) most_count) both
        ∙ right before (letter_cost program p w + start_cost program p w) most_count in
        let together : before + (letter_cost program p w + start_cost program p w)
        + keeping_cost program p n w ≡ before + cost program p n w = omega arith in
        c ∙ ap (λ j. min j most_count) (ap₂ ◌+◌ front k)
        ∙ saturated_sum (before + (letter_cost program p w + start_cost program p w))
        (keeping_cost program p n w) most_count
        ∙ ap (λ j. min j most_count) together

    below : (x y least most : ℕ) → least < most → x ≡ min y most → x ≤ least → x ≡ y
    below x y least most h e i = omega arith

    above : (x y least most : ℕ) → x ≡ min y most → least < x → least < y
    above x y least most e i = omega arith

    few : nat_lt most_cost all ≡ false → all ≤ most_cost
    few e = grind (arith, nat_tests, e)

    many : nat_lt most_cost all ≡ true → most_cost < all
    many e = grind (arith, nat_tests, e)

    small : most_cost < most_count
    unfolding most_cost
    small = omega arith

    pub cost_little : nat_lt most_cost all ≡ false
        → (all ≡ before + cost program p n w) × (all ≤ most_cost)
    cost_little e = (
      below all (before + cost program p n w) most_cost most_count small counted (few e),
      few e,
    )

    pub cost_much : nat_lt most_cost all ≡ true → most_cost < before + cost program p n w
    cost_much e = above all (before + cost program p n w) most_cost most_count counted (many e)
