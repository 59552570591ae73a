-- Places in the order, one after another.
--   kept_more        what is kept of one place more
--   looked_more      a look at one place more
--   place_below      what is in the order has a place there
use Rattle.std.proofs.Common.{◌≡◌, ℕ, zero, suc, ◌+◌, ◌<◌, ◌≤◌, Bool, true, false, ◌||◌, cond, eqb, not, List, [], ◌∷◌, ◌++◌, length, get_or, filter, drop, arith, refl, sym, ap, ◌∙◌}
use Rattle.std.proofs.lemmas.List.{append_assoc, append-nil, at_drop_more, at_drop_all, length-append}
use Rattle.std.proofs.lemmas.List.Elements.{filter-append}
use Rattle.std.proofs.lemmas.List.Filters.{length-filter_both}
use Rattle.std.proofs.lemmas.Bool.{eq-eqb, ne_eqb}
use Rattle.loops.specs.Turning.{places}
use Rattle.loops.proofs.Lists.{along, length-places}
use Rattle.corollaries.specs.Order.{is_among, place_in, hidden, visible, order, arity}
use Rattle.corollaries.proofs.Permuted.{order_has_all}

pub places_more : (a r : ℕ) → places a (r + 1) ≡ places a r ++ (a + r) ∷ []
unfolding places
places_more a zero = ap (λ k. k ∷ []) (omega arith)
places_more a (suc r) = along (places a) (suc r + 1) (suc (r + 1)) (omega arith)
    ∙ ap (λ l. a ∷ l) (places_more (suc a) r ∙ ap (λ k. places (suc a) r ++ k ∷ []) (omega arith))

pub none_yet : (p : ℕ → Bool) (olds : List ℕ) → olds ≡ olds ++ filter p (places 0 0)
unfolding places
none_yet p olds = sym (append-nil olds)

module _ (p : ℕ → Bool) (k : ℕ) (olds : List ℕ) {now : List ℕ}
    (so_far : now ≡ olds ++ filter p (places 0 k)) where
  filtered : filter p (places 0 (k + 1)) ≡ filter p (places 0 k) ++ cond (p k) (k ∷ []) []
  filtered = ap (filter p) (places_more 0 k) ∙ filter-append p (places 0 k) ((0 + k) ∷ [])
      ∙ ap (λ i. filter p (places 0 k) ++ cond (p i) (i ∷ []) []) (omega arith)

  pub kept_more : p k ≡ true → now ++ k ∷ [] ≡ olds ++ filter p (places 0 (k + 1))
  kept_more h = ap (λ l. l ++ k ∷ []) so_far ∙ append_assoc olds (filter p (places 0 k)) (k ∷ [])
      ∙ ap (λ l. olds ++ l) (ap (λ b. filter p (places 0 k) ++ cond b (k ∷ []) []) (sym h)
      ∙ sym filtered)

  pub left_out : p k ≡ false → now ≡ olds ++ filter p (places 0 (k + 1))
  left_out h = so_far ∙ ap (λ l. olds ++ l) (sym (append-nil (filter p (places 0 k)))
      ∙ ap (λ b. filter p (places 0 k) ++ cond b (k ∷ []) []) (sym h) ∙ sym filtered)

pub look_here : (js : List ℕ) (k i : ℕ) → k < length js
    → place_in (drop k js) i ≡ cond (eqb (get_or js k 0) i) 0 (suc (place_in (drop (k + 1) js) i))
unfolding place_in
look_here js k i h = at_drop_more (λ l. place_in l i) js k 0 h

module _ (js : List ℕ) (k i : ℕ) (h : k < length js) where
  pub found_here : get_or js k 0 ≡ i → place_in (drop k js) i ≡ 0
  found_here e = look_here js k i h
      ∙ ap (λ b. cond b 0 (suc (place_in (drop (k + 1) js) i))) (eq-eqb (get_or js k 0) i e)

  pub found_later : ¬ (get_or js k 0 ≡ i)
      → place_in (drop k js) i ≡ suc (place_in (drop (k + 1) js) i)
  found_later e = look_here js k i h
      ∙ ap (λ b. cond b 0 (suc (place_in (drop (k + 1) js) i))) (ne_eqb (get_or js k 0) i e)

pub look_end : (js : List ℕ) (k i : ℕ) → length js ≤ k → place_in (drop k js) i ≡ 0
unfolding place_in
look_end js k i h = at_drop_all (λ l. place_in l i) js k h

pub place_below : (js : List ℕ) (i : ℕ) → is_among js i ≡ true → place_in js i < length js
unfolding place_in
place_below [] i h = absurd (cc)
place_below (j ∷ js) i h = go (eqb j i) h (place_below js i)
  where
    go : (b : Bool) → b || is_among js i ≡ true → (is_among js i ≡ true → place_in js i < length js)
        → cond b 0 (suc (place_in js i)) < suc (length js)
    go true e more = omega arith
    go false e more = let l = more e in omega (arith, l)

module _ (m : ℕ) (is : List ℕ) where
  pub arity_all : arity m is ≡ m
  arity_all = let a = length-filter_both (λ i. not (is_among is i)) (is_among is)
      (λ i. sym (not_not (is_among is i))) (places 0 m) in let b = length-places 0 m in
      omega (arith, a, b)
    where
      not_not : (b : Bool) → not (not b) ≡ b
      not_not true = refl
      not_not false = refl

  pub order_all : length (order m is) ≡ arity m is
  order_all = length-append (hidden m is) (visible m is)

  pub place_of : (i : ℕ) → i < m → place_in (order m is) i < length (order m is)
  place_of i h = place_below (order m is) i (order_has_all m is i h)
