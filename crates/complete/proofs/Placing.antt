-- Lists in order (specs/Pairs), over plain variables.
--   in_order_drop              what is behind a place
--   all_above, all_below       what stands above or below one that is above or below
--   is_lt_not, less_up, up_less, not_below     what is less, or isn't
--   keys_total                 the keys order all pairs
--   keys_apart                 pairs with two left places aren't alike
--   keys_are, enter_is         they are the order of waiting pairs
use Rattle.std.proofs.Common.{◌≡◌, ◌≢◌, ℕ, zero, suc, ◌<◌, Bool, true, false, cond, List, [], ◌∷◌, map, take, drop, length, get_or, sum, refl, sym, ap, subst, ◌∙◌, arith, Ordering, Less, Equal, Greater, nat_cmp}
use Rattle.std.specs.Cmp.{IsTotalOrder}
use Rattle.std.specs.List.{All}
use Rattle.std.specs.Ordering.{is_lt, is_gt, ordering_then, ordering_reverse}
use Rattle.std.proofs.lemmas.Cmp.{nat_cmp_total, nat_list_cmp_total, on_total, then_total, alike_right, upto, ranked}
use Rattle.std.proofs.lemmas.List.Elements.{All-nil, All-cons}
use Rattle.polynomials.specs.Order.{Rank, compare}
use Rattle.machines.specs.Pairs.{multiple, mixes_degrees, compare_pairs, beside, put_pair}
use Rattle.complete.specs.declared.pair.Pair.{Pair}
use Rattle.complete.specs.Pairs.{pair_of, keys, InOrder, enter, Stands, AllStand, HasSugar, AllHaveSugar}

pub lt_less : (o : Ordering) → is_lt o ≡ true → o ≡ Less
lt_less Less h = refl
lt_less Equal h = absurd (let z : ⊥ = cc in z)
lt_less Greater h = absurd (let z : ⊥ = cc in z)

pub less_gt : (o : Ordering) → is_lt o ≡ true → is_gt o ≡ false
less_gt Less h = refl
less_gt Equal h = refl
less_gt Greater h = absurd (let z : ⊥ = cc in z)

pub is_lt_not : (o : Ordering) → (o ≡ Less → ⊥) → is_lt o ≡ false
is_lt_not Less n = absurd (n refl)
is_lt_not Equal n = refl
is_lt_not Greater n = refl

reversed_lt : (o : Ordering) → is_lt o ≡ false → is_gt (ordering_reverse o) ≡ false
reversed_lt Less h = absurd (let z : ⊥ = cc in z)
reversed_lt Equal h = refl
reversed_lt Greater h = refl

reversed_gt : (o : Ordering) → is_gt o ≡ false → is_lt (ordering_reverse o) ≡ false
reversed_gt Less h = refl
reversed_gt Equal h = refl
reversed_gt Greater h = absurd (let z : ⊥ = cc in z)

module _ {X : Type 0} (R : X → X → Ordering) (o : IsTotalOrder R) where
  pub less_up : (a b c : X) → is_lt (R a b) ≡ true → is_gt (R b c) ≡ false → is_lt (R a c) ≡ true
  less_up a b c h k = go (R b c) refl
    where
      go : (s : Ordering) → R b c ≡ s → is_lt (R a c) ≡ true
      go Less e = ap is_lt (o.trans a b c (lt_less (R a b) h) e)
      go Equal e = ap is_lt (sym (alike_right o b c a e)) ∙ h
      go Greater e = absurd (let z : ⊥ = cc in z)

  pub up_less : (a b c : X) → is_gt (R a b) ≡ false → is_lt (R b c) ≡ true → is_lt (R a c) ≡ true
  up_less a b c h k = go (R a b) refl
    where
      go : (s : Ordering) → R a b ≡ s → is_lt (R a c) ≡ true
      go Less e = ap is_lt (o.trans a b c e (lt_less (R b c) k))
      go Equal e = ap is_lt (o.congr a b c e) ∙ k
      go Greater e = absurd (let z : ⊥ = cc in z)

  pub not_below : (a b : X) → is_lt (R a b) ≡ false → is_gt (R b a) ≡ false
  not_below a b h = ap is_gt (o.antisymm b a) ∙ reversed_lt (R a b) h

  not_above : (a b : X) → is_gt (R a b) ≡ false → is_lt (R b a) ≡ false
  not_above a b h = ap is_lt (o.antisymm b a) ∙ reversed_gt (R a b) h

  pub in_order_drop : (k : ℕ) (xs : List X) → InOrder R xs → InOrder R (drop k xs)
  unfolding InOrder
  in_order_drop zero xs h = h
  in_order_drop (suc k) [] h = tt
  in_order_drop (suc k) (x ∷ xs) h = in_order_drop k xs h.1

  pub all_above : (x : X) (xs : List X) (m : ℕ) (y : X) → m < length xs → y ≡ get_or xs m y
      → is_lt (R x y) ≡ true → InOrder R xs → All (λ b. is_lt (R x b) ≡ true) (drop m xs)
  unfolding InOrder
  all_above x [] m y l e h i = absurd (omega arith)
  all_above x (z ∷ zs) zero y l e h i =
      let at : is_lt (R x z) ≡ true = subst (λ b. is_lt (R x b) ≡ true) e h in
      All-cons (λ b. is_lt (R x b) ≡ true) z zs at (λ k d b. less_up x z (get_or zs k d) at
      (i.0 k d b))
  all_above x (z ∷ zs) (suc m) y l e h i = all_above x zs m y (omega arith) e h i.1

  pub all_below : (x : X) (xs : List X) (m : ℕ) (y : X) → m < length xs → y ≡ get_or xs m y
      → is_lt (R x y) ≡ false → InOrder R xs → All (λ b. is_lt (R x b) ≡ false) (take (suc m) xs)
  unfolding InOrder
  all_below x [] m y l e h i = absurd (omega arith)
  all_below x (z ∷ zs) zero y l e h i = All-cons (λ b. is_lt (R x b) ≡ false) z []
      (subst (λ b. is_lt (R x b) ≡ false) e h) (All-nil (λ b. is_lt (R x b) ≡ false))
  all_below x (z ∷ zs) (suc m) y l e h i =
      let up : is_gt (R z y) ≡ false = subst (λ b. is_gt (R z b) ≡ false) (sym e)
      (i.0 m y (omega arith)) in
      All-cons (λ b. is_lt (R x b) ≡ false) z (take (suc m) zs)
      (not_above z x (upto o z y x up (not_below x y h))) (all_below x zs m y (omega arith) e h
      i.1)

-- ---- the keys of pairs
tied : {X : Type 0} → IsTotalOrder {K = X} (λ a b. Equal)
tied = record { antisymm = λ a b. refl; trans = λ a b c h k. h; congr = λ a b c h. refl }

by_sugar_total : (mixed : Bool)
    → IsTotalOrder {K = Pair} (λ a b. cond mixed (nat_cmp a.parts.value.sugar b.parts.value.sugar)
    Equal)
by_sugar_total true = on_total (λ (a : Pair). a.parts.value.sugar) nat_cmp_total
by_sugar_total false = tied

module _ (O : Rank) where
  multiples_total : IsTotalOrder {K = Pair} (λ a b. compare O a.parts.value.multiple
      b.parts.value.multiple)
  unfolding compare
  multiples_total = on_total (λ (a : Pair). O a.parts.value.multiple) nat_list_cmp_total

  pub keys_total : (mixed : Bool) → IsTotalOrder (keys O mixed)
  keys_total mixed =
      then_total (by_sugar_total mixed)
      (then_total (on_total (λ (a : Pair). sum a.parts.value.multiple) nat_cmp_total)
      (then_total multiples_total
      (then_total (on_total (λ (a : Pair). a.parts.value.left) nat_cmp_total)
      (on_total (λ (a : Pair). a.parts.value.right) nat_cmp_total))))

  pub keys_apart : (mixed : Bool) (a b : Pair) → a.parts.value.left ≢ b.parts.value.left
      → keys O mixed a b ≢ Equal
  keys_apart mixed a b n e = n (tied_left (nat_cmp a.parts.value.left b.parts.value.left) refl
      (tied_later (compare O a.parts.value.multiple b.parts.value.multiple) _
      (tied_later (nat_cmp (sum a.parts.value.multiple) (sum b.parts.value.multiple)) _
      (tied_later (cond mixed (nat_cmp a.parts.value.sugar b.parts.value.sugar) Equal) _ e))))
    where
      tied_later : (r s : Ordering) → ordering_then r s ≡ Equal → s ≡ Equal
      tied_later Less s e = absurd (let z : ⊥ = cc in z)
      tied_later Equal s e = e
      tied_later Greater s e = absurd (let z : ⊥ = cc in z)

      tied_left : (r : Ordering) → r ≡ nat_cmp a.parts.value.left b.parts.value.left
          → ordering_then r (nat_cmp a.parts.value.right b.parts.value.right) ≡ Equal
          → a.parts.value.left ≡ b.parts.value.left
      tied_left Less h e = absurd (let z : ⊥ = cc in z)
      tied_left Equal h e = ranked a.parts.value.left b.parts.value.left Equal h
      tied_left Greater h e = absurd (let z : ⊥ = cc in z)

  module _ (ls : List (List ℕ)) (ss : List ℕ) where
    pub keys_are : (mixed : Bool) (m : ℕ) (a b : Pair) → mixed ≡ mixes_degrees O m
        → length a.parts.value.multiple ≡ m → Stands ls a → Stands ls b → HasSugar ls ss a
        → HasSugar ls ss b
        → keys O mixed a b ≡ compare_pairs O ls ss (pair_of a) (pair_of b)
    keys_are mixed m a b e long s t p q =
        let mixes : mixed ≡ mixes_degrees O (length (multiple ls (pair_of a))) = e
        ∙ ap (mixes_degrees O) (sym long ∙ ap length s.multiple_is) in
        λ i. ordering_then (cond (mixes i) (nat_cmp (p i) (q i)) Equal)
        (ordering_then (nat_cmp (sum (s.multiple_is i)) (sum (t.multiple_is i)))
        (ordering_then (compare O (s.multiple_is i) (t.multiple_is i))
        (ordering_then (nat_cmp a.parts.value.left b.parts.value.left)
        (nat_cmp a.parts.value.right b.parts.value.right))))

    pub enter_is : (mixed : Bool) (m : ℕ) (a : Pair) → mixed ≡ mixes_degrees O m
        → length a.parts.value.multiple ≡ m → Stands ls a → HasSugar ls ss a → (ps : List Pair)
        → AllStand ls ps → AllHaveSugar ls ss ps
        → map pair_of (enter (keys O mixed) a ps)
        ≡ put_pair O ls ss (pair_of a) (map pair_of ps)
    unfolding enter put_pair beside
    enter_is mixed m a e long s q [] t r = refl
    enter_is mixed m a e long s q (b ∷ ps) t r =
        ap (λ x. map pair_of (cond (is_lt x) (a ∷ b ∷ ps) (b ∷ enter (keys O mixed) a ps)))
        (keys_are mixed m a b e long s (t 0 b (omega arith)) q (r 0 b (omega arith)))
        ∙ go (compare_pairs O ls ss (pair_of a) (pair_of b)) (enter_is mixed m a e long s q ps
        (λ k d l. t (suc k) d (omega arith)) (λ k d l. r (suc k) d (omega arith)))
      where
        go : (x : Ordering) → map pair_of (enter (keys O mixed) a ps)
            ≡ put_pair O ls ss (pair_of a) (map pair_of ps)
            → map pair_of (cond (is_lt x) (a ∷ b ∷ ps) (b ∷ enter (keys O mixed) a ps))
            ≡ beside O x (pair_of a) (pair_of b) (map pair_of ps)
            (put_pair O ls ss (pair_of a) (map pair_of ps))
        go Less ih = refl
        go Equal ih = ap (λ w. pair_of b ∷ w) ih
        go Greater ih = ap (λ w. pair_of b ∷ w) ih
