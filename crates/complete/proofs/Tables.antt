-- Tables of which pairs wait (specs/Table), over plain variables.
--   row_long, row_without  a row has an entry for each earlier place; one that is false from now on
--   without_long, without_triangle, triangle_more     the rows of a changed table
--   once_drop, once_first  each pair waits once
--   told_either            what the table tells of two places
--   told_taken             a pair that waits no longer
--   told_new               the pairs of a new place
--   once_put, once_new     each pair waits once
use Rattle.std.proofs.Common.{◌≡◌, ◌⊎◌, inl, inr, ℕ, zero, suc, ◌+◌, ◌<◌, ◌≤◌, Bool, true, false, not, ◌&&◌, ◌||◌, cond, eqb, ltb, List, [], ◌∷◌, ◌++◌, map, drop, length, get_or, set, slice_get, Some, refl, sym, ap, ap₂, subst, ◌∙◌, arith, Ordering, Less, Equal, Greater}
use Rattle.std.specs.Cmp.{both_ways}
use Rattle.std.proofs.lemmas.Bool.{eqb-true, eqb-false, eq-eqb, ltb-true, ltb-false, or_cases, or_left, or_right}
use Rattle.std.proofs.lemmas.List.{get_or-set_same, get_or-set_other, length-set, length_push, get_or_append_left, get_or_push, length-map, get_or-map, map-set}
use Rattle.std.proofs.lemmas.Option.{get_or_from_slice_get}
use Rattle.polynomials.specs.Order.{Rank}
use Rattle.machines.specs.Pairs.{coprime, same_pair, waits, compare_pairs, beside, put_pair, with_new}
use Rattle.machines.proofs.Places.{below_get}
use Rattle.machines.proofs.Waiting.{AllWithin, waits_other, waits-put, same_pair_is}
use Rattle.complete.specs.Table.{entry, of_either, IsTriangle, without, Tells, Once}

pub told_either : (t : List (List Bool)) (w : List (ℕ × ℕ)) (i j : ℕ) → Tells t w → (i ≡ j → ⊥)
    → i < length t → j < length t → of_either t i j ≡ waits w i j
told_either t w i j h n k l = go (ltb i j) refl
  where
    go : (b : Bool) → ltb i j ≡ b → of_either t i j ≡ waits w i j
    go true e = ap (λ b. cond b (entry t i j) (entry t j i)) e ∙ h i j (ltb-true i j e) l
    go false e = ap (λ b. cond b (entry t i j) (entry t j i)) e
        ∙ h j i (let q = ltb-false i j e in omega (arith, q, n)) k ∙ waits_other w j i

module _ {X : Type 0} (items : X → List Bool) (rows : List X) (k : ℕ) (row : X)
    (l : k < length (map items rows)) (e : row ≡ get_or rows k row) where
  row_is : items row ≡ get_or (map items rows) k []
  row_is = let size = length-map rows items in ap items e
      ∙ sym (get_or-map items rows k row [] (omega (arith, size, l)))

  pub row_long : IsTriangle (map items rows) → length (items row) ≡ k
  row_long t = ap length row_is ∙ t k l

  pub row_without : (i : ℕ) (new : X) → items new ≡ set (items row) i false
      → map items (set rows k new) ≡ without (map items rows) i k
  row_without i new n = map-set items rows k new ∙ ap (set (map items rows) k) (n
      ∙ ap (λ r. set r i false) row_is)

pub without_long : (t : List (List Bool)) (i j : ℕ) → length (without t i j) ≡ length t
without_long t i j = length-set t j (set (get_or t j []) i false)

pub without_triangle : (t : List (List Bool)) (i j : ℕ) → j < length t → IsTriangle t
    → IsTriangle (without t i j)
without_triangle t i j l h k m = go (eqb k j) refl
  where
    go : (b : Bool) → eqb k j ≡ b → length (get_or (without t i j) k []) ≡ k
    go true e =
        let is : k ≡ j = eqb-true k j e in
        ap (λ y. length (get_or (without t i j) y [])) is
        ∙ ap length (get_or-set_same t j (set (get_or t j []) i false) [] l)
        ∙ length-set (get_or t j []) i false ∙ h j l ∙ sym is
    go false e = ap length (get_or-set_other t j k (set (get_or t j []) i false) []
        (eqb-false k j e)) ∙ h k (let q = without_long t i j in omega (arith, q, m))

pub triangle_more : (t : List (List Bool)) (row : List Bool) → length row ≡ length t → IsTriangle t
    → IsTriangle (t ++ row ∷ [])
triangle_more t row e h k m = go (eqb k (length t)) refl
  where
    go : (b : Bool) → eqb k (length t) ≡ b → length (get_or (t ++ row ∷ []) k []) ≡ k
    go true f = let is : k ≡ length t = eqb-true k (length t) f in
        ap length (get_or_push t row [] k (sym is)) ∙ e ∙ sym is
    go false f =
        let n = eqb-false k (length t) f in
        let q = length_push t row in
        let within : k < length t = omega (arith, n, q, m) in
        ap length (get_or_append_left t (row ∷ []) [] k within) ∙ h k within

pub once_drop : {X : Type 0} (f : X → ℕ × ℕ) (k : ℕ) (xs : List X) → Once (map f xs)
    → Once (map f (drop k xs))
unfolding Once
once_drop f zero xs h = h
once_drop f (suc k) [] h = tt
once_drop f (suc k) (x ∷ xs) h = once_drop f k xs h.1

pub once_first : (a : ℕ × ℕ) (w v : List (ℕ × ℕ)) → v ≡ a ∷ w → Once v → waits w a.0 a.1 ≡ false
unfolding Once
once_first a w v e h = (subst Once e h).0

-- ---- two pairs of places
abbrev Same : ℕ × ℕ → ℕ → ℕ → Bool
Same a i j = same_pair a (i, j) || same_pair a (j, i)

same_cases : (a : ℕ × ℕ) (i j : ℕ) → Same a i j ≡ true → ((a.0 ≡ i) × (a.1 ≡ j))
    ⊎ ((a.0 ≡ j) × (a.1 ≡ i))
same_cases a i j h = go (or_cases (same_pair a (i, j)) (same_pair a (j, i)) h)
  where
    go : (same_pair a (i, j) ≡ true) ⊎ (same_pair a (j, i) ≡ true) → ((a.0 ≡ i) × (a.1 ≡ j))
        ⊎ ((a.0 ≡ j) × (a.1 ≡ i))
    go (inl s) = inl (same_pair_is a i j s)
    go (inr s) = inr (same_pair_is a j i s)

apart : (a : ℕ × ℕ) (i j : ℕ) → (((a.0 ≡ i) × (a.1 ≡ j)) ⊎ ((a.0 ≡ j) × (a.1 ≡ i)) → ⊥)
    → Same a i j ≡ false
apart a i j n = go (Same a i j) refl
  where
    go : (b : Bool) → Same a i j ≡ b → Same a i j ≡ false
    go false e = e
    go true e = absurd (n (same_cases a i j e))

same_back : (a b : ℕ × ℕ) → Same a b.0 b.1 ≡ true → Same b a.0 a.1 ≡ true
same_back a b h = go (same_cases a b.0 b.1 h)
  where
    go : ((a.0 ≡ b.0) × (a.1 ≡ b.1)) ⊎ ((a.0 ≡ b.1) × (a.1 ≡ b.0)) → Same b a.0 a.1 ≡ true
    go (inl e) = or_left (same_pair b (a.0, a.1)) (same_pair b (a.1, a.0))
        (ap₂ ◌&&◌ (eq-eqb b.0 a.0 (sym e.0)) (eq-eqb b.1 a.1 (sym e.1)))
    go (inr e) = or_right (same_pair b (a.0, a.1)) (same_pair b (a.1, a.0))
        (ap₂ ◌&&◌ (eq-eqb b.0 a.1 (sym e.1)) (eq-eqb b.1 a.0 (sym e.0)))

same_swap : (a b : ℕ × ℕ) → Same a b.0 b.1 ≡ Same b a.0 a.1
same_swap a b = both_ways (Same a b.0 b.1) (Same b a.0 a.1) (same_back a b) (same_back b a)

neither : (x y : Bool) → (x || y) ≡ false → (x ≡ false) × (y ≡ false)
neither false false h = (refl, refl)
neither false true h = absurd (let z : ⊥ = cc in z)
neither true y h = absurd (let z : ⊥ = cc in z)

waits_apart : (a : ℕ × ℕ) (w : List (ℕ × ℕ)) (i j : ℕ) → Same a i j ≡ false
    → waits (a ∷ w) i j ≡ waits w i j
unfolding waits
waits_apart a w i j e = ap (λ b. b || waits w i j) e

-- ---- a pair that waits no longer
module _ (t : List (List Bool)) (a : ℕ × ℕ) (w : List (ℕ × ℕ)) (left : a.0 < a.1)
    (inside : a.1 < length t) (triangle : IsTriangle t) where
  abbrev row : List Bool
  row = get_or t a.1 []

  pub told_taken : Tells t (a ∷ w) → waits w a.0 a.1 ≡ false → Tells (without t a.0 a.1) w
  told_taken h none i j l k = by_row (eqb j a.1) refl
    where
      within : j < length t
      within = let q = length-set t a.1 (set row a.0 false) in omega (arith, q, k)

      others : (((a.0 ≡ i) × (a.1 ≡ j)) → ⊥) → entry t i j ≡ waits w i j
      others n = h i j l within ∙ waits_apart a w i j (apart a i j go)
        where
          go : ((a.0 ≡ i) × (a.1 ≡ j)) ⊎ ((a.0 ≡ j) × (a.1 ≡ i)) → ⊥
          go (inl e) = n e
          go (inr e) = (let p = e.0 in let q = e.1 in omega (arith, p, q, l, left))

      by_column : j ≡ a.1 → (b : Bool) → eqb i a.0 ≡ b → get_or (set row a.0 false) i false
          ≡ waits w i j
      by_column e true f =
          let is : i ≡ a.0 = eqb-true i a.0 f in
          ap (λ x. get_or (set row a.0 false) x false) is
          ∙ get_or-set_same row a.0 false false (let size = triangle a.1 inside in
          omega (arith, size, left)) ∙ sym (ap₂ (waits w) is e ∙ none)
      by_column e false f =
          let other : i ≡ a.0 → ⊥ = eqb-false i a.0 f in
          get_or-set_other row a.0 i false false other ∙ ap (λ y. get_or (get_or t y []) i false)
          (sym e) ∙ others (λ p. other (sym p.0))

      by_row : (b : Bool) → eqb j a.1 ≡ b → entry (without t a.0 a.1) i j ≡ waits w i j
      by_row true f =
          let is : j ≡ a.1 = eqb-true j a.1 f in
          ap (λ y. entry (without t a.0 a.1) i y) is
          ∙ ap (λ r. get_or r i false) (get_or-set_same t a.1 (set row a.0 false) [] inside)
          ∙ by_column is (eqb i a.0) refl
      by_row false f =
          let other : j ≡ a.1 → ⊥ = eqb-false j a.1 f in
          ap (λ r. get_or r i false) (get_or-set_other t a.1 j (set row a.0 false) [] other)
          ∙ others (λ p. other (sym p.1))

-- ---- the pairs of a new place
within_none : (n : ℕ) (w : List (ℕ × ℕ)) (y : ℕ) → AllWithin n w → waits w y n ≡ false
unfolding waits AllWithin
within_none n [] y h = refl
within_none n (a ∷ w) y h = ap₂ ◌||◌ (apart a y n go) (within_none n w y h.2)
  where
    go : ((a.0 ≡ y) × (a.1 ≡ n)) ⊎ ((a.0 ≡ n) × (a.1 ≡ y)) → ⊥
    go (inl e) = (let q = e.1 in let l = h.1 in omega (arith, q, l))
    go (inr e) = (let q = e.0 in let l = h.0 in omega (arith, q, l))

module _ (O : Rank) (ls : List (List ℕ)) (ss : List ℕ) where
  pub once_put : (a : ℕ × ℕ) (w : List (ℕ × ℕ)) → waits w a.0 a.1 ≡ false → Once w
      → Once (put_pair O ls ss a w)
  unfolding Once put_pair beside waits
  once_put a [] n h = (n, tt)
  once_put a (b ∷ w) n h = go (compare_pairs O ls ss a b) (once_put a w)
    where
      parts : (Same b a.0 a.1 ≡ false) × (waits w a.0 a.1 ≡ false)
      parts = neither (Same b a.0 a.1) (waits w a.0 a.1) n

      later : Once (put_pair O ls ss a w) → Once (b ∷ put_pair O ls ss a w)
      later ih = (
        waits-put O ls ss a w b.0 b.1 ∙ waits_apart a w b.0 b.1 (same_swap a b ∙ parts.0)
            ∙ h.0,
        ih,
      )

      go : (o : Ordering) → (waits w a.0 a.1 ≡ false → Once w → Once (put_pair O ls ss a w))
          → Once (beside O o a b w (put_pair O ls ss a w))
      go Less ih = (n, h)
      go Equal ih = later (ih parts.1 h.1)
      go Greater ih = later (ih parts.1 h.1)

  module _ (n : ℕ) (d : List ℕ) where
    abbrev put_or_not : List (ℕ × ℕ) → ℕ → Bool → List (ℕ × ℕ)
    put_or_not w k c = cond c w (put_pair O ls ss (k, n) w)

    same_put : (w : List (ℕ × ℕ)) (k i j : ℕ) (c : Bool) → Same (k, n) i j ≡ false
        → waits (put_or_not w k c) i j ≡ waits w i j
    same_put w k i j true e = refl
    same_put w k i j false e = waits-put O ls ss (k, n) w i j ∙ waits_apart (k, n) w i j e

    same_new : (rest : List (List ℕ)) (k : ℕ) (w : List (ℕ × ℕ)) (i j : ℕ)
        → ((y : ℕ) → k ≤ y → Same (y, n) i j ≡ false) → waits (with_new O ls ss n d rest k w) i j
        ≡ waits w i j
    unfolding with_new
    same_new [] k w i j h = refl
    same_new (e ∷ rest) k w i j h = same_new rest (suc k) (put_or_not w k (coprime e d)) i j (λ y l.
        h y (omega arith)) ∙ same_put w k i j (coprime e d) (h k (omega arith))

    behind : (y k : ℕ) → k < n → (y ≡ k → ⊥) → Same (y, n) k n ≡ false
    behind y k l m = apart (y, n) k n go
      where
        go : ((y ≡ k) × (n ≡ n)) ⊎ ((y ≡ n) × (n ≡ k)) → ⊥
        go (inl e) = m e.0
        go (inr e) = (let q = e.1 in omega (arith, q, l))

    free_put : (w : List (ℕ × ℕ)) (k : ℕ) (c : Bool) → k < n
        → ((y : ℕ) → k ≤ y → waits w y n ≡ false) → (y : ℕ) → suc k ≤ y
        → waits (put_or_not w k c) y n ≡ false
    free_put w k c l h y m = same_put w k y n c (apart (k, n) y n go) ∙ h y (omega arith)
      where
        go : ((k ≡ y) × (n ≡ n)) ⊎ ((k ≡ n) × (n ≡ y)) → ⊥
        go (inl e) = (let q = e.0 in omega (arith, q, m))
        go (inr e) = (let q = e.0 in omega (arith, q, l))

    new_is : (rest : List (List ℕ)) (k : ℕ) (w : List (ℕ × ℕ)) (x : ℕ) (e : List ℕ)
        → slice_get rest x ≡ Some e → k + length rest ≤ n → ((y : ℕ) → k ≤ y → waits w y n ≡ false)
        → waits (with_new O ls ss n d rest k w) (k + x) n ≡ not (coprime e d)
    unfolding with_new waits
    new_is [] k w x e at l h = absurd (let f : ⊥ = cc in f)
    new_is (b ∷ rest) k w zero e at l h =
        let is : b ≡ e = cc in
        ap (λ z. waits (with_new O ls ss n d rest (suc k) (put_or_not w k (coprime b d))) z n)
        (let q : k + 0 ≡ k = omega arith in q)
        ∙ same_new rest (suc k) (put_or_not w k (coprime b d)) k n (λ y m. behind y k (omega arith)
        (λ q. omega (arith, q, m)))
        ∙ here (coprime b d) ∙ ap (λ f. not (coprime f d)) is
      where
        here : (c : Bool) → waits (put_or_not w k c) k n ≡ not c
        here true = h k (omega arith)
        here false = waits-put O ls ss (k, n) w k n ∙ itself
          where
            itself : waits ((k, n) ∷ w) k n ≡ true
            itself = or_left (Same (k, n) k n) (waits w k n) (or_left (same_pair (k, n) (k, n))
                (same_pair (k, n) (n, k)) (ap₂ ◌&&◌ (eq-eqb k k refl) (eq-eqb n n refl)))
    new_is (b ∷ rest) k w (suc x) e at l h =
        ap (λ z. waits (with_new O ls ss n d rest (suc k) (put_or_not w k (coprime b d))) z n)
        (let q : k + suc x ≡ suc k + x = omega arith in q)
        ∙ new_is rest (suc k) (put_or_not w k (coprime b d)) x e at (omega arith)
        (free_put w k (coprime b d) (omega arith) h)

    pub once_new : (rest : List (List ℕ)) (k : ℕ) (w : List (ℕ × ℕ)) → k + length rest ≤ n
        → ((y : ℕ) → k ≤ y → waits w y n ≡ false) → Once w → Once (with_new O ls ss n d rest k w)
    unfolding with_new
    once_new [] k w l h o = o
    once_new (e ∷ rest) k w l h o = once_new rest (suc k) (put_or_not w k (coprime e d))
        (omega arith) (free_put w k (coprime e d) (omega arith) h) (go (coprime e d))
      where
        go : (c : Bool) → Once (put_or_not w k c)
        go true = o
        go false = once_put (k, n) w (h k (omega arith)) o

  pub once_all : (d : List ℕ) (es : List (List ℕ)) (w : List (ℕ × ℕ)) → AllWithin (length es) w
      → Once w → Once (with_new O ls ss (length es) d es 0 w)
  once_all d es w h o = once_new (length es) d es 0 w (omega arith) (λ y l.
      within_none (length es) w y h) o

  pub told_new : (t : List (List Bool)) (d : List ℕ) (es : List (List ℕ)) (w : List (ℕ × ℕ))
      → length t ≡ length es → AllWithin (length es) w → Tells t w
      → Tells (t ++ map (λ e. not (coprime e d)) es ∷ []) (with_new O ls ss (length es) d es 0 w)
  told_new t d es w count h told i j l k = go (eqb j (length es)) refl
    where
      row : List Bool
      row = map (λ e. not (coprime e d)) es

      more : length (t ++ row ∷ []) ≡ length t + 1
      more = length_push t row

      old : j < length t → entry (t ++ row ∷ []) i j ≡ waits (with_new O ls ss (length es) d es 0 w)
          i j
      old b = ap (λ r. get_or r i false) (get_or_append_left t (row ∷ []) [] j b) ∙ told i j l b
          ∙ sym (same_new (length es) d es 0 w i j (λ y m. apart (y, length es) i j (apart_from y)))
        where
          apart_from : (y : ℕ) → ((y ≡ i) × (length es ≡ j)) ⊎ ((y ≡ j) × (length es ≡ i)) → ⊥
          apart_from y (inl e) = (let q = e.1 in omega (arith, q, b, count))
          apart_from y (inr e) = (let q = e.1 in omega (arith, q, b, count, l))

      new : j ≡ length es → entry (t ++ row ∷ []) i j ≡ waits (with_new O ls ss (length es) d es 0
          w) i j
      new e =
          let inside : i < length es = omega (arith, e, l) in
          let (x, at) = below_get es i inside in
          ap (λ r. get_or r i false) (get_or_push t row [] j (count ∙ sym e))
          ∙ get_or-map (λ f. not (coprime f d)) es i [] false inside
          ∙ ap (λ f. not (coprime f d)) (get_or_from_slice_get es i x [] at)
          ∙ sym (new_is (length es) d es 0 w i x at (omega arith) (λ y m.
          within_none (length es) w y h))
          ∙ ap₂ (waits (with_new O ls ss (length es) d es 0 w)) (let q : 0 + i ≡ i =
          omega arith in q) (sym e)

      go : (b : Bool) → eqb j (length es) ≡ b → entry (t ++ row ∷ []) i j
          ≡ waits (with_new O ls ss (length es) d es 0 w) i j
      go true f = new (eqb-true j (length es) f)
      go false f = old (let n = eqb-false j (length es) f in omega (arith, n, k, more, count))
