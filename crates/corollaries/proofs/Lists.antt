-- Lemmas of the lists of numbers, pairs and parts.
--   in_numbers, in_flat        what is among numbers, and in a flat map
--   among                      each number below n is among those below n
--   each_flat, each_mapped     what holds of each of such a list
--   each_place                 what stands at a place, or in its stead
--   in_pairs_of                each pair of places below n, the lower one first, is among the pairs
use Rattle.std.proofs.Common.{◌≡◌, ◌⊎◌, inl, inr, ℕ, zero, suc, ◌<◌, ◌≤◌, ◌+◌, ◌-◌, List, [], ◌∷◌, map, flat_map, get_or, arith, sym, subst}
use Rattle.algebra.specs.Each.{Each}
use Rattle.algebra.specs.In.{In}
use Rattle.algebra.proofs.Each.{each-left, each-right}
use Rattle.algebra.proofs.In.{each_in, in_left, in_right, map-in}
use Rattle.exponentials.specs.Table.{numbers}
use Rattle.corollaries.specs.Representation.{pairs_of}

pub in_numbers : (lo n j : ℕ) → lo ≤ j → j < lo + n → In j (numbers lo n)
in_numbers lo zero j l h = absurd (omega (arith, l, h))
in_numbers lo (suc n) j l h = go (cases lo j l) (λ k. in_numbers (suc lo) n j k (omega (arith, h)))
  where
    cases : (a b : ℕ) → a ≤ b → (b ≡ a) ⊎ (suc a ≤ b)
    cases a b l = grind (arith, l)

    go : (j ≡ lo) ⊎ (suc lo ≤ j) → (suc lo ≤ j → In j (numbers (suc lo) n))
        → In j (lo ∷ numbers (suc lo) n)
    go (inl e) later = inl e
    go (inr k) later = inr (later k)

pub in_flat : {X Y : Type 0} (f : X → List Y) (xs : List X) (x : X) (y : Y) → In x xs → In y (f x)
    → In y (flat_map f xs)
in_flat f [] x y i j = absurd i
in_flat f (z ∷ xs) x y (inl e) j = in_left y (f z) (flat_map f xs) (subst (λ u. In y (f u)) e j)
in_flat f (z ∷ xs) x y (inr i) j = in_right y (f z) (flat_map f xs) (in_flat f xs x y i j)

pub in_pairs_of : (n i j : ℕ) → i < j → j < n → In (i, j) (pairs_of n)
unfolding pairs_of
in_pairs_of n i j l h = in_flat (λ i. map (λ j. (i, j)) (numbers (suc i) (n - suc i))) (numbers 0 n)
    i (i, j) (in_numbers 0 n i (omega arith) (omega (arith, l, h)))
    (map-in (λ j. (i, j)) (numbers (suc i) (n - suc i)) j (in_numbers (suc i) (n - suc i) j
    (omega (arith, l)) (omega (arith, l, h))))

pub among : (n i : ℕ) → i < n → In i (numbers 0 n)
among n i l = in_numbers 0 n i (omega arith) (omega (arith, l))

pub each_flat : {X Y : Type 0} (P : Y → Type 0) (f : X → List Y) (xs : List X) (x : X)
    → Each P (flat_map f xs) → In x xs → Each P (f x)
each_flat P f [] x h i = absurd i
each_flat P f (y ∷ xs) x h (inl e) = subst (λ z. Each P (f z)) (sym e)
    (each-left P (f y) (flat_map f xs) h)
each_flat P f (y ∷ xs) x h (inr i) = each_flat P f xs x (each-right P (f y) (flat_map f xs) h) i

pub each_mapped : {X Y : Type 0} (P : Y → Type 0) (f : X → Y) (xs : List X) (x : X)
    → Each P (map f xs) → In x xs → P (f x)
each_mapped P f xs x h i = each_in P (map f xs) (f x) h (map-in f xs x i)

pub each_place : {X : Type 0} (P : X → Type 0) (xs : List X) (d : X) → P d → Each P xs → (i : ℕ)
    → P (get_or xs i d)
unfolding Each
each_place P [] d h e i = h
each_place P (x ∷ xs) d h e zero = e.0
each_place P (x ∷ xs) d h e (suc i) = each_place P xs d h e.1 i
