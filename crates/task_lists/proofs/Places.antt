-- Pairs of places, so far.
--   numbers-push     so many numbers, and one more
--   pairs_from n i   the pairs of places below n whose first is i
--   one_from         with n one more
--   pairs_to n i     those whose first is below i
--   pairs_more       those whose first is i behind them
--   pairs_within     both places of each are below n
use Rattle.std.proofs.Common.{◌≡◌, ◌≤◌, ◌<◌, ℕ, zero, suc, ◌+◌, ◌-◌, List, [], ◌∷◌, ◌++◌, map, get_or, length, sym, ap, ◌∙◌, add-one, arith}
use Rattle.std.specs.Prelude.{flat_map}
use Rattle.std.proofs.lemmas.List.{append-nil, map-append}
use Rattle.std.proofs.lemmas.Grind.{flat_map-append}
use Rattle.algebra.specs.Each.{Each}
use Rattle.algebra.proofs.Each.{each-append, each-map}
use Rattle.exponentials.specs.Table.{numbers}
use Rattle.corollaries.specs.Representation.{pairs_of}

-- behind them one more
pub numbers-push : (lo n : ℕ) → numbers lo (suc n) ≡ numbers lo n ++ (lo + n) ∷ []
numbers-push lo zero = let e : lo ≡ lo + 0 = omega arith in ap (λ k. k ∷ []) e
numbers-push lo (suc n) =
    let e : suc lo + n ≡ lo + suc n = omega arith in
    ap (λ ks. lo ∷ ks) (numbers-push (suc lo) n
    ∙ ap (λ (k : ℕ). numbers (suc lo) n ++ k ∷ []) e)

-- those whose first place is i, and whose second is below n
abbrev pub pairs_from : ℕ → ℕ → List (ℕ × ℕ)
pairs_from n i = map (λ j. (i, j)) (numbers (suc i) (n - suc i))

abbrev pub pairs_to : ℕ → ℕ → List (ℕ × ℕ)
pairs_to n i = flat_map (pairs_from n) (numbers 0 i)

pub one_from : (n i : ℕ) → suc i ≤ n → pairs_from (n + 1) i ≡ pairs_from n i ++ (i, n) ∷ []
one_from n i l =
    let e : n + 1 - suc i ≡ suc (n - suc i) = omega (arith, l) in
    let f : suc i + (n - suc i) ≡ n = omega (arith, l) in
    ap (λ k. map (λ j. (i, j)) (numbers (suc i) k)) e
    ∙ ap (map (λ j. (i, j))) (numbers-push (suc i) (n - suc i)
    ∙ ap (λ (k : ℕ). numbers (suc i) (n - suc i) ++ k ∷ []) f)
    ∙ map-append (λ j. (i, j)) (numbers (suc i) (n - suc i)) (n ∷ [])

pub pairs_more : (n i : ℕ) → pairs_to n i ++ pairs_from n i ≡ pairs_to n (i + 1)
pairs_more n i =
    let e : 0 + i ≡ i = omega arith in
    sym (ap (pairs_to n) (add-one i) ∙ ap (flat_map (pairs_from n)) (numbers-push 0 i
    ∙ ap (λ (k : ℕ). numbers 0 i ++ k ∷ []) e)
    ∙ flat_map-append (pairs_from n) (numbers 0 i) (i ∷ [])
    ∙ ap (λ ks. pairs_to n i ++ ks) (append-nil (pairs_from n i)))

-- ---- what holds of each
each_number : (P : ℕ → Type 0) (lo n : ℕ) → ((j : ℕ) → lo ≤ j → j < lo + n → P j)
    → Each P (numbers lo n)
unfolding Each
each_number P lo zero h = tt
each_number P lo (suc n) h = (
  h lo (omega arith) (omega arith),
  each_number P (suc lo) n (λ j l k. h j (omega (arith, l)) (omega (arith, k))),
)

each_flat : {X Y : Type 0} (P : Y → Type 0) (f : X → List Y) (xs : List X)
    → Each (λ x. Each P (f x)) xs → Each P (flat_map f xs)
unfolding Each
each_flat P f [] h = tt
each_flat P f (x ∷ xs) h = each-append P (f x) (flat_map f xs) h.0 (each_flat P f xs h.1)

each_here : {X : Type 0} (P : X → Type 0) (xs : List X) (d : X) → Each P xs → (i : ℕ)
    → i < length xs → P (get_or xs i d)
unfolding Each
each_here P [] d h i l = absurd (omega (arith, l))
each_here P (x ∷ xs) d h zero l = h.0
each_here P (x ∷ xs) d h (suc i) l = each_here P xs d h.1 i (omega (arith, l))

abbrev pub IsPairBelow : ℕ → ℕ × ℕ → Type 0
IsPairBelow n a = (a.0 < n) × (a.1 < n)

pub pairs_within : (n i : ℕ) → i < length (pairs_of n)
    → IsPairBelow n (get_or (pairs_of n) i (0, 0))
unfolding pairs_of
pairs_within n = each_here (IsPairBelow n) (pairs_of n) (0, 0)
    (each_flat (IsPairBelow n) (pairs_from n) (numbers 0 n)
    (each_number (λ i. Each (IsPairBelow n) (pairs_from n i)) 0 n
    (λ i l k. each-map (IsPairBelow n) (λ j. (i, j)) (numbers (suc i) (n - suc i))
    (each_number (λ j. IsPairBelow n (i, j)) (suc i) (n - suc i)
    (λ j a b. (omega (arith, k), omega (arith, k, a, b)))))))
