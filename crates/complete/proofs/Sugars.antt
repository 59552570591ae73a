-- Sugars (machines/specs/Pairs), over plain variables.
--   sum_divides      a factor has at most the degree
--   small_room, small_more, sugar_next     what a sugar is below, by the number of elements
--   sugar_small      the sugar of a pair is below those of the elements and a degree more
use Rattle.std.proofs.Common.{◌≡◌, ℕ, zero, suc, ◌+◌, ◌-◌, ◌*◌, ◌<◌, ◌≤◌, ◌^◌, max, sum, List, [], ◌∷◌, length, get_or, subst, arith}
use Rattle.std.specs.List.{All}
use Rattle.std.proofs.lemmas.List.Sums.{sum_by-cons}
use Rattle.polynomials.specs.Exponent.{Divides}
use Rattle.machines.specs.Pairs.{multiple, sugar}
use Rattle.complete.specs.declared.pair.Pair.{Pair}
use Rattle.complete.specs.Pairs.{pair_of, Stands, HasSugar, HasRoom}
use Rattle.complete.specs.Completing.{IsSmall}

pub sum_divides : (d e : List ℕ) → length d ≡ length e → Divides d e → sum d ≤ sum e
sum_divides [] e l h = omega arith
sum_divides (x ∷ d) [] l h = absurd (omega arith)
sum_divides (x ∷ d) (y ∷ e) l h =
    let first : x ≤ y = h zero (omega arith) in
    let rest = sum_divides d e (omega arith) (λ k i. h (suc k) (omega (arith, i))) in
    let left = sum_by-cons (λ n. n) x d in
    let right = sum_by-cons (λ n. n) y e in
    omega (arith, first, rest, left, right)

between : (x y m d e b k : ℕ) → m < k → x < b → y < b → max (x + m - d) (y + m - e) < b + k
between x y m d e b k l i j = omega (arith, l, i, j)

pub sugar_small : (ls : List (List ℕ)) (ss : List ℕ) (a : ℕ × ℕ) (b k : ℕ) → a.0 < length ss
    → a.1 < length ss → All (λ n. n < b) ss → sum (multiple ls a) < k → sugar ls ss a < b + k
sugar_small ls ss a b k i j h l = between (get_or ss a.0 0) (get_or ss a.1 0) (sum (multiple ls a))
    (sum (get_or ls a.0 [])) (sum (get_or ls a.1 [])) b k l (h a.0 0 i) (h a.1 0 j)

-- ---- with so many elements (specs/Completing)
pub small_room : (k n : ℕ) → k ≤ 2 ^ 31 + 1 → IsSmall k n → HasRoom n
small_room k n l h = omega (arith, l, h)

pub small_more : (k l n : ℕ) → l ≡ k + 1 → IsSmall k n → IsSmall l n
small_more k l n e h = omega (arith, e, h)

pub sugar_next : (ls : List (List ℕ)) (ss : List ℕ) (k : ℕ) (a : Pair) → length ss ≡ k
    → length ls ≡ k → Stands ls a → HasSugar ls ss a → All (IsSmall k) ss
    → IsSmall (k + 1) a.parts.value.sugar
sugar_next ls ss k a size count s q h =
    let first = s.left_first in
    let right = s.right_in in
    let below = sugar_small ls ss (pair_of a) ((k + 1) * 2 ^ 32) (2 ^ 32)
    (omega (arith, first, right, size, count)) (omega (arith, right, size, count)) h
    (subst (λ e. sum e < 2 ^ 32) s.multiple_is (subst (λ n. n < 2 ^ 32) a.parts.value.degree_is
    a.parts.value.degree_fits)) in
    let is = q in
    omega (arith, below, is)
