-- Pairs that wait, as the program keeps them.
--   pair_of a           its places
--   Stands ls a         its places are those of leads, the left one the earlier, and its monomial is the least common multiple of theirs; AllStand ls ps: each of the ps does
--   HasSugar ls ss a    its sugar is that of its places; AllHaveSugar ls ss ps: of each of the ps
--   HasRoom n           a degree can be added to the sugar n
--   keys O mixed a b    where the pair a stands to b, in an order that mixes degrees or not
--   InOrder R xs        by R none of the xs is above a later one
--   enter R a xs        a put into the xs before the first that it is less than; enters R news xs: each of the news, the last one first
--   covers_pair a t k e the lead e at place k covers the pair a, by the table t: it divides the multiple of a, is none of its two, and waits with neither
--   HaveVariables ps    the multiples of the pairs have an exponent for each of so many variables
--   IsPairOf a d m e n p               p is the pair of the places a, whose leads are d and e with the sugars m and n
--   rows_of t           the entries of a table
-- Of a queue of pairs, with the leads ls and the sugars ss of the elements:
--   waiting_pairs q            the pairs that wait
--   IsQueue O ls ss q   they stand for leads, have their sugars, are in their order, each once, and the table has a row for each element
--   IsTold q            the table tells which pairs wait
--   IsWithNew O ls ss d n q r          r is q with the pairs of a new lead d of sugar n
use Rattle.std.specs.Prelude.{◌≡◌, ◌<◌, ◌≤◌, ℕ, ◌+◌, ◌-◌, ◌^◌, max, Bool, false, not, ◌&&◌, cond, eqb, List, [], ◌∷◌, ◌++◌, length, map, drop, sum, All}
use Rattle.std.specs.declared.cmp.Ordering.{Ordering}
use Rattle.std.specs.declared.cmp.Ordering.TheVariants.{Equal}
use Rattle.std.specs.Ordering.{nat_cmp, is_lt, is_gt, ordering_then}
use Rattle.polynomials.specs.Exponent.{lcm}
use Rattle.polynomials.specs.Order.{Rank, compare}
use Rattle.machines.specs.Cut.{divides}
use Rattle.machines.specs.Pairs.{multiple, sugar, with_new}
use Rattle.complete.specs.declared.pair.Pair.{Pair}
use Rattle.complete.specs.declared.pairs.Queue.{Queue}
use Rattle.complete.specs.declared.table.Table.{Table}
use Rattle.complete.specs.Table.{of_either, Tells, Once}

abbrev pub pair_of : Pair → ℕ × ℕ
pair_of a = (a.parts.value.left, a.parts.value.right)

pub record Stands (ls : List (List ℕ)) (a : Pair) : Type 0 where
  pub left_first : a.parts.value.left < a.parts.value.right
  pub right_in : a.parts.value.right < length ls
  pub multiple_is : a.parts.value.multiple ≡ multiple ls (pair_of a)

abbrev pub AllStand : List (List ℕ) → List Pair → Type 0
AllStand ls ps = All (Stands ls) ps

abbrev pub HasSugar : List (List ℕ) → List ℕ → Pair → Type 0
HasSugar ls ss a = a.parts.value.sugar ≡ sugar ls ss (pair_of a)

abbrev pub AllHaveSugar : List (List ℕ) → List ℕ → List Pair → Type 0
AllHaveSugar ls ss ps = All (HasSugar ls ss) ps

abbrev pub HasRoom : ℕ → Type 0
HasRoom n = n + 2 ^ 32 ≤ 2 ^ 64

abbrev pub keys : Rank → Bool → Pair → Pair → Ordering
keys O mixed a b =
    ordering_then (cond mixed (nat_cmp a.parts.value.sugar b.parts.value.sugar) Equal)
    (ordering_then (nat_cmp (sum a.parts.value.multiple) (sum b.parts.value.multiple))
    (ordering_then (compare O a.parts.value.multiple b.parts.value.multiple)
    (ordering_then (nat_cmp a.parts.value.left b.parts.value.left)
    (nat_cmp a.parts.value.right b.parts.value.right))))

unfoldable pub InOrder : {X : Type 0} → (X → X → Ordering) → List X → Type 0
InOrder R [] = Unit {0}
InOrder R (x ∷ xs) = All (λ y. is_gt (R x y) ≡ false) xs × InOrder R xs

unfoldable pub enter : {X : Type 0} → (X → X → Ordering) → X → List X → List X
enter R a [] = a ∷ []
enter R a (b ∷ xs) = cond (is_lt (R a b)) (a ∷ b ∷ xs) (b ∷ enter R a xs)

unfoldable pub enters : {X : Type 0} → (X → X → Ordering) → List X → List X → List X
enters R [] xs = xs
enters R (a ∷ news) xs = enter R a (enters R news xs)

abbrev pub covers_pair : Pair → List (List Bool) → ℕ → List ℕ → Bool
covers_pair a t k e =
    (not (eqb k a.parts.value.left) && not (eqb k a.parts.value.right))
    && divides e a.parts.value.multiple &&
    (not (of_either t a.parts.value.left k) && not (of_either t a.parts.value.right k))

pub record HaveVariables (ps : List Pair) : Type 0 where
  pub variables : ℕ
  pub each : All (λ a. length a.parts.value.multiple ≡ variables) ps

pub record IsPairOf (a : ℕ × ℕ) (d : List ℕ) (m : ℕ) (e : List ℕ) (n : ℕ) (p : Pair) : Type 0 where
  pub places : pair_of p ≡ a
  pub multiple_is : p.parts.value.multiple ≡ lcm d e
  pub sugar_is : p.parts.value.sugar ≡ max (m + sum (lcm d e) - sum d) (n + sum (lcm d e) - sum e)

abbrev pub rows_of : Table → List (List Bool)
rows_of t = map (λ row. row.items) t.rows.items

abbrev pub waiting_pairs : Queue → List Pair
waiting_pairs q = drop q.taken q.pairs.items

pub record IsQueue (O : Rank) (ls : List (List ℕ)) (ss : List ℕ) (q : Queue) : Type 0 where
  pub taken : q.taken ≤ length q.pairs.items
  pub pairs : AllStand ls (waiting_pairs q)
  pub sugars : AllHaveSugar ls ss (waiting_pairs q)
  pub in_order : InOrder (keys O q.mixed) (waiting_pairs q)
  pub once : Once (map pair_of (waiting_pairs q))
  pub count : length (rows_of q.table) ≡ length ls

abbrev pub IsTold : Queue → Type 0
IsTold q = Tells (rows_of q.table) (map pair_of (waiting_pairs q))

abbrev pub IsWithNew : Rank → List (List ℕ) → List ℕ → List ℕ → ℕ → (q r : Queue) → Type 0
IsWithNew O ls ss d n q r =
    map pair_of (waiting_pairs r)
    ≡ with_new O (ls ++ d ∷ []) (ss ++ n ∷ []) (length ls) d ls 0 (map pair_of (waiting_pairs q))
