-- The variables of a loop in the order in which those that are not shown are eliminated. m is how many variables there are, and `is` are the places of those shown.
--   is_among is i        i is one of is
--   hidden m is, visible m is     the places of the variables that are not shown, and of those that are, in declared order
--   order m is           the ones before the others
--   place_in js i        where i stands first in js
--   images m is          for each variable of the loop, in declared order, the variable at its place in the order
--   in_order m is p       p with these variables
--   block_order m is     the order of monomials with the variables that are not shown in its first block
--   starting m is gs     the gs with these variables, in this order of monomials
use Rattle.std.specs.Prelude.{ℕ, suc, ◌+◌, Bool, not, eqb, cond, List, [], ◌∷◌, ◌++◌, map, length, get_or, filter}
use Rattle.std.specs.List.{list_any}
use Rattle.algebra.specs.Fraction.{Fraction, ℚ, rationals}
use Rattle.polynomials.specs.Terms.{Terms, variables, compose}
use Rattle.polynomials.specs.Order.{Rank, grevlex, blocks}
use Rattle.machines.specs.Collect.{collect}
use Rattle.loops.specs.Turning.{places}

abbrev pub is_among : List ℕ → ℕ → Bool
is_among is i = list_any (λ j. eqb j i) is

unfoldable pub place_in : List ℕ → ℕ → ℕ
place_in [] i = 0
place_in (j ∷ js) i = cond (eqb j i) 0 (suc (place_in js i))

module _ (m : ℕ) (is : List ℕ) where
  abbrev pub hidden : List ℕ
  hidden = filter (λ i. not (is_among is i)) (places 0 m)

  abbrev pub visible : List ℕ
  visible = filter (is_among is) (places 0 m)

  abbrev pub order : List ℕ
  order = hidden ++ visible

  -- how many variables the polynomials have then
  abbrev pub arity : ℕ
  arity = length hidden + length visible

  abbrev pub images : List (Terms Fraction)
  images = map (λ i. get_or (variables ℚ arity) (place_in order i) []) (places 0 m)

  abbrev pub in_order : Terms Fraction → Terms Fraction
  in_order p = compose ℚ arity p images

  abbrev pub block_order : Rank
  block_order = blocks (length hidden) grevlex grevlex

  unfoldable pub starting : List (Terms Fraction) → List (Terms Fraction)
  starting gs = map (collect rationals block_order) (map in_order gs)
