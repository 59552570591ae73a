-- The loops of a family, and what is counted over their bases. Numbers of loops count from 1.
--   least_base, powers           the first base; and how many powers of each there are
--   base j, first_power j, second_power j     what the two variables of loop j are multiplied by: powers of the base
--   loop_text j                  the text of loop j
--   most_loops, most_elements    at most so many loops are counted, and so many elements of each basis, since both are counted in words
--   Counts                       how many loops and elements there are, and the greatest degree of an element
--   nothing                      those of no loop;  with_basis gs c: of one loop more, whose basis is gs
--   summary c                    the line that tells them
use Rattle.std.specs.Prelude.{ℕ, suc, ◌+◌, ◌-◌, ◌*◌, ◌/◌, ◌%◌, ◌^◌, max, List, [], ◌∷◌, ◌++◌, length, sum, codes, decimal}
use Rattle.algebra.specs.Fraction.{Fraction}
use Rattle.polynomials.specs.Terms.{Terms}

abbrev pub least_base : ℕ
least_base = 2

abbrev pub powers : ℕ
powers = 8

abbrev pub base : ℕ → ℕ
base j = least_base + (j - 1) / (powers * powers)

abbrev pub first_power : ℕ → ℕ
first_power j = 1 + (j - 1) % powers

abbrev pub second_power : ℕ → ℕ
second_power j = 1 + ((j - 1) / powers) % powers

abbrev pub loop_text : ℕ → List ℕ
loop_text j =
    codes "vars x, y, z, w; init x=1, y=1, z=0, w=0; branch { x="
    ++ decimal (base j) ++ codes "^" ++ decimal (first_power j) ++ codes "*x; y="
    ++ decimal (base j) ++ codes "^" ++ decimal (second_power j) ++ codes "*y; w=w+z; z=z+1; }"

abbrev pub most_loops : ℕ
most_loops = 2 ^ 32 - 1

abbrev pub most_elements : ℕ
most_elements = 2 ^ 64

pub record Counts : Type 0 where
  pub loops : ℕ
  pub elements : ℕ
  pub degree : ℕ

abbrev pub nothing : Counts
nothing = record { loops = 0; elements = 0; degree = 0 }

unfoldable pub degree_of : Terms Fraction → ℕ
degree_of [] = 0
degree_of (t ∷ p) = max (sum t.0) (degree_of p)

unfoldable pub greatest : List (Terms Fraction) → ℕ
greatest [] = 0
greatest (g ∷ gs) = max (degree_of g) (greatest gs)

abbrev pub with_basis : List (Terms Fraction) → Counts → Counts
with_basis gs c = record {
  loops = suc c.loops;
  elements = c.elements + length gs;
  degree = max c.degree (greatest gs);
}

abbrev pub summary : Counts → List ℕ
summary c =
    codes "loops " ++ decimal c.loops ++ codes ", elements " ++ decimal c.elements
    ++ codes ", greatest degree " ++ decimal c.degree ++ codes "\n"
