-- A basis as a text.
--   line text                    the text and a line feed
--   equation_line names p        that p is 0
--   basis_text names gs          an equation a line, in the order of the gs; `none` where there are no gs
use Rattle.std.specs.Prelude.{ℕ, List, [], ◌∷◌, ◌++◌, codes}
use Rattle.std.specs.List.{flat_map}
use Rattle.algebra.specs.Fraction.{Fraction}
use Rattle.polynomials.specs.Terms.{Terms}
use Rattle.poly_text.specs.Printed.{polynomial_text}
use Rattle.loop_model.specs.Ascii.{line_feed}

abbrev pub line : List ℕ → List ℕ
line text = text ++ line_feed ∷ []

module _ (names : List (List ℕ)) where
  abbrev pub equation_line : Terms Fraction → List ℕ
  equation_line p = line (polynomial_text names p ++ codes " = 0")

  abbrev pub basis_text : List (Terms Fraction) → List ℕ
  basis_text [] = line (codes "none")
  basis_text (g ∷ gs) = flat_map equation_line (g ∷ gs)
