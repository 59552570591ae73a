-- What a question has found, as texts.
--   cofactor_line names q        the cofactor q
--   yes_text names qs            `yes`, and a cofactor a line
use Rattle.std.specs.Prelude.{ℕ, List, ◌++◌, codes}
use Rattle.std.specs.List.{flat_map}
use Rattle.algebra.specs.Fraction.{Fraction}
use Rattle.polynomials.specs.Terms.{Terms}
use Rattle.poly_text.specs.Printed.{polynomial_text}
use Rattle.command_parts.specs.BasisTexts.{line}

module _ (names : List (List ℕ)) where
  abbrev pub cofactor_line : Terms Fraction → List ℕ
  cofactor_line q = line (polynomial_text names q)

  abbrev pub yes_text : List (Terms Fraction) → List ℕ
  yes_text qs = line (codes "yes") ++ flat_map cofactor_line qs
