-- What is answered to `chain`.
--   part_line j                  the line before the basis of the loop at the place j, which counts from 0
--   bases_text names j bases     the bases, each behind its line; the first is that of the loop at the place j
--   in_loop j a                  the answer a, said of the loop at the place j
use Rattle.std.specs.Prelude.{ℕ, suc, ◌+◌, List, [], ◌∷◌, ◌++◌, codes, decimal}
use Rattle.algebra.specs.Fraction.{Fraction}
use Rattle.polynomials.specs.Terms.{Terms}
use Rattle.command_parts.specs.BasisTexts.{basis_text}
use Rattle.io_edge.specs.Texts.{Answer, with_text}

abbrev pub part_line : ℕ → List ℕ
part_line j = codes "loop " ++ decimal (j + 1) ++ codes ":\n"

abbrev pub bases_text : List (List ℕ) → ℕ → List (List (Terms Fraction)) → List ℕ
bases_text names j [] = []
bases_text names j (gs ∷ bases) =
    part_line j ++ (basis_text names gs ++ bases_text names (suc j) bases)

abbrev pub in_loop : ℕ → Answer → Answer
in_loop j a = with_text a.status (codes "loop " ++ decimal (j + 1) ++ codes ": " ++ a.text)
