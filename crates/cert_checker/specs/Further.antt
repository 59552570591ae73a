-- The parts behind the certificate itself.
--   further_parts program c     the forms, the start, the rounds and the end
use Rattle.std.specs.Prelude.{ℕ, List, [], ◌∷◌, ◌++◌}
use Rattle.loops.specs.Program.{Expr, Program}
use Rattle.corollaries.specs.Full.{FullCertificate}
use Rattle.corollaries.specs.Parts.{Part, at_end, form_parts, start_parts, round_parts}

abbrev pub further_parts : Program (Expr ℕ) → FullCertificate → List Part
further_parts program c =
    form_parts program c ++ (start_parts program c ++ (round_parts program c ++ at_end ∷ []))
