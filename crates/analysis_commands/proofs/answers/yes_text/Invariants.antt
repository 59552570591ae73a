use Rattle.std.proofs.Common.{◌≡◌, ◌++◌, string_bytes, take}
use Rattle.std.specs.Prelude.{codes}
use Rattle.std.specs.List.{flat_map}
use Rattle.command_parts.specs.BasisTexts.{line}
use Rattle.analysis_commands.proofs.Pushing.{cofactor_of}
use Rattle.analysis_commands.proofs.answers.yes_text.Given as goal

abbrev pub invariant-loop-cofactor : goal.invariant-loop-cofactor
invariant-loop-cofactor l = string_bytes l.text ≡ line (codes "yes")
    ++ flat_map (cofactor_of l.names) (take l.cofactor-index l.cofactors)
