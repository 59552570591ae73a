use Rattle.std.proofs.Common.{rules, string_bytes, arith}
use Rattle.std.specs.Prelude.{codes}
use Rattle.command_parts.specs.BasisTexts.{line}
use Rattle.command_parts.proofs.Pushing.{pushed, all_pushed}
use Rattle.analysis_commands.proofs.Pushing.{yes_pushed, cofactor_of}
use Rattle.analysis_commands.proofs.answers.yes_text.Goals as goal

pub loop-cofactor-preserved : goal.loop-cofactor-preserved
loop-cofactor-preserved c =
    pushed (cofactor_of c.args.names.now) c.args.cofactors.now c.loop-cofactor.cofactor-index
    c.cofactor-item.result (line (codes "yes")) (string_bytes c.loop-cofactor.text) _
    (omega arith) c.cofactor-item.is
    c.loop-cofactor.invariant (search rules)

pub returns : goal.returns
returns c =
    yes_pushed c.args.names.now c.args.cofactors.now _ (all_pushed (cofactor_of c.args.names.now)
    c.args.cofactors.now c.loop-cofactor.cofactor-index (line (codes "yes")) _ (omega arith)
    c.loop-cofactor.invariant)
