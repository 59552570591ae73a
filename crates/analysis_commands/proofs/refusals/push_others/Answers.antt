use Rattle.std.proofs.Common.{◌++◌, rules, string_bytes, arith}
use Rattle.std.specs.Prelude.{codes}
use Rattle.analysis_commands.specs.RefusalTexts.{name_of}
use Rattle.command_parts.proofs.Pushing.{all_pushed}
use Rattle.analysis_commands.proofs.Pushing.{other_pushed}
use Rattle.analysis_commands.proofs.refusals.push_others.Goals as goal

pub loop-variable-preserved : goal.loop-variable-preserved
loop-variable-preserved c =
    other_pushed c.args.names.now c.args.others.now c.loop-variable.variable-index
    (string_bytes c.name.result.now) (string_bytes c.args.text.now)
    (string_bytes c.loop-variable.text) _
    (omega arith) c.name.ensures c.loop-variable.invariant (search rules)

pub returns : goal.returns
returns c =
    all_pushed (λ i. codes ", " ++ name_of c.args.names.now i) c.args.others.now
    c.loop-variable.variable-index (string_bytes c.args.text.now) _ (omega arith)
    c.loop-variable.invariant
