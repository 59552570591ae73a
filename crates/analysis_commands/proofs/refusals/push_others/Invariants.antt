use Rattle.std.proofs.Common.{◌≡◌, ◌++◌, string_bytes, take}
use Rattle.analysis_commands.specs.RefusalTexts.{listed_behind}
use Rattle.analysis_commands.proofs.refusals.push_others.Given as goal

abbrev pub invariant-loop-variable : goal.invariant-loop-variable
invariant-loop-variable l = string_bytes l.text ≡ string_bytes l.fn.text ++ listed_behind l.names
    (take l.variable-index l.others)
