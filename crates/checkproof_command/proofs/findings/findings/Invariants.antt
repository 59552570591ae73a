use Rattle.std.proofs.Common.{map, take}
use Rattle.program_checker.specs.View.{lists_of}
use Rattle.checkproof_command.specs.Found.{AreFound}
use Rattle.checkproof_command.specs.Views.{finding_view}
use Rattle.checkproof_command.proofs.findings.findings.Given as goal

abbrev pub invariant-loop-i : goal.invariant-loop-i
invariant-loop-i l =
    AreFound (lists_of l.cert) 1 (take l.i l.graph.points.items) (map finding_view l.found.items)
