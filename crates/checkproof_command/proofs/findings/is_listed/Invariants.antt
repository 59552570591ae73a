use Rattle.checkproof_command.proofs.Listing.{NoneBefore}
use Rattle.checkproof_command.proofs.findings.is_listed.Given as goal

abbrev pub invariant-loop-element : goal.invariant-loop-element
invariant-loop-element l = NoneBefore l.list l.goal l.element-index
