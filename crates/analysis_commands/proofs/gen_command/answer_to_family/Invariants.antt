use Rattle.analysis_commands.proofs.Tallying.{Tally}
use Rattle.analysis_commands.proofs.gen_command.answer_to_family.Given as goal

abbrev pub invariant-loop-place : goal.invariant-loop-place
invariant-loop-place l = Tally l.number l.place l.fn.meter l.meter l.counts
