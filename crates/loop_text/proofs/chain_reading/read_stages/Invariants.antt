use Rattle.std.proofs.Common.{suc, length, []}
use Rattle.grammars.specs.Grammar.{sequence, many}
use Rattle.poly_text.specs.CursorView.{rest, bytes_left}
use Rattle.poly_text.proofs.Paths.{GoesOn}
use Rattle.loop_text.specs.States.{Inits, in_branches, with_init}
use Rattle.loop_text.specs.Chains.{none_before, the_branches, further, chain_end, chain_language}
use Rattle.loop_text.specs.Raising.{in_chain}
use Rattle.loop_runs.specs.Parts.{statements_in, stages_read}
use Rattle.loop_text.proofs.chain_reading.read_stages.Given as goal

abbrev pub invariant-loop-stages : goal.invariant-loop-stages
invariant-loop-stages l = (init : Inits)
    → GoesOn chain_language (sequence (sequence the_branches (many further)) chain_end)
    (in_chain 1 none_before (with_init l.names.variables l.names.locals init)) (rest l.fn.cursor)
    (sequence the_branches (sequence (many further) chain_end))
    (in_chain (suc (length l.stages.items))
    (record { stages = stages_read l.stages.items; code = statements_in l.code.items })
    (in_branches l.names.variables l.names.locals l.begun init [])) (rest l.at)

abbrev pub decreases-loop-stages : goal.decreases-loop-stages
decreases-loop-stages l = bytes_left l.at
