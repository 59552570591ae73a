use Rattle.std.proofs.Common.{◌+◌, ◌*◌, suc, max, take}
use Rattle.program_model.specs.Limits.{depth, depth_inside}
use Rattle.program_model.specs.StatementView.{statement_of, block_of}
use Rattle.program_model.proofs.Behinds.{BlockDone}
use Rattle.program_model.proofs.forming.+behind_block.Given as goal

abbrev pub decreases-behind_block : goal.decreases-behind_block
decreases-behind_block l = 3 * depth (block_of l.statements.now.items) + 2

abbrev pub decreases-behind_statement : goal.decreases-behind_statement
decreases-behind_statement l = 3 * depth_inside (statement_of l.statement.now) + 1

abbrev pub decreases-behind_branch : goal.decreases-behind_branch
decreases-behind_branch l =
    3 * suc (max (depth (block_of l.inner.now.items)) (depth (block_of l.other.now.items)))

abbrev pub decreases-behind_loop : goal.decreases-behind_loop
decreases-behind_loop l = 3 * suc (depth (block_of l.body.now.items))

abbrev pub invariant-behind_block-loop-statement : goal.invariant-behind_block-loop-statement
invariant-behind_block-loop-statement l =
    BlockDone l.variables l.initial.front (take l.statement-index l.statement-items) l.front
