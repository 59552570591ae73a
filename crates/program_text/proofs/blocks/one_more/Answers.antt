use Rattle.std.proofs.Common.{ap, ap₂, ◌∙◌}
use Rattle.loops.specs.Program.{add, number}
use Rattle.loop_model.specs.ExpressionView.{expr_of}
use Rattle.program_text.proofs.blocks.one_more.Goals as goal

pub returns : goal.returns
unfolding expr_of
returns c = ap₂ (λ l r. add c.args.at l r) (ap expr_of c.in_ok-left.ensures.ok)
    (ap expr_of c.in_ok-right.ensures.ok ∙ ap number c.one-value.ensures)
