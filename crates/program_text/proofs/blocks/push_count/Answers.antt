use Rattle.std.proofs.Common.{ap, ap₂, ◌∙◌, [], ◌∷◌}
use Rattle.program_model.specs.Program.{behind, loop}
use Rattle.program_text.specs.Programs.{set}
use Rattle.program_text.proofs.BlockViews.{block_push, loop_statement}
use Rattle.program_text.proofs.Answering.{block_of}
use Rattle.program_text.proofs.blocks.push_count.Goals as goal

pub returns : goal.returns
returns c =
    let b = block_of c.args.block.now.items in
    let d = block_of c.args.body.items in
    let j = c.args.counter in
    ap block_of c.in_ok-push-3.ensures.items ∙ block_push c.push.new.self.items _
    ∙ ap₂ (λ b s. behind b s)
    (ap block_of c.in_ok-push.ensures.items ∙ block_push c.args.block.now.items _
    ∙ ap (behind b) c.in_ok-set.ensures)
    (loop_statement c.args.at c.in_ok-guard.guard c.push-2.new.self
    ∙ ap₂ (λ g b. loop c.args.at g b) c.in_ok-guard.ensures
    (ap block_of c.in_ok-push-2.ensures.items ∙ block_push c.args.body.items _
    ∙ ap (behind d) (c.in_ok-set-2.ensures
    ∙ ap (λ e. set [] (j ∷ []) (e ∷ [])) c.in_ok-one_more.ensures)))
