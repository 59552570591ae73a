use Rattle.std.proofs.Common.{ap, ◌∙◌, map, [], ◌∷◌}
use Rattle.program_text.specs.Programs.{set}
use Rattle.program_text.proofs.BlockViews.{set_statement}
use Rattle.program_text.proofs.Answering.{expr_of, divisor_of}
use Rattle.program_text.proofs.blocks.set.Goals as goal

pub returns : goal.returns
returns c =
    set_statement _
    ∙ ap (λ ds. set (map divisor_of ds) c.in_ok-targets.targets.items
    (map expr_of c.in_ok-values.values.items)) c.new-divisors.ensures.items
    ∙ ap (λ is. set [] is (map expr_of c.in_ok-values.values.items)) c.in_ok-targets.ensures.items
    ∙ ap (λ es. set [] (c.args.target ∷ []) (map expr_of es)) c.in_ok-values.ensures.items
