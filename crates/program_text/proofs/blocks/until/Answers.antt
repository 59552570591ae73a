use Rattle.std.proofs.Common.{ℕ, List, ap, map, true}
use Rattle.loops.specs.Program.{Expr}
use Rattle.program_model.specs.Program.{Guard, Comparison}
use Rattle.loop_model.specs.ExpressionView.{expr_of}
use Rattle.program_model.specs.SyntaxView.{comparison_of}
use Rattle.program_text.proofs.blocks.until.Goals as goal

pub returns : goal.returns
unfolding expr_of
returns c = ap (λ ks. by_says (map comparison_of ks)) c.in_ok-says.ensures.items
  where
    by_says : List (Comparison (Expr ℕ)) → Guard (Expr ℕ)
    by_says ks = record { says = ks; alone = true }
