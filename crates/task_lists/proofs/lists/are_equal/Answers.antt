use Rattle.std.proofs.Common.{sym, ◌∙◌}
use Rattle.std.proofs.lemmas.List.{length-map}
use Rattle.algebra.specs.Fraction.{ℚ}
use Rattle.polynomials.proofs.Same.{AllSame-length}
use Rattle.poly.specs.Seen.{terms_in}
use Rattle.std.proofs.lemmas.Bool.{eqb-true}
use Rattle.task_lists.proofs.lists.are_equal.Goals as goal

pub returns-else-left-right : goal.returns-else-left-right
returns-else-left-right g c =
    let ps = c.args.left.now in
    let qs = c.args.right.now in (
      λ t. absurd (c.if-left-right.false (eqb-true _ _ t)),
      λ h. absurd (c.if-left-right.false (sym (length-map ps terms_in)
          ∙ AllSame-length ℚ _ _ h ∙ length-map qs terms_in)),
    )
