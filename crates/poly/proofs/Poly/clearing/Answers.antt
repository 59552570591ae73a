use Rattle.std.proofs.Common.{sym, ◌∙◌}
use Rattle.algebra.proofs.Lists.{of_ok}
use Rattle.poly.proofs.Cleared.{undone}
use Rattle.poly.proofs.Poly.clearing.Goals as goal

pub returns : goal.returns
returns g c =
    undone g.K.Ring.scalars g.met.K.Ring.ring _ (g.K.Ring.meaning c.in_ok-left.left_inverse) _
    (g.K.Ring.meaning c.in_ok-right-2.right_inverse) _
    c.in_ok-left.ensures.inverse c.in_ok-right-2.ensures.inverse
    (of_ok c.mul.result c.in_ok-undo.undo _ (sym c.ok.ensures.value ∙ c.in_ok-undo.was)
    c.mul.ensures.ok)
