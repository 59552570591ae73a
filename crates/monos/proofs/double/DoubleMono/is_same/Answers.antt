use Rattle.monos.proofs.Doubles.{same_is}
use Rattle.monos.proofs.double.DoubleMono.is_same.Goals as goal

pub returns-then-is_same : goal.returns-then-is_same
returns-then-is_same c =
    let is = same_is _ _ _ _ _ _ c.self.invariant.0 c.other.invariant.0
    c.self.view_is c.other.view_is in (
      (λ t. is.0 (c.is_same.ensures.0 c.if-is_same.true, c.is_same-then-is_same.ensures.0 t)),
      (λ h. c.is_same-then-is_same.ensures.1 (is.1 h).1),
    )

pub returns-else-is_same : goal.returns-else-is_same
returns-else-is_same c =
    let is = same_is _ _ _ _ _ _ c.self.invariant.0 c.other.invariant.0
    c.self.view_is c.other.view_is in (
      (λ t. absurd (let no = c.if-is_same.false in cc)),
      (λ h. absurd (let no = c.if-is_same.false in let yes = c.is_same.ensures.1 (is.1 h).0 in cc)),
    )
