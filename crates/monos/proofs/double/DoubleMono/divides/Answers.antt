use Rattle.monos.proofs.Doubles.{divides_is}
use Rattle.monos.proofs.double.DoubleMono.divides.Goals as goal

pub returns-then-divides : goal.returns-then-divides
returns-then-divides c =
    let is = divides_is _ _ _ _ _ _ c.self.invariant.0 c.other.invariant.0
    c.self.view_is c.other.view_is c.requires in (
      (λ t. is.0 (c.divides.ensures.0 c.if-divides.true, c.divides-then-divides.ensures.0 t)),
      (λ h. c.divides-then-divides.ensures.1 (is.1 h).1),
    )

pub returns-else-divides : goal.returns-else-divides
returns-else-divides c =
    let is = divides_is _ _ _ _ _ _ c.self.invariant.0 c.other.invariant.0
    c.self.view_is c.other.view_is c.requires in (
      (λ t. absurd (let no = c.if-divides.false in cc)),
      (λ h. absurd (let no = c.if-divides.false in let yes = c.divides.ensures.1 (is.1 h).0 in cc)),
    )
