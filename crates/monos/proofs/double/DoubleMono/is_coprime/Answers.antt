use Rattle.monos.proofs.Doubles.{coprime_is}
use Rattle.monos.proofs.double.DoubleMono.is_coprime.Goals as goal

pub returns-then-is_coprime : goal.returns-then-is_coprime
returns-then-is_coprime c =
    let is = coprime_is _ _ _ _ _ _ c.self.invariant.0 c.other.invariant.0
    c.self.view_is c.other.view_is c.requires in (
      (λ t. is.0 (
        c.is_coprime.ensures.0 c.if-is_coprime.true,
        c.is_coprime-then-is_coprime.ensures.0 t,
      )),
      (λ h. c.is_coprime-then-is_coprime.ensures.1 (is.1 h).1),
    )

pub returns-else-is_coprime : goal.returns-else-is_coprime
returns-else-is_coprime c =
    let is = coprime_is _ _ _ _ _ _ c.self.invariant.0 c.other.invariant.0
    c.self.view_is c.other.view_is c.requires in (
      (λ t. absurd (let no = c.if-is_coprime.false in cc)),
      (λ h. absurd (let no = c.if-is_coprime.false in let yes = c.is_coprime.ensures.1 (is.1 h).0 in
          cc)),
    )
