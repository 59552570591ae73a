use Rattle.std.proofs.lemmas.List.Elements.{same_from_all_zip}
use Rattle.closing.proofs.Composing.{composes, limit_here, wide_here}
use Rattle.closing.proofs.candidates.composition_of.Goals as goal

pub returns-in-Ok-clause-composed : goal.returns-in-Ok-clause-composed
returns-in-Ok-clause-composed c = λ m maps over all am.
    composes c.args.polynomial.now over _ maps all am c.in-Ok.composition c.in-Ok.is
    c.compose_anew.ensures

pub returns-in_ok-clone-in-Err-Limit-clause-stopped
    : goal.returns-in_ok-clone-in-Err-Limit-clause-stopped
returns-in_ok-clone-in-Err-Limit-clause-stopped c = λ m maps over all am. (
  same_from_all_zip _ _ _ c.in_ok-clone-in-Err-Limit.ensures.cases.0 (λ x y h. h),
  limit_here c.args.polynomial.now over _ maps all am c.in-Err-Limit.is
      c.in-Err-Limit.field-0-is c.compose_anew.ensures,
)

pub returns-in_ok-clone-in-Err-Wide-clause-stopped
    : goal.returns-in_ok-clone-in-Err-Wide-clause-stopped
returns-in_ok-clone-in-Err-Wide-clause-stopped c = λ m maps over all am. (
  same_from_all_zip _ _ _ c.in_ok-clone-in-Err-Wide.ensures.cases.0 (λ x y h. h),
  wide_here c.args.polynomial.now over _ maps all am c.in-Err-Wide.field-0-0 c.in-Err-Wide.is
      c.in-Err-Wide.field-0-is c.compose_anew.ensures,
)
