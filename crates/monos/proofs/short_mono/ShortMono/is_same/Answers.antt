use Rattle.std.proofs.Common.{eq-eqb}
use Rattle.std.proofs.lemmas.Bool.{eqb-true}
use Rattle.monos.proofs.ShortMonos.{same_where_words, apart_where_counts}
use Rattle.monos.proofs.short_mono.ShortMono.is_same.Goals as goal

pub returns-then-self-other : goal.returns-then-self-other
returns-then-self-other c =
    let is = same_where_words _ _ _ _ _ _ _ _ c.self.invariant c.other.invariant c.self.view_is
    c.other.view_is c.if-self-other.true in
    ((λ t. is.0 (eqb-true _ _ t)), (λ h. eq-eqb _ _ (is.1 h)))

pub returns-else-self-other : goal.returns-else-self-other
returns-else-self-other c = (
  (λ t. absurd (c.if-self-other.false (eqb-true _ _ t))),
  (λ h. absurd (apart_where_counts _ _ _ _ _ _ _ _ c.self.invariant c.other.invariant
      c.self.view_is c.other.view_is c.if-self-other.false h)),
)
