use Rattle.std.proofs.Common.{refl}
use Rattle.expo.specs.Powers.{key_of_power}
use Rattle.closed_forms.specs.Later.{with_powers}
use Rattle.closed_forms.proofs.LaterForms.{grown_next}
use Rattle.closed_forms.proofs.Mixing.{tell, left_at, none_left}
use Rattle.closed_forms.proofs.recurrence.Recurrence.push_grown.Goals as goal

pub loop-term-preserved : goal.loop-term-preserved
loop-term-preserved c =
    grown_next (key_of_power c.args.self.now.own) _ _ _ _ _
    (left_at _ _ c.loop-term-test.true c.term-item.is) c.in_ok-push.ensures.items
    c.in_ok-mono.ensures.ok refl c.loop-term.invariant

pub returns : goal.returns
returns c = record {
  terms =
      none_left (λ ts. with_powers (key_of_power c.args.self.now.own) (tell ts)) refl _ _ _ _
      c.loop-term-test.false c.loop-term.invariant;
}
