use Rattle.std.proofs.Common.{◌≡◌, ◌++◌, drop}
use Rattle.expo.specs.Powers.{key_of_power}
use Rattle.closed_forms.specs.Later.{with_powers}
use Rattle.closed_forms.proofs.Mixing.{tell}
use Rattle.closed_forms.proofs.recurrence.Recurrence.push_grown.Given as goal

abbrev pub invariant-loop-term : goal.invariant-loop-term
invariant-loop-term l =
    let x = key_of_power l.self.own in
    tell l.out.items ++ with_powers x (tell (drop l.term-index l.terms))
    ≡ tell l.initial.out.items ++ with_powers x (tell l.terms)
