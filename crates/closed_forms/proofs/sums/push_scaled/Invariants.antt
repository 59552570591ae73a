use Rattle.std.proofs.Common.{◌≡◌, ◌++◌, drop}
use Rattle.algebra.specs.Fraction.{rationals}
use Rattle.machines.specs.Collect.{scale_terms}
use Rattle.frac128.specs.FracMeaning.{fraction_of}
use Rattle.closed_forms.proofs.Mixing.{tell}
use Rattle.closed_forms.proofs.sums.push_scaled.Given as goal

abbrev pub invariant-loop-term : goal.invariant-loop-term
invariant-loop-term l =
    let c = fraction_of l.number in
    tell l.out.items ++ scale_terms rationals c (tell (drop l.term-index l.terms))
    ≡ tell l.initial.out.items ++ scale_terms rationals c (tell l.terms)
