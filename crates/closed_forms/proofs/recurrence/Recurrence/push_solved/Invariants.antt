use Rattle.std.proofs.Common.{drop}
use Rattle.algebra.specs.Fraction.{Fraction}
use Rattle.polynomials.specs.Terms.{Terms}
use Rattle.coprime_base.specs.Sizes.{sizes}
use Rattle.expo.specs.Powers.{number_of}
use Rattle.closed_forms.specs.Solved.{AreSolvedBehind}
use Rattle.closed_forms.proofs.Mixing.{tell}
use Rattle.closed_forms.proofs.recurrence.Recurrence.push_solved.Given as goal

abbrev pub invariant-loop-term : goal.invariant-loop-term
invariant-loop-term l =
    let b = sizes l.self.base.now.items in
    let x = number_of b l.self.own in
    (new : Terms Fraction)
    → AreSolvedBehind b l.self.vars x (tell (drop l.term-index l.self.inhomogeneity.now))
    (tell l.out.items) new
    → AreSolvedBehind b l.self.vars x (tell l.self.inhomogeneity.now) (tell l.initial.out.items) new
