use Rattle.expo.proofs.Powering.{Raised}
use Rattle.expo.proofs.powers.times_power.Given as goal

abbrev pub invariant-loop : goal.invariant-loop
invariant-loop l = Raised l.by l.number l.counter l.found
