use Rattle.std.proofs.Common.{◌≡◌, drop}
use Rattle.machines.specs.Tidying.{others}
use Rattle.reduced_basis.specs.Leads.{first_divisor}
use Rattle.reduced_basis.proofs.leads.divisor_but.Given as goal

abbrev pub invariant-loop-place : goal.invariant-loop-place
invariant-loop-place l = first_divisor (others l.at) 0 l.leads l.mono ≡ first_divisor (others l.at)
    l.place (drop l.place l.leads) l.mono
