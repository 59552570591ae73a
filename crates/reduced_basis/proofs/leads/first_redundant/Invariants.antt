use Rattle.std.proofs.Common.{◌≡◌, drop}
use Rattle.reduced_basis.specs.Leads.{redundant_from}
use Rattle.reduced_basis.proofs.leads.first_redundant.Given as goal

abbrev pub invariant-loop-place : goal.invariant-loop-place
invariant-loop-place l = redundant_from l.leads l.from (drop l.from l.leads) ≡ redundant_from
    l.leads l.place (drop l.place l.leads)
