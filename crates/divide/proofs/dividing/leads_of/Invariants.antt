use Rattle.std.proofs.Common.{◌≡◌, map, take}
use Rattle.machines.specs.Cut.{lead_of}
use Rattle.poly.specs.Seen.{terms_each}
use Rattle.divide.proofs.dividing.leads_of.Given as goal

abbrev pub invariant-loop-g : goal.invariant-loop-g
invariant-loop-g g l = l.leads.items ≡ map lead_of (terms_each (take l.g-index l.list))
