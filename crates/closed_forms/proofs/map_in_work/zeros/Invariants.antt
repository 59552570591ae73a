use Rattle.std.proofs.Common.{◌≡◌, length}
use Rattle.coprime_base.specs.Sizes.{sizes}
use Rattle.closed_forms.specs.Values.{AreOver}
use Rattle.closed_forms.proofs.map_in_work.zeros.Given as goal

abbrev pub invariant-loop : goal.invariant-loop
invariant-loop l = (length l.polys.items ≡ l.counter)
    × AreOver (sizes l.base.items) l.count l.polys.items
