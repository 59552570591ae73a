use Rattle.std.proofs.Common.{◌≡◌, take}
use Rattle.coprime_base.specs.Sizes.{sizes}
use Rattle.coprime_base.proofs.numbers_of_sizes.Given as goal

abbrev pub invariant-loop-size : goal.invariant-loop-size
invariant-loop-size l = sizes l.found.items ≡ take l.size-index l.list
