use Rattle.std.proofs.Common.{◌≡◌, ◌-◌, ◌++◌, length, take}
use Rattle.monos.specs.Lanes.{lanes}
use Rattle.monos.proofs.lanes.exponents_in.Given as goal

abbrev pub invariant-loop-i : goal.invariant-loop-i
invariant-loop-i l = record {
  so_far : take l.i l.exponents ++ lanes l.room (l.count - l.i) l.rest ≡ lanes l.room l.count
      l.word;
  places : length l.exponents ≡ 16;
}
