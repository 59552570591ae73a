use Rattle.std.proofs.Common.{◌≡◌, ◌+◌, ◌*◌, ◌^◌, drop}
use Rattle.poly.specs.Places.{place_of}
use Rattle.poly.proofs.grid.place.Given as goal

abbrev pub invariant-loop-exponent : goal.invariant-loop-exponent
invariant-loop-exponent l = record {
  power : l.unit ≡ l.base ^ l.exponent-index;
  so_far : l.place + l.unit * place_of l.base (drop l.exponent-index l.exponents) ≡ place_of l.base
      l.exponents;
}
