use Rattle.std.proofs.Common.{◌≡◌, ◌+◌, drop}
use Rattle.corollaries.specs.Order.{place_in}
use Rattle.invariant_fix.proofs.relations_ordering.place_in.Given as goal

abbrev pub invariant-loop-place : goal.invariant-loop-place
invariant-loop-place l = record {
  at : l.at ≡ l.place-index;
  rest : l.at + place_in (drop l.place-index l.places) l.var ≡ place_in l.places l.var;
}
