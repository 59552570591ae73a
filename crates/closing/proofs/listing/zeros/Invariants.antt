use Rattle.std.proofs.Common.{◌≡◌, [], replicate}
use Rattle.poly.specs.Seen.{terms_each}
use Rattle.ideal_ops.specs.Calls.{AreOver}
use Rattle.closing.proofs.listing.zeros.Given as goal

abbrev pub invariant-loop : goal.invariant-loop
invariant-loop l = record {
  terms : terms_each l.row.items ≡ replicate l.counter [];
  over : AreOver l.arity l.row.items;
}
