use Rattle.std.proofs.Common.{◌≡◌, ℕ, take}
use Rattle.poly.specs.Seen.{terms_each}
use Rattle.ideal_ops.specs.Calls.{AreOver}
use Rattle.closing.proofs.listing.copies.Given as goal

abbrev pub invariant-loop-polynomial : goal.invariant-loop-polynomial
invariant-loop-polynomial l = record {
  terms : terms_each l.list.items ≡ terms_each (take l.polynomial-index l.polynomials);
  over : (m : ℕ) → AreOver m l.polynomials → AreOver m l.list.items;
}
