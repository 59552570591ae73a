use Rattle.std.proofs.Common.{◌≡◌, ◌++◌, ℕ, take}
use Rattle.poly.specs.Seen.{terms_each}
use Rattle.ideal_ops.specs.Calls.{AreOver}
use Rattle.ideal_ops.proofs.operations.push_copies.Given as goal

abbrev pub invariant-loop-p : goal.invariant-loop-p
invariant-loop-p g l = (terms_each l.gens.items ≡ terms_each l.initial.gens.items
    ++ terms_each (take l.p-index l.list))
    × ((m : ℕ) → AreOver m l.initial.gens.items → AreOver m l.list → AreOver m l.gens.items)
