use Rattle.std.proofs.Common.{◌≢◌, [], All, take}
use Rattle.poly.specs.Seen.{terms_in}
use Rattle.computation_rows.proofs.calls.is_free_of_zero.Given as goal

abbrev pub invariant-loop-p : goal.invariant-loop-p
invariant-loop-p g l = All (λ p. terms_in p ≢ []) (take l.p-index l.list)
