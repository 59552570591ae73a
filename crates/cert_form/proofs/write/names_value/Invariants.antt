use Rattle.std.proofs.Common.{List, ℕ}
use Rattle.serde_json.specs.Data.{string}
use Rattle.cert_form.proofs.Listed.{WrittenSoFar}
use Rattle.cert_form.proofs.write.names_value.Given as goal

abbrev pub invariant-loop-index : goal.invariant-loop-index
invariant-loop-index l = WrittenSoFar (λ (t : List ℕ). t) string (λ t. Unit {0}) l.names l.index
    l.texts.items
