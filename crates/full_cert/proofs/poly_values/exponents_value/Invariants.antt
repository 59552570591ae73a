use Rattle.std.specs.Prelude.{ℕ, ◌≤◌}
use Rattle.poly_text.specs.Flat.{most_power}
use Rattle.cert_form.proofs.Listed.{WrittenSoFar}
use Rattle.full_cert.specs.RawWritten.{exponent_data}
use Rattle.full_cert.proofs.poly_values.exponents_value.Given as goal

abbrev pub invariant-loop-exponent : goal.invariant-loop-exponent
invariant-loop-exponent l = WrittenSoFar (λ (n : ℕ). n) exponent_data (λ n. n ≤ most_power)
    l.exponents l.exponent-index l.values.items
