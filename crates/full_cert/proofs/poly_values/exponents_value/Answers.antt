use Rattle.std.proofs.Common.{rules, refl}
use Rattle.std.specs.Prelude.{◌≤◌}
use Rattle.poly_text.specs.Flat.{most_power}
use Rattle.cert_form.proofs.Listed.{written_start, written_more, written_all, itself}
use Rattle.full_cert.specs.RawWritten.{exponent_data}
use Rattle.full_cert.proofs.poly_values.exponents_value.Goals as goal

pub loop-exponent-init : goal.loop-exponent-init
loop-exponent-init c = written_start c.new-values.ensures.items

pub loop-exponent-preserved : goal.loop-exponent-preserved
loop-exponent-preserved c =
    let one = c.exponent_value.ensures in
    written_more refl c.loop-exponent.invariant c.loop-exponent-test.true (search rules)
    (record { value = one.value; holds = one.narrow }) c.in_ok-push.ensures.items

pub returns : goal.returns
returns c = itself exponent_data (λ n. n ≤ most_power) (written_all refl c.loop-exponent.invariant
    c.loop-exponent-test.false c.from.ensures)
