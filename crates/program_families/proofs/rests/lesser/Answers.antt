use Rattle.std.proofs.Common.{length, sym, ap, ◌∙◌, arith}
use Rattle.program_families.proofs.LesserMonomials.{found_in, none_in}
use Rattle.program_families.proofs.rests.lesser.Goals as goal

pub returns-then-index-gt0 : goal.returns-then-index-gt0
returns-then-index-gt0 c =
    let n = ap length (c.loop-variable.invariant.same ∙ sym c.exponents-list.ensures.exponents
    ∙ sym c.as_slice.ensures) ∙ sym c.in_ok-exponents.ensures.len
    ∙ sym c.len-variable-end.ensures in
    let l = c.loop-variable-test.true in
    found_in c.args.monomial.now c.loop-variable.exponents.items c.loop-variable.invariant.same
    c.loop-variable.variable c.loop-variable.invariant.before c.in_ok-monomial.monomial
    c.index.result.now c.index_mut.result.now (omega (arith, n, l)) c.index.ensures
    c.if-index-gt0.true c.index_mut.ensures.value c.in_ok-monomial.ensures.ok

pub returns : goal.returns
returns c =
    none_in c.args.monomial.now c.loop-variable.exponents.items c.loop-variable.invariant.same
    c.loop-variable.variable c.loop-variable.invariant.before c.len-variable-end.result
    (ap length (c.loop-variable.invariant.same ∙ sym c.exponents-list.ensures.exponents
    ∙ sym c.as_slice.ensures) ∙ sym c.in_ok-exponents.ensures.len ∙ sym c.len-variable-end.ensures)
    c.loop-variable-test.false
