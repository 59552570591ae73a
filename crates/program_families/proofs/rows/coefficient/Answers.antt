use Rattle.std.proofs.Common.{◌+◌, drop, sym, ap, ◌∙◌}
use Rattle.std.proofs.lemmas.List.{drop_all}
use Rattle.std.proofs.lemmas.Bool.{true≢false}
use Rattle.frac128.specs.FracMeaning.{fraction_of}
use Rattle.poly.specs.Seen.{terms_in}
use Rattle.poly.specs.View.{term_of, terms_of}
use Rattle.loop_model.proofs.Items.{past_list}
use Rattle.program_families.proofs.RestRows.{number_here, number_behind, number_none, falls_behind}
use Rattle.program_families.proofs.Tasks.{next_item}
use Rattle.program_families.proofs.rows.coefficient.Goals as goal

pub returns-then-eq : goal.returns-then-eq
returns-then-eq c =
    let ts = c.args.polynomial.now.terms.items in
    let i = c.loop-term.term-index in
    sym (number_here (terms_in c.args.polynomial.now) c.args.monomial.now _
    (terms_of fraction_of (drop (i + 1) ts)) (term_of fraction_of c.term-item.result)
    (ap (terms_of fraction_of) (next_item ts _
    (c.deref-term-items.ensures.value ∙ ap (λ v. v.items) c.terms.ensures) i c.term-item.result
    c.loop-term-test.true c.term-item.is)) c.loop-term.invariant.same c.loop-term.invariant.falls
    (c.eq.ensures.same.0 c.if-eq.true))

pub loop-term-preserved : goal.loop-term-preserved
loop-term-preserved c =
    let ts = c.args.polynomial.now.terms.items in
    let i = c.loop-term.term-index in
    let order = ap (terms_of fraction_of) (next_item ts _
    (c.deref-term-items.ensures.value ∙ ap (λ v. v.items) c.terms.ensures) i c.term-item.result
    c.loop-term-test.true c.term-item.is) in
    record {
      same = number_behind (terms_in c.args.polynomial.now) c.args.monomial.now _
          (terms_of fraction_of (drop (i + 1) ts)) (term_of fraction_of c.term-item.result) order
          c.loop-term.invariant.same c.loop-term.invariant.falls
          (λ e. true≢false (sym (c.eq.ensures.same.1 e) ∙ c.if-eq.false));
      falls = falls_behind (terms_in c.args.polynomial.now) c.args.monomial.now _
          (terms_of fraction_of (drop (i + 1) ts)) (term_of fraction_of c.term-item.result) order
          c.loop-term.invariant.same c.loop-term.invariant.falls;
    }

pub returns : goal.returns
returns c =
    let ts = c.args.polynomial.now.terms.items in
    let i = c.loop-term.term-index in
    c.zero.ensures
    ∙ sym (number_none (terms_in c.args.polynomial.now) c.args.monomial.now _
    (ap (terms_of fraction_of) (drop_all i ts (past_list ts _
    (c.deref-term-items.ensures.value ∙ ap (λ v. v.items) c.terms.ensures) i
    c.loop-term-test.false))) c.loop-term.invariant.same)
