use Rattle.std.proofs.Common.{sym, subst, ◌∙◌, rules, arith}
use Rattle.std.proofs.lemmas.Result.{err_from_is_err_and}
use Rattle.grammars.specs.Grammar.{many}
use Rattle.poly_text.specs.CursorView.{rest}
use Rattle.poly_text.proofs.CursorReads.{passed_on}
use Rattle.poly_text.proofs.Paths.{IsFault, then_on, stopped}
use Rattle.poly_text.specs.Flat.{factor, power, flat_language}
use Rattle.poly_text.specs.FlatReads.{at_power}
use Rattle.poly_text.proofs.FlatSteps.{is_before_end, factor_more, factor_none}
use Rattle.poly_text.proofs.item_text.read_factors.Goals as goal

pub returns-in_err-next-clause-reads : goal.returns-in_err-next-clause-reads
returns-in_err-next-clause-reads c = λ fc.
    let at = c.loop-found.at in
    let ns = c.args.names.now in
    let s = at_power fc ns c.loop-found.found.items 0 in
    passed_on flat_language (err_from_is_err_and c.from_residual.result c.from_residual.ensures.1)
    (many factor) (at_power fc ns c.args.exponents.items 0) (λ f. at_power fc ns f.items 0)
    c.args.cursor
    (subst (IsFault c.in_err-next.field-0.0)
    (sym (factor_more at s.context (sym c.if-not-is_sign.ensures) c.next.result
    c.next.ensures.tokens) ∙ c.loop-found.invariant.same fc)
    (stopped flat_language power (many factor) s (rest c.next.result) c.in_err-next.field-0.0
    (c.in_err-next.ensures.reads fc)))

pub loop-found-preserved : goal.loop-found-preserved
loop-found-preserved c = record {
  falls = let one =
      c.next.ensures.falls (is_before_end c.loop-found.at 42 (sym c.if-not-is_sign.ensures)) in
      let two = c.in_ok-next.ensures.falls in let before = c.loop-found.invariant.falls in
      omega arith;
  len = search rules;
  same = λ fc.
      let at = c.loop-found.at in
      let ns = c.args.names.now in
      let s = at_power fc ns c.loop-found.found.items 0 in
      sym (factor_more at s.context (sym c.if-not-is_sign.ensures) c.next.result
      c.next.ensures.tokens
      ∙ then_on flat_language power (many factor) s (rest c.next.result)
      (at_power fc ns c.in_ok-next.next.items 0) (rest c.in_ok-next.end)
      (c.in_ok-next.ensures.reads fc))
      ∙ c.loop-found.invariant.same fc;
}

pub returns-then-not-is_sign-clause-reads : goal.returns-then-not-is_sign-clause-reads
returns-then-not-is_sign-clause-reads c =
    λ fc. factor_none c.loop-found.at (at_power fc c.args.names.now c.loop-found.found.items
    0).context (sym c.if-not-is_sign.ensures) ∙ c.loop-found.invariant.same fc
