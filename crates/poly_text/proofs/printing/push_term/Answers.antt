use Rattle.std.proofs.Common.{◌∙◌, sym}
use Rattle.std.proofs.lemmas.Result.{on_ok_weaker}
use Rattle.frac128.specs.FracMeaning.{fraction_of}
use Rattle.poly.specs.View.{term_of}
use Rattle.poly_text.proofs.PrintedTerms.{put_bare, put_full}
use Rattle.poly_text.proofs.printing.push_term.Goals as goal

pub returns-then-is_bare-clause-text : goal.returns-then-is_bare-clause-text
returns-then-is_bare-clause-text c =
    on_ok_weaker c.push_powers.result
    (put_bare c.args.names.now (term_of fraction_of c.args.term.now) _
    (c.as_slice-exponents.ensures ∙ c.exponents-list.ensures.exponents) _ (sym c.is_bare.ensures
    ∙ c.if-is_bare.true) _)
    c.push_powers.ensures

pub returns-clause-text : goal.returns-clause-text
returns-clause-text c =
    on_ok_weaker c.push_powers-2.result
    (put_full c.args.names.now (term_of fraction_of c.args.term.now) _
    (c.as_slice-exponents.ensures ∙ c.exponents-list.ensures.exponents) _ (sym c.is_bare.ensures
    ∙ c.if-is_bare.false) _ _
    c.in_ok-push_size.ensures)
    c.push_powers-2.ensures
