use Rattle.std.proofs.Common.{◌<◌, [], ap, sym, ◌∙◌, length, subst, arith}
use Rattle.std.proofs.lemmas.List.{length-map}
use Rattle.machines.specs.Tidying.{others}
use Rattle.divide.specs.Cutting.{term_at}
use Rattle.divide.proofs.OneCut.{seen_at}
use Rattle.divide.proofs.Finding.{find_next, find_end}
use Rattle.poly.specs.View.{term_of, terms_of}
use Rattle.reduced_basis.specs.Leads.{first_divisor}
use Rattle.reduced_basis.proofs.Divisors.{cut_none}
use Rattle.reduced_basis.proofs.Behind.{term_found}
use Rattle.reduced_basis.proofs.tails.divided_term.Goals as goal

pub returns-in-Some : goal.returns-in-Some
returns-in-Some g c =
    let S = g.K.Ring.scalars in
    let t = term_of g.K.Ring.meaning in
    let p = terms_of g.K.Ring.meaning c.args.terms.now in
    let within : c.loop-term.term < length p = subst (λ n. c.loop-term.term < n)
    (sym (length-map c.args.terms.now t)) c.loop-term-test.true in
    let at = seen_at t c.args.terms.now c.loop-term.term c.index-terms-term.result ([], S.zero)
    within c.index-terms-term.is in
    λ gs e. term_found S c.args.at c.args.leads.now gs p c.loop-term.term c.in-Some.divisor e within
    (ap (λ u. first_divisor (others c.args.at) 0 c.args.leads.now u.0) at
    ∙ sym c.divisor_but.ensures ∙ c.in-Some.is) (c.loop-term.invariant gs e)

pub loop-term-preserved : goal.loop-term-preserved
loop-term-preserved g c =
    let S = g.K.Ring.scalars in
    let t = term_of g.K.Ring.meaning in
    let p = terms_of g.K.Ring.meaning c.args.terms.now in
    let within : c.loop-term.term < length p = subst (λ n. c.loop-term.term < n)
    (sym (length-map c.args.terms.now t)) c.loop-term-test.true in
    let at = seen_at t c.args.terms.now c.loop-term.term c.index-terms-term.result ([], S.zero)
    within c.index-terms-term.is in
    λ gs e. c.loop-term.invariant gs e ∙ find_next S (others c.args.at) gs p c.loop-term.term within
    (cut_none S (others c.args.at) gs (term_at S p c.loop-term.term)
    (ap (λ ls. first_divisor (others c.args.at) 0 ls (term_at S p c.loop-term.term).0) (sym e)
    ∙ ap (λ u. first_divisor (others c.args.at) 0 c.args.leads.now u.0) at
    ∙ sym c.divisor_but.ensures ∙ c.in_default.is))

pub returns : goal.returns
returns g c =
    let size = sym (length-map c.args.terms.now (term_of g.K.Ring.meaning)) in
    let out = c.loop-term-test.false in
    λ gs e. c.loop-term.invariant gs e ∙ find_end g.K.Ring.scalars (others c.args.at) gs
    (terms_of g.K.Ring.meaning c.args.terms.now) c.loop-term.term (omega (arith, size, out))
