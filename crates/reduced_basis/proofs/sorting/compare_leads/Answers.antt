use Rattle.std.proofs.Common.{length, sym, ap, ap₂, ◌∙◌}
use Rattle.polynomials.specs.Order.{compare}
use Rattle.poly.specs.Seen.{terms_in}
use Rattle.poly.specs.View.{term_of}
use Rattle.poly.proofs.Multiples.{seen_lead}
use Rattle.divide.proofs.OneCut.{lead_is, lead_long}
use Rattle.reduced_basis.proofs.sorting.compare_leads.Goals as goal

pub compare-requires : goal.compare-requires
compare-requires g c =
    let t = term_of g.K.Ring.meaning in
    let f = c.args.f.now in
    let h = c.args.g.now in
    let first = seen_lead t c.deref.result.now f.terms.items c.in-Some.first.now
    c.in-Some.ensures.value (c.deref.ensures.value ∙ ap (λ v. v.items) c.terms.ensures) in
    let second = seen_lead t c.deref-2.result.now h.terms.items c.in-Some-first.second.now
    c.in-Some-first.ensures.value (c.deref-2.ensures.value
    ∙ ap (λ v. v.items) c.terms-2.ensures) in
    sym (ap length (lead_is _ _ _ first)) ∙ lead_long _ (terms_in f) c.requires.nonzero.0
    f.polynomial.arity ∙ c.requires.arity
    ∙ sym (lead_long _ (terms_in h) c.requires.nonzero.1 h.polynomial.arity)
    ∙ ap length (lead_is _ _ _ second)

pub returns : goal.returns
returns g c =
    let t = term_of g.K.Ring.meaning in
    let f = c.args.f.now in
    let h = c.args.g.now in
    let first = seen_lead t c.deref.result.now f.terms.items c.in-Some.first.now
    c.in-Some.ensures.value (c.deref.ensures.value ∙ ap (λ v. v.items) c.terms.ensures) in
    let second = seen_lead t c.deref-2.result.now h.terms.items c.in-Some-first.second.now
    c.in-Some-first.ensures.value (c.deref-2.ensures.value
    ∙ ap (λ v. v.items) c.terms-2.ensures) in
    c.compare.ensures ∙ ap₂ (compare (g.O.Order.order c.args.order)) (sym (lead_is _ _ _ first))
    (sym (lead_is _ _ _ second))
