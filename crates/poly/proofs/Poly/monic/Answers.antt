use Rattle.std.proofs.Common.{◌≡◌, true, false, sym, ap, ◌∙◌}
use Rattle.poly.specs.View.{term_of}
use Rattle.poly.proofs.Multiples.{monic_already, seen_lead, first_number, first_nonzero}
use Rattle.poly.proofs.Poly.monic.Goals as goal

pub returns-then-eq-clause-quotient : goal.returns-then-eq-clause-quotient
returns-then-eq-clause-quotient g c =
    let lead = seen_lead (term_of g.K.Ring.meaning) c.deref.result.now c.args.self.now.terms.items
    c.in-Some.lead.now c.in-Some.ensures.value c.deref.ensures.value in
    let one = ap g.K.Ring.meaning ((g.met.K.Ring.eq_is c.in-Some.lead.now.coef c.one.result).0
    (sym c.eq.ensures ∙ c.if-eq.true)) ∙ c.one.ensures in
    record {
      order = c.in_ok-copy.ensures.order;
      arity = c.in_ok-copy.ensures.arity;
      same = monic_already g.K.Ring.scalars g.met.K.Ring.ring g.met.K.Field.field _ _ _ _
          c.args.self.now.polynomial.arity
          (sym (first_number g.K.Ring.scalars.arithmetic _ _ _ lead) ∙ one)
          c.in_ok-copy.ensures.terms;
    }

pub divide_by-requires : goal.divide_by-requires
divide_by-requires g c =
    let lead = seen_lead (term_of g.K.Ring.meaning) c.deref.result.now c.args.self.now.terms.items
    c.in-Some.lead.now c.in-Some.ensures.value c.deref.ensures.value in
    first_nonzero g.K.Ring.scalars _ _ _ _ _ lead c.args.self.now.polynomial

pub returns-clause-narrow : goal.returns-clause-narrow
returns-clause-narrow g c =
    let lead = seen_lead (term_of g.K.Ring.meaning) c.deref.result.now c.args.self.now.terms.items
    c.in-Some.lead.now c.in-Some.ensures.value c.deref.ensures.value in
    λ one w.
    let same = g.met.K.Ring.meaning_decides c.in-Some.lead.now.coef c.one.result
    (first_number g.K.Ring.scalars.arithmetic _ _ _ lead ∙ one ∙ sym c.one.ensures) in
    let yes : true ≡ false = sym ((g.met.K.Ring.eq_is c.in-Some.lead.now.coef c.one.result).1 same)
    ∙ sym c.eq.ensures ∙ c.if-eq.false in
    cc
