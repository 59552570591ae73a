use Rattle.std.proofs.Common.{◌<◌, Some, get_or, [], refl, ap, sym, ◌∙◌, length, subst, arith}
use Rattle.std.proofs.lemmas.List.{length-map}
use Rattle.poly.specs.View.{term_of}
use Rattle.machines.specs.Cut.{cut_by, all_places}
use Rattle.algebra.specs.Scalars.{field}
use Rattle.divide.specs.Cutting.{cutting_of}
use Rattle.poly.specs.Seen.{terms_in}
use Rattle.divide.proofs.OneCut.{seen_at, term_long}
use Rattle.divide.proofs.Finding.{cut_by_found, cut_by_none, find_first, find_next, find_end, found_at}
use Rattle.divide.proofs.Parts.{undivided_next, undivided_none}
use Rattle.divide.proofs.current.Current.find.Goals as goal

pub loop-term-init : goal.loop-term-init
loop-term-init g c = (λ gs h. refl, undivided_none c.args.leads.now [] refl)

pub first_divisor-requires : goal.first_divisor-requires
first_divisor-requires g c =
    let t = term_of g.K.Ring.meaning in
    let items = c.deref-found-items.ensures.value ∙ ap (λ v. v.items) c.terms.ensures in
    let within : c.loop-term.term < length (terms_in c.args.self.now.rest) =
    subst (λ n. c.loop-term.term < n) (ap length items
    ∙ sym (length-map c.args.self.now.rest.terms.items t)) c.loop-term-test.true in
    let at = seen_at t c.args.self.now.rest.terms.items c.loop-term.term c.found-item.result _
    within (c.found-item.is ∙ ap (λ xs. get_or xs c.loop-term.term c.found-item.result)
    items) in
    λ k d l. c.requires k d l
    ∙ sym (term_long _ (terms_in c.args.self.now.rest) c.loop-term.term (
      [],
      g.K.Ring.scalars.zero,
    ) within c.args.self.now.rest.polynomial.arity)
    ∙ ap (λ t. length t.0) at

pub returns-in-Some-clause-found : goal.returns-in-Some-clause-found
returns-in-Some-clause-found g c =
    let S = g.K.Ring.scalars in
    let t = term_of g.K.Ring.meaning in
    let items = c.deref-found-items.ensures.value ∙ ap (λ v. v.items) c.terms.ensures in
    let within : c.loop-term.term < length (terms_in c.args.self.now.rest) =
    subst (λ n. c.loop-term.term < n) (ap length items
    ∙ sym (length-map c.args.self.now.rest.terms.items t)) c.loop-term-test.true in
    let at = seen_at t c.args.self.now.rest.terms.items c.loop-term.term c.found-item.result _
    within (c.found-item.is ∙ ap (λ xs. get_or xs c.loop-term.term c.found-item.result)
    items) in
    λ gs h. found_at S gs (terms_in c.args.self.now.rest) c.loop-term.term c.in-Some.element within
    (c.loop-term.invariant.0 gs h ∙ find_first S all_places gs (terms_in c.args.self.now.rest)
    c.loop-term.term _ within
    (ap (cut_by (field S) all_places 0 gs) at
    ∙ cut_by_found S (t c.found-item.result) c.args.leads.now gs c.in-Some.element h
    (sym c.first_divisor.ensures ∙ c.in-Some.is)
    ∙ ap (λ t. Some (cutting_of S c.in-Some.element t (get_or gs c.in-Some.element []))) (sym at)))

pub loop-term-preserved : goal.loop-term-preserved
loop-term-preserved g c =
    let S = g.K.Ring.scalars in
    let t = term_of g.K.Ring.meaning in
    let items = c.deref-found-items.ensures.value ∙ ap (λ v. v.items) c.terms.ensures in
    let within : c.loop-term.term < length (terms_in c.args.self.now.rest) =
    subst (λ n. c.loop-term.term < n) (ap length items
    ∙ sym (length-map c.args.self.now.rest.terms.items t)) c.loop-term-test.true in
    let at = seen_at t c.args.self.now.rest.terms.items c.loop-term.term c.found-item.result _
    within (c.found-item.is ∙ ap (λ xs. get_or xs c.loop-term.term c.found-item.result)
    items) in
    let none = sym c.first_divisor.ensures ∙ c.in_default.is in (
      λ gs h. c.loop-term.invariant.0 gs h
          ∙ find_next S all_places gs (terms_in c.args.self.now.rest) c.loop-term.term within
          (ap (cut_by (field S) all_places 0 gs) at ∙ cut_by_none S (t c.found-item.result)
          c.args.leads.now gs h none),
      undivided_next c.args.leads.now (terms_in c.args.self.now.rest) c.loop-term.term
          (t c.found-item.result) within
          (sym (seen_at t c.args.self.now.rest.terms.items c.loop-term.term c.found-item.result
          (t c.found-item.result) within (c.found-item.is
          ∙ ap (λ xs. get_or xs c.loop-term.term c.found-item.result) items))) none
          c.loop-term.invariant.1,
    )

pub returns-clause-found : goal.returns-clause-found
returns-clause-found g c =
    let items = c.deref-found-items.ensures.value ∙ ap (λ v. v.items) c.terms.ensures in
    let size = ap length items
    ∙ sym (length-map c.args.self.now.rest.terms.items (term_of g.K.Ring.meaning)) in
    let out = c.loop-term-test.false in
    λ gs h. c.loop-term.invariant.0 gs h ∙ find_end g.K.Ring.scalars all_places gs
    (terms_in c.args.self.now.rest) c.loop-term.term (omega (arith, size, out))

pub returns-in-Some-clause-before : goal.returns-in-Some-clause-before
returns-in-Some-clause-before g c = c.loop-term.invariant.1
