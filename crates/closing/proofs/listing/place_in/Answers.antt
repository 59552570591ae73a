use Rattle.std.proofs.Common.{◌≡◌, true, false, ap, sym, ◌∙◌}
use Rattle.loop_model.specs.FracPoly.{FracPoly}
use Rattle.closing.proofs.Listed.{not_yet, not_in}
use Rattle.closing.proofs.listing.place_in.Goals as goal

pub loop-place-preserved : goal.loop-place-preserved
loop-place-preserved c =
    let p = c.index-polynomials-place.result in
    let arity = ap (λ (q : FracPoly). q.arity) c.index-polynomials-place.is
    ∙ c.requires.alike c.loop-place.place p c.loop-place-test.true in
    not_yet _ c.args.element.now _ p c.loop-place-test.true
    c.index-polynomials-place.is c.loop-place.invariant
    (λ h. let k : true ≡ false = sym (c.eq.ensures.same.1 (arity, h)) ∙ c.if-eq.false in cc)

pub returns-clause-none : goal.returns-clause-none
returns-clause-none c = λ z.
    not_in _ c.args.element.now _ c.loop-place-test.false c.loop-place.invariant
