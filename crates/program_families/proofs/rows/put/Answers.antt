use Rattle.std.proofs.Common.{◌≡◌, ◌<◌, ◌++◌, ◌∷◌, [], length, get_or, refl, sym, ap, subst, ◌∙◌, arith}
use Rattle.std.specs.List.{insert}
use Rattle.std.proofs.lemmas.List.{take_all}
use Rattle.algebra.specs.Each.{Each}
use Rattle.program_families.specs.RestRows.{IsSetOf}
use Rattle.program_families.proofs.RestRows.{before_more, put_before, put_once, put_last}
use Rattle.program_families.proofs.rows.put.Goals as goal
use Rattle.program_families.proofs.rows.put.Goals.{After-compare}

-- the monomial at the place
within : (c : After-compare) → c.loop-place.place < length c.args.monomials.now.items
within c =
    let a = c.loop-place-test.true in
    let b = c.len-place-end.ensures in
    let d = c.args.monomials.now.ok.0 in
    omega (arith, a, b, d)

here : (c : After-compare)
    → c.index.result.now ≡ get_or c.args.monomials.now.items c.loop-place.place c.index.result.now
here c =
    c.index.ensures
    ∙ ap (λ es. get_or es c.loop-place.place c.index.result.now) c.loop-place.invariant.same

pub loop-place-init : goal.loop-place-init
unfolding Each
loop-place-init c = record { same = refl; before = tt }

pub returns-in-Equal-clause-set : goal.returns-in-Equal-clause-set
returns-in-Equal-clause-set c = λ ms s.
    let at = (goal.at.returns-in-Equal-clause-set c).After-compare in
    subst (IsSetOf (ms ++ c.args.monomial.now ∷ [])) (sym c.loop-place.invariant.same)
    (put_once ms c.args.monomials.now.items c.args.monomial.now s c.loop-place.place
    c.index.result.now (within at) (here at) c.loop-place.invariant.before
    (sym c.compare.ensures ∙ c.in-Equal.is))

pub returns-in-Less-clause-set : goal.returns-in-Less-clause-set
returns-in-Less-clause-set c = λ ms s.
    let at = (goal.at.returns-in-Less-clause-set c).After-compare in
    subst (IsSetOf (ms ++ c.args.monomial.now ∷ []))
    (sym (c.in_ok-insert-in-Less.ensures.items
    ∙ ap (λ x. insert c.loop-place.monomials.items c.loop-place.place x)
    c.in_ok-copy-in-Less.ensures.ok
    ∙ ap (λ es. insert es c.loop-place.place c.args.monomial.now) c.loop-place.invariant.same))
    (put_before ms c.args.monomials.now.items c.args.monomial.now s c.loop-place.place
    c.index.result.now (within at) (here at) c.loop-place.invariant.before
    (sym c.compare.ensures ∙ c.in-Less.is))

pub loop-place-preserved : goal.loop-place-preserved
loop-place-preserved c =
    let at = (goal.at.loop-place-preserved c).After-compare in
    record {
      same = c.loop-place.invariant.same;
      before = before_more c.args.monomials.now.items c.args.monomial.now c.loop-place.place
          c.index.result.now (within at) (here at) (sym c.compare.ensures ∙ c.in-Greater.is)
          c.loop-place.invariant.before;
    }

pub returns-clause-set : goal.returns-clause-set
returns-clause-set c = λ ms s.
    let es = c.args.monomials.now.items in
    let a = c.loop-place-test.false in
    let b = c.len-place-end.ensures in
    let d = c.args.monomials.now.ok.0 in
    subst (IsSetOf (ms ++ c.args.monomial.now ∷ []))
    (sym (c.in_ok-push.ensures.items
    ∙ ap (λ x. c.loop-place.monomials.items ++ x ∷ []) c.in_ok-copy.ensures.ok
    ∙ ap (λ ys. ys ++ c.args.monomial.now ∷ []) c.loop-place.invariant.same))
    (put_last ms es c.args.monomial.now s
    (subst (Each _) (take_all c.loop-place.place es (omega (arith, a, b, d)))
    c.loop-place.invariant.before))
