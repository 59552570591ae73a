use Rattle.std.proofs.Common.{ap, ◌∙◌, refl}
use Rattle.algebra.specs.Scalars.{field}
use Rattle.poly.specs.Seen.{terms_in}
use Rattle.machines.specs.Completion.{with_element}
use Rattle.complete.specs.Completing.{state_of}
use Rattle.complete.proofs.Coming.{generator_zero, generator_some, degree_is}
use Rattle.complete.proofs.completing.add_generator.Goals as goal

pub returns-in_default-clause-ok : goal.returns-in_default-clause-ok
returns-in_default-clause-ok g c = generator_zero (field g.K.Ring.scalars)
    (g.O.Order.order c.args.state.now.order) (terms_in c.args.g.now) (state_of c.args.state.now)
    (c.in_default.ensures.none.0 refl)

pub returns-clause-ok : goal.returns-clause-ok
returns-clause-ok g c =
    let F = field g.K.Ring.scalars in
    let O = g.O.Order.order c.args.state.now.order in
    let p = terms_in c.args.g.now in
    let s = state_of c.args.state.now in
    let m = terms_in c.in_ok-monic.monic in
    c.in_ok-add_element.ensures.element
    ∙ ap (λ n. with_element F O s m n) (degree_is c.in-Some.degree p c.in-Some.ensures.some)
    ∙ generator_some F O p m s (λ z. (let q = c.in-Some.ensures.none.1 z in
    absurd (let f : ⊥ = cc in f))) c.in_ok-monic.ensures.monic
