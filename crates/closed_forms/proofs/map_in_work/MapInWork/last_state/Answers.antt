use Rattle.std.proofs.Common.{◌≡◌, All, length, sym, ap, subst, ◌∙◌, arith}
use Rattle.poly.specs.Seen.{terms_each}
use Rattle.solvable.proofs.Using.{FracPoly}
use Rattle.closed_forms.specs.MapInWork.{images_in}
use Rattle.closed_forms.proofs.StateLists.{states_count, state_at, state_over}
use Rattle.closed_forms.proofs.map_in_work.MapInWork.last_state.Goals as goal

pub index-requires : goal.index-requires
index-requires c =
    let w = c.args.self.now in
    let n = states_count (images_in w) w.iterations w.states.items c.requires.work.states in
    omega (arith, n, w.states.ok.0)

pub returns-clause-terms : goal.returns-clause-terms
returns-clause-terms c =
    let w = c.args.self.now in
    ap terms_each c.as_slice.ensures.value
    ∙ state_at (images_in w) w.iterations w.states.items c.requires.work.states w.iterations
    c.index.result.now (omega arith) c.index.ensures

pub returns-clause-arities : goal.returns-clause-arities
returns-clause-arities c =
    let w = c.args.self.now in
    subst (λ ps. All (λ (p : FracPoly). p.arity ≡ length w.map.images.now.items) ps)
    (sym c.as_slice.ensures.value)
    (state_over w.map.images.now.items w.iterations w.states.items c.requires.work.states
    w.iterations
    c.index.result.now (omega arith) c.index.ensures
    c.requires.work.arities)
