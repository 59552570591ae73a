use Rattle.std.proofs.Common.{◌≡◌, All, Vec, Global, arith}
use Rattle.algebra.proofs.Lists.{have_more}
use Rattle.solvable.proofs.Using.{FracPoly}
use Rattle.closed_forms.specs.SquareMap.{polys_by, size_by}
use Rattle.closed_forms.proofs.StateLists.{states_count, states_next, state_length, state_over, next_is, past_state}
use Rattle.closed_forms.proofs.Mixing.{wide_on}
use Rattle.closed_forms.proofs.square_map.SquareMap.states.Goals as goal

pub index-requires : goal.index-requires
index-requires c =
    let n = states_count (polys_by c.args.self.now) c.loop-iteration.iteration
    c.loop-iteration.found.items c.loop-iteration.invariant.0 in
    let k = c.loop-iteration.found.ok.0 in
    omega (arith, n, k)

pub next_state-requires-clause-count : goal.next_state-requires-clause-count
next_state-requires-clause-count c =
    let i = c.loop-iteration.iteration in
    state_length c.args.self.now.images.now.items i c.loop-iteration.found.items
    c.loop-iteration.invariant.0 i c.index.result.now (omega arith) c.index.ensures

pub next_state-requires-clause-arities : goal.next_state-requires-clause-arities
next_state-requires-clause-arities c =
    let i = c.loop-iteration.iteration in
    state_over c.args.self.now.images.now.items i c.loop-iteration.found.items
    c.loop-iteration.invariant.0 i c.index.result.now (omega arith) c.index.ensures
    c.loop-iteration.invariant.1

pub returns-in_err-next-clause-wide : goal.returns-in_err-next-clause-wide
returns-in_err-next-clause-wide c =
    let i = c.loop-iteration.iteration in
    wide_on c.from_residual-in_err-next.ensures.1 (λ w. past_state c.args.self.now.images.now.items
    i c.loop-iteration.found.items c.loop-iteration.invariant.0 i c.index.result.now (omega arith)
    c.index.ensures c.loop-iteration-test.true (c.in_err-next.ensures.wide w))

pub loop-iteration-preserved : goal.loop-iteration-preserved
loop-iteration-preserved c =
    let M = c.args.self.now.images.now.items in
    let i = c.loop-iteration.iteration in
    let found = c.loop-iteration.found.items in
    let next = c.in_ok-next.next in (
      states_next (polys_by c.args.self.now) i found c.loop-iteration.invariant.0 next
          c.in_ok-push.ensures.items
          (next_is M i found c.loop-iteration.invariant.0 i c.index.result.now (omega arith)
          c.index.ensures c.in_ok-next.ensures.terms),
      have_more (λ (v : Vec FracPoly Global).
          All (λ (p : FracPoly). p.arity ≡ size_by c.args.self.now) v.items)
          found _ next c.in_ok-push.ensures.items c.loop-iteration.invariant.1
          c.in_ok-next.ensures.arities,
    )
