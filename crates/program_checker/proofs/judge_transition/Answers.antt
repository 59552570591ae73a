use Rattle.std.proofs.Common.{◌+◌}
use Rattle.std.proofs.lemmas.Result.{IfOk-weaker, IfErr-weaker}
use Rattle.poly.proofs.Standing.{stands_over}
use Rattle.cert_checker.proofs.Stopping.{passed_on}
use Rattle.program_model.specs.declared.graph.Transition.{Transition}
use Rattle.program_model.specs.Graphs.{IsTransitionIn}
use Rattle.program_checker.proofs.VerdictLaws.{transition_stands, rows_fit, step_found, step_short, step_refused, step_long, some_image, elements_over}
use Rattle.program_checker.proofs.judge_transition.Goals as goal
use Rattle.program_checker.proofs.judge_transition.Goals.{After-index-rows}

module _ (c : After-index-rows) where
  abbrev t : Transition
  t = c.index-transition.result.now

  stands : IsTransitionIn c.args.graph.now.variables c.args.graph.now.nodes t
  stands = transition_stands c.args.graph.now c.args.cert.now c.requires.graph c.requires.fits
      c.args.number c.requires.number t c.index-transition.ensures

pub invariant_of-step : goal.invariant_of-step
invariant_of-step c =
    let g = c.args.graph.now in
    let d = c.args.cert.now in
    let at = (goal.at.invariant_of-step c).After-index-rows in
    record {
      some = some_image g d c.requires.graph c.requires.fits (t at) (stands at);
      over = (stands at).images;
      inside = elements_over g d c.requires.graph c.requires.fits (t at) (stands at)
          c.index-elements.result.now c.index-elements.ensures;
      standing = stands_over ((t at).unknowns + g.variables)
          c.in_ok-generators.generators.items _ c.in_ok-generators.ensures.generators;
      fit = rows_fit g d c.requires.graph c.requires.fits c.args.number c.requires.number (t at)
          c.index-transition.ensures c.index-list.result.now c.index-elements.result.now
          c.index-rows.result.now c.index-list.ensures c.index-elements.ensures
          c.index-rows.ensures c.in_ok-generators.generators.items
          c.in_ok-generators.ensures.generators;
    }

pub returns-in_err-test-clause-stops : goal.returns-in_err-test-clause-stops
returns-in_err-test-clause-stops c =
    let at = (goal.at.returns-in_err-test-clause-stops c).After-index-rows in
    passed_on _ _ _ c.from_residual-in_err-test.ensures.1
    (step_long c.args.graph.now c.args.cert.now c.requires.graph c.requires.fits c.args.number
    c.requires.number (t at) c.index-transition.ensures c.index-list.result.now
    c.index-elements.result.now c.index-rows.result.now c.index-list.ensures
    c.index-elements.ensures c.index-rows.ensures c.in_ok-generators.generators.items
    c.in_ok-generators.ensures.generators _ c.in_err-test.ensures.limit)

pub returns-clause-first : goal.returns-clause-first
returns-clause-first c =
    let at = (goal.at.returns-clause-first c).After-index-rows in
    IfOk-weaker c.first_failing.result _ _ (λ o h. step_found c.args.graph.now c.args.cert.now
    c.requires.graph c.requires.fits c.args.number c.requires.number (t at)
    c.index-transition.ensures c.index-list.result.now c.index-elements.result.now
    c.index-rows.result.now c.index-list.ensures c.index-elements.ensures c.index-rows.ensures
    c.in_ok-generators.generators.items c.in_ok-generators.ensures.generators o h)
    c.first_failing.ensures.first

pub returns-clause-short : goal.returns-clause-short
returns-clause-short c =
    let at = (goal.at.returns-clause-short c).After-index-rows in
    IfOk-weaker c.first_failing.result _ _ (λ o h. step_short c.args.graph.now c.args.cert.now
    c.requires.graph c.requires.fits c.args.number c.requires.number (t at)
    c.index-transition.ensures c.index-list.result.now c.index-elements.result.now
    c.index-rows.result.now c.index-list.ensures c.index-elements.ensures c.index-rows.ensures
    c.in_ok-generators.generators.items c.in_ok-generators.ensures.generators
    c.in_ok-test.ensures.few) c.first_failing.ensures.first

pub returns-clause-stops : goal.returns-clause-stops
returns-clause-stops c =
    let at = (goal.at.returns-clause-stops c).After-index-rows in
    let short = step_short c.args.graph.now c.args.cert.now
    c.requires.graph c.requires.fits c.args.number c.requires.number (t at)
    c.index-transition.ensures c.index-list.result.now c.index-elements.result.now
    c.index-rows.result.now c.index-list.ensures c.index-elements.ensures c.index-rows.ensures
    c.in_ok-generators.generators.items c.in_ok-generators.ensures.generators
    c.in_ok-test.ensures.few in
    IfErr-weaker c.first_failing.result _ _ (λ e h. step_refused c.args.graph.now
    c.args.cert.now c.requires.graph c.requires.fits c.args.number c.requires.number (t at)
    c.index-transition.ensures c.index-list.result.now c.index-elements.result.now
    c.index-rows.result.now c.index-list.ensures c.index-elements.ensures c.index-rows.ensures
    c.in_ok-generators.generators.items c.in_ok-generators.ensures.generators short e h)
    c.first_failing.ensures.stops
