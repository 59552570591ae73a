use Rattle.std.proofs.Common.{◌≡◌, ◌≢◌, ◌+◌, ◌≤◌, ℕ, List, [], length, Some, sym, ap, subst, ◌∙◌, arith}
use Rattle.machines.specs.Journal.{units_of, Journal}
use Rattle.machines.specs.Machine.{Outcome, Ran, done, stopped}
use Rattle.poly.specs.Seen.{terms_each}
use Rattle.loop_model.specs.FracPoly.{FracPoly}
use Rattle.std.specs.Global.{Vec}
use Rattle.divide.specs.Outcomes.{refusal_of}
use Rattle.divide.specs.declared.EngineError.{EngineError}
use Rattle.divide.specs.declared.EngineError.TheVariants.{Wide, Budget, Memory}
use Rattle.loops.specs.Program.{Expr, Program}
use Rattle.loop_runs.specs.declared.stage.Stage.{Stage}
use Rattle.ideal_ops.specs.Calls.{AreOver}
use Rattle.loop_model.specs.View.{program_of}
use Rattle.loop_model.proofs.Formed.{formed}
use Rattle.rounds.specs.Results.{IsReducedList}
use Rattle.invariant_fix.specs.Refusals.{IfUnformedLoop, IsRefusedFrom, IsStoppedFrom}
use Rattle.corollaries.specs.Between.{between}
use Rattle.corollaries.specs.CodeBetween.{copies}
use Rattle.loop_runs.specs.Parts.{IsStageOf, code_in, stage_of}
use Rattle.invariant_fix.specs.Bases.{empty_journal}
use Rattle.invariant_fix.specs.Code.{IsListOf}
use Rattle.invariant_fix.specs.ChainSteps.{HasList, IsFormedStage, IsRefusedStage}
use Rattle.invariant_fix.proofs.Loops.{code_seen, body_is}
use Rattle.invariant_fix.proofs.Stages.{plain_has, plain_refused, first_unformed, then_unformed, both_free, stage_has, stage_refused, stage_wide, stage_exhausted, stage_wanting}
use Rattle.invariant_fix.proofs.Staging.{no_code, has_code, code_free, code_stops, loop_free, loop_forms, leading_at, mapped_list, units_left}
use Rattle.invariant_fix.proofs.Adding.{few_assigned}
use Rattle.invariant_fix.proofs.chain_steps.stage_basis.Goals.{Then-is_empty, After-open, After-mapped}
use Rattle.invariant_fix.proofs.chain_steps.stage_basis.Goals as goal

-- where there is no code
none_here : (c : Then-is_empty) → code_in c.args.stage.now.code ≡ []
none_here c = no_code c.index-branches-0.result
    (code_seen c.args.stage.now.code _ c.branches.ensures.branches c.branches.ensures.some
    c.index-branches-0.is) c.if-is_empty.ensures

pub returns-in-Ok-clause-ok : goal.returns-in-Ok-clause-ok
returns-in-Ok-clause-ok c = λ p is.
    (let g = c.args.stage.now in
    plain_has p _ _ _ c.basis_from.ensures.limit
    (none_here (goal.at.returns-in-Ok-clause-ok c).Then-is_empty)
    (loop_free p g is c.in-Ok.ensures.free) (loop_forms p g is c.in-Ok.ensures.forms)
    c.in-Ok.basis.items (subst (λ q. HasList q (Some (terms_each c.args.before.now))
    (length c.args.before.now) c.args.budget c.basis_from.new.meter c.in-Ok.basis.items)
    (body_is p g is) c.in-Ok.ensures.ok))

pub returns-in-Err-clause-err : goal.returns-in-Err-clause-err
returns-in-Err-clause-err c = λ p is.
    (let g = c.args.stage.now in
    plain_refused p _ _ _ c.basis_from.ensures.limit
    (none_here (goal.at.returns-in-Err-clause-err c).Then-is_empty) c.in-Err.error (subst (λ q.
    IsRefusedFrom q (Some (terms_each c.args.before.now)) (empty_journal c.args.budget)
    c.basis_from.new.meter c.in-Err.error) (body_is p g is) c.in-Err.ensures.err))

-- of its map, and of the loop's maps and branches
some_here : (c : After-open) → code_in c.args.stage.now.code ≢ []
some_here c = has_code c.index-branches-0.result
    (code_seen c.args.stage.now.code _ c.branches.ensures.branches c.branches.ensures.some
    c.index-branches-0.is) c.if-is_empty.ensures

pub returns-in-Err-branch_map-clause-err : goal.returns-in-Err-branch_map-clause-err
returns-in-Err-branch_map-clause-err c = λ p is.
    (let g = c.args.stage.now in
    let some = some_here (goal.at.returns-in-Err-branch_map-clause-err c).After-open in
    subst (IsRefusedStage p (stage_of g).code (stage_of g).branches c.args.before.now c.args.budget
    c.open.new.self) (sym c.not_formed.ensures)
    (first_unformed p (stage_of g).code _ c.args.before.now _ c.open.ensures _
    (code_stops p g is some _ c.in-Err-branch_map.ensures.stops)))

pub returns-in-Err-setting_of-clause-err : goal.returns-in-Err-setting_of-clause-err
returns-in-Err-setting_of-clause-err c = λ p is.
    (let g = c.args.stage.now in
    then_unformed p (stage_of g).code _ c.args.before.now _ c.open.ensures
    (code_free p g is c.in-Ok-branch_map.ensures.free) _ (subst (λ q. IfUnformedLoop q
    c.in-Err-setting_of.error) (body_is p g is) c.in-Err-setting_of.ensures.refused))

-- the stage behind the elimination of its code
module _ (c : After-mapped) (p : Program (Expr ℕ)) (is : IsStageOf p c.args.stage.now) where
  abbrev g : Stage
  g = c.args.stage.now

  formed_here : (m : Journal)
      → IsFormedStage p (stage_of g).code (stage_of g).branches c.args.before.now c.args.budget m
  formed_here m = both_free p (stage_of g).code (stage_of g).branches c.args.before.now
      c.args.budget m (code_free p g is c.in-Ok-branch_map.ensures.free)
      (loop_free p g is c.in-Ok-setting_of.ensures.free)
      (loop_forms p g is c.in-Ok-setting_of.ensures.forms)

  -- the elimination, as code has it
  abbrev Leads : Outcome (Vec FracPoly) → Type 0
  Leads o = Ran (between (program_of g.code) (code_in g.code) (terms_each c.args.before.now))
      (IsListOf (length (program_of g.code).names) (code_in g.code)) c.open.new.self
      c.mapped.new.meter o

  abbrev Runs : Outcome (Vec FracPoly) → Type 0
  Runs o = Ran (between p (code_in g.code) (terms_each c.args.before.now))
      (IsListOf (length p.names) (code_in g.code)) c.open.new.self c.mapped.new.meter o

  runs : (o : Outcome (Vec FracPoly)) → Leads o → Runs o
  runs o r = leading_at p g is c.args.before.now c.open.new.self c.mapped.new.meter o r

  stops : {e : EngineError} (f : EngineError) → e ≡ f → Leads (stopped (refusal_of e))
      → Runs (stopped (refusal_of f))
  stops f same r =
      runs (stopped (refusal_of f)) (subst (λ x. Leads (stopped (refusal_of x))) same r)

-- the elimination of the code hasn't ended
pub returns-in-Err-Wide-clause-err : goal.returns-in-Err-Wide-clause-err
returns-in-Err-Wide-clause-err c = λ p is.
    (let some = some_here (goal.at.returns-in-Err-Wide-clause-err c).After-open in
    let at = (goal.at.returns-in-Err-Wide-clause-err c).After-mapped in
    let g = c.args.stage.now in
    stage_wide p (stage_of g).branches c.args.before.now c.args.budget c.open.ensures
    (stage_of g).code some c.mapped.new.meter (formed_here at p is c.mapped.new.meter)
    (stops at p is Wide c.in-Err-Wide.field-0-is c.in-Err-Wide.ensures.ran))

pub returns-in-Err-Budget-clause-err : goal.returns-in-Err-Budget-clause-err
returns-in-Err-Budget-clause-err c = λ p is.
    (let some = some_here (goal.at.returns-in-Err-Budget-clause-err c).After-open in
    let at = (goal.at.returns-in-Err-Budget-clause-err c).After-mapped in
    let g = c.args.stage.now in
    stage_exhausted p (stage_of g).branches c.args.before.now c.args.budget c.open.ensures
    (stage_of g).code some c.mapped.new.meter (formed_here at p is c.mapped.new.meter)
    (stops at p is Budget c.in-Err-Budget.field-0-is c.in-Err-Budget.ensures.ran))

pub returns-in-Err-Memory-clause-err : goal.returns-in-Err-Memory-clause-err
returns-in-Err-Memory-clause-err c = λ p is.
    (let some = some_here (goal.at.returns-in-Err-Memory-clause-err c).After-open in
    let at = (goal.at.returns-in-Err-Memory-clause-err c).After-mapped in
    let g = c.args.stage.now in
    stage_wanting p (stage_of g).branches c.args.before.now c.args.budget c.open.ensures
    (stage_of g).code some c.mapped.new.meter
    (stops at p is Memory c.in-Err-Memory.field-0-is c.in-Err-Memory.ensures.ran))

-- it has
pub basis_in-requires-clause-reduced : goal.basis_in-requires-clause-reduced
basis_in-requires-clause-reduced c =
    let g = c.args.stage.now in
    let given = c.in-Ok-mapped.given in
    subst (λ ks. IsReducedList c.in-Ok-setting_of.setting.arity (terms_each ks))
    (sym c.deref-2.ensures.value)
    (subst (λ m. IsReducedList m (terms_each given.items))
    (ap length c.requires.names ∙ sym c.in-Ok-setting_of.ensures.setting.arity)
    (mapped_list (program_of g.code) (code_in g.code) c.args.before.now
    (subst (λ ns. AreOver (length ns) c.args.before.now) (sym c.requires.names) c.requires.over)
    c.args.budget c.open.new.self c.mapped.new.meter c.open.ensures given
    c.in-Ok-mapped.ensures.ran))

pub basis_in-requires-clause-few : goal.basis_in-requires-clause-few
basis_in-requires-clause-few c =
    let few = c.in-Ok-mapped.ensures.few in
    let e = ap (λ (ks : List FracPoly). length ks) c.deref-2.ensures.value in
    let before = c.requires.few in
    let units = units_left c.mapped.new.meter _ c.open.ensures c.in-Ok-mapped.ensures.ran.limit
    c.within_limit.ensures.within c.left-left.ensures in
    let budget = c.requires.budget in
    let names = c.args.stage.now.code.few_names in
    let copied = few_assigned (code_in c.args.stage.now.code) 0
    (length (program_of c.args.stage.now.code).names) in
    omega (arith, few, e, before, units, budget, names, copied)

pub returns-in-Ok-basis_in-clause-ok : goal.returns-in-Ok-basis_in-clause-ok
returns-in-Ok-basis_in-clause-ok c = λ p is.
    (let some = some_here (goal.at.returns-in-Ok-basis_in-clause-ok c).After-open in
    let at = (goal.at.returns-in-Ok-basis_in-clause-ok c).After-mapped in
    let g = c.args.stage.now in
    let ks = c.deref-2.result.now in
    let few = subst (λ ns. length c.in-Ok-mapped.given.items ≤ length c.args.before.now
    + copies (length ns) (code_in g.code) + units_of c.mapped.new.meter.entries) is.0.0
    c.in-Ok-mapped.ensures.few in
    stage_has p (stage_of g).branches c.args.before.now c.args.budget c.open.ensures
    (stage_of g).code some c.mapped.new.meter ks c.in-Ok-mapped.given (sym c.deref-2.ensures.value)
    (runs at p is (done c.in-Ok-mapped.given) c.in-Ok-mapped.ensures.ran) c.left-left.result
    (units_left c.mapped.new.meter _ c.open.ensures c.in-Ok-mapped.ensures.ran.limit
    c.within_limit.ensures.within c.left-left.ensures) c.basis_in.new.meter c.basis_in.ensures.limit
    (formed_here at p is c.basis_in.new.meter) (subst (λ (l : List FracPoly). length l ≤ length
    c.args.before.now + copies (length p.names) (code_in g.code) + units_of
    c.mapped.new.meter.entries) (sym c.deref-2.ensures.value) few) (subst (λ q. HasList q
    (Some (terms_each ks)) (length ks) c.left-left.result c.basis_in.new.meter
    c.in-Ok-basis_in.basis.items) (body_is p g is) (c.in-Ok-basis_in.ensures.ok (program_of g.body)
    (formed g.body) c.in-Ok-setting_of.ensures.setting)))

pub returns-clause-err : goal.returns-clause-err
returns-clause-err c = λ p is.
    (let some = some_here (goal.at.returns-clause-err c).After-open in
    let at = (goal.at.returns-clause-err c).After-mapped in
    let g = c.args.stage.now in
    let ks = c.deref-2.result.now in
    stage_refused p (stage_of g).branches c.args.before.now c.args.budget c.open.ensures
    (stage_of g).code some c.mapped.new.meter ks c.in-Ok-mapped.given (sym c.deref-2.ensures.value)
    (runs at p is (done c.in-Ok-mapped.given) c.in-Ok-mapped.ensures.ran) c.left-left.result
    (units_left c.mapped.new.meter _ c.open.ensures c.in-Ok-mapped.ensures.ran.limit
    c.within_limit.ensures.within c.left-left.ensures) c.basis_in.new.meter c.basis_in.ensures.limit
    (formed_here at p is c.basis_in.new.meter) _ (subst (λ q. IsStoppedFrom q (Some (terms_each ks))
    c.basis_in.new.meter c.in-Err-basis_in.error) (body_is p g is)
    (c.in-Err-basis_in.ensures.err (program_of g.body) (formed g.body)
    c.in-Ok-setting_of.ensures.setting)))
