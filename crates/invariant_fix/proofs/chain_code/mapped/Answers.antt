use Rattle.std.proofs.Common.{◌≡◌, ◌+◌, ℕ, List, ◌≤◌, length, inl, sym, ap, subst, ◌∙◌, arith}
use Rattle.complete.proofs.Made.{if_ok}
use Rattle.divide.specs.Outcomes.{outcome_of}
use Rattle.divide.proofs.Refused.{unmade}
use Rattle.machines.specs.Journal.{units_of}
use Rattle.machines.specs.Machine.{Ran, done}
use Rattle.poly.specs.Seen.{terms_each}
use Rattle.poly.specs.Standing.{AllStandFor}
use Rattle.ideal_ops.specs.Calls.{AreOver}
use Rattle.loops.specs.Map.{branch_map}
use Rattle.loops.specs.Program.{Expr, Program}
use Rattle.loop_model.specs.View.{program_of}
use Rattle.loop_model.specs.declared.statement.Statement as code
use Rattle.loop_runs.specs.Parts.{statements_in, code_in}
use Rattle.corollaries.specs.Between.{IsPastMaking, between}
use Rattle.corollaries.specs.CodeBetween.{copies}
use Rattle.invariant_fix.specs.Code.{IsListOf}
use Rattle.invariant_fix.proofs.Adding.{few_assigned}
use Rattle.invariant_fix.proofs.Leading.{values_count, values_over, past_is, ran_nothing, empty_start, made_so, made_first, made_arity, made_count, ran_so, over_made, few_out}
use Rattle.invariant_fix.proofs.Loops.{code_seen}
use Rattle.invariant_fix.proofs.chain_code.mapped.Goals as goal
use Rattle.invariant_fix.proofs.chain_code.mapped.Goals.{After-as_slice-code}

-- the code, and its values
module _ (c : After-as_slice-code) where
  abbrev program : Program (Expr ℕ)
  program = program_of c.args.lp.now

  abbrev b : List code.Statement
  b = c.as_slice-code.result.now

  same : statements_in b ≡ code_in c.args.lp.now
  same = ap statements_in c.as_slice-code.ensures.value ∙ code_seen c.args.lp.now _
      c.branches.ensures.branches c.branches.ensures.some c.index-branches-0.is

  stand : AllStandFor (length program.names) c.args.values.now
      (branch_map program (statements_in b))
  stand = subst (λ k. AllStandFor (length program.names) c.args.values.now (branch_map program k))
      (sym same) c.requires.values

  count : length c.args.values.now ≡ length program.names
  count = values_count program b c.args.values.now stand

pub list-requires-clause-work : goal.list-requires-clause-work
list-requires-clause-work c =
    let at = (goal.at.list-requires-clause-work c).After-as_slice-code in
    let size = count at in
    let lp = c.args.lp.now in
    record {
      some = (let l = lp.some_name in omega (arith, size, l));
      few = (let l = lp.few_names in omega (arith, size, l));
      values = subst (λ m. AreOver m c.args.values.now) (sym size)
          (values_over (program at) (b at) c.args.values.now (stand at));
      count = c.count_assigned.ensures.count;
      few_copies = c.count_assigned.ensures.few;
    }

pub list-requires-clause-basis : goal.list-requires-clause-basis
list-requires-clause-basis c =
    let at = (goal.at.list-requires-clause-basis c).After-as_slice-code in
    subst (λ m. AreOver m c.args.basis.now) (sym (count at)) c.requires.basis

pub returns-in_err-gens-clause-ran : goal.returns-in_err-gens-clause-ran
returns-in_err-gens-clause-ran c =
    let at = (goal.at.returns-in_err-gens-clause-ran c).After-as_slice-code in
    unmade (between (program at) (code_in c.args.lp.now) (terms_each c.args.basis.now)) _ _
    c.from_residual.ensures.1 (λ w. inl (subst (λ k. IsPastMaking (program at) k
    (terms_each c.args.basis.now)) (same at) (past_is (program at) (b at) c.args.values.now
    (stand at) c.args.basis.now (c.in_err-gens.ensures.wide w))))

-- nothing to be eliminated from
pub returns-then-is_empty-clause-ran : goal.returns-then-is_empty-clause-ran
returns-then-is_empty-clause-ran c =
    let at = (goal.at.returns-then-is_empty-clause-ran c).After-as_slice-code in
    subst (λ k. Ran (between (program at) k (terms_each c.args.basis.now))
    (IsListOf (length (program at).names) k) c.args.meter.now c.args.meter.now (done c.new.result))
    (same at) (ran_nothing (program at) (b at) _ c.args.meter.now c.new.result c.new.ensures.items
    (empty_start (program at) (b at) _ (stand at) _ c.in_ok-gens.gens c.in_ok-gens.ensures.list
    c.if-is_empty.ensures))

-- or something
pub eliminate-requires-clause-block : goal.eliminate-requires-clause-block
eliminate-requires-clause-block c =
    let at = (goal.at.eliminate-requires-clause-block c).After-as_slice-code in
    let u = made_so (program at) (b at) _ (stand at) _ c.in_ok-gens.gens c.in_ok-gens.ensures.list
    c.deref.ensures.value c.in_ok-gens.ensures.block c.if-is_empty.ensures in
    let x = made_first (program at) (b at) _ u in
    let y = made_arity (program at) (b at) _ u in
    omega (arith, x, y)

pub eliminate-requires-clause-few : goal.eliminate-requires-clause-few
eliminate-requires-clause-few c =
    let at = (goal.at.eliminate-requires-clause-few c).After-as_slice-code in
    let u = made_so (program at) (b at) _ (stand at) _ c.in_ok-gens.gens c.in_ok-gens.ensures.list
    c.deref.ensures.value c.in_ok-gens.ensures.block c.if-is_empty.ensures in
    let x = made_count (program at) (b at) _ u in
    let few = c.requires.few in
    let names = c.args.lp.now.few_names in
    let copied = few_assigned (statements_in (b at)) 0 (length (program at).names) in
    omega (arith, x, few, names, copied)

pub returns-clause-ran : goal.returns-clause-ran
returns-clause-ran c =
    let at = (goal.at.returns-clause-ran c).After-as_slice-code in
    let u = made_so (program at) (b at) _ (stand at) _ c.in_ok-gens.gens c.in_ok-gens.ensures.list
    c.deref.ensures.value c.in_ok-gens.ensures.block c.if-is_empty.ensures in
    subst (λ k. Ran (between (program at) k (terms_each c.args.basis.now))
    (IsListOf (length (program at).names) k) c.args.meter.now c.eliminate.new.meter
    (outcome_of c.eliminate.result)) (same at)
    (ran_so (program at) (b at) _ u (outcome_of c.eliminate.result) c.eliminate.ensures.ran)

pub returns-clause-over : goal.returns-clause-over
returns-clause-over c =
    let at = (goal.at.returns-clause-over c).After-as_slice-code in
    let u = made_so (program at) (b at) _ (stand at) _ c.in_ok-gens.gens c.in_ok-gens.ensures.list
    c.deref.ensures.value c.in_ok-gens.ensures.block c.if-is_empty.ensures in
    if_ok _ _ c.eliminate.result (λ hs e. over_made (program at) (b at) _ u hs.items e)
    c.eliminate.ensures.elimination

pub returns-clause-few : goal.returns-clause-few
returns-clause-few c =
    let at = (goal.at.returns-clause-few c).After-as_slice-code in
    let u = made_so (program at) (b at) _ (stand at) _ c.in_ok-gens.gens c.in_ok-gens.ensures.list
    c.deref.ensures.value c.in_ok-gens.ensures.block c.if-is_empty.ensures in
    if_ok _ _ c.eliminate.result (λ hs few. subst (λ k. length hs.items ≤ length c.args.basis.now
    + copies (length (program at).names) k + units_of c.eliminate.new.meter.entries) (same at) few)
    (few_out (program at) (b at) c.args.basis.now c.args.meter.now c.eliminate.new.meter _
    (ran_so (program at) (b at) _ u (outcome_of c.eliminate.result) c.eliminate.ensures.ran))
