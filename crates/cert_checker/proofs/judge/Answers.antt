use Rattle.std.proofs.Common.{◌≡◌, ◌<◌, ◌+◌, ℕ, [], get_or, length, rules, refl, arith, sym, subst, Some, None}
use Rattle.std.specs.Prelude.{Option}
use Rattle.std.proofs.lemmas.List.{length-map}
use borrow.Author.Count.{below_more}
use Rattle.loops.specs.Program.{Expr, Program}
use Rattle.loops.specs.Certificate.{Certificate, PassesStart, PassesStep}
use Rattle.loops.proofs.Certificates.{certificate_lists_invariants}
use Rattle.loop_model.specs.View.{program_of}
use Rattle.loop_model.specs.Maps.{AreFree, IsBranchMap}
use Rattle.loop_model.proofs.BranchMaps.{maps_count}
use Rattle.cert_form.specs.Cert.{certificate_of, rows_in}
use Rattle.cert_form.proofs.Kept.{kept_over}
use Rattle.cert_checker.specs.Identities.{FirstFailure}
use Rattle.cert_checker.specs.Short.{ShortStart, ShortStep}
use Rattle.cert_checker.proofs.MapsLaws.{branch_here, map_here}
use Rattle.cert_checker.proofs.RowLaws.{inside, rows_at, square_at, square_over}
use Rattle.cert_checker.proofs.Stopping.{passed_on}
use Rattle.loop_model.proofs.Items.{past_list}
use Rattle.cert_checker.proofs.VerdictLaws.{start_count, branch_count, fit_map, start_found, start_refused, start_long, step_long, start_short, step_short, step_found, step_refused, passed_more}
use Rattle.cert_checker.proofs.judge.Goals as goal
use Rattle.cert_checker.proofs.judge.Goals.{In_ok-element, In_ok-element-2, After-index-rows}

pub first_failing_start-requires : goal.first_failing_start-requires
first_failing_start-requires c =
    let images = c.args.maps.now.start.items in
    let fit = fit_map images _ c.args.basis.now c.args.lp.now.some_name c.requires.maps.start
    (start_count c.args.lp.now images c.requires.maps.start) c.requires.kept.arities in
    record { some = fit.some; images = fit.over; arity = fit.arity }

pub returns-in_err-element-clause-refused : goal.returns-in_err-element-clause-refused
returns-in_err-element-clause-refused c = passed_on _ _ _ c.from_residual-in_err-element.ensures.1
    (start_refused c.args.lp.now c.args.basis.now c.args.steps.now c.requires.kept _
    c.requires.maps.start
    c.requires.maps.free _
    c.in_err-element.ensures.stops)

pub returns-in_err-test_start-clause-refused : goal.returns-in_err-test_start-clause-refused
returns-in_err-test_start-clause-refused c =
    passed_on _ _ _ c.from_residual.ensures.1 (start_long c.args.lp.now
    c.args.basis.now c.args.steps.now c.requires.kept _ c.requires.maps.start
    c.requires.maps.free _
    c.in_err-test_start.ensures.limit)

-- what the search among the starts has found, and that all hold where this is none
module _ (c : In_ok-element) where
  abbrev program : Program (Expr ℕ)
  program = program_of c.args.lp.now

  abbrev cert : Certificate
  cert = certificate_of c.args.basis.now c.args.steps.now

  free : AreFree program
  free = c.requires.maps.free

  abbrev StartsAs : Option ℕ → Type 0
  StartsAs o = FirstFailure (PassesStart program cert) (length cert.basis) o

  starts_found : StartsAs c.in_ok-element.field-0
  starts_found =
      start_found c.args.lp.now c.args.basis.now c.args.steps.now c.requires.kept _
      c.requires.maps.start c.in_ok-element.field-0 c.in_ok-element.ensures.first

  starts_hold : c.in_ok-element.field-0 ≡ None → StartsAs None
  starts_hold none = subst StartsAs none starts_found

  -- the identities of the start aren't too long
  start_is_short : ShortStart program cert
  start_is_short =
      start_short c.args.lp.now c.args.basis.now c.args.steps.now c.requires.kept _
      c.requires.maps.start c.in_ok-test_start.ensures.few

pub returns-in-Some-clause-verdict : goal.returns-in-Some-clause-verdict
returns-in-Some-clause-verdict c =
    let e = (goal.at.returns-in-Some-clause-verdict c).In_ok-element in
    let is : c.in_ok-element.field-0 ≡ Some c.in-Some.element = search rules in
    let f = subst (StartsAs e) is (starts_found e) in
    record { within = f.within; fails = f.fails; before = f.before }

pub returns-in-Some-clause-short : goal.returns-in-Some-clause-short
returns-in-Some-clause-short c =
    start_is_short (goal.at.returns-in-Some-clause-short c).In_ok-element

pub loop-branch-init : goal.loop-branch-init
loop-branch-init c = record {
  passed = λ a j l k. absurd (omega arith);
  short = λ a l. absurd (omega arith);
}

pub index-rows-requires : goal.index-rows-requires
index-rows-requires c =
    let here = branch_here _ c.requires.maps.branches c.deref-images-items.ensures.value _
    c.loop-branch-test.true in
    omega (arith, here, c.requires.branches)

-- a branch and its rows, as the second search takes them
module _ (c : After-index-rows) where
  abbrev entry : In_ok-element
  entry = (goal.at.After-index-rows c).In_ok-element

  stand : IsBranchMap (program entry) c.images-item.result
      (get_or (program entry).branches c.loop-branch.branch [])
  stand = map_here _ c.requires.maps.branches c.deref-images-items.ensures.value _
      c.loop-branch-test.true c.images-item.is

  count : length c.images-item.result.items ≡ length (program entry).names
  count = branch_count c.args.lp.now _ _ stand

  here : c.loop-branch.branch < length (program entry).branches
  here = branch_here _
      c.requires.maps.branches c.deref-images-items.ensures.value _ c.loop-branch-test.true

  listed : c.loop-branch.branch < length (cert entry).steps
  listed = omega (arith, here, c.requires.branches, length-map c.args.steps.now.items rows_in)

  rows_are : rows_in c.index-rows.result.now ≡ get_or (cert entry).steps c.loop-branch.branch []
  rows_are = rows_at c.args.steps.now refl _ c.index-rows.result.now c.index-rows.ensures listed

pub invariant_of-step : goal.invariant_of-step
invariant_of-step c =
    let at = (goal.at.invariant_of-step c).After-index-rows in
    let fit = fit_map c.images-item.result.items _ c.args.basis.now c.args.lp.now.some_name
    (stand at) (count at) c.requires.kept.arities in
    record {
      some = fit.some;
      over = fit.over;
      arity = fit.arity;
      square = square_over _ _ _ _ _ c.index-rows.result.now refl (count at)
          (sym c.args.basis.now.ok.0) (square_at _ _ c.loop-branch.branch c.args.steps.now.items
          c.index-rows.result.now c.index-rows.ensures (inside c.args.steps.now refl _ (listed at))
          c.requires.kept.squares);
    }

pub returns-in_err-test-clause-refused : goal.returns-in_err-test-clause-refused
returns-in_err-test-clause-refused c =
    let at = (goal.at.returns-in_err-test-clause-refused c).After-index-rows in
    passed_on _ _ _ c.from_residual-in_err-test.ensures.1 (step_long c.args.lp.now c.args.basis.now
    c.args.steps.now c.requires.kept _ _ (stand at) _ (rows_are at) (here at)
    (starts_hold (entry at) (search rules)) c.loop-branch.invariant.passed (free (entry at)) _
    c.in_err-test.ensures.limit)

pub returns-in_err-element-2-clause-refused : goal.returns-in_err-element-2-clause-refused
returns-in_err-element-2-clause-refused c =
    let at = (goal.at.returns-in_err-element-2-clause-refused c).After-index-rows in
    passed_on _ _ _ c.from_residual-in_err-element-2.ensures.1 (step_refused c.args.lp.now
    c.args.basis.now c.args.steps.now c.requires.kept _ _ (stand at) _ (rows_are at) (here at)
    (starts_hold (entry at) (search rules)) c.loop-branch.invariant.passed (free (entry at)) _
    c.in_err-element-2.ensures.stops)

-- what the search among the steps of the branch has found
module _ (c : In_ok-element-2) where
  abbrev behind : After-index-rows
  behind = (goal.at.In_ok-element-2 c).After-index-rows

  abbrev StepsAs : Option ℕ → Type 0
  StepsAs o =
      FirstFailure (PassesStep (program (entry behind)) (cert (entry behind)) c.loop-branch.branch)
      (length (cert (entry behind)).basis) o

  steps_found : StepsAs c.in_ok-element-2.field-0
  steps_found =
      step_found c.args.lp.now c.args.basis.now c.args.steps.now c.requires.kept _ _ (stand behind)
      _ (rows_are behind) c.in_ok-element-2.field-0 c.in_ok-element-2.ensures.first

  -- the identities of the branches so far aren't too long
  steps_are_short : (a : ℕ) → a < c.loop-branch.branch + 1
      → ShortStep (program (entry behind)) (cert (entry behind)) a
  steps_are_short = below_more (ShortStep (program (entry behind)) (cert (entry behind)))
      c.loop-branch.branch c.loop-branch.invariant.short (step_short c.args.lp.now c.args.basis.now
      c.args.steps.now c.requires.kept _ _ (stand behind) _ (rows_are behind)
      c.in_ok-test.ensures.few)

pub returns-in-Some-2-clause-verdict : goal.returns-in-Some-2-clause-verdict
returns-in-Some-2-clause-verdict c =
    let e = (goal.at.returns-in-Some-2-clause-verdict c).In_ok-element-2 in
    let is : c.in_ok-element-2.field-0 ≡ Some c.in-Some-2.element = search rules in
    let f = subst (StepsAs e) is (steps_found e) in
    record {
      branch_within = here (behind e);
      within = f.within;
      fails = f.fails;
      starts = starts_hold (entry (behind e)) (search rules);
      branches_before = c.loop-branch.invariant.passed;
      before = f.before;
    }

pub returns-in-Some-2-clause-short : goal.returns-in-Some-2-clause-short
returns-in-Some-2-clause-short c =
    let e = (goal.at.returns-in-Some-2-clause-short c).In_ok-element-2 in
    (start_is_short (entry (behind e)), λ b l. steps_are_short e b (omega (arith, l)))

pub loop-branch-preserved : goal.loop-branch-preserved
loop-branch-preserved c =
    let e = (goal.at.loop-branch-preserved c).In_ok-element-2 in
    let none : c.in_ok-element-2.field-0 ≡ None = search rules in
    record {
      passed = passed_more (program (entry (behind e))) (cert (entry (behind e)))
          c.loop-branch.branch c.loop-branch.invariant.passed
          (subst (StepsAs e) none (steps_found e));
      short = steps_are_short e;
    }

pub returns-clause-verdict : goal.returns-clause-verdict
returns-clause-verdict c =
    let past = past_list _ _ c.deref-images-items.ensures.value _ c.loop-branch-test.false in
    let many = maps_count (program_of c.args.lp.now) c.args.maps.now.branches.items
    c.requires.maps.branches in
    record {
      starts = starts_hold (goal.at.returns-clause-verdict c).In_ok-element (search rules);
      steps = λ b i k l. c.loop-branch.invariant.passed b i (omega (arith, past, many)) l;
    }

pub returns-clause-short : goal.returns-clause-short
returns-clause-short c =
    let past = past_list _ _ c.deref-images-items.ensures.value _ c.loop-branch-test.false in
    let many = maps_count (program_of c.args.lp.now) c.args.maps.now.branches.items
    c.requires.maps.branches in (
      start_is_short (goal.at.returns-clause-short c).In_ok-element,
      λ b k. c.loop-branch.invariant.short b (omega (arith, past, k, many)),
    )

pub returns-clause-valid : goal.returns-clause-valid
returns-clause-valid c = λ same i l.
    let e = (goal.at.returns-clause-valid c).In_ok-element in
    certificate_lists_invariants _ (cert e) (kept_over _ _ _ c.requires.kept)
    (returns-clause-verdict c) i l
