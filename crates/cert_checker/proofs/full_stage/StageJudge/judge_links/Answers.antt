use Rattle.std.proofs.Common.{◌≡◌, ◌<◌, ◌↔◌, List, [], IsTrue, get_or, length, refl, sym, ap, subst, ◌∙◌, arith}
use Rattle.std.specs.Prelude.{All, IfOk, IsErrOf}
use Rattle.std.proofs.lemmas.List.{length-map}
use Rattle.algebra.specs.Fraction.{Fraction, ℚ}
use Rattle.polynomials.specs.Terms.{Terms}
use Rattle.machines.specs.Elimination.{free_part}
use Rattle.ring_laws.specs.declared.ArithmeticError.TheVariants as arithmetic_error
use Rattle.poly.specs.Seen.{terms_in, terms_each, IsImage}
use Rattle.poly.specs.Standing.{IsInVariables}
use Rattle.poly.proofs.IsLaws.{same_equal}
use Rattle.corollaries.specs.Stage.{in_links}
use Rattle.loop_model.proofs.Items.{in_list, item_of}
use Rattle.task_lists.proofs.Combining.{place_in}
use Rattle.cert_checker.specs.StageJudge.{stage_seen, HoldsBy, IsPastBy}
use Rattle.cert_checker.specs.declared.full_stage.StageJudge.{StageJudge}
use Rattle.cert_checker.proofs.Stopping.{here_stops, more_hold, passed_on}
use Rattle.cert_checker.proofs.IdentityLaws.{combined_tells}
use Rattle.cert_checker.proofs.StageSteps.{row_is, past_at, over_images, row_fits, row_has}
use Rattle.cert_checker.proofs.full_stage.StageJudge.judge_links.Goals as goal
use Rattle.cert_checker.proofs.full_stage.StageJudge.judge_links.Goals.{After-row-item, After-is_combination}

-- the row at this place, and the element that it is to make
module _ (c : After-row-item) where
  abbrev s : StageJudge
  s = c.args.self.now

  abbrev elements : List (Terms Fraction)
  elements = free_part s.front (stage_seen s).list

  inside : c.loop-i.i < length s.stage.now.links.items
  inside = in_list _ _ c.deref-row-items.ensures.value _ c.loop-i-test.true

  item : c.row-item.result ≡ get_or s.stage.now.links.items c.loop-i.i c.row-item.result
  item = item_of _ _ c.deref-row-items.ensures.value _ _ c.row-item.is

  within : c.loop-i.i < length elements
  within =
      let n = length-map s.stage.now.links.items (λ row. terms_each row.items) in
      let l = inside in
      omega (arith, l, n, c.requires.judge.counts.links)

  kept : terms_each c.in-Ok.free.items ≡ elements
  kept = c.in-Ok.ensures.kept ∙ ap (λ xs. free_part s.front (terms_each xs)) c.deref.ensures.value

  in_free : c.loop-i.i < length c.in-Ok.free.items
  in_free =
      let a = ap length kept in
      let n = length-map c.in-Ok.free.items terms_in in
      let l = within in
      omega (arith, l, a, n)

pub index-requires : goal.index-requires
index-requires c =
    let l = in_free (goal.at.index-requires c).After-row-item in
    let held = c.in-Ok.free.ok.0 in
    omega (arith, l, held)

pub is_combination-requires-clause-count : goal.is_combination-requires-clause-count
is_combination-requires-clause-count c =
    let at = (goal.at.is_combination-requires-clause-count c).After-row-item in
    let out = c.args.self.now.stage.now.out in
    let links = c.args.self.now.stage.now.links.items in
    row_fits links out c.requires.judge.counts.links_widths c.loop-i.i
    (inside at) (item at) c.deref-in-loop-i.ensures.value c.deref-in-loop-i-2.ensures.value

pub is_combination-requires-clause-cofactors : goal.is_combination-requires-clause-cofactors
is_combination-requires-clause-cofactors c =
    let at = (goal.at.is_combination-requires-clause-cofactors c).After-row-item in
    let p = c.index.result.now in
    let m = c.args.self.now.variables in
    subst (All (IsImage p.order p.arity)) (sym c.deref-in-loop-i.ensures.value) (over_images (λ x y.
    refl) p _ (subst (IsInVariables c.args.self.now.variables) (sym c.index.ensures)
    (c.in-Ok.ensures.arity c.loop-i.i p (in_free at))) (row_has _ (IsInVariables m)
    c.requires.judge.images.links c.loop-i.i (inside at) (item at)))

pub is_combination-requires-clause-list : goal.is_combination-requires-clause-list
is_combination-requires-clause-list c =
    let at = (goal.at.is_combination-requires-clause-list c).After-row-item in
    let p = c.index.result.now in
    subst (All (IsImage p.order p.arity)) (sym c.deref-in-loop-i-2.ensures.value)
    (over_images (λ x y. refl) p _ (subst (IsInVariables c.args.self.now.variables)
    (sym c.index.ensures) (c.in-Ok.ensures.arity c.loop-i.i p (in_free at)))
    c.requires.judge.images.out)

-- what is told of its row
module _ (c : After-is_combination) where
  abbrev at_row : After-row-item
  at_row = (goal.at.After-is_combination c).After-row-item

  element : terms_in c.index.result.now ≡ get_or (elements at_row) c.loop-i.i []
  element = (place_in terms_in _ c.loop-i.i (in_free at_row)).1
      c.index.result.now c.index.ensures ∙ ap (λ xs. get_or xs c.loop-i.i []) (kept at_row)

  row : terms_each c.deref-in-loop-i.result.now
      ≡ get_or (stage_seen (s at_row)).links c.loop-i.i []
  row = ap terms_each c.deref-in-loop-i.ensures.value
      ∙ row_is (λ r. terms_each r.items) _ c.loop-i.i (inside at_row) (item at_row)

  out_is : terms_each c.deref-in-loop-i-2.result.now ≡ (stage_seen (s at_row)).out
  out_is = ap terms_each c.deref-in-loop-i-2.ensures.value

  tells : IfOk c.is_combination.result
      (λ b. IsTrue b ↔ HoldsBy (s at_row) (in_links c.loop-i.i))
  tells = combined_tells _ _ _ _ _
      (same_equal ℚ _ _ element) row out_is c.is_combination.ensures.holds

  wide : IsErrOf c.is_combination.result arithmetic_error.Wide
      → IsPastBy (s at_row) (in_links c.loop-i.i)
  wide = past_at _ _ _ row out_is c.is_combination.ensures.wide

pub loop-i-preserved : goal.loop-i-preserved
loop-i-preserved c = more_hold _ c.loop-i.i c.loop-i.invariant c.in_ok-told.ensures.holds
    (tells (goal.at.loop-i-preserved c).After-is_combination)

pub returns-in_err-told-clause-stops : goal.returns-in_err-told-clause-stops
returns-in_err-told-clause-stops c =
    let e = (goal.at.returns-in_err-told-clause-stops c).After-is_combination in
    passed_on _ _ _ c.from_residual.ensures.1 (here_stops _ _ _ c.loop-i.i (within (at_row e))
    c.loop-i.invariant _ (tells e) (wide e) _ c.in_err-told.ensures.stops)

pub returns-clause-holds : goal.returns-clause-holds
returns-clause-holds c =
    let n = length-map c.args.self.now.stage.now.links.items (λ row. terms_each row.items) in
    let size = ap length c.deref-row-items.ensures.value in
    λ j l. c.loop-i.invariant j
    (omega (arith, l, c.loop-i-test.false, n, size, c.requires.judge.counts.links))
