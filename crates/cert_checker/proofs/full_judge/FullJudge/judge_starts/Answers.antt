use Rattle.std.proofs.Common.{◌≡◌, ◌<◌, ◌↔◌, List, [], IsTrue, get_or, length, refl, sym, ap, subst, ◌∙◌, arith}
use Rattle.std.specs.Prelude.{All, IfOk, IsErrOf}
use Rattle.std.proofs.lemmas.List.{length-map}
use Rattle.algebra.specs.Fraction.{Fraction, ℚ}
use Rattle.polynomials.specs.Terms.{Terms, Same}
use Rattle.rounds.specs.Start.{start_list}
use Rattle.ring_laws.specs.declared.ArithmeticError.TheVariants as arithmetic_error
use Rattle.poly.specs.Seen.{IsImage, terms_in, terms_each}
use Rattle.poly.specs.Standing.{IsInVariables}
use Rattle.loop_model.specs.FracPoly.{FracPoly}
use Rattle.task_lists.specs.Rows.{rows_of}
use Rattle.task_lists.proofs.Combining.{place_in}
use Rattle.cert_checker.specs.FullJudge.{program_by}
use Rattle.cert_checker.specs.StageParts.{IsMadeAt, IsPastMade}
use Rattle.cert_checker.proofs.Stopping.{here_stops, more_hold, passed_on}
use Rattle.cert_checker.proofs.IdentityLaws.{combined_tells}
use Rattle.cert_checker.proofs.StageSteps.{row_is, past_at, over_images, row_fits, row_has}
use Rattle.cert_checker.proofs.StartLists.{starts_few, start_count, start_same}
use Rattle.cert_checker.proofs.full_judge.FullJudge.judge_starts.Goals as goal
use Rattle.cert_checker.proofs.full_judge.FullJudge.judge_starts.Goals.{After-p-item, After-is_combination}

-- the starting polynomial of this number
module _ (c : After-p-item) where
  abbrev starting : List (Terms Fraction)
  starting = start_list (program_by c.args.self.now)

  inside : c.loop-i.i < length c.in-Ok.list.items
  inside = let size = ap length c.deref-p-items.ensures.value in omega (
    arith,
    c.loop-i-test.true,
    size,
  )

  within : c.loop-i.i < length starting
  within =
      let seen = length-map c.in-Ok.list.items terms_in in
      let count = start_count starting c.in-Ok.ensures.list in
      omega (arith, inside, seen, count)

  in_rows : c.loop-i.i < length c.args.self.now.cert.now.start.links.items
  in_rows = let few = starts_few (program_by c.args.self.now) in
      let n = length-map c.args.self.now.cert.now.start.links.items (λ r. terms_each r.items) in
      omega (arith, within, few, c.requires.judge.counted.links, n)

  item_is : c.p-item.result ≡ get_or c.in-Ok.list.items c.loop-i.i c.p-item.result
  item_is = c.p-item.is ∙ ap (λ xs. get_or xs c.loop-i.i c.p-item.result)
      c.deref-p-items.ensures.value

  over : c.p-item.result.arity ≡ length (program_by c.args.self.now).names
  over = subst (λ (q : FracPoly). q.arity ≡ length (program_by c.args.self.now).names) (sym item_is)
      (c.in-Ok.ensures.arity c.loop-i.i c.p-item.result inside)

  same : Same ℚ (terms_in c.p-item.result) (get_or starting c.loop-i.i [])
  same =
      let at : terms_in c.p-item.result ≡ get_or (terms_each c.in-Ok.list.items) c.loop-i.i [] =
      (place_in terms_in _ c.loop-i.i inside).1 c.p-item.result item_is in
      subst (λ q. Same ℚ q (get_or starting c.loop-i.i [])) (sym at)
      (start_same starting c.in-Ok.ensures.list c.loop-i.i within)

-- what is told of its row
module _ (c : After-is_combination) where
  abbrev item : After-p-item
  item = (goal.at.After-is_combination c).After-p-item

  abbrev rows : List (List (Terms Fraction))
  rows = rows_of c.args.self.now.cert.now.start.links.items

  abbrev out : List (Terms Fraction)
  out = terms_each c.args.self.now.cert.now.start.out.items

  row : terms_each c.deref-in-loop-i.result.now ≡ get_or rows c.loop-i.i []
  row = ap terms_each c.deref-in-loop-i.ensures.value
      ∙ row_is (λ r. terms_each r.items) _ c.loop-i.i (in_rows item) c.index.ensures

  out_is : terms_each c.deref-in-loop-i-2.result.now ≡ out
  out_is = ap terms_each c.deref-in-loop-i-2.ensures.value

  tells : IfOk c.is_combination.result
      (λ b. IsTrue b ↔ IsMadeAt (starting item) rows out c.loop-i.i)
  tells = combined_tells _ _ _ _ _ (same item) row out_is c.is_combination.ensures.holds

  wide : IsErrOf c.is_combination.result arithmetic_error.Wide → IsPastMade rows out c.loop-i.i
  wide = past_at _ _ _ row out_is c.is_combination.ensures.wide

pub index-requires : goal.index-requires
index-requires c =
    let here = in_rows ((goal.at.index-requires c).After-p-item) in
    let held = c.args.self.now.cert.now.start.links.ok.0 in omega (arith, here, held)

pub is_combination-requires-clause-count : goal.is_combination-requires-clause-count
is_combination-requires-clause-count c =
    let start = c.args.self.now.cert.now.start in
    row_fits _ start.out c.requires.judge.counted.links_widths c.loop-i.i
    (in_rows ((goal.at.is_combination-requires-clause-count c).After-p-item)) c.index.ensures
    c.deref-in-loop-i.ensures.value c.deref-in-loop-i-2.ensures.value

pub is_combination-requires-clause-cofactors : goal.is_combination-requires-clause-cofactors
is_combination-requires-clause-cofactors c =
    let e = (goal.at.is_combination-requires-clause-cofactors c).After-p-item in
    let p = c.p-item.result in
    let row = c.index.result.now in
    subst (All (IsImage p.order p.arity)) (sym c.deref-in-loop-i.ensures.value) (over_images (λ x y.
    refl) p row.items (over e) (row_has _
    (IsInVariables (length (program_by c.args.self.now).names)) c.requires.judge.images.links
    c.loop-i.i (in_rows e) c.index.ensures))

pub loop-i-preserved : goal.loop-i-preserved
loop-i-preserved c = more_hold _ c.loop-i.i c.loop-i.invariant c.in_ok-told.ensures.holds
    (tells (goal.at.loop-i-preserved c).After-is_combination)

pub returns-in_err-told-clause-stops : goal.returns-in_err-told-clause-stops
returns-in_err-told-clause-stops c =
    let e = (goal.at.returns-in_err-told-clause-stops c).After-is_combination in
    passed_on _ _ _ c.from_residual.ensures.1 (here_stops _ _ _ c.loop-i.i (within (item e))
    c.loop-i.invariant _ (tells e) (wide e) _ c.in_err-told.ensures.stops)
