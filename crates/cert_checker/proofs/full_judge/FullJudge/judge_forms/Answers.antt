use Rattle.std.proofs.Common.{◌<◌, ◌+◌, ℕ, [], get_or, length, Err, sym, ap, subst, ◌∙◌, arith, Vec, Global}
use Rattle.std.proofs.lemmas.List.{length_push}
use borrow.Author.Count.{below_more}
use Rattle.loop_model.specs.Maps.{IsBranchMap}
use Rattle.loop_model.proofs.BranchMaps.{maps_count}
use Rattle.loop_model.specs.FracPoly.{FracPoly}
use Rattle.corollaries.specs.FormIdentities.{IsRightForm}
use Rattle.corollaries.specs.Parts.{Holds, in_forms}
use Rattle.cert_checker.specs.FullJudge.{program_by, cert_by}
use Rattle.cert_checker.proofs.MapsLaws.{branch_here, map_here}
use Rattle.cert_checker.specs.Passing.{Passes}
use Rattle.corollaries.specs.Full.{as_form}
use Rattle.task_lists.specs.View.{form_in}
use Rattle.poly.specs.Seen.{terms_each}
use Rattle.cert_checker.specs.InverseForm.{IsInverseForm}
use Rattle.cert_checker.proofs.FormsAlong.{fits, pass_on, pass_back, past_on, inverse_form_at, backs_more}
use Rattle.cert_checker.proofs.full_judge.FullJudge.judge_forms.Goals as goal
use Rattle.cert_checker.proofs.full_judge.FullJudge.judge_forms.Goals.{After-index-form}

-- the branch of this number, and its map
module _ (c : After-index-form) where
  here : c.loop-b.b < length (program_by c.args.self.now).branches
  here = branch_here _ c.requires.judge.maps c.deref-images-items.ensures.value
      c.loop-b.b c.loop-b-test.true

  stands : IsBranchMap (program_by c.args.self.now) c.images-item.result
      (get_or (program_by c.args.self.now).branches c.loop-b.b [])
  stands = map_here _ c.requires.judge.maps c.deref-images-items.ensures.value
      c.loop-b.b c.loop-b-test.true c.images-item.is

pub closed_form-requires : goal.closed_form-requires
closed_form-requires c =
    let e = (goal.at.closed_form-requires c).After-index-form in
    record {
      fits = fits c.requires.judge c.images-item.result (here e) c.index-form.ensures
          (stands e);
    }

pub returns-in-Ok-None-clause-stops : goal.returns-in-Ok-None-clause-stops
returns-in-Ok-None-clause-stops c =
    let e = (goal.at.returns-in-Ok-None-clause-stops c).After-index-form in
    let images = c.images-item.result in
    let no = subst (Passes (IsRightForm (terms_each images.items) (length images.items)
    (as_form (form_in c.index-form.result.now))) _) c.in-Ok-None.field-0-is
    c.in-Ok-None.ensures.passes in
    record {
      within = here e;
      before = c.loop-b.invariant.holds;
      cause = λ h. no (pass_back c.requires.judge c.images-item.result (here e) c.index-form.ensures
          (stands e) h);
    }

pub returns-in-Err-Wide-clause-stops : goal.returns-in-Err-Wide-clause-stops
returns-in-Err-Wide-clause-stops c =
    let e = (goal.at.returns-in-Err-Wide-clause-stops c).After-index-form in
    record {
      within = here e;
      before = c.loop-b.invariant.holds;
      cause = past_on c.requires.judge c.images-item.result (here e) c.index-form.ensures (stands e)
          (c.in-Err-Wide.ensures.wide (ap Err c.in-Err-Wide.field-0-is));
    }

pub loop-b-preserved : goal.loop-b-preserved
loop-b-preserved c =
    let e = (goal.at.loop-b-preserved c).After-index-form in
    let j = c.args.self.now in
    let b = c.loop-b.b in
    let images = c.images-item.result in
    let yes = subst (Passes (IsRightForm (terms_each images.items) (length images.items)
    (as_form (form_in c.index-form.result.now))) _) c.in-Ok-Some.field-0-is
    c.in-Ok-Some.ensures.passes in
    let items = c.in-Ok.ensures.items in
    record {
      holds = below_more (λ i. Holds (program_by j) (cert_by j) (in_forms i)) b
          c.loop-b.invariant.holds
          (pass_on c.requires.judge c.images-item.result (here e) c.index-form.ensures (stands e)
          yes.0);
      count = ap length items ∙ length_push c.loop-b.found.items c.in-Ok-Some.back
          ∙ ap (λ n. n + 1) c.loop-b.invariant.count;
      back = subst (λ xs. (i : ℕ) (d : Vec FracPoly Global) → i < b + 1
          → IsInverseForm (program_by j) j.cert.now i (get_or xs i d)) (sym items)
          (backs_more (IsInverseForm (program_by j) j.cert.now) c.loop-b.found.items
          c.in-Ok-Some.back b c.loop-b.invariant.count c.loop-b.invariant.back
          (inverse_form_at c.requires.judge c.images-item.result (here e) c.index-form.ensures
          (stands e) yes.1.0 yes.1.1
          yes.1.2));
    }

pub returns-clause-holds : goal.returns-clause-holds
returns-clause-holds c =
    let n = maps_count (program_by c.args.self.now) c.args.self.now.maps.items
    c.requires.judge.maps in
    let size = ap length c.deref-images-items.ensures.value in
    λ j l. c.loop-b.invariant.holds j (omega (arith, l, c.loop-b-test.false, n, size))

pub returns-clause-back : goal.returns-clause-back
returns-clause-back c =
    let n = maps_count (program_by c.args.self.now) c.args.self.now.maps.items
    c.requires.judge.maps in
    let size = ap length c.deref-images-items.ensures.value in
    let last = c.loop-b.auto.b-end in
    record {
      count = c.loop-b.invariant.count ∙ (omega (arith, c.loop-b-test.false, n, size, last));
      each = λ j d l. c.loop-b.invariant.back j d (omega (arith, l, c.loop-b-test.false, n, size));
    }
