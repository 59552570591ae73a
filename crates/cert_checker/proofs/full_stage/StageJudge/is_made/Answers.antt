use Rattle.std.proofs.Common.{◌≡◌, ◌<◌, ◌+◌, [], get_or, length, inr, ap, sym, subst, subst₂, ◌∙◌, arith}
use Rattle.std.specs.Prelude.{All}
use Rattle.std.proofs.lemmas.List.{length-map}
use Rattle.poly.specs.Seen.{terms_each, IsImage}
use Rattle.task_lists.specs.Images.{in_blocks}
use Rattle.task_lists.specs.Past.{IsPastCombination}
use Rattle.cert_checker.specs.StageJudge.{stage_seen}
use Rattle.cert_checker.specs.declared.full_stage.StageJudge.{StageJudge}
use Rattle.cert_checker.proofs.IdentityLaws.{combined_tells}
use Rattle.cert_checker.proofs.StageSteps.{row_is, like_images, row_fits, row_has}
use Rattle.cert_checker.proofs.full_stage.StageJudge.is_made.Goals as goal
use Rattle.cert_checker.proofs.full_stage.StageJudge.is_made.Goals.{After-index}

pub index-requires : goal.index-requires
index-requires c =
    let gens = c.args.self.now.stage.now.gens in
    let n = length-map gens.items (λ row. terms_each row.items) in
    let held = gens.ok.0 in
    omega (arith, c.requires.place, c.requires.judge.counts.gens, n, held)

-- the row at this place
module _ (c : After-index) where
  abbrev s : StageJudge
  s = c.args.self.now

  inside : c.args.place < length s.stage.now.gens.items
  inside =
      let n = length-map s.stage.now.gens.items (λ row. terms_each row.items) in
      omega (arith, c.requires.place, c.requires.judge.counts.gens, n)

  row : terms_each c.index.result.now.items ≡ get_or (stage_seen s).gens c.args.place []
  row = row_is (λ r. terms_each r.items) _ _ inside c.index.ensures

  image : IsImage (in_blocks s.front) (s.front + s.variables) c.in_ok-p.p
  image = subst (λ k. IsImage (in_blocks k) (k + s.variables) c.in_ok-p.p)
      (sym c.requires.judge.front) c.in_ok-p.ensures.image

pub is_combination-requires-clause-count : goal.is_combination-requires-clause-count
is_combination-requires-clause-count c =
    let at = (goal.at.is_combination-requires-clause-count c).After-index in
    let list = c.args.self.now.stage.now.list in
    let gens = c.args.self.now.stage.now.gens.items in
    row_fits gens list c.requires.judge.counts.gens_widths _
    (inside at) c.index.ensures c.deref.ensures.value c.deref-2.ensures.value

pub is_combination-requires-clause-cofactors : goal.is_combination-requires-clause-cofactors
is_combination-requires-clause-cofactors c =
    let at = (goal.at.is_combination-requires-clause-cofactors c).After-index in
    let j = c.args.self.now in
    let p = c.in_ok-p.p in
    subst (All (IsImage p.order p.arity)) (sym c.deref.ensures.value) (like_images p _ (image at)
    (row_has _ (IsImage (in_blocks j.front) (j.front + j.variables)) c.requires.judge.images.gens _
    (inside at) c.index.ensures))

pub is_combination-requires-clause-list : goal.is_combination-requires-clause-list
is_combination-requires-clause-list c =
    let at = (goal.at.is_combination-requires-clause-list c).After-index in
    let j = c.args.self.now in
    let p = c.in_ok-p.p in
    subst (All (IsImage p.order p.arity)) (sym c.deref-2.ensures.value)
    (like_images p _ (image at) c.requires.judge.images.list)

pub returns-clause-holds : goal.returns-clause-holds
returns-clause-holds c =
    let at = (goal.at.returns-clause-holds c).After-index in
    combined_tells _ _ _ _ _ c.in_ok-p.ensures.same (ap terms_each c.deref.ensures.value ∙ row at)
    (ap terms_each c.deref-2.ensures.value) c.is_combination.ensures.holds

pub returns-clause-wide : goal.returns-clause-wide
returns-clause-wide c =
    let at = (goal.at.returns-clause-wide c).After-index in
    λ w. inr (subst₂ IsPastCombination (ap terms_each c.deref.ensures.value ∙ row at)
    (ap terms_each c.deref-2.ensures.value) (c.is_combination.ensures.wide w))
