use Rattle.std.proofs.Common.{length, ap, ◌∙◌, arith}
use Rattle.std.proofs.lemmas.List.{length-map}
use Rattle.poly.specs.Seen.{terms_in, terms_each}
use Rattle.rounds.specs.Form.{pulled_back_by}
use Rattle.task_lists.proofs.Elements.{orbit_count}
use Rattle.invariant_fix.specs.Orbits.{numbers_of}
use Rattle.invariant_fix.proofs.LateForms.{whole_fits}
use Rattle.full_trace.proofs.tasks.orbit_stage.Goals as goal

pub orbit_list-requires : goal.orbit_list-requires
orbit_list-requires c = record {
  fits = whole_fits _ c.requires.branch _
      (c.len-vars.ensures ∙ c.args.branch.now.images.ok.0) c.requires.some _ c.requires.basis;
}

pub stage-requires-clause-few : goal.stage-requires-clause-few
stage-requires-clause-few c =
    let b = c.args.branch.now in
    let gs = c.args.basis.now in
    let m = c.len-vars.result in
    let a = ap length (ap terms_each c.deref.ensures.value ∙ c.in_ok-begin.ensures.list) in
    let d = orbit_count (pulled_back_by (numbers_of b) m (terms_each b.back.items)) (terms_each gs)
    (numbers_of b) m in
    let e = c.requires.branch.few in
    let h = c.requires.few in
    let k = length-map c.deref.result.now terms_in in
    let l = length-map gs terms_in in
    omega (arith, a, d, e, h, k, l)
