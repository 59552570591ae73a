use Rattle.std.proofs.Common.{All, is_some, refl, sym, ap, subst, ◌∙◌, arith}
use Rattle.std.proofs.lemmas.List.{length-map}
use Rattle.complete.proofs.Coming.{known}
use Rattle.poly.specs.Seen.{terms_in, terms_each}
use Rattle.rounds.specs.Analysis.{closing_from}
use Rattle.invariant_fix.specs.Coming.{Comes}
use Rattle.invariant_fix.specs.Setting.{setting_of}
use Rattle.std.specs.Global.{Vec}
use Rattle.loop_model.specs.FracPoly.{FracPoly}
use Rattle.ideal_ops.specs.Calls.{AreOver}
use Rattle.algebra.proofs.Lists.{have_more}
use Rattle.invariant_fix.proofs.Passing.{rounds_more, next_more}
use Rattle.invariant_fix.proofs.closing.closing_steps.Goals as goal

pub branch_steps-requires-clause-at : goal.branch_steps-requires-clause-at
branch_steps-requires-clause-at c = record {
  fits = c.requires.fits;
  place = (let x = c.loop-place-test.true in let y = c.len-place-end.ensures in
      let z = c.args.setting.now.branches.ok.0 in omega (arith, x, y, z));
  basis = c.loop-place.invariant.known;
}

pub loop-place-preserved : goal.loop-place-preserved
loop-place-preserved c =
    let s = setting_of c.args.setting.now in
    let gs = terms_each c.args.basis.now in
    let p = c.loop-place.place in
    let inv = c.loop-place.invariant in
    let ens = c.in_ok-cofactors.ensures in
    let new = c.branch_steps.new.meter in
    let size = sym (length-map c.args.basis.now terms_in) in
    record {
      limit = c.branch_steps.ensures.limit ∙ inv.limit;
      known = ens.list;
      next = next_more s c.args.round gs p new.entries refl
          (subst (λ n. Comes s new.entries (closing_from s c.args.round p n gs)) size
          (ens.next (ap is_some c.in-Some.is)));
      units = (let a = ens.units in let b = inv.units in omega (arith, a, b));
      over = have_more (λ (rows : Vec (Vec FracPoly)).
          All (λ (row : Vec FracPoly). AreOver c.args.setting.now.arity row.items) rows.items) _ _ _
          c.in_ok-push.ensures.items inv.over (known _ _ _ c.in-Some.is ens.over);
      steps = rounds_more s gs p c.push.new.self.items c.in-Some.cofactors
          inv.steps c.in_ok-push.ensures.items (known _ _ _ c.in-Some.is ens.steps);
    }
