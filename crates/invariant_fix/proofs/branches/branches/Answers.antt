use Rattle.std.proofs.Common.{◌≡◌, ◌+◌, suc, ◌∷◌, [], ◌++◌, length, sym, ap, subst, ◌∙◌, arith}
use Rattle.std.proofs.lemmas.List.{length-append}
use Rattle.std.proofs.lemmas.Iterator.Adapters.{YieldsList-from_vec}
use Rattle.std.proofs.lemmas.Iterator.Consumers.{YieldsList-turn}
use Rattle.invariant_fix.specs.Refusals.{refused_branch, IfRefusedBranch}
use Rattle.invariant_fix.specs.Setting.{IsMapIn, AreBranchesTo}
use Rattle.invariant_fix.proofs.Forms.{branches_more, branch_is, refused_at}
use Rattle.invariant_fix.proofs.branches.branches.Goals as goal

pub loop-images-preserved : goal.loop-images-preserved
loop-images-preserved c =
    let gives = c.into_iter-images-iterator.ensures.into_iter_gives in
    let t = YieldsList-turn (YieldsList-from_vec {s = c.into_iter-images-iterator.result} _ gives.0
    (gives.1 ∙ c.args.maps.ok.0)) _ _ c.loop-images.yielded_by _ c.next.new.self _ c.in-Some.is
    c.next.ensures.steps in
    let n = length c.loop-images.yielded in
    let more : length (c.loop-images.yielded ++ c.in-Some.images ∷ []) ≡ n + 1 =
    length-append c.loop-images.yielded (c.in-Some.images ∷ []) in
    let push = c.in_ok-push-in-Ok.ensures.items in
    let ens = c.in-Ok.ensures in
    record {
      count = (let a = ap length push in let b = length-append c.loop-images.out.items
          (c.in-Ok.branch ∷ []) in let d = c.loop-images.invariant.count in
          omega (arith, a, b, d, more));
      branches = λ program m. subst (λ k. AreBranchesTo program k c.push.new.self.items) (sym more)
          (branches_more program n c.loop-images.out.items c.push.new.self.items c.in-Ok.branch
          (c.loop-images.invariant.branches program m) push
          (branch_is program n c.in-Some.images c.in-Ok.branch (subst (IsMapIn program (suc n))
          (sym t.1) (m.each n c.in-Some.images (let a = m.count in let b = t.0 in
          omega (arith, a, b)))) ens.fits ens.images ens.form ens.solvable ens.pass ens.short));
    }

pub returns-in-Err : goal.returns-in-Err
returns-in-Err c =
    let gives = c.into_iter-images-iterator.ensures.into_iter_gives in
    let t = YieldsList-turn (YieldsList-from_vec {s = c.into_iter-images-iterator.result} _ gives.0
    (gives.1 ∙ c.args.maps.ok.0)) _ _ c.loop-images.yielded_by _ c.next.new.self _ c.in-Some.is
    c.next.ensures.steps in
    let n = length c.loop-images.yielded in
    let size = c.len.ensures ∙ c.loop-images.out.ok.0 ∙ c.loop-images.invariant.count in
    record {
      branches = λ program m. tt;
      refused = λ program m. subst (IfRefusedBranch program) (sym (c.refused_branch.ensures
          ∙ ap (λ k. refused_branch k c.in-Err.error) size))
          (refused_at program n c.in-Some.images c.loop-images.out.items c.in-Err.error (let a =
          m.count in let b = t.0 in omega (arith, a, b))
          (subst (IsMapIn program (suc n)) (sym t.1) (m.each n c.in-Some.images (let a = m.count in
          let b = t.0 in omega (arith, a, b)))) (c.loop-images.invariant.branches program
          m) c.in-Err.ensures.refused);
    }
