use Rattle.std.proofs.Common.{map, arith, ap, ⊎_elim, inl, inr}
use Rattle.std.proofs.lemmas.List.{map-append, length-append}
use Rattle.std.proofs.lemmas.Slice.Zip.{Zip-more, either_empty_from_Zip}
use Rattle.loop_model.specs.ExpressionView.{expr_of}
use Rattle.loop_runs.specs.Seen.{numbers_of}
use Rattle.loop_runs.proofs.steps.values_at.Goals as goal
use Rattle.loop_runs.proofs.Iterations.{values_more, values_wide, values_end}

pub returns-in_default-clause-values : goal.returns-in_default-clause-values
returns-in_default-clause-values c =
    let m = Zip-more c.loop-target.target-iterator c.next.new.self c.next.result (
      c.in-Some.target,
      c.in-Some.right_side,
    ) c.in-Some.is c.next.ensures.steps in
    let left = rw (m.0, m.1) at c.loop-target.invariant.left in
    values_wide c.args.step (numbers_of c.args.state.now) _ _ _ _ _ _ left c.in_default.ensures

pub loop-target-preserved : goal.loop-target-preserved
loop-target-preserved c =
    let m = Zip-more c.loop-target.target-iterator c.next.new.self c.next.result (
      c.in-Some.target,
      c.in-Some.right_side,
    ) c.in-Some.is c.next.ensures.steps in
    let i = rw (m.0, m.1) at c.loop-target.invariant in
    record {
      left = rw (c.in_ok-push.ensures.items, map-append)
          (values_more c.args.step (numbers_of c.args.state.now) _ _ _ _ _ _ _ i.left
          c.in-Ok.ensures);
      sizes = omega (arith, i.sizes);
      len = rw (c.in_ok-push.ensures.items, length-append) (omega (arith, i.len));
    }

pub returns-clause-values : goal.returns-clause-values
returns-clause-values c =
    let e = either_empty_from_Zip c.loop-target.target-iterator c.next.new.self c.next.result
    c.in-None.is c.next.ensures.steps in
    values_end c.args.step (numbers_of c.args.state.now) _ _ _ _ c.loop-target.invariant.left
    (⊎_elim inl (λ q. inr (ap (map expr_of) q)) e)
