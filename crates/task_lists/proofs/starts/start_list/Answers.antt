use Rattle.std.proofs.Common.{◌≡◌, ◌≤◌, ◌+◌, [], ◌∷◌, length, sym, ap, subst, ◌∙◌, arith}
use Rattle.std.proofs.lemmas.List.{length-append}
use Rattle.std.proofs.lemmas.List.Elements.{All-nil, All-same}
use Rattle.poly.specs.Seen.{terms_each}
use Rattle.task_lists.specs.Starts.{AreOver}
use Rattle.loop_model.specs.View.{program_of}
use Rattle.loop_model.specs.FracPoly.{FracPoly}
use Rattle.algebra.proofs.Lists.{have_more}
use Rattle.task_lists.proofs.LoopsStarts.{starts_to}
use Rattle.task_lists.proofs.StartSteps.{starts_none, starts_all, values_count, value_arity, inside, without, set_step, unset_step}
use Rattle.task_lists.proofs.starts.start_list.Goals as goal
use Rattle.task_lists.proofs.starts.start_list.Goals.{then-is_set+in_ok-less_value+in_ok-push, else-is_set}

pub loop-index-init : goal.loop-index-init
loop-index-init c = record {
  within = omega arith;
  list = starts_none (program_of c.args.lp.now) c.new-list.ensures.items;
  arity =
      All-same (λ (p : FracPoly). p.arity ≡ length (program_of c.args.lp.now).names) _ []
      c.new-list.ensures.items (All-nil _);
  few = (let e = ap length c.new-list.ensures.items in omega (arith, e));
}

pub less_value-requires-clause-index : goal.less_value-requires-clause-index
less_value-requires-clause-index c =
    inside c.args.lp.now c.args.values.now c.requires.values _ c.loop-index-test.true
    c.index-values-index.is

pub less_value-requires-clause-other : goal.less_value-requires-clause-other
less_value-requires-clause-other c =
    without c.args.lp.now c.args.values.now c.requires.values _ c.loop-index-test.true
    c.index-values-index.is _ c.start.ensures (sym c.is_set.ensures ∙ c.if-is_set.true)

pub loop-index-preserved : goal.loop-index-preserved
loop-index-preserved c =
    let m = length (program_of c.args.lp.now).names in
    let i = c.loop-index.invariant in
    let here = c.loop-index-test.true in
    elim c.if-is_set.branch [
      | then-is_set+in_ok-less_value+in_ok-push w ↦ (
          let q = w.in_ok-less_value.field-0 in
          let items = ap (λ v. v.items) w.list-is ∙ w.in_ok-push.ensures.items in
          record {
            within = omega (arith, here);
            list = set_step c.args.lp.now c.args.values.now c.requires.values _
                here c.index-values-index.is _ c.start.ensures
                (sym c.is_set.ensures ∙ w.if-is_set.true) c.loop-index.list.items q items
                w.in_ok-less_value.ensures.difference i.list;
            arity =
                have_more (λ (p : FracPoly). p.arity ≡ m) _ _ q items i.arity
                (w.in_ok-less_value.ensures.arity ∙ value_arity c.args.lp.now c.args.values.now
                c.requires.values _ here c.index-values-index.is);
            few = (let a = ap length items in let b = length-append c.loop-index.list.items
                (q ∷ []) in let d = i.few in omega (arith, a, b, d));
          })
      | else-is_set w ↦ record {
        within = omega (arith, here);
        list = subst (λ v. terms_each v.items ≡ starts_to (program_of c.args.lp.now)
            (c.loop-index.index + 1)) (sym w.list-is) (unset_step c.args.lp.now c.args.values.now
            c.requires.values _ here c.index-values-index.is _ c.start.ensures
            (sym c.is_set.ensures ∙ w.if-is_set.false) _ i.list);
        arity = subst (λ v. AreOver m v.items) (sym w.list-is) i.arity;
        few = subst (λ v. length v.items ≤ c.loop-index.index + 1) (sym w.list-is) (let d = i.few in
            omega (arith, d));
      }
    ]

pub returns-clause-list : goal.returns-clause-list
returns-clause-list c =
    let a = values_count c.args.lp.now c.args.values.now c.requires.values in
    let b = c.loop-index.invariant.within in
    let d = c.loop-index-test.false in
    starts_all (program_of c.args.lp.now) _ (omega (arith, a, b, d)) c.loop-index.invariant.list

pub returns-clause-few : goal.returns-clause-few
returns-clause-few c =
    let a = values_count c.args.lp.now c.args.values.now c.requires.values in
    let b = c.loop-index.invariant.within in
    let d = c.loop-index.invariant.few in
    omega (arith, a, b, d)
