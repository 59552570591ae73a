use Rattle.std.proofs.Common.{◌≤◌, length, Err, ap, subst}
use Rattle.std.proofs.lemmas.List.{take_all}
use Rattle.closed_forms.specs.Comparison.{list_at}
use Rattle.closed_forms.specs.Settling.{AreAllMarked}
use Rattle.closed_forms.specs.Splits.{groups_in}
use Rattle.closed_forms.proofs.Marks.{classes_next, past_class}
use Rattle.closed_forms.proofs.Mixing.{read_of}
use Rattle.closed_forms.proofs.begins.Comparison.apart.Goals as goal

pub loop-group-preserved : goal.loop-group-preserved
loop-group-preserved c =
    let r = c.args.self.now in
    let at = read_of c.deref-group-items.ensures.value c.loop-group-test.true c.group-item.is in (
      c.in-Ok.ensures.count,
      classes_next r.polys.now.items c.args.iterations (list_at r c.args.iterations)
          r.groups.now.items _ _ _ at.0 at.1 c.as_slice-group.ensures.value
          c.in-Ok.ensures.kept c.in-Ok.ensures.marked c.loop-group.invariant.1,
    )

pub returns-clause-marked : goal.returns-clause-marked
returns-clause-marked c =
    let r = c.args.self.now in
    subst (λ gs. AreAllMarked r.polys.now.items c.args.iterations (list_at r c.args.iterations)
    (groups_in gs) c.loop-group.marks.items) (take_all _ _
    (subst (λ gs. length gs ≤ c.loop-group.group-index) c.deref-group-items.ensures.value
    c.loop-group-test.false)) c.loop-group.invariant.1

pub returns-in-Err-Wide-clause-refused : goal.returns-in-Err-Wide-clause-refused
returns-in-Err-Wide-clause-refused c =
    let r = c.args.self.now in
    let at = read_of c.deref-group-items.ensures.value c.loop-group-test.true c.group-item.is in
    past_class r.polys.now.items c.args.iterations (list_at r c.args.iterations) r.groups.now.items
    c.loop-group.group-index at.0 at.1 c.as_slice-group.ensures.value c.first_of.ensures
    (c.in-Err-Wide.ensures.wide (ap Err c.in-Err-Wide.field-0-is))
