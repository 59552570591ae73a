use Rattle.closed_forms.proofs.Rows.{identity_next, identity_done}
use Rattle.closed_forms.proofs.matrices.beside.Goals as goal

pub loop-i-preserved : goal.loop-i-preserved
loop-i-preserved c =
    identity_next c.args.size c.args.place c.loop-i.i c.args.form.now _ c.of_identity.result
    c.loop-i-test.true c.loop-i.invariant c.in_ok-push.ensures.items c.of_identity.ensures

pub returns : goal.returns
returns c = identity_done c.args.size c.args.place c.loop-i.i c.args.form.now _
    c.loop-i-test.false c.loop-i.invariant
