use Rattle.std.proofs.lemmas.Result.{err_from_is_err_and}
use Rattle.loop_model.specs.View.{program_of}
use Rattle.invariant_fix.proofs.Forming.{loop_unformed}
use Rattle.invariant_fix.proofs.Forms.{all_forms}
use Rattle.invariant_fix.proofs.analysis.setting_of.Goals as goal

pub returns-in_err-branches-clause-refused : goal.returns-in_err-branches-clause-refused
returns-in_err-branches-clause-refused c =
    let p = err_from_is_err_and c.from_residual.result c.from_residual.ensures.1 in
    rw (p.1, p.2) (loop_unformed (program_of c.args.lp.now) _ c.in-Ok.ensures.free
    c.in_err-branches.ensures.refused)

pub returns-clause-forms : goal.returns-clause-forms
returns-clause-forms c = all_forms (program_of c.args.lp.now) c.in_ok-branches.ensures.branches
