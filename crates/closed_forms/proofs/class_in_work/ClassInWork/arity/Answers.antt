use Rattle.std.proofs.Common.{◌≡◌, length, ap, ◌∙◌, arith}
use Rattle.solvable_maps.specs.Iterations.{width}
use Rattle.closed_forms.specs.ClassInWork.{base_in, vars_in}
use Rattle.closed_forms.proofs.Making.{base_width}
use Rattle.closed_forms.proofs.class_in_work.ClassInWork.arity.Goals as goal

pub width-requires : goal.width-requires
width-requires c =
    let w = c.args.self.now in
    let e = base_width _ c.len-2.result (c.len.ensures ∙ w.base.now.ok.0) in
    let n : c.len-2.result ≡ vars_in w = c.len-2.ensures ∙ w.setting.earlier.ok.0 in
    omega (arith, e, n, w.ready.few)

pub returns : goal.returns
returns c =
    let w = c.args.self.now in
    c.width.ensures ∙ base_width _ c.len-2.result (c.len.ensures ∙ w.base.now.ok.0)
    ∙ ap (width (length (base_in w))) (c.len-2.ensures ∙ w.setting.earlier.ok.0)
