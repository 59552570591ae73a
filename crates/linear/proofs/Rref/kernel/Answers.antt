use Rattle.std.proofs.Common.{List, refl, sym, ap, subst, ◌∙◌, Vec, Global}
use Rattle.std.proofs.lemmas.Result.{IfOk-weaker}
use Rattle.frac128.specs.declared.fraction.Frac.{Frac}
use Rattle.vectors.specs.Adding.{AreKernel}
use Rattle.linear.specs.Rows.{rows_of}
use Rattle.linear.specs.View.{Echelon}
use Rattle.linear.specs.Parts.{kernel_rows}
use Rattle.linear.proofs.Kept.{kept_widths}
use Rattle.linear.proofs.Kernels.{kernel_is}
use Rattle.linear.proofs.Rref.kernel.Goals as goal

pub kernel_of-requires : goal.kernel_of-requires
kernel_of-requires c = kept_widths refl c.as_slice.ensures.value c.self.invariant

pub returns : goal.returns
returns c = record {
  kernel = IfOk-weaker c.kernel_of.result _ _
      (λ vectors is. subst (λ (e : Echelon). AreKernel e.width e.rows (rows_of vectors.items))
      c.self.view_is (subst (AreKernel c.self.inside.width (rows_of c.self.inside.rows.items))
      (sym (is ∙ ap (λ (l : List (Vec Frac Global)). kernel_rows (rows_of l) c.self.inside.width 0
      c.self.inside.width) c.as_slice.ensures.value)) (kernel_is c.self.invariant)))
      c.kernel_of.ensures;
}
