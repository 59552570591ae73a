use Rattle.algebra.proofs.Fractions.{ℚ_field}
use Rattle.vectors.proofs.EchelonKernel.{kernel_in, kernel_out, kernel_independent}
use Rattle.vectors.proofs.laws.kernel_vectors_are_a_basis.Goals as goal

pub returns : goal.returns
returns c = λ n ps js xs reduced inside free vectors. record {
  independent = kernel_independent ℚ_field n ps js xs vectors free.free free.rising;
  inside = kernel_in ℚ_field n ps js xs reduced inside free vectors;
  all = kernel_out ℚ_field n ps js xs reduced inside free vectors;
}
