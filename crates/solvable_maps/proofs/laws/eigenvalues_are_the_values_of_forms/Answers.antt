use Rattle.solvable_maps.proofs.Eigenvalues.{value_is_eigenvalue, eigenvector_value}
use Rattle.solvable_maps.proofs.laws.eigenvalues_are_the_values_of_forms.Goals as goal

pub returns : goal.returns
returns c = record {
  value = λ images g forms values is are c i. value_is_eigenvalue images g forms values are is c i;
  eigenvalue = λ images c is forms values are. eigenvector_value images is.class forms values are c
      is.vector is.nonzero is.eigen;
}
