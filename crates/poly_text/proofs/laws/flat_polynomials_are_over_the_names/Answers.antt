use Rattle.poly_text.proofs.FlatOver.{flat_over}
use Rattle.poly_text.proofs.laws.flat_polynomials_are_over_the_names.Goals as goal

pub returns : goal.returns
returns c = λ names text p is. flat_over names text p is
