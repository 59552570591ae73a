use Rattle.algebra.proofs.Scalars.{field_no_zero_divisors}
use Rattle.algebra.proofs.laws.fields_have_no_zero_divisors.Goals as goal

pub returns : goal.returns
returns c s = λ N inverse r f. field_no_zero_divisors N r inverse f
