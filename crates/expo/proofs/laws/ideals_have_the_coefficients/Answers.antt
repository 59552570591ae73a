use Rattle.expo.proofs.Independence.{members_of_expo}
use Rattle.expo.proofs.laws.ideals_have_the_coefficients.Goals as goal

pub returns : goal.returns
returns c = λ gs a h k l. members_of_expo c.args.e.now gs a h k l
