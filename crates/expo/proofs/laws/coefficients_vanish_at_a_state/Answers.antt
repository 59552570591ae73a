use Rattle.expo.proofs.Independence.{expo_vanishes}
use Rattle.expo.proofs.laws.coefficients_vanish_at_a_state.Goals as goal

pub returns : goal.returns
returns c = λ s size h k l. expo_vanishes c.args.e.now s size h k l
