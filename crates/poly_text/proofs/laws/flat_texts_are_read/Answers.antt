use Rattle.poly_text.proofs.FlatOver.{flat_is, flat_from}
use Rattle.poly_text.proofs.laws.flat_texts_are_read.Goals as goal

pub returns : goal.returns
returns c = λ names bytes p. (flat_is names bytes p, λ t. flat_from names bytes p t.0 t.1 t.2)
