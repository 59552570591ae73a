use Rattle.eigen_split.proofs.annihilator.is_none.Goals as goal

pub returns : goal.returns
returns c = λ t. record { is = c.is_zero.ensures.0 t }
