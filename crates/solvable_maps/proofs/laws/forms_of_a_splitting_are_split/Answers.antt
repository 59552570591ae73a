use Rattle.solvable_maps.proofs.NextForm.{split_at}
use Rattle.solvable_maps.proofs.laws.forms_of_a_splitting_are_split.Goals as goal

pub returns : goal.returns
returns c = λ images g forms back values are inverse k l done count turned by p q.
    split_at images g forms back values are inverse k l done count turned by p q
