use Rattle.rounds.proofs.Theorem.{finished_generates}
use Rattle.corollaries.proofs.Ordered.{ordered_members}
use Rattle.corollaries.proofs.relation_laws.ordered_lists_have_the_relations.Goals as goal

pub returns : goal.returns
returns c s = λ program w is es k gs f p a. ordered_members program is gs
    (finished_generates program w es k gs f) p a
