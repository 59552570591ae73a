use Rattle.rounds.proofs.Graph.{graph_gives_orbit}
use Rattle.rounds.proofs.laws.graphs_give_orbits.Goals as goal

pub returns : goal.returns
returns c s = λ program i k t point points times copied before fs rs us form was wide gs ga
    independent ks eliminated. graph_gives_orbit program i k t point points times copied before fs
    rs us form was wide gs ga independent ks eliminated
