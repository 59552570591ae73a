use Rattle.monos.proofs.lanes.+degree_in.Given as goal

abbrev pub decreases-degree_in : goal.decreases-degree_in
decreases-degree_in l = l.count
