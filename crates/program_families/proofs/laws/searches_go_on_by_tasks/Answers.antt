use Rattle.program_families.proofs.laws.searches_go_on_by_tasks.Goals as goal

pub returns-clause-keeps : goal.returns-clause-keeps
returns-clause-keeps c = λ G d q parts j i start es x listed.
    c.searches_go_on_by_ended_tasks.ensures.keeps G i.graph i.zeros d q i.modulus parts i.search j
    i.next x.follows.entries x.state x.follows.run x.is listed

pub returns-clause-takes : goal.returns-clause-takes
returns-clause-takes c = λ G d q parts j i start es basis rs x some exact not.
    c.searches_go_on_by_ended_tasks.ensures.takes G i.graph i.zeros d q i.modulus parts i.search j
    i.next x.follows.entries x.state x.follows.run basis rs x.is not some exact
