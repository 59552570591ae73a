use Rattle.counter_run.proofs.Combining.{found_at}
use Rattle.counter_run.proofs.combination.image_of.Goals as goal

pub returns-in-Some : goal.returns-in-Some
returns-in-Some c =
    found_at c.args.known.now c.place_of.result c.get.result c.in-Some.item c.args.monomial.now
    c.get.ensures.lookup c.in-Some.is ((c.eq.ensures.same).0 c.if-eq.true)
