use Rattle.std.proofs.Common.{arith}
use Rattle.monos.proofs.ShortMonos.{count_is, first_degree}
use Rattle.monos.proofs.short_mono.ShortMono.degree_of_first.Goals as goal

pub degree_in-requires-clause-few : goal.degree_in-requires-clause-few
degree_in-requires-clause-few c =
    let count = count_is _ _ _ _ c.self.invariant c.self.view_is in
    omega (arith, count, c.self.invariant.few, c.requires)

pub returns-clause-degree : goal.returns-clause-degree
returns-clause-degree c = first_degree _ _ _ _ c.self.invariant c.self.view_is c.args.first _ _
    c.requires c.room_of.ensures.room c.degree_in.ensures.degree

pub returns-clause-small : goal.returns-clause-small
returns-clause-small c =
    let count = count_is _ _ _ _ c.self.invariant c.self.view_is in
    omega (arith, count, c.self.invariant.few, c.requires, c.degree_in.ensures.bound)
