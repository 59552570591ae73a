use Rattle.poly.specs.Seen.{terms_in, terms_each}
use Rattle.poly.proofs.Standing.{arities_over}
use Rattle.program_families.specs.Views.{arity_in, transition_in}
use Rattle.program_families.proofs.Composed.{image_formed}
use Rattle.program_families.proofs.Fronts.{front_is}
use Rattle.program_families.proofs.job.Job.image_of.Goals as goal

pub returns : goal.returns
returns c =
    let self = c.args.self.now in
    let t = transition_in self in
    let f = front_is t.unknowns self.variables c.args.polynomial.now c.in_ok-padded.padded _ _
    c.in_ok-front.ensures.ok c.requires.arity c.in_ok-padded.ensures.product in
    image_formed self.variables t (terms_in c.args.polynomial.now)
    (arities_over (arity_in self) _ c.requires.job.images) c.in_ok-padded.padded f.terms f.arity
    (terms_each c.args.images.now.items) c.requires.behind c.compose_anew.result
    c.compose_anew.ensures
