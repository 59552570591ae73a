use Rattle.std.proofs.Common.{◌<◌, [], length, option_map, ap, sym, ◌∙◌, arith}
use Rattle.std.proofs.lemmas.List.{get_or-map}
use Rattle.poly.specs.Seen.{terms_in}
use Rattle.program_families.specs.Lesser.{pair_in}
use Rattle.program_families.specs.Views.{transition_in, rests_of}
use Rattle.program_families.proofs.LesserMonomials.{variable_within}
use Rattle.program_families.proofs.Products.{times_formed}
use Rattle.program_families.proofs.job.Job.product.Goals as goal
use Rattle.program_families.proofs.job.Job.product.Goals.{In-Some}

-- the variable has an image
within : (c : In-Some) → c.in-Some.less.variable
    < length c.args.self.now.transition.now.images.items
within c =
    let l = c.in-Some.less in
    let v = variable_within c.args.monomial.now l.monomial l.variable
    (c.in_ok-less.ensures ∙ ap (option_map pair_in) c.in-Some.is) in
    let a = c.requires.arity in
    let b = c.requires.job.count in
    omega (arith, v, a, b)

pub index-requires : goal.index-requires
index-requires c =
    let w = within (goal.at.index-requires c).In-Some in
    let d = c.args.self.now.transition.now.images.ok.0 in
    omega (arith, w, d)

pub product-requires : goal.product-requires
product-requires c =
    ap (λ p. p.arity) c.index.ensures
    ∙ c.requires.job.images c.in-Some.less.variable c.index.result.now
    (within (goal.at.product-requires c).In-Some)
    ∙ sym c.arity.ensures.arity ∙ sym c.in_ok-rest-in-Some.ensures.arity

pub returns-in_ok-rest-in-Some : goal.returns-in_ok-rest-in-Some
returns-in_ok-rest-in-Some c =
    let self = c.args.self.now in
    let l = c.in-Some.less in
    times_formed self.variables (transition_in self) (rests_of c.args.rests.now)
    c.args.monomial.now l.monomial l.variable
    (c.in_ok-less.ensures ∙ ap (option_map pair_in) c.in-Some.is)
    (terms_in c.in_ok-rest-in-Some.rest) (terms_in c.index.result.now)
    c.in_ok-rest-in-Some.ensures.terms
    (ap terms_in c.index.ensures
    ∙ sym (get_or-map terms_in self.transition.now.images.items l.variable c.index.result.now []
    (within (goal.at.returns-in_ok-rest-in-Some c).In-Some))) _
    (c.in_ok-rest-in-Some.ensures.arity ∙ c.arity.ensures.arity) c.product.result
    c.product.ensures
