use Rattle.std.proofs.Common.{rules, ◌≤◌, length}
use Rattle.monos.specs.Products.{ProductFits}
use Rattle.monos.proofs.Shorts.{few_plus, short_fits}
use Rattle.monos.proofs.Mono.product_of_lists.Goals as goal

pub returns-then-not-sums_fit-clause-short : goal.returns-then-not-sums_fit-clause-short
returns-then-not-sums_fit-clause-short c = λ short.
    let not : ProductFits c.args.self.now c.args.other.now → ⊥ = search rules in
    absurd (not (short_fits c.args.self.now c.args.other.now c.requires short))

pub returns-in_err-sums-clause-short : goal.returns-in_err-sums-clause-short
returns-in_err-sums-clause-short c = λ short.
    let few : length c.args.self.now ≤ 16 = few_plus c.args.self.now c.args.other.now c.requires
    short in
    search rules
