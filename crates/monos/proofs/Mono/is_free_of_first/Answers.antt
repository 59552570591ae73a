use Rattle.std.proofs.Common.{◌≡◌, sum, take, ap, ◌∙◌}
use Rattle.monos.proofs.Zeros.{first_zeros}
use Rattle.monos.proofs.Mono.is_free_of_first.Goals as goal

pub returns : goal.returns
returns c =
    let same : c.as_slice.result.now ≡ c.args.self.now = cc in
    first_zeros c.args.count c.sum_of.result c.args.self.now c.requires (c.sum_of.ensures
    ∙ ap (λ d. sum (take c.args.count d)) same)
