use Rattle.std.proofs.Common.{rules}
use Rattle.computation_rows.proofs.calls.Computation.division_text.Goals as goal

pub divide-requires-clause-divisors : goal.divide-requires-clause-divisors
divide-requires-clause-divisors g c = λ i d within.
    let like = c.requires.like i d within in
    (like.0, like.1, c.is_free_of_zero.ensures (search rules) i d within)
