use Rattle.std.proofs.Common.{rules, sym, ◌∙◌}
use Rattle.computation_rows.proofs.calls.Computation.basis_of.Goals as goal

pub tidy_in-requires-clause-divisors : goal.tidy_in-requires-clause-divisors
tidy_in-requires-clause-divisors g c = λ i d within.
    let like = c.requires.like i d within in (
      like.0,
      like.1 ∙ sym c.len-arity.ensures.len,
      c.is_free_of_zero.ensures (search rules) i d
          within,
    )
