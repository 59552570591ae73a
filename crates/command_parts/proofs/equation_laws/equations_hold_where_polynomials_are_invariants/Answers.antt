use Rattle.command_parts.proofs.Polynomials.{holds_invariant}
use Rattle.command_parts.proofs.equation_laws.equations_hold_where_polynomials_are_invariants.Goals as goal

pub returns : goal.returns
returns c = λ l e. holds_invariant l e
