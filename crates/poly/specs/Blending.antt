-- What an intersection begins with (machines/specs/Elimination).
--   times_rest F q    1 less the first variable, times q
use Rattle.std.specs.Prelude.{◌++◌}
use Rattle.algebra.specs.FieldArithmetic.{FieldArithmetic}
use Rattle.polynomials.specs.Order.{grevlex, blocks}
use Rattle.polynomials.specs.Terms.{Terms, negate}
use Rattle.machines.specs.Collect.{collect}
use Rattle.machines.specs.Elimination.{in_front, with_first}

abbrev pub times_rest : {A : Type 0} → FieldArithmetic A → Terms A → Terms A
times_rest F q =
    collect F (blocks 1 grevlex grevlex) (in_front 1 q ++ negate F.arithmetic (with_first q))
