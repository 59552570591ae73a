use Rattle.std.proofs.Common.{◌≡◌, ℕ, take, length, All}
use Rattle.program_families.specs.Views.{HaveArity}
use Rattle.program_families.specs.RestRows.{all_monomials, IsSetOf}
use Rattle.program_families.proofs.rows.monomials_of.Given as goal

abbrev pub invariant-loop-rest : goal.invariant-loop-rest
invariant-loop-rest l = record {
  long : (n : ℕ) → HaveArity n l.rests → All (λ m. length m ≡ n) l.monomials.items;
  set : IsSetOf (all_monomials (take l.rest-index l.rests)) l.monomials.items;
}
