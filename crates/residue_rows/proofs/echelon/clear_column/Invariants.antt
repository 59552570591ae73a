use Rattle.std.proofs.Common.{◌≡◌, pos}
use Rattle.std.specs.Vec.{vec_capacity}
use Rattle.residue_rows.specs.Modulus.{modulus}
use Rattle.residue_rows.specs.Additions.{IsClearedBy}
use Rattle.residue_rows.specs.LedRows.{led_of}
use Rattle.residue_rows.proofs.Iterations.{IsTurned}
use Rattle.residue_rows.proofs.echelon.clear_column.Given as goal

abbrev pub invariant-loop-place : goal.invariant-loop-place
invariant-loop-place l = record {
  cleared : IsTurned (λ x y. IsClearedBy (pos modulus) (led_of l.fresh) (led_of x) (led_of y))
      l.place l.initial.rows.items l.rows.items;
  capacity : vec_capacity l.rows ≡ vec_capacity l.initial.rows;
}
