use Rattle.std.proofs.Common.{◌≡◌, take, All}
use Rattle.algebra.specs.Fraction.{ℚ}
use Rattle.polynomials.specs.Terms.{variables}
use Rattle.poly.specs.Seen.{terms_each}
use Rattle.poly.specs.Standing.{IsInVariables}
use Rattle.task_lists.specs.Shapes.{width_of}
use Rattle.task_lists.proofs.graph.behind_front.Given as goal

abbrev pub invariant-loop-place : goal.invariant-loop-place
invariant-loop-place l = record {
  images : terms_each l.images.items ≡ take l.place (variables ℚ (width_of l.fn.shape));
  over : All (IsInVariables (width_of l.fn.shape)) l.images.items;
}
