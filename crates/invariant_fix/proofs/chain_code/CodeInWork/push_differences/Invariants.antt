use Rattle.std.proofs.Common.{◌≡◌, ◌++◌, All, map}
use Rattle.poly.specs.Seen.{terms_each}
use Rattle.loop_runs.specs.Parts.{statements_in}
use Rattle.corollaries.specs.CodeBetween.{assigned_variables}
use Rattle.invariant_fix.specs.Code.{HasItsCopies, value_put}
use Rattle.invariant_fix.proofs.chain_code.CodeInWork.push_differences.Given as goal

abbrev pub invariant-loop-var : goal.invariant-loop-var
invariant-loop-var l = record {
  list : terms_each l.gens.items ≡ terms_each l.initial.gens.items
      ++ map (value_put l.self) (assigned_variables l.var (statements_in l.self.code.now));
  block : All (HasItsCopies l.self) l.gens.items;
}
