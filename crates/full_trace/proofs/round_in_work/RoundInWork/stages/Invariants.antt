use Rattle.std.proofs.Common.{◌≡◌, ◌≤◌, ℕ, [], map, take, length}
use Rattle.poly.specs.Seen.{terms_each}
use Rattle.task_lists.specs.View.{branch_in}
use Rattle.corollaries.specs.Rounds.{OrbitBegins, ComesBehind}
use Rattle.corollaries.specs.Trace.{Results}
use Rattle.full_trace.specs.Tasks.{Along, Knows, IsInWork, after_row, fronts_of, AreBranchesOver}
use Rattle.full_trace.proofs.round_in_work.RoundInWork.stages.Given as goal

abbrev pub invariant-loop-place : goal.invariant-loop-place
invariant-loop-place l = record {
  limit : l.meter.limit ≡ l.fn.meter.limit;
  from : 1 ≤ l.place;
  count : length l.done.items ≡ l.place;
  round : IsInWork l.self l.meter;
  so_far : Knows l.self.setting.now l.meter (after_row l.self.basis.now l.done.items).items;
  over : AreBranchesOver l.self.setting.now.arity (take l.place (fronts_of l.self.setting.now))
      l.done.items;
  next : (rounds : ℕ) (d : Results) → Along l.self.setting.now (λ A.
      OrbitBegins A rounds d l.fn.meter.entries l.self.round 0 (terms_each l.self.basis.now.items)
      []
      → ComesBehind A rounds d l.meter.entries l.self.round l.place
      (terms_each l.self.basis.now.items) (map branch_in l.done.items)
      (terms_each (after_row l.self.basis.now l.done.items).items));
}
