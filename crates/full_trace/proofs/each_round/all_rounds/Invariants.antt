use Rattle.std.proofs.Common.{◌≡◌, ◌<◌, List, [], map, length}
use Rattle.std.specs.List.{All}
use Rattle.algebra.specs.Fraction.{Fraction}
use Rattle.polynomials.specs.Terms.{Terms}
use Rattle.poly.specs.Seen.{terms_each}
use Rattle.task_lists.specs.View.{round_in}
use Rattle.corollaries.specs.Coming.{Comes}
use Rattle.corollaries.specs.Rounds.{behind}
use Rattle.corollaries.specs.Trace.{after_round}
use Rattle.full_trace.specs.Tasks.{Along, Knows, after_rows, fronts_of, AreBranchesOver}
use Rattle.full_trace.proofs.each_round.all_rounds.Given as goal

abbrev pub invariant-loop-round : goal.invariant-loop-round
invariant-loop-round l = record {
  limit : l.meter.limit ≡ l.fn.meter.limit;
  known : Knows l.setting l.meter (after_rows l.start l.found.items).items;
  some : All (λ row. 0 < length row.items) l.found.items;
  over : All (λ row. AreBranchesOver l.setting.arity (fronts_of l.setting) row.items)
      l.found.items;
  next : (links : List (List (Terms Fraction))) → Along l.setting (λ A.
      Comes A l.rounds l.fn.meter.entries (after_round A l.rounds
      (behind (terms_each l.start.items) links []) 0 (terms_each l.start.items))
      → Comes A l.rounds l.meter.entries (after_round A l.rounds
      (behind (terms_each l.start.items) links (map round_in l.found.items)) l.round
      (terms_each (after_rows l.start l.found.items).items)));
}
