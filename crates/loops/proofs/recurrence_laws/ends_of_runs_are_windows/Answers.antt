use Rattle.loops.proofs.Windows.{window_place, picked_window}
use Rattle.loops.proofs.Iterations.{letters}
use Rattle.loops.proofs.Relations.{ends}
use Rattle.loops.proofs.recurrence_laws.ends_of_runs_are_windows.Goals as goal

pub returns : goal.returns
returns c s = record {
  end = ends;
  word = λ qs r. letters qs r.word r.start r.end r.is_end;
  place = window_place;
  index = λ qs fs n. picked_window fs n qs;
}
