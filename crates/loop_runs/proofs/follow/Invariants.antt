use Rattle.std.proofs.Common.{◌≡◌, All, map, length, drop}
use Rattle.loop_model.specs.View.{program_of}
use Rattle.loop_runs.specs.Replay.{states_from}
use Rattle.loop_runs.specs.Seen.{numbers_of}
use Rattle.loop_runs.proofs.Iterations.{StatesLeft}
use Rattle.loop_runs.proofs.follow.Given as goal

abbrev pub invariant-loop-index : goal.invariant-loop-index
invariant-loop-index l = record {
  left : StatesLeft (program_of l.lp) (states_from (program_of l.lp) 0 l.word
      (numbers_of l.start.items)) (map (λ s. numbers_of s.items) l.states.items) l.index
      (drop l.index l.word) (numbers_of l.state.items);
  sizes : All (λ s. length s.items ≡ length (program_of l.lp).names) l.states.items;
  len : length l.state.items ≡ length (program_of l.lp).names;
}
