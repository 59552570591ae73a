use Rattle.std.proofs.Common.{◌≡◌, ◌<◌, ◌-◌, All, length}
use Rattle.std.specs.Iterator.Adapters.{zip_first, zip_second}
use Rattle.std.specs.Slice.Iter.{iter_rest}
use Rattle.loop_runs.specs.Seen.{numbers_of}
use Rattle.loop_runs.specs.Parts.{stages_in, AreStagesOf}
use Rattle.loop_runs.specs.ChainSeen.{chain_in}
use Rattle.loop_runs.specs.ChainReplay.{chain_replay_of}
use Rattle.loop_runs.specs.ChainRunsSeen.{states_of, words_of}
use Rattle.loop_runs.proofs.Following.{WordsLeft}
use Rattle.loop_runs.proofs.chain_replay.replay_chain.Given as goal

abbrev pub invariant-loop-stage : goal.invariant-loop-stage
invariant-loop-stage l = record {
  left : WordsLeft (chain_in l.chain).first
      (chain_replay_of (chain_in l.chain) (numbers_of l.start.items) (words_of l.words)) l.letters
      (length l.states.items - 1) (stages_in (iter_rest (zip_first l.stage-iterator)))
      (words_of (iter_rest (zip_second l.stage-iterator))) (states_of l.states.items);
  few : l.letters < length l.states.items;
  alike : AreStagesOf (chain_in l.chain).first (iter_rest (zip_first l.stage-iterator));
  sizes : All (λ s. length s.items ≡ length (chain_in l.chain).first.names) l.states.items;
}
