use Rattle.std.proofs.Common.{◌<◌}
use Rattle.grammars.specs.Grammar.{sequence}
use Rattle.poly_text.specs.CursorView.{rest, bytes_left}
use Rattle.poly_text.proofs.Paths.{GoesOn}
use Rattle.loop_text.specs.Seqs.{first, value, first_end, seq_language}
use Rattle.loop_text.specs.Firsts.{behind, opened, IsOpen}
use Rattle.loop_text.specs.Standing.{AreTokens}
use Rattle.loop_text.proofs.SequenceListReads.{comma_list}
use Rattle.loop_text.proofs.sequence_firsts.read_first.Given as goal

abbrev pub invariant-loop-value : goal.invariant-loop-value
invariant-loop-value l = record {
  path : GoesOn seq_language first (behind l.fn.firsts) (rest l.fn.cursor)
      (sequence (comma_list value) first_end) (opened l.firsts l.order) (rest l.at);
  opens : IsOpen l.firsts l.order l.name;
  tokens : AreTokens l.text (rest l.at);
  falls : bytes_left l.at < bytes_left l.fn.cursor;
}

abbrev pub decreases-loop-value : goal.decreases-loop-value
decreases-loop-value l = bytes_left l.at
