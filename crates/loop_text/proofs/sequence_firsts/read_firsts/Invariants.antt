use Rattle.grammars.specs.Grammar.{sequence}
use Rattle.poly_text.specs.CursorView.{rest, bytes_left}
use Rattle.poly_text.proofs.Paths.{GoesOn}
use Rattle.loop_text.specs.Seqs.{firsts, first, firsts_end, nothing, seq_language}
use Rattle.loop_text.specs.Firsts.{behind, AreMade}
use Rattle.loop_text.specs.Standing.{AreTokens}
use Rattle.loop_text.proofs.SequenceListReads.{comma_list}
use Rattle.loop_text.proofs.sequence_firsts.read_firsts.Given as goal

abbrev pub invariant-loop-firsts : goal.invariant-loop-firsts
invariant-loop-firsts l = record {
  path : GoesOn seq_language firsts nothing (rest l.fn.cursor)
      (sequence (comma_list first) firsts_end) (behind l.firsts) (rest l.at);
  made : AreMade l.firsts;
  tokens : AreTokens l.text (rest l.at);
}

abbrev pub decreases-loop-firsts : goal.decreases-loop-firsts
decreases-loop-firsts l = bytes_left l.at
