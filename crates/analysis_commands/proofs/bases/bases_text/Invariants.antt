use Rattle.std.proofs.Common.{◌≡◌, string_bytes, take, All}
use Rattle.command_parts.specs.ReadBack.{IsReadBack}
use Rattle.analysis_commands.specs.Lists.{lists_of}
use Rattle.analysis_commands.specs.ChainTexts.{bases_text}
use Rattle.analysis_commands.proofs.bases.bases_text.Given as goal

abbrev pub invariant-loop-place : goal.invariant-loop-place
invariant-loop-place l = record {
  text : string_bytes l.text ≡ bases_text l.names 0 (lists_of (take l.place l.bases));
  read : All (IsReadBack l.names) (lists_of (take l.place l.bases));
}
