use Rattle.std.proofs.Common.{◌≡◌, ◌++◌, string_bytes, take}
use Rattle.std.specs.Prelude.{codes}
use Rattle.std.specs.List.{flat_map}
use Rattle.io_edge.specs.Texts.{line}
use Rattle.checkproof_command.specs.Texts.{finding_text}
use Rattle.checkproof_command.specs.Views.{finding_view}
use Rattle.checkproof_command.proofs.findings.findings_text.Given as goal

abbrev pub invariant-loop-finding : goal.invariant-loop-finding
invariant-loop-finding l =
    string_bytes l.answer ≡ line (codes "valid") ++ flat_map (λ f. finding_text l.text
    (finding_view f)) (take l.finding-index l.found.items)
