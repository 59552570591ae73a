use Rattle.std.proofs.Common.{◌++◌, string_bytes, sym, ap, ◌∙◌, arith}
use Rattle.std.specs.Prelude.{codes}
use Rattle.std.proofs.lemmas.List.Folds.{flat_map-map}
use Rattle.io_edge.specs.Texts.{line}
use Rattle.command_parts.proofs.Pushing.{all_pushed}
use Rattle.checkproof_command.specs.Texts.{finding_text}
use Rattle.checkproof_command.specs.Views.{finding_view}
use Rattle.checkproof_command.proofs.findings.findings_text.Goals as goal

pub returns : goal.returns
returns c =
    all_pushed (λ f. finding_text c.args.text.now (finding_view f)) c.args.found.now.items
    c.loop-finding.finding-index (line (codes "valid")) (string_bytes c.loop-finding.answer)
    (omega arith) c.loop-finding.invariant
    ∙ sym (ap (λ t. line (codes "valid") ++ t)
    (flat_map-map (finding_text c.args.text.now) finding_view c.args.found.now.items))
