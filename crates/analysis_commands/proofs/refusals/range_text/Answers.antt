use Rattle.std.proofs.Common.{◌≡◌, string_bytes, ap, append_assoc, ◌∙◌}
use Rattle.std.proofs.lemmas.Int.{to_z-of_z}
use Rattle.std.specs.Fmt.{signed_decimal}
use mir.Syntax.{w128}
use Rattle.analysis_commands.specs.RefusalTexts.{names_at}
use Rattle.analysis_commands.proofs.Pushing.{retold}
use Rattle.analysis_commands.proofs.refusals.range_text.Goals as goal

pub returns : goal.returns
returns c =
    let list : string_bytes c.in_ok-list.list ≡ names_at c.args.names.now c.args.class.now =
    c.in_ok-list.ensures in
    let sum : string_bytes c.in_ok-sum.sum ≡ signed_decimal c.args.sum =
    c.in_ok-sum.ensures ∙ ap signed_decimal (to_z-of_z w128 c.args.sum c.ranges.sum) in
    retold string_bytes c.format.result _ _ c.format.ensures.ok (simp (sum, list, append_assoc))
