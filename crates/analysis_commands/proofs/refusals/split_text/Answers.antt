use Rattle.std.proofs.Common.{◌≡◌, string_bytes, rules, ap, append_assoc, ◌∙◌}
use Rattle.std.proofs.lemmas.Int.{to_z-of_z}
use Rattle.std.specs.Fmt.{signed_decimal}
use mir.Syntax.{w32, w128}
use mir.Val.{to_z, of_z}
use Rattle.analysis_commands.specs.RefusalTexts.{names_at}
use Rattle.analysis_commands.proofs.Pushing.{retold}
use Rattle.analysis_commands.proofs.refusals.split_text.Goals as goal

pub returns : goal.returns
returns c =
    let list : string_bytes c.in_ok-list.list ≡ names_at c.args.names.now c.args.class.now =
    c.in_ok-list.ensures in
    let wide : to_z w128 (of_z w128 c.from.result) ≡ c.from.result = search rules in
    let candidate : string_bytes c.in_ok-candidate.candidate ≡ signed_decimal c.args.candidate =
    c.in_ok-candidate.ensures
    ∙ ap signed_decimal (wide
    ∙ (c.from.ensures ∙ to_z-of_z w32 c.args.candidate c.ranges.candidate)) in
    retold string_bytes c.format.result _ _ c.format.ensures.ok
    (simp (candidate, list, append_assoc))
