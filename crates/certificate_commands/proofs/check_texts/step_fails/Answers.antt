use Rattle.std.proofs.Common.{ap, append_assoc, ◌∙◌}
use Rattle.io_edge.specs.Texts.{with_text}
use Rattle.io_edge.specs.declared.answer.Status.TheVariants.{No}
use Rattle.certificate_commands.proofs.check_texts.step_fails.Goals as goal

pub returns : goal.returns
returns c =
    c.new.ensures ∙ ap (with_text No) (simp (
      c.in_ok-text.ensures.ok,
      append_assoc,
      c.ordinal-branch.ensures,
      c.ordinal-element.ensures,
    ))
