use Rattle.std.proofs.Common.{ap, append_assoc, ◌∙◌}
use Rattle.io_edge.specs.Texts.{with_text}
use Rattle.io_edge.specs.declared.answer.Status.TheVariants.{Wide}
use Rattle.certificate_commands.proofs.check_texts.wide_at.Goals as goal

pub returns : goal.returns
returns c =
    c.new.ensures ∙ ap (with_text Wide) (simp (
      c.in_ok-text.ensures.ok,
      append_assoc,
      c.branch_number-branch.ensures,
      c.ordinal-element.ensures,
    ))
