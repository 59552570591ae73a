use Rattle.task_lists.specs.View.{form_in}
use Rattle.full_cert.specs.Narrow.{IsFormNarrow}
use Rattle.full_cert.specs.Written.{form_data}
use Rattle.cert_form.proofs.Listed.{WrittenSoFar}
use Rattle.full_cert.proofs.parts.forms_value.Given as goal

abbrev pub invariant-loop-element : goal.invariant-loop-element
invariant-loop-element l = WrittenSoFar form_in form_data IsFormNarrow l.forms
    l.element-index l.values.items
