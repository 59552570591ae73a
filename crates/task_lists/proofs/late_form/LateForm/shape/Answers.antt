use Rattle.std.proofs.Common.{ap, refl, ◌∙◌}
use Rattle.task_lists.specs.Shapes.{passers}
use Rattle.task_lists.proofs.Passers.{passers_are}
use Rattle.task_lists.proofs.late_form.LateForm.shape.Goals as goal

pub returns : goal.returns
returns c = record {
  shape = record {
    front = refl;
    copies = c.passers.ensures.count ∙ ap passers c.as_slice.ensures.value
        ∙ passers_are c.args.self.now.passing.now.items;
    variables = c.len.ensures ∙ c.args.self.now.passing.now.ok.0;
  };
}
