use Rattle.rounds.proofs.Forms.{closed_forms_are_one, enough_budget}
use Rattle.rounds.proofs.laws.a_branch_has_one_closed_form.Goals as goal

pub returns : goal.returns
returns c s = record { form = closed_forms_are_one; enough = enough_budget }
