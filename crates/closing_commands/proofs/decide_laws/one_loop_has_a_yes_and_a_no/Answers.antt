use Rattle.closing_commands.proofs.DecideWorked.{square_says_yes, number_says_no}
use Rattle.closing_commands.proofs.decide_laws.one_loop_has_a_yes_and_a_no.Goals as goal

pub returns : goal.returns
returns c = record { yes = square_says_yes; no = number_says_no }
