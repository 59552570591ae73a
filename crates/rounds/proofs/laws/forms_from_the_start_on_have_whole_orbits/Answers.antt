use Rattle.rounds.proofs.Whole.{whole_front, whole_list, begins_whole, first_whole, further_whole}
use Rattle.rounds.proofs.laws.forms_from_the_start_on_have_whole_orbits.Goals as goal

pub returns : goal.returns
returns c = record {
  front = whole_front;
  list = whole_list;
  begins = begins_whole;
  first = first_whole;
  further = further_whole;
}
