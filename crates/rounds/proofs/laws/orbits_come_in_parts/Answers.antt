use Rattle.std.proofs.Common.{suc}
use Rattle.rounds.proofs.Parts.{own_list, one_iteration_more, met_iteration, met_orbit, later_iterations, first_so_far, to_next_branch}
use Rattle.rounds.proofs.laws.orbits_come_in_parts.Goals as goal

pub returns : goal.returns
returns c s = record {
  own = λ program gs ga. own_list program gs ga;
  iteration = λ program gs ks ls i n before one. one_iteration_more program gs i n ks ls before one;
  met_iteration = λ program gs hs ks ls b n before iteration meet.
      met_iteration program gs b n hs ks ls before iteration meet;
  met_orbit = λ program gs hs ks ls b d before orbit meet.
      met_orbit program gs b d hs ks ls before (later_iterations program gs (suc b) d ks orbit)
      meet;
  whole = λ program gs hs orbit. first_so_far program gs hs (later_iterations program gs 1 0 hs
      orbit);
  next = λ program gs hs b so_far. to_next_branch program gs b hs so_far;
}
