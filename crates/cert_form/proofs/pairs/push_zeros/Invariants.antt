use Rattle.std.proofs.Common.{◌≤◌, ◌-◌, vec_len}
use Rattle.cert_form.proofs.PairSteps.{Zeroed}
use Rattle.cert_form.proofs.pairs.push_zeros.Given as goal

abbrev pub invariant-loop-alloc : goal.invariant-loop-alloc
invariant-loop-alloc l = record {
  within : vec_len l.found ≤ l.count;
  from : vec_len l.initial.found ≤ vec_len l.found;
  zeroed : Zeroed l.arity l.initial.found l.found;
}

abbrev pub decreases-loop-alloc : goal.decreases-loop-alloc
decreases-loop-alloc l = l.count - vec_len l.found
