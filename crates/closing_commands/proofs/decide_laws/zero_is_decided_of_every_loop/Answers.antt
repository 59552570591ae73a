use Rattle.closing_commands.proofs.DecideZero.{zero_unlimited, zero_not_wide, zero_ends}
use Rattle.closing_commands.proofs.ProveZero.{zero_fits, zero_proved}
use Rattle.closing_commands.proofs.decide_laws.zero_is_decided_of_every_loop.Goals as goal

pub returns : goal.returns
returns c = record {
  limit = zero_unlimited;
  wide = zero_not_wide;
  ends = zero_ends;
  fits = zero_fits;
  proves = zero_proved;
}
