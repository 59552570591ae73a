use Rattle.std.proofs.Common.{◌+◌, length, refl}
use Rattle.loops.proofs.Locals.{no_value, no_local_names}
use Rattle.loops.proofs.laws.local_names_need_no_value.Goals as goal

pub returns : goal.returns
returns c s = record {
  value = λ program branch s l w f is o. no_value (length program.names) (length program.names
      + length program.locals) program branch s l refl w f is o;
  none = λ program branch s n is. no_local_names program branch s n is;
}
