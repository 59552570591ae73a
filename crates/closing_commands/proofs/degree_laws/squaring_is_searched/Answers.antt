use Rattle.closing_commands.proofs.DegreeWorked.{squaring_read, squaring_free, squaring_unlimited, squaring_fits, squaring_within}
use Rattle.closing_commands.proofs.degree_laws.squaring_is_searched.Goals as goal

pub returns : goal.returns
returns c = record {
  reads = squaring_read;
  free = squaring_free;
  limit = squaring_unlimited;
  wide = squaring_fits;
  within = squaring_within;
}
