use Rattle.algebra.proofs.ResidueLaws.{residues_ring, residues_field, residue_zero_is, residues_bounded, residue_quotients_bounded, prime_65521}
use Rattle.algebra.proofs.number_laws.residues_are_a_field.Goals as goal

pub returns : goal.returns
returns c = record {
  ring = residues_ring 65521 tt;
  field = residues_field 65521 tt prime_65521;
  zero = residue_zero_is 65521 tt;
  bounded = residues_bounded 65521 tt;
  quotients = residue_quotients_bounded 65521 tt;
}
