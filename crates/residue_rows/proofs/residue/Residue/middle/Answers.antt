use Rattle.residue_rows.proofs.Products.{middle_is}
use Rattle.residue_rows.proofs.residue.Residue.middle.Goals as goal

pub returns : goal.returns
returns c = middle_is _ c.args.number c.short_rest.ensures
