use Rattle.std.proofs.Common.{refl, arith}
use Rattle.residue_rows.proofs.Products.{same_rest, lower_rest}
use Rattle.residue_rows.proofs.residue.Residue.short_rest.Goals as goal

pub returns-then-number-lt-MODULUS : goal.returns-then-number-lt-MODULUS
returns-then-number-lt-MODULUS c = same_rest c.args.number refl

pub returns : goal.returns
returns c = lower_rest _ c.args.number (omega arith)
