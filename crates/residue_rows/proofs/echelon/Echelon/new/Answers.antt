use Rattle.std.proofs.Common.{pos, sym, subst}
use Rattle.residue_rows.specs.Modulus.{modulus}
use Rattle.residue_rows.specs.EchelonForm.{IsReducedEchelon}
use Rattle.residue_rows.specs.LedRows.{leds_of}
use Rattle.residue_rows.proofs.EchelonForms.{form_none}
use Rattle.residue_rows.proofs.echelon.Echelon.new.Goals as goal

pub invariant_of-result : goal.invariant_of-result
invariant_of-result c =
    subst (λ rows. IsReducedEchelon (pos modulus) c.args.width (leds_of rows))
    (sym c.new.ensures.items) (form_none _ c.args.width)
