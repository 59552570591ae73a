use Rattle.std.proofs.Common.{◌≡◌, ◌∙◌, ap, sym, subst, pos, length, List, ℤ, ◌++◌, ◌∷◌, []}
use Rattle.std.proofs.lemmas.List.{length-map}
use Rattle.residue_rows.specs.Modulus.{modulus}
use Rattle.residue_rows.specs.Numbers.{number_of, numbers_of}
use Rattle.residue_rows.specs.EchelonForm.{Form, IsReducedEchelon, IsEchelonOf, IsIndependent}
use Rattle.residue_rows.specs.LedRows.{leds_of}
use Rattle.residue_rows.proofs.EchelonForms.{added_more, added_new}
use Rattle.residue_rows.proofs.Added.{kept_added, either}
use Rattle.residue_rows.proofs.echelon.Echelon.add_row.Goals as goal
use Rattle.residue_rows.proofs.echelon.Echelon.add_row.Goals.{After-add_to}

width : (c : After-add_to) → length c.args.row.items ≡ c.self.inside.width
width c = c.requires ∙ sym (ap (λ (e : Form). e.width) c.self.view_is)

same : (c : After-add_to)
    → record { width = length c.args.row.items; rows = leds_of c.self.inside.rows.items }
    ≡ c.args.self.now
same c =
    ap (λ n. record { width = n; rows = leds_of c.self.inside.rows.items }) (width c)
    ∙ c.self.view_is

pub invariant_of-self : goal.invariant_of-self
invariant_of-self c =
    let n = length c.args.row.items in
    either c.add_to.result (IsReducedEchelon (pos modulus) c.self.inside.width
    (leds_of c.add_to.new.rows.items)) (λ e. subst (λ m. IsReducedEchelon (pos modulus) m
    (leds_of c.add_to.new.rows.items)) (width c) (kept_added n
    (length-map c.args.row.items number_of) (subst (λ m. IsReducedEchelon (pos modulus) m
    (leds_of c.self.inside.rows.items)) (sym (width c)) c.self.invariant)
    (c.add_to.ensures.counts e))) (λ e. subst (λ rows. IsReducedEchelon (pos modulus)
    c.self.inside.width (leds_of rows)) (sym (c.add_to.ensures.kept e)) c.self.invariant)

pub returns-clause-more : goal.returns-clause-more
returns-clause-more c = λ e.
    subst (λ (f : Form). (given : List (List ℤ)) → IsEchelonOf (pos modulus) f.width given f.rows
    → IsEchelonOf (pos modulus) f.width (given ++ numbers_of c.args.row.items ∷ [])
    (leds_of c.add_to.new.rows.items)) (same c) (added_more _ (c.add_to.ensures.counts e)
    (length-map c.args.row.items number_of))

pub returns-clause-new : goal.returns-clause-new
returns-clause-new c = λ e.
    subst (λ (f : Form). IsIndependent (pos modulus) f (numbers_of c.args.row.items)) (same c)
    (added_new _ (c.add_to.ensures.counts e))
