use Rattle.std.proofs.Common.{◌≡◌, ◌<◌, pos, length, ◌∙◌, sym, subst, arith}
use Rattle.std.proofs.lemmas.List.{length-map}
use Rattle.algebra.proofs.In.{each_in}
use Rattle.residue_rows.specs.Modulus.{modulus}
use Rattle.residue_rows.specs.EchelonForm.{IsLed}
use Rattle.residue_rows.specs.LedRows.{led_of}
use Rattle.residue_rows.specs.Numbers.{number_of}
use Rattle.residue_rows.proofs.Iterations.{rest_first}
use Rattle.residue_rows.proofs.Entries.{row_read, row_width, rest_more, rest_done}
use Rattle.residue_rows.proofs.echelon.reduce.Goals as goal
use Rattle.residue_rows.proofs.echelon.reduce.Goals.{After-other-item}

led : (c : After-other-item)
    → IsLed (pos modulus) (length c.args.row.now.items) (led_of c.other-item.result)
led c =
    each_in (IsLed (pos modulus) (length c.args.row.now.items)) _ _ c.requires.led
    (row_read _ _ c.loop-other-test.true c.other-item.is)

width : (c : After-other-item) → length c.loop-other.row.items ≡ length c.args.row.now.items
width c = sym (length-map c.loop-other.row.items number_of) ∙ c.loop-other.invariant.width

low : (c : After-other-item) → c.other-item.result.lead < length c.loop-other.row.items
low c = let h = led c in subst (λ n. c.other-item.result.lead < n) (sym (width c)) h.within

pub loop-other-init : goal.loop-other-init
loop-other-init c =
    rest_first (pos modulus) _ _ _ (length-map c.args.row.now.items number_of)

pub index-requires : goal.index-requires
index-requires c =
    let h = low (goal.at.index-requires c).After-other-item in
    omega (arith, h, c.loop-other.row.ok.0)

pub take_away-requires-clause-width : goal.take_away-requires-clause-width
take_away-requires-clause-width c =
    let d = (goal.at.take_away-requires-clause-width c).After-other-item in
    row_width c.other-item.result (led d) ∙ sym (width d)

pub take_away-requires-clause-before : goal.take_away-requires-clause-before
take_away-requires-clause-before c =
    let h = led (goal.at.take_away-requires-clause-before c).After-other-item in h.before

pub loop-other-preserved : goal.loop-other-preserved
loop-other-preserved c =
    rest_more (pos modulus) c.args.rows.now _ c.other-item.result c.args.row.now.items
    c.loop-other.row.items _ c.index.result.now c.loop-other-test.true c.other-item.is c.requires
    c.loop-other.invariant (low (goal.at.loop-other-preserved c).After-other-item) c.index.ensures
    c.take_away.ensures.width c.take_away.ensures.row

pub returns : goal.returns
returns c =
    rest_done (pos modulus) c.args.rows.now _ c.args.row.now.items
    c.loop-other.row.items c.loop-other-test.false c.loop-other.invariant
