use Rattle.std.proofs.Common.{◌≡◌, ◌∙◌, ℕ, ℤ, List, ap, cond, true, pos, length, refl, sym, subst, arith, ◌++◌, ◌∷◌, []}
use Rattle.std.specs.Result.{is_ok}
use Rattle.std.proofs.lemmas.List.{length-map}
use Rattle.residue_rows.specs.EchelonForm.{IsRestOf}
use Rattle.residue_rows.specs.Additions.{IsFresh}
use Rattle.residue_rows.specs.Modulus.{modulus}
use Rattle.residue_rows.specs.LedRows.{led_of, leds_of}
use Rattle.residue_rows.specs.Numbers.{number_of, numbers_of}
use Rattle.residue_rows.specs.declared.echelon.LedRow.{LedRow}
use Rattle.residue_rows.proofs.Added.{nothing_left, stuck_left, fresh_left, fresh_wide, rows_wide, added_as}
use Rattle.residue_rows.proofs.echelon.add_to.Goals as goal
use Rattle.residue_rows.proofs.echelon.add_to.Goals.{After-fresh-1, After-push}

-- what is left, of the rows that the slice has
left : (row : List ℤ) (n : ℕ) (slice rows : List LedRow) (rest : List ℤ) → slice ≡ rows
    → IsRestOf (pos modulus) (record { width = n; rows = leds_of slice }) row rest
    → IsRestOf (pos modulus) (record { width = n; rows = leds_of rows }) row rest
left row n slice rows rest e h =
    subst (λ ls. IsRestOf (pos modulus) (record { width = n; rows = leds_of ls }) row rest) e h

pub returns-in_default-clause-old : goal.returns-in_default-clause-old
returns-in_default-clause-old c =
    λ t.
    nothing_left (record { width = length c.args.row.items; rows = leds_of c.args.rows.now.items })
    (numbers_of c.args.row.items) c.reduce.new.row.items (left (numbers_of c.args.row.items)
    (length c.args.row.items) c.as_slice.result.now
    c.args.rows.now.items (numbers_of c.reduce.new.row.items) c.as_slice.ensures.value
    c.reduce.ensures)
    c.as_slice-2.result.now c.as_slice-2.ensures.value (c.in_default.ensures.none refl)

pub returns-in_default-inverse-clause-stuck : goal.returns-in_default-inverse-clause-stuck
returns-in_default-inverse-clause-stuck c =
    λ t.
    stuck_left (record { width = length c.args.row.items; rows = leds_of c.args.rows.now.items })
    (numbers_of c.args.row.items) c.reduce.new.row.items (left (numbers_of c.args.row.items)
    (length c.args.row.items) c.as_slice.result.now
    c.args.rows.now.items (numbers_of c.reduce.new.row.items) c.as_slice.ensures.value
    c.reduce.ensures)
    c.as_slice-2.result.now c.as_slice-2.ensures.value c.in-Some.lead c.in-Some.ensures.some
    c.index.result.now c.index.ensures (c.in_default-inverse.ensures.none refl)

fresh : (c : After-fresh-1)
    → IsFresh (pos modulus) (record {
      width = length c.args.row.items;
      rows = leds_of c.args.rows.now.items;
    })
    (numbers_of c.args.row.items)
    (led_of (record { lead = c.in-Some.lead; entries = c.scale.new.row }))
fresh c =
    fresh_left (record { width = length c.args.row.items; rows = leds_of c.args.rows.now.items })
    (numbers_of c.args.row.items) c.reduce.new.row.items
    (left (numbers_of c.args.row.items) (length c.args.row.items) c.as_slice.result.now
    c.args.rows.now.items (numbers_of c.reduce.new.row.items) c.as_slice.ensures.value
    c.reduce.ensures) c.as_slice-2.result.now c.as_slice-2.ensures.value c.in-Some.lead
    c.in-Some.ensures.some c.index.result.now c.index.ensures c.in-Some-inverse.inverse
    c.in-Some-inverse.ensures.some
    (record { lead = c.in-Some.lead; entries = c.scale.new.row }) refl c.scale.ensures.width
    c.scale.ensures.row

width : (c : After-fresh-1) → length c.scale.new.row.items ≡ length c.args.row.items
width c =
    let f = fresh c in sym (length-map c.scale.new.row.items number_of) ∙ f.width

pub clear_column-requires-clause-led : goal.clear_column-requires-clause-led
clear_column-requires-clause-led c =
    let d = (goal.at.clear_column-requires-clause-led c).After-fresh-1 in
    fresh_wide
    (record { lead = c.in-Some.lead; entries = c.scale.new.row }) (fresh d) refl

pub clear_column-requires-clause-widths : goal.clear_column-requires-clause-widths
clear_column-requires-clause-widths c =
    rows_wide c.args.rows.now.items c.reserve.new.self.items c.requires.led c.reserve.ensures.items
    (width (goal.at.clear_column-requires-clause-widths c).After-fresh-1)

room : (c : After-push) → is_ok c.push.result ≡ true
room c =
    c.push.ensures.succeeds (omega (
      arith,
      c.clear_column.ensures.length,
      c.clear_column.ensures.capacity,
      c.in_ok-reserve.ensures.ok,
      c.clear_column.new.rows.ok.0,
      c.reserve.new.self.ok.0,
    ))

pub unwrap-requires : goal.unwrap-requires
unwrap-requires c = room (goal.at.unwrap-requires c).After-push

pub returns-clause-counts : goal.returns-clause-counts
returns-clause-counts c =
    let d = (goal.at.returns-clause-counts c).After-fresh-1 in
    let f : LedRow = record { lead = c.in-Some.lead; entries = c.scale.new.row } in
    λ t. added_as f c.reserve.new.self.items _ refl c.reserve.ensures.items (fresh d)
    c.clear_column.ensures.rows (c.push.ensures.items ∙ ap (λ b. cond b
    (c.clear_column.new.rows.items ++ f ∷ []) c.clear_column.new.rows.items)
    (room (goal.at.returns-clause-counts c).After-push))
