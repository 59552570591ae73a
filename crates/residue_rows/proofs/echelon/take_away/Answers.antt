use Rattle.std.proofs.Common.{◌≡◌, pos, neg_ℤ, length, refl, ap, arith, ◌∙◌}
use Rattle.std.proofs.lemmas.List.{length-map}
use Rattle.residue_rows.specs.Modulus.{modulus}
use Rattle.residue_rows.specs.Numbers.{number_of, numbers_of}
use Rattle.residue_rows.proofs.Iterations.{blend_none, blend_behind}
use Rattle.residue_rows.proofs.Entries.{taken_step, blend_done, row_length}
use Rattle.residue_rows.proofs.echelon.take_away.Goals as goal

pub returns-then-is_zero-clause-row : goal.returns-then-is_zero-clause-row
returns-then-is_zero-clause-row c =
    blend_none _ (numbers_of c.args.row.now.items) _ _ (ap neg_ℤ (c.if-is_zero.ensures.0 refl))

pub loop-column-init : goal.loop-column-init
loop-column-init c =
    blend_behind _ (numbers_of c.args.row.now.items) _ _ _ c.requires.before

pub loop-column-preserved : goal.loop-column-preserved
loop-column-preserved c =
    let w = row_length (pos modulus) (pos 1) c.args.row.now.items
    (neg_ℤ (number_of c.args.factor.now)) (numbers_of c.args.other.now.entries.items) _
    c.loop-column.invariant in
    taken_step (pos modulus) c.args.row.now.items c.loop-column.row.items _ c.loop-column.column
    c.args.factor.now c.index.result.now c.mul.result c.sub.result
    (omega (arith, c.loop-column-test.true, c.len-column-end.ensures, c.args.row.now.ok.0, w))
    (omega (
      arith,
      c.loop-column-test.true,
      c.len-column-end.ensures,
      c.args.row.now.ok.0,
      c.requires.width,
    )) c.index.ensures c.index-in-loop-column.ensures c.mul.ensures c.sub.ensures
    c.loop-column.invariant

pub returns-clause-row : goal.returns-clause-row
returns-clause-row c =
    let w : length (numbers_of c.args.other.now.entries.items) ≡ length c.args.row.now.items =
    length-map c.args.other.now.entries.items number_of ∙ c.requires.width in
    blend_done (pos modulus) (pos 1) c.args.row.now.items (neg_ℤ (number_of c.args.factor.now))
    (numbers_of c.args.other.now.entries.items) c.loop-column.column c.len-column-end.result
    c.loop-column.row.items (omega (arith, c.len-column-end.ensures, c.args.row.now.ok.0))
    (omega (arith, c.loop-column-test.false)) (omega (arith, w)) c.loop-column.invariant
