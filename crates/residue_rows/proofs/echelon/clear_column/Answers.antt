use Rattle.std.proofs.Common.{pos, refl, arith}
use Rattle.residue_rows.specs.Modulus.{modulus}
use Rattle.residue_rows.specs.Additions.{IsClearedBy}
use Rattle.residue_rows.specs.LedRows.{led_of}
use Rattle.residue_rows.proofs.Iterations.{turned_first, turned_length, turned_step}
use Rattle.residue_rows.proofs.Entries.{led_wide, all_cleared}
use Rattle.residue_rows.proofs.echelon.clear_column.Goals as goal

pub loop-place-init : goal.loop-place-init
loop-place-init c = record {
  cleared = turned_first (λ x y. IsClearedBy (pos modulus) (led_of c.args.fresh.now) (led_of x)
      (led_of y)) c.args.rows.now.items;
  capacity = refl;
}

pub clear-requires : goal.clear-requires
clear-requires c = record {
  led = led_wide (pos modulus) c.args.fresh.now c.args.rows.now.items c.loop-place.rows.items
      c.loop-place.place c.index_mut.result.now
      (omega (arith, c.loop-place-test.true, c.len-place-end.ensures, c.args.rows.now.ok.0))
      c.index_mut.ensures.value c.loop-place.invariant.cleared c.requires.widths c.requires.led;
}

pub loop-place-preserved : goal.loop-place-preserved
loop-place-preserved c = record {
  cleared = turned_step (λ x y. IsClearedBy (pos modulus) (led_of c.args.fresh.now) (led_of x)
      (led_of y)) c.loop-place.place c.args.rows.now.items c.loop-place.rows.items
      c.index_mut.result.now c.clear.new.row
      (omega (arith, c.loop-place-test.true, c.len-place-end.ensures, c.args.rows.now.ok.0))
      c.loop-place.invariant.cleared c.index_mut.ensures.value c.clear.ensures;
  capacity = c.loop-place.invariant.capacity;
}

pub returns-clause-rows : goal.returns-clause-rows
returns-clause-rows c =
    all_cleared (pos modulus) c.args.fresh.now c.args.rows.now.items c.loop-place.rows.items
    c.loop-place.place
    (omega (arith, c.loop-place-test.false, c.len-place-end.ensures, c.args.rows.now.ok.0))
    c.loop-place.invariant.cleared

pub returns-clause-length : goal.returns-clause-length
returns-clause-length c =
    turned_length (λ x y. IsClearedBy (pos modulus) (led_of c.args.fresh.now) (led_of x) (led_of y))
    c.loop-place.place c.args.rows.now.items _ c.loop-place.invariant.cleared
