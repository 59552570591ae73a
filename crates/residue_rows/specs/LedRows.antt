-- Rows with their leading columns, as the code has them.
--   led_of r       the column and the numbers of a row;  leds_of rows: those of each
use Rattle.std.specs.Prelude.{List, map}
use Rattle.residue_rows.specs.EchelonForm.{Led}
use Rattle.residue_rows.specs.Numbers.{numbers_of}
use Rattle.residue_rows.specs.declared.echelon.LedRow.{LedRow}

abbrev pub led_of : LedRow → Led
led_of r = record { lead = r.lead; row = numbers_of r.entries.items }

abbrev pub leds_of : List LedRow → List Led
leds_of rows = map led_of rows
