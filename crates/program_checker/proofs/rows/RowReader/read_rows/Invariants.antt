use Rattle.std.proofs.Common.{length}
use Rattle.std.specs.Prelude.{All}
use Rattle.cert_form.specs.Path.{path_bytes}
use Rattle.cert_form.proofs.Each.{ReadSoFar}
use Rattle.program_checker.specs.Fits.{IsRow}
use Rattle.program_checker.specs.Form.{row_at}
use Rattle.program_checker.specs.ReadAs.{IsSameRow}
use Rattle.program_checker.proofs.rows.RowReader.read_rows.Given as goal

abbrev pub invariant-loop-i : goal.invariant-loop-i
invariant-loop-i l = record {
  reads : ReadSoFar IsSameRow (row_at l.self.names.now l.self.generators) (path_bytes l.path) l.list
      l.i l.found;
  rows : All (IsRow (length l.self.names.now) l.self.generators) l.found.items;
}
