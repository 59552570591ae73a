use Rattle.cert_form.specs.Path.{path_bytes}
use Rattle.program_checker.proofs.RowReads.{PairsSoFar}
use Rattle.program_checker.proofs.rows.RowReader.read_pairs.Given as goal

abbrev pub invariant-loop-i : goal.invariant-loop-i
invariant-loop-i l = PairsSoFar l.self.names.now l.self.generators (path_bytes l.path) l.list l.i
    l.least l.row
