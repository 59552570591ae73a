use Rattle.cert_form.specs.Path.{path_bytes}
use Rattle.program_checker.proofs.ListReads.{ListsSoFar}
use Rattle.program_checker.proofs.lists.read_all.Given as goal

abbrev pub invariant-loop-i : goal.invariant-loop-i
invariant-loop-i l = ListsSoFar l.names (path_bytes l.path) l.list l.i l.lists
