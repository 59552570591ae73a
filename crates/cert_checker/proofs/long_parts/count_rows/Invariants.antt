use Rattle.poly.specs.Seen.{terms_each}
use Rattle.corollaries.specs.Stage.{below}
use Rattle.task_lists.specs.Rows.{rows_of}
use Rattle.cert_checker.specs.LongParts.{IsTotal, row_terms}
use Rattle.cert_checker.proofs.long_parts.count_rows.Given as goal

abbrev pub invariant-loop-i : goal.invariant-loop-i
invariant-loop-i g l = IsTotal (row_terms (terms_each l.list) (terms_each l.images)
    (rows_of l.rows.items) (terms_each l.elements.items)) l.before (below l.i) l.terms
