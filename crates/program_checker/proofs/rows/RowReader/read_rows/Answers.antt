use Rattle.std.proofs.Common.{length, sym, subst}
use Rattle.std.specs.Prelude.{All}
use Rattle.std.proofs.lemmas.List.Elements.{All-nil, All-push}
use Rattle.cert_form.proofs.Each.{so_far_start, so_far_more, so_far_fault, passed}
use Rattle.cert_form.proofs.Paths.{place_is}
use Rattle.program_checker.specs.Fits.{IsRow}
use Rattle.program_checker.specs.declared.cert.Row.{Row}
use Rattle.program_checker.specs.declared.rows.RowReader.{RowReader}
use Rattle.program_checker.proofs.rows.RowReader.read_rows.Goals as goal

abbrev rows_in : RowReader → Row → Type 0
rows_in r = IsRow (length r.names.now) r.generators

pub loop-i-init : goal.loop-i-init
loop-i-init c = record {
  reads = so_far_start c.new-found.ensures.items c.new-found.ensures.len;
  rows = subst (All (rows_in c.args.self.now)) (sym c.new-found.ensures.items) (All-nil _);
}

pub loop-i-preserved : goal.loop-i-preserved
loop-i-preserved c = record {
  reads = so_far_more c.loop-i.invariant.reads c.loop-i-test.true c.index-list-i.is (place_is _ _)
      c.in_ok-row.ensures.reads c.in_ok-push.ensures.items c.in_ok-push.ensures.len;
  rows = subst (All (rows_in c.args.self.now)) (sym c.in_ok-push.ensures.items)
      (All-push (rows_in c.args.self.now) _ _ c.loop-i.invariant.rows c.in_ok-row.ensures.row);
}

pub returns-in_err-row-clause-reads : goal.returns-in_err-row-clause-reads
returns-in_err-row-clause-reads c = passed _ _ _ _ c.from_residual.ensures.1
    (so_far_fault c.loop-i.invariant.reads c.loop-i-test.true c.index-list-i.is (place_is _ _) _
    c.in_err-row.ensures.reads)
