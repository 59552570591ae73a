use Rattle.std.proofs.Common.{ℕ}
use Rattle.loop_model.specs.FracPoly.{FracPoly}
use Rattle.cert_form.proofs.Paths.{place_is}
use Rattle.program_checker.specs.declared.cert.Row.{Row}
use Rattle.program_checker.proofs.RowReads.{pairs_more, row_fits, row_is}
use Rattle.program_checker.proofs.rows.RowReader.read_pairs.Goals as goal

pub loop-i-preserved : goal.loop-i-preserved
loop-i-preserved c =
    let pair : ℕ × FracPoly = (c.in_ok-position.position, c.in_ok-position.cofactor) in
    let next : Row = record {
      positions = c.push.new.self;
      cofactors = c.push-in-loop-i.new.self;
    } in
    pairs_more c.args.self.now.names.now c.args.self.now.generators _ c.args.list.now c.loop-i.i
    c.loop-i.least _ c.index-list-i.result c.loop-i.row c.loop-i-test.true c.index-list-i.is
    (place_is _ _) c.loop-i.invariant pair next c.in_ok-position.ensures.reads
    c.in_ok-position.ensures.within c.in_ok-push.ensures.items c.in_ok-push-2.ensures.items

pub returns-clause-row : goal.returns-clause-row
returns-clause-row c = row_fits _ _ _ _ c.loop-i.invariant

pub returns-clause-reads : goal.returns-clause-reads
returns-clause-reads c = row_is _ _ _ _ c.loop-i.invariant c.loop-i-test.false
