use Rattle.std.proofs.lemmas.Result.{err_from_is_err_and}
use Rattle.poly_text.specs.CursorView.{rest}
use Rattle.poly_text.proofs.Paths.{start, on, ends, stops, stops_last}
use Rattle.poly_text.specs.Flat.{at_item, item, flat_language}
use Rattle.poly_text.specs.FlatReads.{state_of, behind_item}
use Rattle.poly_text.proofs.item_text.read_item.Goals as goal

pub returns-in_err-first-clause-reads : goal.returns-in_err-first-clause-reads
returns-in_err-first-clause-reads c = λ found negative.
    stops (start flat_language item (state_of (at_item c.args.names.now found negative))
    (rest c.args.cursor)) (behind_item c.args.names.now found negative)
    (err_from_is_err_and c.from_residual-in_err-first.result c.from_residual-in_err-first.ensures.1)
    (c.in_err-first.ensures.reads found negative)

pub returns-in_err-exponents-clause-reads : goal.returns-in_err-exponents-clause-reads
returns-in_err-exponents-clause-reads c = λ found negative.
    let ns = c.args.names.now in
    stops_last (on (start flat_language item (state_of (at_item ns found negative))
    (rest c.args.cursor)) (c.in_ok-first.ensures.reads found negative))
    (behind_item ns found negative)
    (err_from_is_err_and c.from_residual-in_err-exponents.result
    c.from_residual-in_err-exponents.ensures.1) (c.in_err-exponents.ensures.reads
    (behind_item ns found negative c.in_ok-first.first).context)

pub returns-clause-reads : goal.returns-clause-reads
returns-clause-reads c = λ found negative.
    let ns = c.args.names.now in
    ends (on (start flat_language item (state_of (at_item ns found negative)) (rest c.args.cursor))
    (c.in_ok-first.ensures.reads found negative)) (c.in_ok-exponents.ensures.reads
    (behind_item ns found negative c.in_ok-first.first).context)
