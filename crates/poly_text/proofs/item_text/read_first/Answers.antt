use Rattle.std.proofs.Common.{sym, subst, ap, ◌∙◌, Ok}
use Rattle.std.proofs.lemmas.Result.{err_from_is_err_and}
use Rattle.poly_text.specs.CursorView.{rest}
use Rattle.poly_text.proofs.Paths.{IsFault, start, over, stops_last}
use Rattle.poly_text.specs.Flat.{at_item, division, power, first_part, flat_language}
use Rattle.poly_text.specs.FlatReads.{state_of, at_power, behind_item}
use Rattle.poly_text.proofs.FlatSteps.{read, first_number, first_power}
use Rattle.poly_text.proofs.item_text.read_first.Goals as goal

pub returns-in_err-denominator-in-Number-clause-reads :
    goal.returns-in_err-denominator-in-Number-clause-reads
returns-in_err-denominator-in-Number-clause-reads c = λ found negative.
    let b = at_item c.args.names.now found negative in
    let n = record b { numerator = c.in-Number.numerator } in
    stops_last (over (start flat_language first_part (state_of b) (rest c.args.cursor)) division
    (state_of n) (rest c.next.result) (first_number c.args.cursor c.in-Number.numerator
    c.in-Number.is c.next.result c.next.ensures.tokens b))
    (behind_item c.args.names.now found negative) (err_from_is_err_and c.from_residual.result
    c.from_residual.ensures.1) (c.in_err-denominator-in-Number.ensures.reads n)

pub returns-in_ok-denominator-in-Number-clause-reads :
    goal.returns-in_ok-denominator-in-Number-clause-reads
returns-in_ok-denominator-in-Number-clause-reads c = λ found negative.
    let b = at_item c.args.names.now found negative in
    let n = record b { numerator = c.in-Number.numerator } in
    let d = c.in_ok-denominator-in-Number.denominator in
    let end = rest c.in_ok-denominator-in-Number.end in
    ap (λ e. Ok (state_of (record n { denominator = d; exponents = e }), end)) c.requires
    ∙ c.in_ok-denominator-in-Number.ensures.reads n
    ∙ sym (first_number c.args.cursor c.in-Number.numerator c.in-Number.is c.next.result
    c.next.ensures.tokens b)

pub returns-in_err-exponents-in_default-clause-reads :
    goal.returns-in_err-exponents-in_default-clause-reads
returns-in_err-exponents-in_default-clause-reads c = λ found negative.
    let ns = c.args.names.now in
    let b = at_item ns found negative in
    let e = c.in_err-exponents-in_default.field-0.0 in
    stops_last (over (start flat_language first_part (state_of b) (rest c.args.cursor)) power
    (state_of b) (rest c.args.cursor) (first_power c.args.cursor b c.in_default.not-Number))
    (behind_item ns found negative)
    (err_from_is_err_and c.from_residual-in_err-exponents-in_default.result
    c.from_residual-in_err-exponents-in_default.ensures.1)
    (subst (λ none. IsFault e (read power (at_power b ns none 0) (rest c.args.cursor))) c.requires
    (c.in_err-exponents-in_default.ensures.reads b))

pub returns-in_ok-exponents-in_default-clause-reads :
    goal.returns-in_ok-exponents-in_default-clause-reads
returns-in_ok-exponents-in_default-clause-reads c = λ found negative.
    let ns = c.args.names.now in
    let b = at_item ns found negative in
    c.in_ok-exponents-in_default.ensures.reads b
    ∙ ap (λ none. read power (at_power b ns none 0) (rest c.args.cursor)) c.requires
    ∙ sym (first_power c.args.cursor b c.in_default.not-Number)
