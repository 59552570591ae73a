use Rattle.std.proofs.Common.{sym}
use Rattle.grammars.specs.Grammar.{rule}
use Rattle.poly_text.specs.CursorView.{rest}
use Rattle.poly_text.proofs.Paths.{continued, then_on}
use Rattle.poly_text.proofs.CursorReads.{no_first}
use Rattle.poly_text.specs.Flat.{an_exponent, name_token, power, flat_language}
use Rattle.poly_text.specs.FlatReads.{at_power}
use Rattle.poly_text.proofs.FlatSteps.{name_goes, name_unknown, name_barred}
use Rattle.poly_text.proofs.item_text.read_power.Goals as goal

pub returns-in-Some-clause-reads : goal.returns-in-Some-clause-reads
returns-in-Some-clause-reads c = λ fc.
    let k = c.args.cursor in
    let ns = c.args.names.now in
    let e = c.args.exponents.items in
    let i = c.in-Some.place in
    continued flat_language power (rule an_exponent) (at_power fc ns e 0) (at_power fc ns e i)
    (λ f. at_power fc ns f.items 0) k c.next.result c.read_raising.result
    (then_on flat_language name_token (rule an_exponent) (at_power fc ns e 0) (rest k)
    (at_power fc ns e i) (rest c.next.result) (name_goes k fc ns e c.in-Name.word c.in-Name.is
    i (sym c.in-Some.ensures.place) c.next.result c.next.ensures.tokens))
    (c.read_raising.ensures.reads fc ns)

pub returns-in-None-clause-reads : goal.returns-in-None-clause-reads
returns-in-None-clause-reads c = λ fc.
    no_first flat_language name_token (rule an_exponent) (at_power fc c.args.names.now
    c.args.exponents.items 0) (rest c.args.cursor) _
    (name_unknown c.args.cursor fc c.args.names.now c.args.exponents.items c.in-Name.word
    c.in-Name.is (sym c.in-None.ensures.place))

pub returns-in_default-clause-reads : goal.returns-in_default-clause-reads
returns-in_default-clause-reads c = λ fc.
    let s = at_power fc c.args.names.now c.args.exponents.items 0 in
    no_first flat_language name_token (rule an_exponent) s (rest c.args.cursor) _
    (name_barred c.args.cursor s c.in_default.not-Name)
