use Rattle.std.proofs.Common.{ap, sym, ◌∙◌, Ok}
use Rattle.poly_text.specs.CursorView.{rest}
use Rattle.poly_text.specs.FlatReads.{at_power}
use Rattle.poly_text.proofs.FlatSteps.{number_barred, exponent_goes, exponent_high, raising_some, raising_none, raising_missing}
use Rattle.poly_text.proofs.item_text.read_raising.Goals as goal

pub returns-in-Some-clause-reads : goal.returns-in-Some-clause-reads
returns-in-Some-clause-reads c = λ fc ns.
    ap (λ f. Ok (at_power fc ns f 0, rest c.args.cursor)) c.in-Some.ensures.raised
    ∙ raising_none c.args.cursor fc ns c.args.exponents.items c.args.place
    (sym c.if-not-is_sign.ensures) (sym c.in-Some.ensures.fits)

pub returns-in-None-clause-reads : goal.returns-in-None-clause-reads
returns-in-None-clause-reads c = λ fc ns. raising_missing c.args.cursor fc ns c.args.exponents.items
    c.args.place (sym c.if-not-is_sign.ensures) (sym c.in-None.ensures.fits)

pub returns-in-Some-with_power-clause-reads : goal.returns-in-Some-with_power-clause-reads
returns-in-Some-with_power-clause-reads c = λ fc ns.
    ap (λ f. Ok (at_power fc ns f 0, rest c.next.result)) c.in-Some-with_power.ensures.raised
    ∙ exponent_goes c.next-next.result c.in-Number.value c.in-Number.is c.next.result
    c.next.ensures.tokens fc ns c.args.exponents.items c.args.place
    (sym c.in-Some-with_power.ensures.fits)
    ∙ raising_some c.args.cursor fc ns c.args.exponents.items c.args.place
    (sym c.if-not-is_sign.ensures) c.next-next.result c.next-next.ensures.tokens

pub returns-in-None-with_power-clause-reads : goal.returns-in-None-with_power-clause-reads
returns-in-None-with_power-clause-reads c = λ fc ns.
    exponent_high c.next-next.result c.in-Number.value c.in-Number.is fc ns c.args.exponents.items
    c.args.place (sym c.in-None-with_power.ensures.fits)
    ∙ raising_some c.args.cursor fc ns c.args.exponents.items c.args.place
    (sym c.if-not-is_sign.ensures) c.next-next.result c.next-next.ensures.tokens

pub returns-in_default-clause-reads : goal.returns-in_default-clause-reads
returns-in_default-clause-reads c = λ fc ns.
    number_barred c.next-next.result _ _ (at_power fc ns c.args.exponents.items c.args.place)
    c.in_default.not-Number
    ∙ raising_some c.args.cursor fc ns c.args.exponents.items c.args.place
    (sym c.if-not-is_sign.ensures) c.next-next.result c.next-next.ensures.tokens
