use Rattle.std.proofs.Common.{length, subst}
use Rattle.std.specs.List.{All}
use Rattle.std.proofs.lemmas.Result.{on_ok_weaker}
use Rattle.std.proofs.lemmas.List.Elements.{All-head, All-rest}
use Rattle.poly_text.proofs.PrintedTerms.{IsWithin, printed_first, narrow_first}
use Rattle.poly_text.proofs.printing.push_terms.Goals as goal

pub returns-clause-text : goal.returns-clause-text
returns-clause-text c = on_ok_weaker c.push_later.result (printed_first c.in-Some.first.now
    c.in-Some.rest.now c.args.terms.now c.in-Some.ensures.cases.0 c.args.names.now _ _ _
    c.in_ok-push_signed.ensures.text) c.push_later.ensures.text

pub returns-clause-narrow : goal.returns-clause-narrow
returns-clause-narrow c = on_ok_weaker c.push_later.result (narrow_first c.in-Some.first.now
    c.in-Some.rest.now c.args.terms.now c.in-Some.ensures.cases.0
    c.in_ok-push_signed.ensures.narrow) c.push_later.ensures.narrow

pub push_signed-requires : goal.push_signed-requires
push_signed-requires c = let W = IsWithin (length c.args.names.now) in
    All-head W c.in-Some.first.now c.in-Some.rest.now (subst (All W) c.in-Some.ensures.cases.0
    c.requires)

pub push_later-requires : goal.push_later-requires
push_later-requires c = All-rest (IsWithin (length c.args.names.now)) c.in-Some.first.now
    c.in-Some.rest.now c.args.terms.now c.in-Some.ensures.cases.0 c.requires
