use Rattle.std.proofs.Common.{◌≡◌, [], ◌∷◌, ◌++◌, length, map, ap, ap₂, sym, subst, ◌∙◌, arith}
use Rattle.std.proofs.lemmas.Result.{IfOk-weaker}
use Rattle.loops.specs.WellFormed.{local_places}
use Rattle.loop_text.specs.Loops.{block}
use Rattle.loop_text.proofs.Answering.{err_from_is_err_and, rest, start, on, stops, continued, statement_of, keep, statements, loop_language, reading, between, behind, in_branches}
use Rattle.loop_text.proofs.branches.read_block.Goals as goal

pub returns-in_err-first-clause-reads : goal.returns-in_err-first-clause-reads
returns-in_err-first-clause-reads c = λ b vs ls.
    let s = between c.args.names.now.all (local_places (length b.names) (length b.locals))
    c.args.begun.now (behind b []) in
    stops (start loop_language block s (rest c.args.cursor)) _
    (err_from_is_err_and c.from_residual.result c.from_residual.ensures.1)
    (c.in_err-first.ensures.goes (λ c. c) keep s)

pub returns-clause-reads : goal.returns-clause-reads
returns-clause-reads c = λ b vs ls.
    let ns = c.args.names.now in
    let us = local_places (length b.names) (length b.locals) in
    let s = between ns.all us c.args.begun.now (behind b []) in
    let places : c.in_ok-places.places.items ≡ us = c.in_ok-places.ensures
    ∙ ap₂ local_places (c.len.ensures.len ∙ sym (ap length vs))
    (c.len-2.ensures.len ∙ sym (ap length ls)) in
    continued loop_language block statements s
    (between ns.all c.in_ok-places.places.items c.args.begun.now (behind b []))
    (λ ss. in_branches b.names b.locals c.read_statements.new.begun b.init
    (b.branches ++ map statement_of ss.items ∷ [])) c.args.cursor c.in_ok-first.first
    c.read_statements.result
    (subst (λ us. reading block s (rest c.args.cursor)
    ≡ reading statements (between ns.all us c.args.begun.now (behind b []))
    (rest c.in_ok-first.first)) (sym places)
    (on (start loop_language block s (rest c.args.cursor))
    (c.in_ok-first.ensures.goes (λ c. c) keep s)).same)
    (c.read_statements.ensures.reads b)

pub returns-clause-falls : goal.returns-clause-falls
returns-clause-falls c =
    let l = c.in_ok-first.ensures.falls in
    IfOk-weaker c.read_statements.result _ _ (λ r k. omega (arith, k, l))
    c.read_statements.ensures.falls
