use Rattle.std.proofs.Common.{length, ap}
use Rattle.std.proofs.lemmas.List.{drop_all}
use Rattle.closed_forms.specs.Recurrences.{base_by, value_by}
use Rattle.closed_forms.proofs.Joining.{own_is_normal, solved_none, solved_next, past_term_at, normal_at}
use Rattle.closed_forms.proofs.Mixing.{tell, arity_all, left_at, terms-append, wide_on}
use Rattle.closed_forms.proofs.recurrence.Recurrence.push_solved.Goals as goal

pub loop-term-init : goal.loop-term-init
loop-term-init c = λ new h. h

pub term_solved-requires-clause-normal : goal.term_solved-requires-clause-normal
term_solved-requires-clause-normal c =
    let r = c.args.self.now in
    normal_at (base_by r) r.vars (value_by r) r.inhomogeneity.now c.loop-term.term-index
    c.loop-term-test.true c.term-item.is (own_is_normal (base_by r) r.vars (arity_all _ _ r.arities)
    r.normal)

pub loop-term-preserved : goal.loop-term-preserved
loop-term-preserved c = λ new h.
    let bs = base_by c.args.self.now in
    c.loop-term.invariant new (solved_next bs c.args.self.now.vars (value_by c.args.self.now) _ _ _
    new (left_at _ _ c.loop-term-test.true c.term-item.is) c.in_ok-solution.ensures.solved
    (terms-append c.loop-term.out.items c.into_terms.result c.in_ok-append.ensures.items
    c.into_terms.ensures) h)

pub returns-clause-terms : goal.returns-clause-terms
returns-clause-terms c =
    let bs = base_by c.args.self.now in
    c.loop-term.invariant (tell c.loop-term.out.items) (solved_none bs c.args.self.now.vars
    (value_by c.args.self.now) _ (tell c.loop-term.out.items)
    (ap length (drop_all _ _ c.loop-term-test.false)))

pub returns-in_err-solution-clause-wide : goal.returns-in_err-solution-clause-wide
returns-in_err-solution-clause-wide c =
    let bs = base_by c.args.self.now in
    wide_on c.from_residual.ensures.1 (λ x. past_term_at bs c.args.self.now.vars
    (value_by c.args.self.now) _ _ c.loop-term-test.true c.term-item.is
    (c.in_err-solution.ensures.wide x))
