use Rattle.std.proofs.Common.{◌≤◌, ◌+◌, ◌++◌, ◌∷◌, [], take, drop, length, sym, ap, ◌∙◌, append_assoc, arith}
use Rattle.machines.specs.Tidying.{put_by_lead}
use Rattle.poly.specs.Seen.{terms_in, terms_each}
use Rattle.complete.proofs.Walking.{seen_drop, seen_end}
use Rattle.algebra.proofs.Lists.{take_next}
use Rattle.reduced_basis.proofs.Ordered.{put_here, put_next, put_none, put_at, put_last}
use Rattle.reduced_basis.proofs.sorting.place_of.Goals as goal

pub returns-in-Less-clause-place : goal.returns-in-Less-clause-place
returns-in-Less-clause-place g c =
    let O = g.O.Order.order c.args.order in
    let at = seen_drop terms_in c.args.list.now c.loop-place.place c.index-list-place.result
    c.loop-place-test.true c.index-list-place.is in
    c.loop-place.invariant ∙ ap (λ zs. terms_each (take c.loop-place.place c.args.list.now) ++ zs)
    (put_here O (terms_in c.args.f.now) _ _ _ at c.compare_leads.result c.compare_leads.ensures
    c.in-Less.is) ∙ sym (put_at terms_in c.args.list.now c.loop-place.place c.args.f.now)

pub loop-place-preserved : goal.loop-place-preserved
loop-place-preserved g c =
    let O = g.O.Order.order c.args.order in
    let at = seen_drop terms_in c.args.list.now c.loop-place.place c.index-list-place.result
    c.loop-place-test.true c.index-list-place.is in
    c.loop-place.invariant ∙ ap (λ zs. terms_each (take c.loop-place.place c.args.list.now) ++ zs)
    (put_next O (terms_in c.args.f.now) _ _ _ at c.compare_leads.result c.compare_leads.ensures
    c.in_default.not-Less)
    ∙ sym (append_assoc (terms_each (take c.loop-place.place c.args.list.now))
    (terms_in c.index-list-place.result ∷ []) (put_by_lead O (terms_in c.args.f.now)
    (terms_each (drop (c.loop-place.place + 1) c.args.list.now))))
    ∙ ap (λ zs. zs ++ put_by_lead O (terms_in c.args.f.now)
    (terms_each (drop (c.loop-place.place + 1) c.args.list.now)))
    (sym (take_next terms_in c.args.list.now c.loop-place.place c.index-list-place.result
    c.loop-place-test.true c.index-list-place.is))

pub returns-clause-place : goal.returns-clause-place
returns-clause-place g c =
    let O = g.O.Order.order c.args.order in
    let out : length c.args.list.now ≤ c.loop-place.place = let e = c.loop-place-test.false in
    omega (arith, e) in
    c.loop-place.invariant ∙ ap (λ zs. terms_each (take c.loop-place.place c.args.list.now) ++ zs)
    (put_none O (terms_in c.args.f.now) _ (seen_end terms_in c.args.list.now c.loop-place.place
    out)) ∙ put_last terms_in c.args.list.now c.loop-place.place c.args.f.now out
