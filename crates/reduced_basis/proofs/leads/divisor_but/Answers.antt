use Rattle.std.proofs.Common.{◌≤◌, length, sym, ◌∙◌, arith}
use Rattle.machines.specs.Tidying.{others}
use Rattle.std.proofs.lemmas.List.{drop_all}
use Rattle.complete.proofs.Walking.{next_leads}
use Rattle.reduced_basis.proofs.Divisors.{first_here, first_next, first_end}
use Rattle.reduced_basis.proofs.leads.divisor_but.Goals as goal

pub returns-then-is_divisor_but : goal.returns-then-is_divisor_but
returns-then-is_divisor_but c =
    sym (c.loop-place.invariant ∙ first_here (others c.args.at) c.loop-place.place c.args.mono.now
    c.index-leads-place.result _ _ (next_leads c.args.leads.now c.loop-place.place
    c.index-leads-place.result c.loop-place-test.true c.index-leads-place.is)
    (sym c.is_divisor_but.ensures ∙ c.if-is_divisor_but.true))

pub loop-place-preserved : goal.loop-place-preserved
loop-place-preserved c =
    c.loop-place.invariant ∙ first_next (others c.args.at) c.loop-place.place c.args.mono.now
    c.index-leads-place.result _ _ (next_leads c.args.leads.now c.loop-place.place
    c.index-leads-place.result c.loop-place-test.true c.index-leads-place.is)
    (sym c.is_divisor_but.ensures ∙ c.if-is_divisor_but.false)

pub returns : goal.returns
returns c =
    let out : length c.args.leads.now ≤ c.loop-place.place = let e = c.loop-place-test.false in
    omega (arith, e) in
    sym (c.loop-place.invariant ∙ first_end (others c.args.at) c.loop-place.place c.args.mono.now _
    (drop_all c.loop-place.place c.args.leads.now out))
