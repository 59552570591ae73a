use Rattle.std.proofs.Common.{◌≡◌, ◌≤◌, is_some, length, sym, ap, subst, ◌∙◌, arith}
use Rattle.std.specs.List.{All}
use Rattle.std.proofs.lemmas.List.{drop_all}
use Rattle.complete.proofs.Walking.{next_leads}
use Rattle.reduced_basis.proofs.Divisors.{redundant_here, redundant_next, redundant_end}
use Rattle.reduced_basis.proofs.leads.first_redundant.Goals as goal

pub divisor_but-requires : goal.divisor_but-requires
divisor_but-requires c = subst (λ e. All (λ d. length d ≡ length e) c.args.leads.now)
    (sym c.index-leads-place.is) (c.requires.long c.loop-place.place c.index-leads-place.result
    c.loop-place-test.true)

pub returns-then-is_some : goal.returns-then-is_some
returns-then-is_some c =
    sym (c.loop-place.invariant ∙ redundant_here c.args.leads.now c.loop-place.place
    c.index-leads-place.result _ _ (next_leads c.args.leads.now c.loop-place.place
    c.index-leads-place.result c.loop-place-test.true c.index-leads-place.is)
    (ap is_some (sym c.divisor_but.ensures) ∙ sym c.is_some.ensures ∙ c.if-is_some.true))

pub loop-place-preserved : goal.loop-place-preserved
loop-place-preserved c =
    c.loop-place.invariant ∙ redundant_next c.args.leads.now c.loop-place.place
    c.index-leads-place.result _ _ (next_leads c.args.leads.now c.loop-place.place
    c.index-leads-place.result c.loop-place-test.true c.index-leads-place.is)
    (ap is_some (sym c.divisor_but.ensures) ∙ sym c.is_some.ensures ∙ c.if-is_some.false)

pub returns : goal.returns
returns c =
    let out : length c.args.leads.now ≤ c.loop-place.place = let e = c.loop-place-test.false in
    omega (arith, e) in
    sym (c.loop-place.invariant ∙ redundant_end c.args.leads.now c.loop-place.place _
    (drop_all c.loop-place.place c.args.leads.now out))
