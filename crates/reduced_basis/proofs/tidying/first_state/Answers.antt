use Rattle.std.proofs.Common.{length, map, ap, refl, ◌∙◌, arith}
use Rattle.std.proofs.lemmas.List.{length-map}
use Rattle.algebra.specs.Scalars.{field}
use Rattle.machines.specs.Cut.{lead_of, monic}
use Rattle.poly.specs.Seen.{terms_in, terms_each}
use Rattle.reduced_basis.proofs.Ordered.{length-sorted}
use Rattle.reduced_basis.proofs.tidying.first_state.Goals as goal

pub returns-clause-fits : goal.returns-clause-fits
returns-clause-fits g c =
    let gs = terms_each c.args.list.now in
    let given = length-map c.args.list.now terms_in in
    let made = ap length c.in_ok-monic.ensures.monic in
    let kept = length-map gs (monic (field g.K.Ring.scalars)) in
    let sorted = ap length c.in_ok-list.ensures.sorted in
    let same = length-sorted (g.O.Order.order c.args.order)
    (terms_each c.in_ok-monic.monic.items) in
    let last = length-map c.in_ok-list.list.items terms_in in
    let few = c.requires.few in
    record {
      order = refl;
      arity = refl;
      few = omega (arith, given, made, kept, sorted, same, last, few);
      elements = c.in_ok-list.ensures.divisors;
      leads = c.in_ok-leads.ensures.leads
          ∙ ap (λ l. map lead_of (terms_each l)) c.deref.ensures.value;
      apart_in = omega arith;
      apart = refl;
      clean_in = omega arith;
      clean = refl;
    }
