use Rattle.std.proofs.Common.{◌≡◌, ◌≢◌, ◌<◌, [], None, Some, drop, length, get_or, refl, sym, ap, subst, ◌∙◌, arith}
use Rattle.std.proofs.lemmas.List.{length-map, drop_all}
use Rattle.std.proofs.lemmas.List.Edits.{length-remove}
use Rattle.algebra.specs.Scalars.{field}
use Rattle.machines.specs.Cut.{lead_of}
use Rattle.machines.specs.Event.{Drop}
use Rattle.machines.specs.Tidying.{next}
use Rattle.machines.proofs.Working.{step_of}
use Rattle.poly.specs.Seen.{terms_in, terms_each}
use Rattle.divide.proofs.OneCut.{along, leads_long}
use Rattle.reduced_basis.specs.Leads.{redundant_from}
use Rattle.reduced_basis.specs.Tidying.{elements_of}
use Rattle.reduced_basis.proofs.Divisors.{redundant_end, redundant_in}
use Rattle.reduced_basis.proofs.Removed.{dropped_is, dropped_leads, all_removed, apart_removed}
use Rattle.reduced_basis.proofs.Turning.{kept_long, drop_place_is, drop_comes}
use Rattle.reduced_basis.proofs.tidying.step.Goals as goal

pub first_redundant-requires-clause-long : goal.first_redundant-requires-clause-long
first_redundant-requires-clause-long g c =
    let S = g.K.Ring.scalars in
    let s = c.args.state.now in
    kept_long s.arity c.deref.result.now (leads_long terms_in s.arity s.list.items
    c.deref.result.now (c.deref.ensures.value ∙ c.requires.fits.leads)
    (λ k d l. let one = c.requires.fits.elements k d l in (
      one.2,
      (along S g.O.Order.order _ _ _ _ _ one.0 one.1
          (get_or s.list.items k d).polynomial).arity,
    )))

pub cancel_tail-requires-clause-fits : goal.cancel_tail-requires-clause-fits
cancel_tail-requires-clause-fits g c =
    let s = c.args.state.now in
    let f = c.requires.fits in
    let none = subst (λ l. redundant_from l s.apart (drop s.apart l) ≡ None) c.deref.ensures.value
    (sym c.first_redundant.ensures ∙ c.in_default.is) in
    let size = c.len-state.ensures in
    let same = s.leads.ok in
    record {
      order = refl;
      arity = refl;
      few = f.few;
      elements = f.elements;
      leads = f.leads;
      apart_in = omega (arith, size, same);
      apart = f.apart ∙ none
          ∙ sym (redundant_end s.leads.items c.len-state.result _
          (drop_all c.len-state.result s.leads.items (omega (arith, size, same))));
      clean_in = f.clean_in;
      clean = f.clean;
    }

pub unreachable-requires : goal.unreachable-requires
unreachable-requires g c =
    let s = c.args.state.now in
    let f = c.requires.fits in
    let at = f.apart ∙ subst (λ l. redundant_from l s.apart (drop s.apart l) ≡ Some c.in-Some.place)
    c.deref.ensures.value (sym c.first_redundant.ensures ∙ c.in-Some.is) in
    let below = redundant_in s.leads.items 0 s.leads.items c.in-Some.place at in
    let size = ap length f.leads ∙ length-map (elements_of s) lead_of
    ∙ length-map s.list.items terms_in in
    let few = f.few in
    c.in_default-try_from.ensures (omega (arith, below, size, few))

pub remove-requires : goal.remove-requires
remove-requires g c =
    let s = c.args.state.now in
    let f = c.requires.fits in
    let at = f.apart ∙ subst (λ l. redundant_from l s.apart (drop s.apart l) ≡ Some c.in-Some.place)
    c.deref.ensures.value (sym c.first_redundant.ensures ∙ c.in-Some.is) in
    let below = redundant_in s.leads.items 0 s.leads.items c.in-Some.place at in
    let size = ap length f.leads ∙ length-map (elements_of s) lead_of
    ∙ length-map s.list.items terms_in in
    let same = s.list.ok in
    omega (arith, below, size, same)

pub remove-requires-2 : goal.remove-requires-2
remove-requires-2 g c =
    let s = c.args.state.now in
    let f = c.requires.fits in
    let at = f.apart ∙ subst (λ l. redundant_from l s.apart (drop s.apart l) ≡ Some c.in-Some.place)
    c.deref.ensures.value (sym c.first_redundant.ensures ∙ c.in-Some.is) in
    let below = redundant_in s.leads.items 0 s.leads.items c.in-Some.place at in
    let same = s.leads.ok in
    omega (arith, below, same)

pub returns-clause-ok : goal.returns-clause-ok
returns-clause-ok g c =
    let S = g.K.Ring.scalars in
    let s = c.args.state.now in
    let f = c.requires.fits in
    let O = g.O.Order.order s.order in
    let found = subst (λ l. redundant_from l s.apart (drop s.apart l) ≡ Some c.in-Some.place)
    c.deref.ensures.value (sym c.first_redundant.ensures ∙ c.in-Some.is) in
    let place = drop_place_is S O (elements_of s) s.leads.items s.apart _ f.leads f.apart found in
    step_of (next (field S) O) (elements_of s) _ c.args.meter.now c.note.new.self _
    (drop_comes S O (elements_of s) c.in-Some.place place
    ∙ ap (λ hs. Some (Drop c.in-Some.place, hs))
    (sym (dropped_is terms_in s.list.items c.remove.new.self.items c.in-Some.place
    c.remove.ensures.items)) ∙ ap (λ n. Some (Drop n, terms_each c.remove.new.self.items))
    (sym c.in-Ok.ensures.1))
    c.in_ok-note.ensures.ok c.in_ok-note.ensures.within

pub returns-clause-fits : goal.returns-clause-fits
returns-clause-fits g c =
    let s = c.args.state.now in
    let f = c.requires.fits in
    let found = subst (λ l. redundant_from l s.apart (drop s.apart l) ≡ Some c.in-Some.place)
    c.deref.ensures.value (sym c.first_redundant.ensures ∙ c.in-Some.is) in
    let at = f.apart ∙ found in
    let below : c.in-Some.place < length s.leads.items = let l =
    redundant_in s.leads.items 0 s.leads.items c.in-Some.place at in omega (arith, l) in
    let size = ap length f.leads ∙ length-map (elements_of s) lead_of
    ∙ length-map s.list.items terms_in in
    let few = f.few in
    let less = c.remove.ensures.len in
    record {
      order = refl;
      arity = refl;
      few = let l = length-remove s.list.items c.in-Some.place (omega (arith, below, size)) in
          let e = ap length c.remove.ensures.items in omega (arith, l, e, few);
      elements = all_removed (λ q. (q.order ≡ s.order) × (q.arity ≡ s.arity) × (terms_in q ≢ []))
          s.list.items c.remove.new.self.items c.in-Some.place c.remove.ensures.items f.elements;
      leads = dropped_leads terms_in s.list.items c.remove.new.self.items s.leads.items
          c.remove-2.new.self.items c.in-Some.place f.leads c.remove-2.ensures.items
          c.remove.ensures.items;
      apart_in = let l = length-remove s.leads.items c.in-Some.place below in let e =
          ap length c.remove-2.ensures.items in omega (arith, l, e, below);
      apart = apart_removed s.leads.items c.remove-2.new.self.items c.in-Some.place at below
          c.remove-2.ensures.items;
      clean_in = omega arith;
      clean = refl;
    }
