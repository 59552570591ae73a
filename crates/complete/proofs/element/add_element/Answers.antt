use Rattle.std.proofs.Common.{◌≡◌, ◌≢◌, ◌≤◌, ◌+◌, ◌++◌, ◌∷◌, [], length, map, get_or, refl, sym, ap, subst, ◌∙◌, arith}
use Rattle.std.specs.List.{All}
use Rattle.std.proofs.lemmas.List.{length-map, length_push}
use Rattle.std.proofs.lemmas.List.Elements.{All-push, All-same}
use Rattle.algebra.specs.Scalars.{field}
use Rattle.machines.specs.Cut.{lead_of}
use Rattle.machines.specs.Pairs.{mixes_degrees, with_new}
use Rattle.monos.specs.Variables.{most_variables}
use Rattle.poly.specs.Seen.{terms_in, terms_each}
use Rattle.complete.specs.Pairs.{pair_of, waiting_pairs, HasRoom, IsQueue}
use Rattle.complete.specs.Completing.{current_of, IsSmall}
use Rattle.divide.proofs.Divided.{pushed}
use Rattle.divide.proofs.OneCut.{along, lead_long, leads_long}
use Rattle.complete.proofs.Added.{leads_more, element_is}
use Rattle.complete.proofs.Sugars.{small_room, small_more}
use Rattle.complete.proofs.element.add_element.Goals as goal

pub add_pairs-requires-clause-long : goal.add_pairs-requires-clause-long
add_pairs-requires-clause-long g c =
    let S = g.K.Ring.scalars in
    let s = c.args.state.now in
    let lead = ap length c.in_ok-lead.ensures.lead
    ∙ lead_long _ (terms_in c.args.g) c.requires.nonzero c.args.g.polynomial.arity
    ∙ c.requires.arity in
    let long = leads_long terms_in s.arity s.basis.items c.deref.result.now (c.deref.ensures.value
    ∙ c.requires.fits.leads)
    (λ k d l. let one = c.requires.fits.elements k d l in (
      one.2,
      (along S g.O.Order.order _ _ _ _ _ one.0 one.1
          (get_or s.basis.items k d).polynomial).arity,
    )) in
    λ k d l. long k d l ∙ sym lead

pub add_pairs-requires-clause-count : goal.add_pairs-requires-clause-count
add_pairs-requires-clause-count g c =
    let s = c.args.state.now in
    let size = ap length c.requires.fits.leads ∙ length-map (terms_each s.basis.items) lead_of
    ∙ length-map s.basis.items terms_in in
    ap length c.deref-2.ensures.value ∙ c.requires.fits.sugars
    ∙ sym (ap length c.deref.ensures.value ∙ size)

pub add_pairs-requires-clause-room : goal.add_pairs-requires-clause-room
add_pairs-requires-clause-room g c =
    let s = c.args.state.now in
    let few = c.requires.few in
    let n = length s.basis.items in
    subst (λ ss. All HasRoom (ss ++ c.args.sugar ∷ [])) (sym c.deref-2.ensures.value)
    (All-push HasRoom s.sugars.items c.args.sugar (λ k d l. small_room n (get_or s.sugars.items k d)
    (omega (arith, few)) (c.requires.fits.small k d l)) (small_room (n + 1) c.args.sugar
    (omega (arith, few)) c.requires.sugar))

pub add_pairs-requires-clause-mixed : goal.add_pairs-requires-clause-mixed
add_pairs-requires-clause-mixed g c =
    let lead = ap length c.in_ok-lead.ensures.lead
    ∙ lead_long _ (terms_in c.args.g) c.requires.nonzero c.args.g.polynomial.arity
    ∙ c.requires.arity in
    c.requires.fits.mixed (subst (λ n. n ≤ most_variables) c.requires.arity c.args.g.few)
    ∙ ap (mixes_degrees (g.O.Order.order c.args.state.now.order)) (sym lead)

pub add_pairs-requires-clause-queue : goal.add_pairs-requires-clause-queue
add_pairs-requires-clause-queue g c =
    let s = c.args.state.now in
    let O = g.O.Order.order s.order in
    subst (λ ls. IsQueue O ls c.deref-2.result.now s.queue) (sym c.deref.ensures.value)
    (subst (λ ss. IsQueue O s.leads.items ss s.queue) (sym c.deref-2.ensures.value)
    c.requires.fits.queue)

pub returns-clause-element : goal.returns-clause-element
returns-clause-element g c =
    let s = c.args.state.now in
    let O = g.O.Order.order s.order in
    let w = map pair_of (waiting_pairs s.queue) in
    let ls = c.deref.result.now in
    let d = c.in_ok-lead.lead in
    element_is (field g.K.Ring.scalars) O (terms_each s.basis.items)
    (terms_each c.push-3.new.self.items) s.sugars.items c.push-2.new.self.items w
    (map pair_of (waiting_pairs c.add_pairs.new.queue)) (current_of s.current) (terms_in c.args.g)
    c.args.sugar s.pair_sugar
    ls d (c.deref.ensures.value ∙ c.requires.fits.leads) c.in_ok-lead.ensures.lead
    (pushed terms_in s.basis.items c.push-3.new.self.items c.args.g
    c.in_ok-push-3.ensures.items) c.in_ok-push-2.ensures.items
    (c.in_ok-add_pairs.ensures.pairs
    ∙ ap (λ ss. with_new O (ls ++ d ∷ []) (ss ++ c.args.sugar ∷ []) (length ls) d ls 0 w)
    c.deref-2.ensures.value)

pub returns-clause-fits : goal.returns-clause-fits
returns-clause-fits g c =
    let s = c.args.state.now in
    let O = g.O.Order.order s.order in
    let leads = c.in_ok-push.ensures.items in
    let sugars = c.in_ok-push-2.ensures.items in
    let basis = c.in_ok-push-3.ensures.items in
    let n = length s.basis.items in
    let more : length c.push-3.new.self.items ≡ n + 1 = ap length basis
    ∙ length_push s.basis.items c.args.g in
    let m = length c.push-3.new.self.items in
    let d = c.in_ok-lead.lead in
    record {
      order = refl;
      arity = refl;
      elements = All-same (λ f. (f.order ≡ s.order) × (f.arity ≡ s.arity) × (terms_in f ≢ []))
          c.push-3.new.self.items (s.basis.items ++ c.args.g ∷ []) basis
          (All-push (λ f. (f.order ≡ s.order) × (f.arity ≡ s.arity) × (terms_in f ≢ []))
          s.basis.items c.args.g c.requires.fits.elements (
            c.requires.order,
            c.requires.arity,
            c.requires.nonzero,
          ));
      leads = leads_more (field g.K.Ring.scalars) O (terms_each s.basis.items) _ (terms_in c.args.g)
          s.leads.items c.push.new.self.items d c.requires.fits.leads c.in_ok-lead.ensures.lead
          leads
          (pushed terms_in s.basis.items c.push-3.new.self.items c.args.g basis);
      sugars = ap length sugars ∙ length_push s.sugars.items c.args.sugar
          ∙ ap (λ k. k + 1) c.requires.fits.sugars ∙ sym more;
      small = subst (All (IsSmall m)) (sym sugars)
          (All-push (IsSmall m) s.sugars.items c.args.sugar (λ k x l.
          small_more n m (get_or s.sugars.items k x) more (c.requires.fits.small k x l))
          (subst (λ k. IsSmall k c.args.sugar) (sym more) c.requires.sugar));
      pair_small = small_more (n + 1) (m + 1) s.pair_sugar (ap (λ k. k + 1) more)
          c.requires.fits.pair_small;
      mixed = λ few. c.in_ok-add_pairs.ensures.mixed ∙ c.requires.fits.mixed few;
      queue = subst (λ ls. IsQueue O ls c.push-2.new.self.items c.add_pairs.new.queue)
          (ap (λ ls. ls ++ d ∷ []) c.deref.ensures.value ∙ sym leads)
          (subst (λ ss. IsQueue O (c.deref.result.now ++ d ∷ []) ss c.add_pairs.new.queue)
          (ap (λ ss. ss ++ c.args.sugar ∷ []) c.deref-2.ensures.value ∙ sym sugars)
          c.in_ok-add_pairs.ensures.queue);
      current = tt;
    }
