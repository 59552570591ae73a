use Rattle.std.proofs.Common.{◌≡◌, ◌≤◌, ◌+◌, [], ◌∷◌, length, drop, None, refl, sym, ap, subst, ◌∙◌, arith}
use Rattle.std.proofs.lemmas.List.{length-map}
use Rattle.std.proofs.lemmas.Result.{err_from_is_err_and}
use Rattle.algebra.specs.Scalars.{field}
use Rattle.poly.specs.Seen.{terms_in, terms_each}
use Rattle.machines.specs.Completion.{with_elements}
use Rattle.complete.specs.declared.element.Completing.{Completing}
use Rattle.complete.specs.Completing.{state_of}
use Rattle.complete.proofs.Coming.{generators_next, generators_none, generator_count, start_past}
use Rattle.complete.proofs.First.{first_is, first_told, first_fits}
use Rattle.complete.proofs.Like.{fits_along}
use Rattle.complete.proofs.Walking.{seen_drop, seen_end}
use Rattle.complete.proofs.completing.first_state.Goals as goal

pub returns-in_err-add_generator-clause-wide : goal.returns-in_err-add_generator-clause-wide
returns-in_err-add_generator-clause-wide g c =
    let p = err_from_is_err_and c.from_residual-in_err-add_generator.result
    c.from_residual-in_err-add_generator.ensures.1 in
    λ w. start_past g.K.Ring.scalars terms_in c.args.gens.now c.loop-g.g-index c.g-item.result
    c.loop-g-test.true c.g-item.is (c.in_err-add_generator.ensures.wide (cc (p.1, p.2, w)))

pub loop-g-init : goal.loop-g-init
loop-g-init g c =
    let basis = c.new-3.ensures.items in
    let leads = c.new-4.ensures.items in
    let sugars = c.new-5.ensures.items in
    let pairs = c.new.ensures.items in
    let rows = c.new-2.ensures in
    let s : Completing _ _ g.K.Ring g.K.PartialEq g.O.Order g.O.PartialEq = record {
      order = c.args.order;
      arity = c.args.arity;
      basis = c.new-3.result;
      leads = c.new-4.result;
      sugars = c.new-5.result;
      queue = record {
        mixed = c.in_ok-mixes_degrees.field-0;
        pairs = c.new.result;
        taken = 0;
        table = c.new-2.result;
      };
      current = None;
      pair_sugar = 0;
    } in (
      first_fits s basis leads sugars pairs rows refl refl c.args.order c.args.arity refl refl refl
          c.in_ok-mixes_degrees.ensures.ok,
      first_told s basis leads sugars pairs rows refl refl,
      (let none = ap length basis in omega (arith, none)),
      ap (λ s. with_elements (field g.K.Ring.scalars) (g.O.Order.order c.args.order) s
          (terms_each c.args.gens.now))
          (sym (first_is s basis leads sugars pairs rows refl refl)),
    )

pub loop-g-preserved : goal.loop-g-preserved
loop-g-preserved g c =
    let F = field g.K.Ring.scalars in
    let O = g.O.Order.order c.args.order in
    let i = c.loop-g.invariant in
    let ok = subst (λ o. state_of c.add_generator.new.state ≡ with_elements F (g.O.Order.order o)
    (state_of c.loop-g.state) (terms_in c.g-item.result ∷ [])) i.0.order
    c.in_ok-add_generator.ensures.ok in
    let count = generator_count F O (terms_in c.g-item.result) (state_of c.loop-g.state)
    (state_of c.add_generator.new.state) ok in
    let old = length-map c.loop-g.state.basis.items terms_in in
    let new = length-map c.add_generator.new.state.basis.items terms_in in
    let below = i.2 in (
      fits_along _ _ _ _ _ i.0.order i.0.arity c.in_ok-add_generator.ensures.fits,
      c.in_ok-add_generator.ensures.told,
      omega (arith, count, old, new, below),
      i.3 ∙ generators_next F O _ (terms_in c.g-item.result) _ (state_of c.loop-g.state)
          (seen_drop terms_in c.args.gens.now c.loop-g.g-index c.g-item.result c.loop-g-test.true
          c.g-item.is)
          ∙ ap (λ s. with_elements F O s (terms_each (drop (c.loop-g.g-index + 1) c.args.gens.now)))
          (sym ok),
    )

pub returns-clause-ok : goal.returns-clause-ok
returns-clause-ok g c =
    let out : length c.args.gens.now ≤ c.loop-g.g-index = let e = c.loop-g-test.false in
    omega (arith, e) in
    sym (c.loop-g.invariant.3 ∙ generators_none (field g.K.Ring.scalars)
    (g.O.Order.order c.args.order) _ (state_of c.loop-g.state)
    (seen_end terms_in c.args.gens.now c.loop-g.g-index out))
