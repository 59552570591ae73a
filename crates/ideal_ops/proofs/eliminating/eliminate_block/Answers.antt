use Rattle.std.proofs.Common.{◌≡◌, ◌+◌, map, length, refl, sym, ap, subst, ◌∙◌, arith}
use Rattle.std.proofs.lemmas.List.{length-map}
use Rattle.std.specs.Prelude.{⊤}
use Rattle.algebra.specs.FieldArithmetic.{field_of}
use Rattle.algebra.specs.Ring.{Field}
use Rattle.algebra.specs.Scalars.{field}
use Rattle.algebra.proofs.ScalarFields.{is_field}
use Rattle.polynomials.specs.Order.{grevlex, blocks}
use Rattle.polynomials.specs.Polynomial.{IsPolynomial}
use Rattle.polynomials.proofs.Orders.{grevlex_order}
use Rattle.machines.specs.Basis.{AtPlaces, IsBasisOf}
use Rattle.machines.specs.Cut.{lead_number, monic}
use Rattle.machines.specs.Elimination.{free_part, completing}
use Rattle.machines.proofs.Ends.{each_at, monic_list}
use Rattle.machines.proofs.Front.{kept_few}
use Rattle.machines.proofs.Going.{Going}
use Rattle.machines.proofs.Joined.{first_work, first_refused, ran_later}
use Rattle.poly.specs.Seen.{terms_in, terms_each}
use Rattle.divide.proofs.Refused.{passed_on, out_of_room}
use Rattle.ideal_ops.specs.Calls.{Way, elimination_way, elimination_of, IsListOf}
use Rattle.ideal_ops.specs.Eliminating.{HaveBlockAndLead}
use Rattle.ideal_ops.proofs.Ending.{kept_itself, eliminated_of}
use Rattle.ideal_ops.proofs.Lists.{block_like, block_each, divisors_block, divisors_over, both_ok}
use Rattle.ideal_ops.proofs.Outcomes.{ended_of}
use Rattle.ideal_ops.proofs.eliminating.eliminate_block.Given.{Over}
use Rattle.ideal_ops.proofs.eliminating.eliminate_block.Goals as goal
use Rattle.ideal_ops.proofs.eliminating.eliminate_block.Goals.{Start, In_ok-list, After-deref-2}

pub complete_in-requires-clause-like : goal.complete_in-requires-clause-like
complete_in-requires-clause-like g c = block_like c.args.first (c.args.first + c.args.rest)
    c.args.gens.now c.requires.block

-- what is completed and kept, and its list
abbrev way : (g : Over) (c : Start g) → Way g.K.Ring.scalars
way g c = elimination_way c.args.first c.args.gens.now

pub returns-in_err-basis-clause-ran : goal.returns-in_err-basis-clause-ran
returns-in_err-basis-clause-ran g c =
    let w = way g (goal.at.returns-in_err-basis-clause-ran g c).Start in
    passed_on c.from_residual.result _ c.from_residual.ensures.1 (first_refused g.K.Ring.scalars
    w.order grevlex w.part w.gens {B = ⊤} (λ b s. ⊤) c.args.meter.now c.complete_in.new.meter
    _ c.in_err-basis.ensures.ran)

pub without_first-requires : goal.without_first-requires
without_first-requires g c = record {
  block = subst (HaveBlockAndLead c.args.first (c.args.first + c.args.rest))
      (sym c.deref.ensures.value) (divisors_block c.args.first (c.args.first + c.args.rest)
      c.in_ok-basis.basis.items c.in_ok-basis.ensures.ran.to.gives.elements);
}

pub returns-in_err-list-clause-ran : goal.returns-in_err-list-clause-ran
returns-in_err-list-clause-ran g c =
    let w = way g (goal.at.returns-in_err-list-clause-ran g c).Start in
    let first = c.in_ok-basis.ensures.ran in
    let going : Going (elimination_of w) c.args.meter.now c.complete_in.new.meter
    (completing first.to.last) = record {
      limit = first.limit;
      work = first_work (field g.K.Ring.scalars) w.order grevlex w.part w.gens
          c.args.meter.now.entries c.complete_in.new.meter.entries first.to.last
          first.to.finished.work;
    } in
    out_of_room going c.from_residual-in_err-list.result c.from_residual-in_err-list.ensures.1

-- ---- where the completion has ended, and a list is kept
polynomials : (g : Over) (c : In_ok-list g)
    → AtPlaces (IsPolynomial g.K.Ring.scalars.arithmetic (blocks c.args.first grevlex grevlex)
    (c.args.first + c.args.rest)) (terms_each c.args.gens.now)
polynomials g c =
    each_at (IsPolynomial g.K.Ring.scalars.arithmetic (blocks c.args.first grevlex grevlex)
    (c.args.first + c.args.rest)) (terms_each c.args.gens.now)
    (block_each (λ o. refl) c.args.first (c.args.first + c.args.rest) c.args.gens.now
    c.requires.block)

abbrev numbers : (g : Over) → Field g.K.Ring.scalars.Elem
numbers g = field_of (field g.K.Ring.scalars) (is_field g.K.Ring.scalars g.met.K.Ring.ring
    g.met.K.Field.field g.met.K.Ring.zero_is)

list_is : (g : Over) (c : In_ok-list g) → terms_each c.in_ok-list.list.items
    ≡ free_part c.args.first
    (terms_each c.in_ok-basis.basis.items)
list_is g c = c.in_ok-list.ensures.kept ∙ ap (λ gs. free_part c.args.first (terms_each gs))
    c.deref.ensures.value

kept_is : (g : Over) (c : In_ok-list g) → IsBasisOf (field g.K.Ring.scalars) grevlex c.args.rest
    (free_part c.args.first (terms_each c.in_ok-basis.basis.items))
    (free_part c.args.first (terms_each c.in_ok-basis.basis.items))
kept_is g c = kept_itself (numbers g) c.args.first c.args.rest grevlex grevlex grevlex_order
    grevlex_order (terms_each c.in_ok-basis.basis.items) (terms_each c.args.gens.now)
    (polynomials g c) c.in_ok-basis.ensures.basis

-- the tidying begins at what is kept, since that is monic
ones : (g : Over) (c : After-deref-2 g) → AtPlaces (λ f. lead_number (field g.K.Ring.scalars) f
    ≡ g.K.Ring.scalars.one) (terms_each c.deref-2.result.now)
ones g c =
    let at = (goal.at.After-deref-2 g c).In_ok-list in
    subst (AtPlaces (λ f. lead_number (field g.K.Ring.scalars) f ≡ g.K.Ring.scalars.one))
    (sym (ap terms_each c.deref-2.ensures.value ∙ list_is g at)) (kept_is g at).monic

begins : (g : Over) (c : After-deref-2 g)
    → map (monic (field g.K.Ring.scalars)) (terms_each c.deref-2.result.now)
    ≡ free_part c.args.first
    (terms_each c.in_ok-basis.basis.items)
begins g c =
    monic_list (numbers g) grevlex grevlex_order c.args.rest (terms_each c.deref-2.result.now)
    (ones g c) ∙ ap terms_each c.deref-2.ensures.value
    ∙ list_is g (goal.at.After-deref-2 g c).In_ok-list

pub tidy_in-requires-clause-few : goal.tidy_in-requires-clause-few
tidy_in-requires-clause-few g c =
    let fewer = kept_few c.args.first (terms_each c.in_ok-basis.basis.items) in
    let last = length-map c.in_ok-basis.basis.items terms_in in
    let size = ap length c.deref-2.ensures.value in
    let seen = length-map c.in_ok-list.list.items terms_in in
    let is = ap length (list_is g (goal.at.tidy_in-requires-clause-few g c).In_ok-list) in
    let few = c.in_ok-basis.ensures.few in
    omega (arith, fewer, last, size, seen, is, few)

pub returns-clause-ran : goal.returns-clause-ran
returns-clause-ran g c =
    let at = goal.at.returns-clause-ran g c in
    let w = way g at.Start in
    let first = c.in_ok-basis.ensures.ran in
    ran_later g.K.Ring.scalars w.order grevlex w.part w.gens (IsListOf w) c.args.meter.now
    c.complete_in.new.meter c.tidy_in.new.meter first.limit first.to.last first.to.finished
    (terms_each c.deref-2.result.now)
    (begins g at.After-deref-2 ∙ ap (free_part c.args.first) first.to.gives.basis)
    (ones g at.After-deref-2) (λ gs hs s l h. h.list ∙ sym l) _ c.tidy_in.ensures.ran

pub returns-clause-elimination : goal.returns-clause-elimination
returns-clause-elimination g c =
    let at = goal.at.returns-clause-elimination g c in
    let F = field g.K.Ring.scalars in
    let k = c.args.first in
    let m = c.args.rest in
    let basis = terms_each c.in_ok-basis.basis.items in
    let itself = kept_is g at.In_ok-list in
    both_ok c.tidy_in.result
    (λ gs i r. record {
      arity = divisors_over _ m gs.items i.gives.elements;
      reduced = eliminated_of (numbers g) k m grevlex grevlex grevlex_order grevlex_order basis
          (terms_each c.args.gens.now) (polynomials g at.In_ok-list) c.in_ok-basis.ensures.basis
          (terms_each gs.items)
          (r (free_part k basis) itself.polynomials
          (subst (λ l. IsBasisOf F grevlex m l (free_part k basis))
          (sym (begins g at.After-deref-2)) itself));
    })
    (ended_of c.tidy_in.result c.tidy_in.ensures.ran) c.tidy_in.ensures.reduced
