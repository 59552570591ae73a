use Rattle.std.proofs.Common.{◌+◌, ◌++◌, map, length, refl, sym, ap, subst, ◌∙◌, arith}
use Rattle.std.proofs.lemmas.List.{length-map, length-append}
use Rattle.algebra.specs.FieldArithmetic.{field_of}
use Rattle.algebra.specs.Scalars.{field}
use Rattle.algebra.proofs.ScalarFields.{is_field}
use Rattle.polynomials.specs.Order.{grevlex, blocks}
use Rattle.polynomials.proofs.Orders.{grevlex_order}
use Rattle.ideals.specs.Members.{IsMember}
use Rattle.machines.specs.Elimination.{free_part, in_front, with_first}
use Rattle.machines.specs.Reduced.{IsReducedBasis}
use Rattle.machines.specs.Machine.{Ran}
use Rattle.machines.specs.Machines as machines
use Rattle.poly.specs.Seen.{arity_of, terms_in, terms_each}
use Rattle.divide.specs.Outcomes.{outcome_of}
use Rattle.divide.proofs.Refused.{out_of_memory}
use Rattle.complete.proofs.Made.{if_ok}
use Rattle.poly.specs.Blending.{times_rest}
use Rattle.ideal_ops.specs.Calls.{intersection_way, elimination_of, IsListOf, AreOver, IsReducedList}
use Rattle.ideal_ops.proofs.Ending.{met_of}
use Rattle.ideal_ops.proofs.Lists.{over_left, over_right, over_each}
use Rattle.ideal_ops.proofs.operations.meet.Goals as goal

pub blend-requires-clause-left : goal.blend-requires-clause-left
blend-requires-clause-left g c = subst (λ m. AreOver m c.args.a.now)
    (sym c.common_arity-arity.ensures) (over_left (arity_of (c.args.a.now ++ c.args.b.now))
    c.args.a.now c.args.b.now c.requires.alike)

pub blend-requires-clause-right : goal.blend-requires-clause-right
blend-requires-clause-right g c = subst (λ m. AreOver m c.args.b.now)
    (sym c.common_arity-arity.ensures) (over_right (arity_of (c.args.a.now ++ c.args.b.now))
    c.args.a.now c.args.b.now c.requires.alike)

pub returns-in_err-gens-clause-ran : goal.returns-in_err-gens-clause-ran
returns-in_err-gens-clause-ran g c = out_of_memory
    (elimination_of (intersection_way c.args.a.now c.args.b.now)) c.from_residual.result
    c.from_residual.ensures.1

pub eliminate_block-requires-clause-few : goal.eliminate_block-requires-clause-few
eliminate_block-requires-clause-few g c =
    let firsts = map with_first (terms_each c.args.a.now) in
    let others = map (times_rest (field g.K.Ring.scalars)) (terms_each c.args.b.now) in
    let all = ap length c.in_ok-gens.ensures.blend in
    let parts = length-append firsts others in
    let one = length-map (terms_each c.args.a.now) with_first in
    let two = length-map (terms_each c.args.b.now) (times_rest (field g.K.Ring.scalars)) in
    let a = length-map c.args.a.now terms_in in
    let b = length-map c.args.b.now terms_in in
    let gens = length-map c.in_ok-gens.gens.items terms_in in
    let size = ap length c.deref.ensures.value in
    let few = c.requires.few in
    omega (arith, all, parts, one, two, a, b, gens, size, few)

pub returns-clause-intersection : goal.returns-clause-intersection
returns-clause-intersection g c =
    let S = g.K.Ring.scalars in
    let m = c.common_arity-arity.result in
    let ks = terms_each c.args.a.now in
    let bs = terms_each c.args.b.now in
    let left = over_each grevlex (λ o. refl) m c.args.a.now (subst (λ n. AreOver n c.args.a.now)
    (sym c.common_arity-arity.ensures) (over_left (arity_of (c.args.a.now ++ c.args.b.now))
    c.args.a.now c.args.b.now c.requires.alike)) in
    let right = over_each grevlex (λ o. refl) m c.args.b.now (subst (λ n. AreOver n c.args.b.now)
    (sym c.common_arity-arity.ensures) (over_right (arity_of (c.args.a.now ++ c.args.b.now))
    c.args.a.now c.args.b.now c.requires.alike)) in
    let is = ap terms_each c.deref.ensures.value ∙ c.in_ok-gens.ensures.blend in
    if_ok _ _ c.eliminate_block.result
    (λ gs i. subst (λ n. IsReducedList n (λ y. IsMember S.arithmetic n ks y
    × IsMember S.arithmetic n bs y) gs.items) c.common_arity-arity.ensures (record {
      arity = i.arity;
      reduced =
          met_of (field_of (field S) (is_field S g.met.K.Ring.ring g.met.K.Field.field
          g.met.K.Ring.zero_is)) m grevlex grevlex grevlex_order grevlex_order ks bs
          (terms_each gs.items) left right
          (subst (λ hs. IsReducedBasis (field S) grevlex m (terms_each gs.items)
          (λ y. IsMember S.arithmetic (1 + m) hs (in_front 1 y))) is i.reduced);
    }))
    c.eliminate_block.ensures.elimination

pub returns-clause-ran : goal.returns-clause-ran
returns-clause-ran g c =
    let S = g.K.Ring.scalars in
    let O = blocks 1 grevlex grevlex in
    let is = ap terms_each c.deref.ensures.value ∙ c.in_ok-gens.ensures.blend in
    subst (λ ts. Ran (machines.elimination S O grevlex (free_part 1) ts)
    (IsListOf (intersection_way c.args.a.now c.args.b.now)) c.args.meter.now
    c.eliminate_block.new.meter (outcome_of c.eliminate_block.result)) is
    c.eliminate_block.ensures.ran
