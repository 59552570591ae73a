use Rattle.std.proofs.Common.{◌≡◌, ◌++◌, length, refl, sym, ap, subst, ◌∙◌, arith}
use Rattle.std.proofs.lemmas.List.{length-map, length-append}
use Rattle.algebra.specs.FieldArithmetic.{field_of}
use Rattle.algebra.specs.Scalars.{field}
use Rattle.algebra.proofs.ScalarFields.{is_field}
use Rattle.polynomials.specs.Order.{grevlex}
use Rattle.polynomials.proofs.Orders.{grevlex_order}
use Rattle.ideals.specs.Members.{IsMember, IsSumOf}
use Rattle.machines.specs.Machine.{Ran}
use Rattle.machines.specs.Machines as machines
use Rattle.machines.specs.Reduced.{IsReducedBasis}
use Rattle.monos.specs.declared.order.Grevlex.{Grevlex}
use Rattle.poly.specs.Seen.{terms_in, terms_each}
use Rattle.divide.specs.Outcomes.{outcome_of}
use Rattle.divide.proofs.Refused.{out_of_memory}
use Rattle.reduced_basis.specs.Reduction.{HasReduced}
use Rattle.ideal_ops.specs.Calls.{sum_way, elimination_of, AreOver, IsReducedList}
use Rattle.ideal_ops.proofs.Ending.{added_of}
use Rattle.ideal_ops.proofs.Lists.{both_ok, divisors_over, over_left, over_right, over_each, over_like}
use Rattle.ideal_ops.proofs.Outcomes.{ran_as, ended_of}
use Rattle.ideal_ops.proofs.operations.sum.Given.{Over}
use Rattle.ideal_ops.proofs.operations.sum.Goals.{After-deref}
use Rattle.ideal_ops.proofs.operations.sum.Goals as goal

the_order : Grevlex
the_order = record {}

pub returns-in_err-gens-clause-ran : goal.returns-in_err-gens-clause-ran
returns-in_err-gens-clause-ran g c = out_of_memory
    (elimination_of (sum_way c.args.a.now c.args.b.now)) c.from_residual.result
    c.from_residual.ensures.1

pub reduced_basis_in-requires-clause-like : goal.reduced_basis_in-requires-clause-like
reduced_basis_in-requires-clause-like g c =
    over_like the_order c.common_arity.result (λ q. refl) c.deref.result.now
    (subst (AreOver c.common_arity.result) (sym c.deref.ensures.value)
    (subst (λ n. AreOver n c.in_ok-gens.gens.items) (sym c.common_arity.ensures)
    c.in_ok-gens.ensures.arity))

pub reduced_basis_in-requires-clause-few : goal.reduced_basis_in-requires-clause-few
reduced_basis_in-requires-clause-few g c =
    let all = ap length c.in_ok-gens.ensures.terms in
    let parts = length-append (terms_each c.args.a.now) (terms_each c.args.b.now) in
    let a = length-map c.args.a.now terms_in in
    let b = length-map c.args.b.now terms_in in
    let gens = length-map c.in_ok-gens.gens.items terms_in in
    let size = ap length c.deref.ensures.value in
    let few = c.requires.few in
    omega (arith, all, parts, a, b, gens, size, few)

-- both lists together
terms : (g : Over) (c : After-deref g) → terms_each c.deref.result.now ≡ terms_each c.args.a.now
    ++ terms_each c.args.b.now
terms g c = ap terms_each c.deref.ensures.value ∙ c.in_ok-gens.ensures.terms

pub returns-clause-ran : goal.returns-clause-ran
returns-clause-ran g c =
    ran_as (λ gs s h. h.list) _
    (subst (λ ts. Ran (machines.elimination g.K.Ring.scalars grevlex grevlex (λ gs. gs) ts)
    (HasReduced the_order c.common_arity.result) c.args.meter.now
    c.reduced_basis_in.new.meter (outcome_of c.reduced_basis_in.result))
    (terms g (goal.at.returns-clause-ran g c).After-deref) c.reduced_basis_in.ensures.ran)

pub returns-clause-sum : goal.returns-clause-sum
returns-clause-sum g c =
    let at = (goal.at.returns-clause-sum g c).After-deref in
    let S = g.K.Ring.scalars in
    let F = field S in
    let m = c.common_arity.result in
    let ks = terms_each c.args.a.now in
    let bs = terms_each c.args.b.now in
    let alike = subst (λ n. AreOver n (c.args.a.now ++ c.args.b.now)) (sym c.common_arity.ensures)
    c.requires.alike in
    let left = over_each grevlex (λ o. refl) m c.args.a.now (over_left m c.args.a.now c.args.b.now
    alike) in
    let right = over_each grevlex (λ o. refl) m c.args.b.now (over_right m c.args.a.now c.args.b.now
    alike) in
    both_ok c.reduced_basis_in.result
    (λ gs i r. subst (λ n. IsReducedList n (IsSumOf S.arithmetic n ks bs) gs.items)
    c.common_arity.ensures (record {
      arity = divisors_over the_order m gs.items i.gives.elements;
      reduced =
          added_of (field_of F (is_field S g.met.K.Ring.ring g.met.K.Field.field
          g.met.K.Ring.zero_is)) grevlex grevlex_order m ks bs (terms_each gs.items) left right
          (subst (λ ts. IsReducedBasis F grevlex m (terms_each gs.items)
          (IsMember S.arithmetic m ts)) (terms g at) r);
    }))
    (ended_of c.reduced_basis_in.result c.reduced_basis_in.ensures.ran)
    c.reduced_basis_in.ensures.reduced
