use Rattle.std.proofs.Common.{◌≡◌, length, refl, ap, sym, subst, ◌∙◌}
use Rattle.std.proofs.lemmas.List.{length-map}
use Rattle.algebra.specs.Fraction.{ℚ}
use Rattle.polynomials.specs.Order.{grevlex}
use Rattle.polynomials.specs.Polynomial.{Arity, IsPolynomial}
use Rattle.frac128.specs.FracMeaning.{fraction_of}
use Rattle.poly.specs.Seen.{terms_in}
use Rattle.poly.specs.View.{terms_of}
use Rattle.poly.proofs.Steps.{all_arity}
use Rattle.coprime_base.specs.Sizes.{sizes}
use Rattle.solvable_maps.specs.Expo.{with_normal_keys}
use Rattle.solvable_maps.specs.Iterations.{width}
use Rattle.expo.specs.Powers.{number_of}
use Rattle.expo.proofs.Distinct.{pairs_of}
use Rattle.expo.proofs.Results.{IsNormalList, normal_list, made_expo}
use Rattle.expo.proofs.Solved.{AreParts, Tabled, handed_on, evaluated_at, power_nonzero, past_solution, tabled_at, tabled_expo, tabled_parts, tabled_solution}
use Rattle.expo.proofs.Values.{solution_is}
use Rattle.expo.proofs.solution.solve_term.Goals as goal
use Rattle.expo.proofs.solution.solve_term.Goals.{In_ok-terms, In_ok-body}

pub terms_of_table-requires-clause-nonzero : goal.terms_of_table-requires-clause-nonzero
terms_of_table-requires-clause-nonzero c =
    let bs = sizes c.args.base.now.items in
    let f = evaluated_at (sizes c.deref-2.result.now) bs c.args.own.now _ _
    (ap sizes c.deref-2.ensures.value) c.in_ok-own.ensures.number c.in_ok-own.ensures.key in
    power_nonzero bs c.requires.base.0 c.args.own.now _ _ f

pub returns-in_err-terms-clause-wide : goal.returns-in_err-terms-clause-wide
returns-in_err-terms-clause-wide c =
    let bs = sizes c.args.base.now.items in
    let e = evaluated_at (sizes c.deref.result.now) bs c.args.inhomogeneity.now _ _
    (ap sizes c.deref.ensures.value) c.in_ok-inhomogeneity.ensures.number
    c.in_ok-inhomogeneity.ensures.key in
    let f = evaluated_at (sizes c.deref-2.result.now) bs c.args.own.now _ _
    (ap sizes c.deref-2.ensures.value) c.in_ok-own.ensures.number c.in_ok-own.ensures.key in
    handed_on c.in_err-terms.field-0.0 c.from_residual-in_err-terms.result
    c.from_residual-in_err-terms.ensures.1
    (λ x. past_solution bs c.args.vars c.args.degree c.args.inhomogeneity.now c.args.own.now _ _ _ _
    e f
    (c.in_err-terms.ensures.wide x))

tabled : (c : In_ok-terms) → Tabled (sizes c.args.base.now.items) c.args.vars c.args.degree
    c.args.inhomogeneity.now c.args.own.now (terms_of fraction_of c.in_ok-terms.terms.items)
tabled c =
    let bs = sizes c.args.base.now.items in
    let e = evaluated_at (sizes c.deref.result.now) bs c.args.inhomogeneity.now _ _
    (ap sizes c.deref.ensures.value) c.in_ok-inhomogeneity.ensures.number
    c.in_ok-inhomogeneity.ensures.key in
    let f = evaluated_at (sizes c.deref-2.result.now) bs c.args.own.now _ _
    (ap sizes c.deref-2.ensures.value) c.in_ok-own.ensures.number c.in_ok-own.ensures.key in
    tabled_at bs c.args.vars c.args.degree c.args.inhomogeneity.now c.args.own.now _ _ _ _ e f
    (terms_of fraction_of c.in_ok-terms.terms.items) c.in_ok-terms.ensures.terms

inhomogeneity_count : (c : In_ok-terms) → length c.args.inhomogeneity.now.exponents.items
    ≡ length (sizes c.args.base.now.items)
inhomogeneity_count c = c.requires.inhomogeneity ∙ sym (length-map c.args.base.now.items _)

own_count : (c : In_ok-terms) → length c.args.own.now.exponents.items
    ≡ length (sizes c.args.base.now.items)
own_count c = c.requires.own ∙ sym (length-map c.args.base.now.items _)

parts : (c : In_ok-terms) → AreParts (sizes c.args.base.now.items) c.args.vars
    (terms_of fraction_of c.in_ok-terms.terms.items)
parts c = tabled_parts (sizes c.args.base.now.items) c.args.vars c.args.degree
    c.args.inhomogeneity.now
    c.args.own.now (inhomogeneity_count c) (own_count c)
    (terms_of fraction_of c.in_ok-terms.terms.items)
    (tabled c)

list_is : (c : In_ok-body) → AreParts (sizes c.args.base.now.items) c.args.vars
    (terms_of fraction_of c.in_ok-terms.terms.items)
    → IsNormalList (length (sizes c.args.base.now.items))
    (terms_of fraction_of c.in_ok-terms.terms.items) (terms_in c.in_ok-body.body)
list_is c are =
    let bs = sizes c.args.base.now.items in
    let n : c.len.result ≡ length bs = c.len.ensures ∙ c.args.base.now.ok.0
    ∙ sym (length-map c.args.base.now.items _) in
    let w : c.width-arity.result ≡ width (length bs) c.args.vars =
    c.width-arity.ensures ∙ ap (λ k. width k c.args.vars) n in
    let i = c.in_ok-body.ensures in
    let q = terms_in c.in_ok-body.body in
    normal_list (length bs) (width (length bs) c.args.vars) q
    (terms_of fraction_of c.in_ok-terms.terms.items) are.arity are.stay
    (subst (λ n. IsPolynomial ℚ grevlex n q) (i.arity ∙ w) c.in_ok-body.body.polynomial) i.same

pub from_distinct-requires-clause-arities : goal.from_distinct-requires-clause-arities
from_distinct-requires-clause-arities c =
    let bs = sizes c.args.base.now.items in
    let n : c.len.result ≡ length bs = c.len.ensures ∙ c.args.base.now.ok.0
    ∙ sym (length-map c.args.base.now.items _) in
    let w : c.width-arity.result ≡ width (length bs) c.args.vars =
    c.width-arity.ensures ∙ ap (λ k. width k c.args.vars) n in
    let ts = c.in_ok-terms.terms.items in
    all_arity fraction_of c.width-arity.result ts
    (subst (λ n. Arity n (terms_of fraction_of ts)) (sym w)
    (parts (goal.at.from_distinct-requires-clause-arities c).In_ok-terms).arity)

pub from_distinct-requires-clause-distinct : goal.from_distinct-requires-clause-distinct
from_distinct-requires-clause-distinct c =
    let ts = c.in_ok-terms.terms.items in
    pairs_of ts (terms_of fraction_of ts) refl
    (parts (goal.at.from_distinct-requires-clause-distinct c).In_ok-terms).differ

pub of-requires-clause-normal : goal.of-requires-clause-normal
of-requires-clause-normal c =
    let at = goal.at.of-requires-clause-normal c in
    let q = terms_in c.in_ok-body.body in
    subst (λ ws. with_normal_keys (length (sizes ws)) q ≡ q) (sym c.deref-3.ensures.value)
    (list_is at.In_ok-body (parts at.In_ok-terms)).normal

pub returns-clause-table : goal.returns-clause-table
returns-clause-table c =
    let at = goal.at.returns-clause-table c in
    let bs = sizes c.args.base.now.items in
    let ts = terms_of fraction_of c.in_ok-terms.terms.items in
    tabled_expo bs c.args.vars c.args.degree c.args.inhomogeneity.now c.args.own.now ts
    c.in_ok-of.field-0 (tabled at.In_ok-terms)
    (made_expo bs _ c.args.vars _ (terms_in c.in_ok-body.body) ts (ap sizes c.deref-3.ensures.value)
    refl (list_is at.In_ok-body (parts at.In_ok-terms)).is c.in_ok-of.field-0
    c.in_ok-of.ensures.base c.in_ok-of.ensures.vars c.in_ok-of.ensures.terms)

pub returns-clause-solves : goal.returns-clause-solves
returns-clause-solves c =
    let at = goal.at.returns-clause-solves c in
    let bs = sizes c.args.base.now.items in
    let inhomogeneity = c.args.inhomogeneity.now in
    let own = c.args.own.now in
    let ts = terms_of fraction_of c.in_ok-terms.terms.items in
    let solution = tabled_solution bs c.args.vars c.args.degree inhomogeneity own
    (inhomogeneity_count at.In_ok-terms) (own_count at.In_ok-terms) c.requires.base.0 ts
    (tabled at.In_ok-terms) in
    solution_is bs c.args.vars c.args.degree (number_of bs inhomogeneity) (number_of bs own)
    (terms_in c.in_ok-of.field-0.body) ts (c.in_ok-of.ensures.terms
    ∙ (list_is at.In_ok-body (parts at.In_ok-terms)).is) solution
