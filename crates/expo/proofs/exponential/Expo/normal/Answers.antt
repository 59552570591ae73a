use Rattle.std.proofs.Common.{◌≡◌, ◌≤◌, ◌-◌, All, length, ap, ap₂, sym, subst, ◌∙◌, arith}
use Rattle.std.proofs.lemmas.List.{length-map}
use Rattle.polynomials.specs.Polynomial.{Arity}
use Rattle.frac128.specs.FracMeaning.{fraction_of}
use Rattle.poly.specs.Seen.{terms_in}
use Rattle.poly.specs.View.{terms_of}
use Rattle.poly.proofs.Steps.{all_arity}
use Rattle.coprime_base.specs.Sizes.{sizes}
use Rattle.solvable_maps.specs.Expo.{with_normal_keys}
use Rattle.solvable_maps.specs.Iterations.{width}
use Rattle.expo.specs.Operations.{vars_of, normal_of}
use Rattle.expo.proofs.Calls.{long_terms, normal_arity, normal_made}
use Rattle.expo.proofs.Outcomes.{wide_of}
use Rattle.expo.proofs.Results.{IsNormalList, made_expo, width_back, normal_past}
use Rattle.expo.proofs.Values.{normal_values}
use Rattle.expo.proofs.exponential.Expo.normal.Goals as goal
use Rattle.expo.proofs.exponential.Expo.normal.Goals.{In_ok-terms, In_ok-body}

pub normal_terms-requires : goal.normal_terms-requires
normal_terms-requires c =
    let p = c.args.body.now in
    let items_is = c.deref.ensures.value ∙ ap (λ v. v.items) c.terms.ensures in
    let count_is = c.len-count.ensures ∙ c.args.base.now.ok.0
    ∙ sym (length-map c.args.base.now.items _) in
    subst (λ ts. All (λ t. width c.len-count.result 0 ≤ length t.mono) ts) (sym items_is)
    (subst (λ n. All (λ t. width n 0 ≤ length t.mono) p.terms.items) (sym count_is)
    (long_terms (sizes c.args.base.now.items) p.arity c.requires.front p.terms.items
    p.polynomial.arity))

made_is : (c : In_ok-terms) → terms_of fraction_of c.in_ok-terms.terms.items
    ≡ normal_of (sizes c.args.base.now.items) (terms_in c.args.body.now)
made_is c =
    c.in_ok-terms.ensures.terms
    ∙ ap₂ (λ n ts. with_normal_keys n (terms_of fraction_of ts)) (c.len-count.ensures
    ∙ c.args.base.now.ok.0 ∙ sym (length-map c.args.base.now.items _)) (c.deref.ensures.value
    ∙ ap (λ v. v.items) c.terms.ensures)

list_is : (c : In_ok-body) → terms_of fraction_of c.in_ok-terms.terms.items
    ≡ normal_of (sizes c.args.base.now.items) (terms_in c.args.body.now)
    → IsNormalList (length (sizes c.args.base.now.items)) (normal_of (sizes c.args.base.now.items)
    (terms_in c.args.body.now)) (terms_in c.in_ok-body.body)
list_is c made =
    let p = c.args.body.now in
    let i = c.in_ok-body.ensures.sum in
    normal_made (sizes c.args.base.now.items) p.arity c.requires.front (terms_in p) _
    p.polynomial.arity made (terms_in c.in_ok-body.body) c.in_ok-body.body.arity (i.arity
    ∙ c.arity-2.ensures.arity) c.in_ok-body.body.polynomial i.same

pub from_terms-requires-clause-arities : goal.from_terms-requires-clause-arities
from_terms-requires-clause-arities c =
    let p = c.args.body.now in
    let made = made_is (goal.at.from_terms-requires-clause-arities c).In_ok-terms in
    subst (λ n. All (λ t. length t.mono ≡ n) c.in_ok-terms.terms.items)
    (sym c.arity-2.ensures.arity)
    (all_arity fraction_of p.arity _ (normal_arity (sizes c.args.base.now.items) p.arity
    c.requires.front (terms_in p) _ p.polynomial.arity made))

pub of-requires-clause-normal : goal.of-requires-clause-normal
of-requires-clause-normal c =
    let at = goal.at.of-requires-clause-normal c in
    let q = terms_in c.in_ok-body.body in
    subst (λ ws. with_normal_keys (length (sizes ws)) q ≡ q) (sym c.deref-2.ensures.value)
    (list_is at.In_ok-body (made_is at.In_ok-terms)).normal

pub returns-clause-normal : goal.returns-clause-normal
returns-clause-normal c =
    let at = goal.at.returns-clause-normal c in
    let p = c.args.body.now in
    let bs = sizes c.args.base.now.items in
    let count_is : c.len-count.result ≡ length bs = c.len-count.ensures ∙ c.args.base.now.ok.0
    ∙ sym (length-map c.args.base.now.items _) in
    let few = c.arity.ensures.arity in
    let front = c.width.ensures in
    made_expo bs _ (vars_of bs p.arity) (c.arity.result - c.width.result)
    (terms_in c.in_ok-body.body) (normal_of bs (terms_in p)) (ap sizes c.deref-2.ensures.value)
    (omega (arith, few, count_is, front))
    (list_is at.In_ok-body (made_is at.In_ok-terms)).is c.in_ok-of.field-0
    c.in_ok-of.ensures.base c.in_ok-of.ensures.vars c.in_ok-of.ensures.terms

pub returns-clause-values : goal.returns-clause-values
returns-clause-values c =
    let p = c.args.body.now in
    let bs = sizes c.args.base.now.items in
    normal_values bs c.requires.base.0 (vars_of bs p.arity) c.in_ok-of.field-0 (terms_in p)
    (subst (λ n. Arity n (terms_in p)) (width_back (length bs) p.arity c.requires.front)
    p.polynomial.arity) (returns-clause-normal c)

pub returns-in_err-body-clause-wide : goal.returns-in_err-body-clause-wide
returns-in_err-body-clause-wide c =
    let made = made_is (goal.at.returns-in_err-body-clause-wide c).In_ok-terms in
    λ w. normal_past (length (sizes c.args.base.now.items)) (terms_in c.args.body.now) _ made
    (c.in_err-body.ensures.wide
    (cc (wide_of c.from_residual-in_err-body.result c.in_err-body.field-0.0
    c.from_residual-in_err-body.ensures.1 w)))
