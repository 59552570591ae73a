use Rattle.std.proofs.Common.{◌≡◌, ◌≤◌, All, length, ap, ap₂, sym, subst, ◌∙◌}
use Rattle.std.proofs.lemmas.List.{length-map}
use Rattle.frac128.specs.FracMeaning.{fraction_of}
use Rattle.poly.specs.Seen.{terms_in}
use Rattle.poly.specs.View.{terms_of}
use Rattle.poly.proofs.Steps.{all_arity}
use Rattle.coprime_base.specs.Sizes.{sizes}
use Rattle.solvable_maps.specs.Expo.{with_normal_keys, inverse_form_terms}
use Rattle.solvable_maps.specs.Iterations.{width}
use Rattle.expo.specs.Operations.{inverse_form_of}
use Rattle.expo.specs.View.{base_of}
use Rattle.expo.proofs.Calls.{long_terms, wide_front, turned_arity, turned_made, turned_distinct}
use Rattle.expo.proofs.Outcomes.{ok_weaker}
use Rattle.expo.proofs.Results.{IsNormalList, is_expo, expo_arity}
use Rattle.expo.proofs.Values.{turned_values}
use Rattle.expo.proofs.exponential.Expo.inverse_form.Goals as goal
use Rattle.expo.proofs.exponential.Expo.inverse_form.Goals.{In_ok-terms, In_ok-body}

pub terms_inverse_form-requires : goal.terms_inverse_form-requires
terms_inverse_form-requires c =
    let e = c.args.self.now in
    let items_is = c.deref.ensures.value ∙ ap (λ v. v.items) (c.terms.ensures
    ∙ ap (λ p. p.terms) c.body.ensures) in
    let count_is = c.len.ensures ∙ ap (λ v. v.len) c.base.ensures ∙ e.base.ok.0
    ∙ sym (length-map e.base.items _) in
    subst (λ ts. All (λ t. width c.len.result 0 ≤ length t.mono) ts) (sym items_is)
    (subst (λ n. All (λ t. width n 0 ≤ length t.mono) e.body.terms.items) (sym count_is)
    (long_terms (base_of e) e.body.arity (wide_front e) e.body.terms.items
    e.body.polynomial.arity))

made_is : (c : In_ok-terms) → terms_of fraction_of c.in_ok-terms.terms.items
    ≡ inverse_form_of c.args.self.now
made_is c =
    let e = c.args.self.now in
    c.in_ok-terms.ensures.terms ∙ ap₂ (λ n ts. inverse_form_terms n (terms_of fraction_of ts))
    (c.len.ensures ∙ ap (λ v. v.len) c.base.ensures ∙ e.base.ok.0
    ∙ sym (length-map e.base.items _))
    (c.deref.ensures.value ∙ ap (λ v. v.items) (c.terms.ensures ∙ ap (λ p. p.terms) c.body.ensures))

list_is : (c : In_ok-body) → terms_of fraction_of c.in_ok-terms.terms.items
    ≡ inverse_form_of c.args.self.now
    → IsNormalList (length (base_of c.args.self.now)) (inverse_form_of c.args.self.now)
    (terms_in c.in_ok-body.body)
list_is c made =
    let i = c.in_ok-body.ensures in
    turned_made c.args.self.now _ made (terms_in c.in_ok-body.body) c.in_ok-body.body.arity (i.arity
    ∙ c.arity.ensures.arity ∙ ap (λ p. p.arity) c.body-2.ensures) c.in_ok-body.body.polynomial
    i.same

pub from_distinct-requires-clause-arities : goal.from_distinct-requires-clause-arities
from_distinct-requires-clause-arities c =
    let e = c.args.self.now in
    subst (λ n. All (λ t. length t.mono ≡ n) c.in_ok-terms.terms.items) (sym (c.arity.ensures.arity
    ∙ ap (λ p. p.arity) c.body-2.ensures))
    (all_arity fraction_of e.body.arity _
    (turned_arity e _ (made_is (goal.at.from_distinct-requires-clause-arities c).In_ok-terms)))

pub from_distinct-requires-clause-distinct : goal.from_distinct-requires-clause-distinct
from_distinct-requires-clause-distinct c = turned_distinct c.args.self.now _
    (made_is (goal.at.from_distinct-requires-clause-distinct c).In_ok-terms)

pub of-requires-clause-normal : goal.of-requires-clause-normal
of-requires-clause-normal c =
    let at = goal.at.of-requires-clause-normal c in
    let q = terms_in c.in_ok-body.body in
    subst (λ ws. with_normal_keys (length (sizes ws)) q ≡ q) (sym (c.deref-2.ensures.value
    ∙ ap (λ v. v.items) c.base-2.ensures))
    (list_is at.In_ok-body (made_is at.In_ok-terms)).normal

pub returns-clause-inverse_form : goal.returns-clause-inverse_form
returns-clause-inverse_form c =
    let at = goal.at.returns-clause-inverse_form c in
    is_expo _ _ _ _ (terms_in c.in_ok-body.body) (inverse_form_of c.args.self.now)
    (ap sizes (c.deref-2.ensures.value ∙ ap (λ v. v.items) c.base-2.ensures)) c.vars.ensures
    (list_is at.In_ok-body (made_is at.In_ok-terms)).is
    c.of.result c.of.ensures.base c.of.ensures.vars c.of.ensures.terms

pub returns-clause-values : goal.returns-clause-values
returns-clause-values c =
    let e = c.args.self.now in
    ok_weaker _ _ (λ x is. turned_values (base_of e) e.coprime.0 e.vars x (terms_in e.body)
    (expo_arity e) is) c.of.result (returns-clause-inverse_form c)
