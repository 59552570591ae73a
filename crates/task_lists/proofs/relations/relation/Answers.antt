use Rattle.std.proofs.Common.{◌≡◌, ◌+◌, ◌<◌, ℕ, [], ◌∷◌, ap, subst, ◌∙◌, arith}
use Rattle.algebra.specs.Fraction.{ℚ}
use Rattle.polynomials.specs.Terms.{Same}
use Rattle.std.proofs.lemmas.Result.{IfOk-weaker}
use Rattle.frac128.specs.declared.fraction.Frac.{Frac}
use Rattle.frac128.specs.FracMeaning.{fraction_of}
use Rattle.poly.specs.declared.Term.{Term}
use Rattle.poly.specs.Seen.{terms_in}
use Rattle.rounds.specs.Form.{relation}
use Rattle.task_lists.proofs.TwoTerms.{two_items, terms_relation, terms_long, terms_apart, relation_is}
use Rattle.task_lists.proofs.relations.relation.Goals as goal
use Rattle.task_lists.proofs.relations.relation.Goals.{In_ok-push-2}

abbrev width : (c : In_ok-push-2) → ℕ
width c = c.front-first.result + c.args.vars

abbrev one_term : (c : In_ok-push-2) → Term Frac
one_term c = record { mono = c.in_ok-product_of.field-0; coef = c.one.result }

abbrev other_term : (c : In_ok-push-2) → Term Frac
other_term c = record { mono = c.in_ok-one.field-0; coef = c.neg.result }

items_are : (c : In_ok-push-2) → c.push-2.new.self.items ≡ one_term c ∷ other_term c ∷ []
items_are c = two_items
    (one_term c) (other_term c) c.new-terms.ensures.items c.in_ok-push.ensures.items
    c.in_ok-push-2.ensures.items

left_in : (c : In_ok-push-2) → c.args.left < width c
left_in c = let a = c.front-first.ensures in let b = c.requires.left in omega (arith, a, b)

right_in : (c : In_ok-push-2) → c.args.right < width c
right_in c = let a = c.front-first.ensures in let b = c.requires.right in omega (arith, a, b)

less_one : (c : In_ok-push-2) → fraction_of c.neg.result ≡ ℚ.neg ℚ.one
less_one c = c.neg.ensures ∙ ap ℚ.neg c.one-3.ensures

pub from_distinct-requires-clause-arities : goal.from_distinct-requires-clause-arities
from_distinct-requires-clause-arities c =
    let at = (goal.at.from_distinct-requires-clause-arities c).In_ok-push-2 in
    terms_long (width at) _ _ (left_in at) (right_in at) (items_are at)
    c.in_ok-product_of.ensures.product c.one.ensures c.in_ok-one.ensures.ok (less_one at)

pub from_distinct-requires-clause-distinct : goal.from_distinct-requires-clause-distinct
from_distinct-requires-clause-distinct c =
    let at = (goal.at.from_distinct-requires-clause-distinct c).In_ok-push-2 in
    terms_apart (width at) _ _ (left_in at) (right_in at) (items_are at)
    c.in_ok-product_of.ensures.product c.one.ensures c.in_ok-one.ensures.ok (less_one at)

pub returns-clause-relation : goal.returns-clause-relation
returns-clause-relation c =
    let at = (goal.at.returns-clause-relation c).In_ok-push-2 in
    let f = c.front-first.ensures in
    let is = terms_relation (width at) _ _ (left_in at) (right_in at) (items_are at)
    c.in_ok-product_of.ensures.product c.one.ensures c.in_ok-one.ensures.ok (less_one at) in
    IfOk-weaker c.from_distinct.result _ _
    (λ p i. relation_is c.args.numbers c.args.vars c.args.left c.args.right c.requires.left
    c.requires.right p (ap (λ o. o.first) i.order ∙ f) (i.arity ∙ ap (λ n. n + c.args.vars) f)
    (subst (λ n. Same ℚ (terms_in p) (relation (n + c.args.vars) c.args.left c.args.right)) f
    (subst (Same ℚ (terms_in p)) is i.same)))
    c.from_distinct.ensures
