use Rattle.std.proofs.Common.{◌≡◌, drop, length, refl, ap, sym, ◌∙◌, arith}
use Rattle.std.proofs.lemmas.Result.{IfOk-weaker}
use Rattle.frac128.specs.FracMeaning.{fraction_of}
use Rattle.frac128.specs.declared.fraction.Frac.{Frac}
use Rattle.poly.specs.View.{term_of}
use Rattle.poly.specs.declared.Term.{Term}
use Rattle.coprime_base.specs.Sizes.{sizes}
use Rattle.solvable_maps.specs.Iterations.{width}
use Rattle.closed_forms.specs.Solved.{still}
use Rattle.closed_forms.proofs.Joining.{all_one, still_made}
use Rattle.closed_forms.proofs.Making.{steady_is, base_width}
use Rattle.closed_forms.proofs.Mixing.{tell}
use Rattle.closed_forms.proofs.Recurring.{still_long}
use Rattle.closed_forms.proofs.recurrence.steady.Goals as goal
use Rattle.closed_forms.proofs.recurrence.steady.Goals.{After-width-first, In_ok-extend_from_slice}

pub width-first-requires : goal.width-first-requires
width-first-requires c =
    let e = base_width _ 0 (c.len.ensures ∙ c.args.base.now.ok.0) in
    omega (arith, e, c.exponents-list.ensures.bound, c.requires.width)

first_is : (c : After-width-first) → c.width-first.result
    ≡ width (length (sizes c.args.base.now.items)) 0
first_is c = c.width-first.ensures ∙ base_width _ 0 (c.len.ensures ∙ c.args.base.now.ok.0)

pub split_at-requires : goal.split_at-requires
split_at-requires c =
    let first = first_is (goal.at.split_at-requires c).After-width-first in
    let n = ap length (c.as_slice.ensures ∙ c.exponents-list.ensures.exponents) in
    omega (arith, first, n, c.requires.width)

-- the exponents, and how many there are
module _ (c : In_ok-extend_from_slice) where
  made : c.extend_from_slice.new.self.items
      ≡ still (length (sizes c.args.base.now.items)) c.args.term.now.mono
  made = still_made _ c.args.term.now.mono _ _
      (c.width-first.ensures ∙ base_width _ 0 (c.len.ensures ∙ c.args.base.now.ok.0))
      (c.in_ok-exponents.ensures.items_if_clones_equal (λ y h. h))
      (c.split_at.ensures.back ∙ ap (drop c.width-first.result)
      (c.as_slice.ensures ∙ c.exponents-list.ensures.exponents))
      c.in_ok-extend_from_slice.ensures.items

  long : length c.extend_from_slice.new.self.items ≡ length c.args.term.now.mono
  long = ap length made ∙ still_long _ c.args.term.now.mono c.requires.width

pub new-requires : goal.new-requires
new-requires c =
    let n = long (goal.at.new-requires c).In_ok-extend_from_slice in
    omega (arith, n, c.exponents-list.ensures.bound)

pub from_distinct-requires-clause-few : goal.from_distinct-requires-clause-few
from_distinct-requires-clause-few c =
    let n = ap length (c.as_slice-2.ensures ∙ c.exponents-list.ensures.exponents) in
    omega (arith, n, c.exponents-list.ensures.bound)

pub from_distinct-requires-clause-arities : goal.from_distinct-requires-clause-arities
from_distinct-requires-clause-arities c =
    let n = long (goal.at.from_distinct-requires-clause-arities c).In_ok-extend_from_slice in
    all_one (λ (t : Term Frac). length t.mono ≡ length c.as_slice-2.result.now) _
    c.in_ok-terms.ensures.items (ap length c.in_ok-mono.ensures.ok ∙ n
    ∙ sym (ap length (c.as_slice-2.ensures ∙ c.exponents-list.ensures.exponents)))

pub from_distinct-requires-clause-distinct : goal.from_distinct-requires-clause-distinct
from_distinct-requires-clause-distinct c =
    let n = ap length c.in_ok-terms.ensures.items in
    λ i j d l g. absurd (omega (arith, n, l, g))

pub returns-clause-arity : goal.returns-clause-arity
returns-clause-arity c = IfOk-weaker c.from_distinct.result _ _ (λ p i. i.arity
    ∙ ap length (c.as_slice-2.ensures ∙ c.exponents-list.ensures.exponents)) c.from_distinct.ensures

pub returns-clause-terms : goal.returns-clause-terms
returns-clause-terms c =
    let bs = sizes c.args.base.now.items in
    let t = term_of fraction_of c.args.term.now in
    let is = c.in_ok-mono.ensures.ok
    ∙ made (goal.at.returns-clause-terms c).In_ok-extend_from_slice in
    IfOk-weaker c.from_distinct.result _ _ (λ p i. steady_is bs t p
    (ap tell c.in_ok-terms.ensures.items) is refl
    (ap length is ∙ still_long (length bs) t.0 c.requires.width)
    (i.arity ∙ ap length (c.as_slice-2.ensures ∙ c.exponents-list.ensures.exponents)) i.same)
    c.from_distinct.ensures
