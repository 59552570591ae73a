use Rattle.std.proofs.Common.{◌≡◌, ◌+◌, ◌<◌, true, false, length, sym, refl, arith, true≢false, ◌∙◌}
use Rattle.std.proofs.lemmas.List.{length-map}
use Rattle.std.specs.Prelude.{All}
use Rattle.algebra.specs.Fraction.{ℚ}
use Rattle.polynomials.specs.Terms.{AllSame}
use Rattle.poly.specs.Seen.{terms_in, terms_each}
use Rattle.task_lists.proofs.Agreeing.{AgreesFrom, agrees_more, agrees_not, agrees_end}
use Rattle.task_lists.proofs.Combining.{place_in, at_place}
use Rattle.task_lists.proofs.lists.agree.Given.{Over}
use Rattle.task_lists.proofs.lists.agree.Goals.{After-eq-is_same}
use Rattle.task_lists.proofs.lists.agree.Goals as goal

-- by what the comparison at this place tells
compared : (g : Over) (c : After-eq-is_same g)
    → (c.eq-is_same.result ≡ true → AgreesFrom ℚ (terms_each c.args.left.now)
    (terms_each c.args.right.now) (c.loop-i.i + 1)) × (c.eq-is_same.result ≡ false
    → AllSame ℚ (terms_each c.args.left.now) (terms_each c.args.right.now) → ⊥)
compared g c =
    let ps = c.args.left.now in
    let qs = c.args.right.now in
    let i = c.loop-i.i in
    let k = c.loop-i-test.true in
    let l : i < length qs = omega (arith, k, c.requires.count) in
    let p = c.index-left-i.result in
    let q = c.index-right-i.result in
    let left = place_in terms_in ps i k in
    let right = place_in terms_in qs i l in
    let tells = c.eq-is_same.ensures.decides
    (at_place (λ x. p.order ≡ x.order) qs
    (at_place (λ x. All (λ y. x.order ≡ y.order) qs) ps c.requires.orders i p k c.index-left-i.is)
    i q l c.index-right-i.is)
    (at_place (λ x. p.arity ≡ x.arity) qs
    (at_place (λ x. All (λ y. x.arity ≡ y.arity) qs) ps c.requires.arities i p k
    c.index-left-i.is) i q l c.index-right-i.is) in (
      λ t. agrees_more ℚ _ _ i left.0 right.0 (left.1 p c.index-left-i.is)
          (right.1 q c.index-right-i.is) c.loop-i.invariant (tells.0 t),
      λ f. agrees_not ℚ _ _ i left.0 right.0 (left.1 p c.index-left-i.is)
          (right.1 q c.index-right-i.is) c.loop-i.invariant (λ s. true≢false (sym (tells.1 s) ∙ f)),
    )

pub returns-then-not-is_same : goal.returns-then-not-is_same
returns-then-not-is_same g c = (
  λ t. absurd (true≢false (sym t)),
  λ h. absurd ((compared g (goal.at.returns-then-not-is_same g c).After-eq-is_same).1
      c.if-not-is_same.true h),
)

pub loop-i-preserved : goal.loop-i-preserved
loop-i-preserved g c =
    (compared g (goal.at.loop-i-preserved g c).After-eq-is_same).0 c.if-not-is_same.false

pub returns : goal.returns
returns g c = (
  λ t. agrees_end ℚ _ _ c.loop-i.i
      (omega (arith, c.loop-i-test.false, length-map c.args.left.now terms_in))
      (omega (arith, c.loop-i-test.false, c.requires.count, length-map c.args.right.now terms_in))
      c.loop-i.invariant,
  λ h. refl,
)
