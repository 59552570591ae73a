use Rattle.std.proofs.Common.{◌≤◌, ℕ, refl, sym, subst}
use Rattle.polynomials.specs.Polynomial.{Arity}
use Rattle.machines.specs.Front.{IsFreeOfFirst}
use Rattle.poly.specs.View.{term_of, terms_of}
use Rattle.poly.proofs.Retelling.{free_none, free_step, free_at}
use Rattle.algebra.proofs.Lists.{at_index, take_next}
use Rattle.poly.proofs.Steps.{arity_at}
use Rattle.poly.proofs.Poly.is_free_of_first.Goals as goal

pub loop-term-init : goal.loop-term-init
loop-term-init g c = free_none c.args.count _ refl

pub is_free_of_first-requires : goal.is_free_of_first-requires
is_free_of_first-requires g c =
    let whole = subst (λ ts. Arity c.args.self.now.arity (terms_of g.K.Ring.meaning ts))
    (sym c.deref-term-items.ensures.value) c.args.self.now.polynomial.arity in
    let long = arity_at c.args.self.now.arity _ _ _ _ whole (at_index (term_of g.K.Ring.meaning) _ _
    _ c.loop-term-test.true c.term-item.is) in
    subst (λ (n : ℕ). c.args.count ≤ n) (sym long) c.requires

pub returns-then-not-is_free_of_first : goal.returns-then-not-is_free_of_first
returns-then-not-is_free_of_first g c = (
  (λ t. absurd (let z : ⊥ = cc in z)),
  (λ f. absurd (
      let free = subst (λ ts. IsFreeOfFirst c.args.count (terms_of g.K.Ring.meaning ts))
      (sym c.deref-term-items.ensures.value) f in
      let here = free_at c.args.count _ _ _ _ (at_index (term_of g.K.Ring.meaning) _ _ _
      c.loop-term-test.true c.term-item.is) free in
      let yes = c.is_free_of_first.ensures.1 here in
      let z : ⊥ = cc in z)),
)

pub loop-term-preserved : goal.loop-term-preserved
loop-term-preserved g c = free_step c.args.count _ _ _ (take_next (term_of g.K.Ring.meaning) _ _ _
    c.loop-term-test.true c.term-item.is) (c.is_free_of_first.ensures.0 cc) c.loop-term.invariant
