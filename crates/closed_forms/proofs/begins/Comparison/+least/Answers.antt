use Rattle.std.proofs.Common.{◌≡◌, inl, ◌<◌, ◌≤◌, ◌∙◌, ℕ, suc, ◌-◌, true, false, List, length, get_or, sym, ap, subst, arith}
use Rattle.std.proofs.lemmas.List.{length-map}
use Rattle.polynomials.specs.Terms.{Terms}
use Rattle.algebra.specs.Fraction.{Fraction}
use Rattle.closed_forms.specs.Known.{IsWideIteration}
use Rattle.closed_forms.specs.Comparison.{lists_by, list_at, AreMarkedBy, IsPastBy, IsSettlingBy}
use Rattle.closed_forms.specs.Settling.{IsSettled}
use Rattle.closed_forms.specs.States.{after}
use Rattle.closed_forms.proofs.Ending.{of_class}
use Rattle.closed_forms.proofs.Least.{settled_here, settling_before, wide_here}
use Rattle.closed_forms.proofs.Marks.{none_set, some_set}
use Rattle.closed_forms.proofs.begins.Comparison.+least.Goals as goal
use Rattle.closed_forms.proofs.begins.Comparison.+least.Goals.{After-contains}

module _ (t : ℕ) (c : After-contains t) {images : List (Terms Fraction)} {base : List ℕ}
    (h : IsSettlingBy c.args.self.now images base c.args.since) where
  one : c.args.since ≡ suc (c.args.since - 1)
  one = omega (arith, c.if-since-eq0.false)

  is : list_at c.args.self.now (c.args.since - 1) ≡ after images (c.args.since - 1)
  is =
      let a = c.requires in
      let n : length (lists_by c.args.self.now) ≡ length c.args.self.now.states.now.items =
      length-map c.args.self.now.states.now.items _ in
      h.states (c.args.since - 1) (omega (arith, a, n))

  count : length c.deref.result.now ≡ length c.args.self.now.polys.now.items
  count = ap length c.deref.ensures.value ∙ c.in-Ok.ensures.count

  marked : AreMarkedBy c.args.self.now (c.args.since - 1) c.deref.result.now
  marked = subst (AreMarkedBy c.args.self.now (c.args.since - 1)) (sym c.deref.ensures.value)
      c.in-Ok.ensures.marked

  stays : {z : ℕ} → c.args.since ≤ z
      → (i : ℕ) × (i < length c.deref.result.now) × (get_or c.deref.result.now i false ≡ true)
      → IsSettled images base c.args.self.now.polys.now.items z c.args.since
  stays few some = settled_here h one is c.deref.result.now count marked few some

  before : ((i : ℕ) → get_or c.deref.result.now i false ≡ false)
      → IsSettlingBy c.args.self.now images base (c.args.since - 1)
  before none = settling_before h one is c.deref.result.now count marked none

pub returns-then-contains-clause-settled : goal.returns-then-contains-clause-settled
returns-then-contains-clause-settled t c = λ images base z few h.
    stays t (goal.at.returns-then-contains-clause-settled t c).After-contains h few
    (some_set _ (sym c.contains.ensures.value ∙ c.if-contains.true))

pub returns-else-contains-clause-settled : goal.returns-else-contains-clause-settled
returns-else-contains-clause-settled t c = λ images base z few h.
    let at = (goal.at.returns-else-contains-clause-settled t c).After-contains in
    c.least.ensures.settled images base z (omega (arith, few)) (before t at h
    (none_set _ (sym c.contains.ensures.value ∙ c.if-contains.false)))

pub returns-else-contains-clause-refused : goal.returns-else-contains-clause-refused
returns-else-contains-clause-refused t c = λ images base z few h.
    let at = (goal.at.returns-else-contains-clause-refused t c).After-contains in
    c.least.ensures.refused images base z (omega (arith, few)) (before t at h
    (none_set _ (sym c.contains.ensures.value ∙ c.if-contains.false)))

pub returns-in-Err-clause-refused : goal.returns-in-Err-clause-refused
returns-in-Err-clause-refused t c = λ images base z few h.
    of_class (IsPastBy c.args.self.now (c.args.since - 1)) (IsWideIteration base images z)
    (λ v w. wide_here h v (omega (arith, c.if-since-eq0.false, few))
    (inl (omega (arith, c.if-since-eq0.false))) w) _ c.in-Err.ensures.refused
