use Rattle.std.proofs.Common.{◌≡◌, ◌⊎◌, inl, inr, ◌<◌, ℕ, length, drop, unsigned_abs, [], rules, SFits, sym, ap, subst}
use mir.Syntax.{w32}
use Rattle.std.proofs.lemmas.List.{drop_all}
use Rattle.std.proofs.lemmas.Int.{to_z-of_z}
use Rattle.exponentials.specs.Base.{Coprime}
use Rattle.exponentials.specs.Powers.{number}
use Rattle.frac128.specs.FracMeaning.{fraction_of}
use Rattle.coprime_base.specs.Sizes.{sizes}
use Rattle.coprime_base.proofs.Loop.{first_case, next_size, next_above, next_coprime, next_case, more_length, made_case, none_case}
use Rattle.coprime_base.proofs.exponents.Goals as goal

pub loop-whole-init : goal.loop-whole-init
loop-whole-init c = record {
  count = ap length c.new-found.ensures.items;
  coprime = subst Coprime (ap sizes (sym c.deref-whole-items.ensures.value)) c.requires.base;
  begun = first_case (fraction_of c.args.value.now) (sizes c.deref-whole-items.result.now)
      c.new-found.result.items c.parts-num.result.0 c.parts-num.result.1
      c.requires.positive c.parts-num.ensures.num c.parts-num.ensures.den c.new-found.ensures.items;
}

pub loop-whole-preserved : goal.loop-whole-preserved
loop-whole-preserved c =
    let rest = sizes (drop c.loop-whole.whole-index c.deref-whole-items.result.now) in
    let fits : SFits w32 c.exponent.result = search rules in
    let next = next_size c.loop-whole.whole-index c.deref-whole-items.result.now c.whole-item.result
    c.loop-whole-test.true c.whole-item.is in
    record {
      count = more_length c.loop-whole.found.items c.push.new.self.items c.exponent.result
          c.loop-whole.whole-index (simp to_z-of_z at c.in_ok-push.ensures.items)
          c.loop-whole.invariant.count;
      coprime = next_coprime (unsigned_abs c.whole-item.result.value) rest _ next
          c.loop-whole.invariant.coprime;
      begun = next_case (fraction_of c.args.value.now) (sizes c.deref-whole-items.result.now) rest _
          c.loop-whole.found.items c.push.new.self.items (unsigned_abs c.whole-item.result.value)
          c.size-by.result
          c.loop-whole.num c.loop-whole.den c.taken_out-over.result.0 c.taken_out-under.result.0
          c.taken_out-over.result.1 c.taken_out-under.result.1 c.exponent.result
          next c.size-by.ensures c.loop-whole.invariant.coprime
          c.taken_out-over.ensures.whole c.taken_out-over.ensures.over
          c.taken_out-under.ensures.whole c.taken_out-under.ensures.over
          c.exponent.ensures (simp to_z-of_z at c.in_ok-push.ensures.items)
          c.loop-whole.invariant.begun;
    }

pub taken_out-over-requires-clause-by : goal.taken_out-over-requires-clause-by
taken_out-over-requires-clause-by c =
    subst (λ n. 1 < n) (sym c.size-by.ensures)
    (next_above (unsigned_abs c.whole-item.result.value) _ _
    (next_size c.loop-whole.whole-index c.deref-whole-items.result.now c.whole-item.result
    c.loop-whole-test.true c.whole-item.is) c.loop-whole.invariant.coprime)

pub returns-then-den-eq1-clause-exponents : goal.returns-then-den-eq1-clause-exponents
returns-then-den-eq1-clause-exponents c =
    let end : drop c.loop-whole.whole-index c.deref-whole-items.result.now ≡ [] =
    drop_all c.loop-whole.whole-index c.deref-whole-items.result.now c.loop-whole-test.false in
    subst (λ ws. number (sizes ws) c.loop-whole.found.items ≡ fraction_of c.args.value.now)
    c.deref-whole-items.ensures.value
    (made_case (fraction_of c.args.value.now) (sizes c.deref-whole-items.result.now) _
    c.loop-whole.found.items c.loop-whole.num c.loop-whole.den c.requires.positive
    (ap sizes end) c.if-num-eq1.true c.if-den-eq1.true c.loop-whole.invariant.begun)

not_both : (m k : ℕ) → ((m ≡ 1) × (k ≡ 1 → ⊥)) ⊎ (m ≡ 1 → ⊥) → (m ≡ 1) × (k ≡ 1) → ⊥
not_both m k h b = elim h [ inl x ↦ x.1 b.1 | inr y ↦ y b.0 ]

pub returns-else-num-eq1-clause-none : goal.returns-else-num-eq1-clause-none
returns-else-num-eq1-clause-none c =
    let end : drop c.loop-whole.whole-index c.deref-whole-items.result.now ≡ [] =
    drop_all c.loop-whole.whole-index c.deref-whole-items.result.now c.loop-whole-test.false in
    λ is e h.
    none_case (fraction_of c.args.value.now) (sizes c.deref-whole-items.result.now) _
    c.loop-whole.found.items c.loop-whole.num c.loop-whole.den c.requires.positive
    (ap sizes end)
    (not_both c.loop-whole.num c.loop-whole.den c.else-num-eq1.either) c.loop-whole.invariant.begun
    e
    (subst (λ ws. number (sizes ws) e ≡ fraction_of c.args.value.now)
    (sym c.deref-whole-items.ensures.value) h)
