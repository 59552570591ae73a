use Rattle.std.proofs.Common.{◌≡◌, ◌<◌, ℕ, length, ◌∙◌, refl, subst, false, IsTrue}
use Rattle.linear.proofs.Lists.{lead_here, lead_next}
use Rattle.linear.proofs.rows.lead_of.Goals as goal

apart : IsTrue false → ⊥
apart e = cc

within : (i n m : ℕ) {k : ℕ} → k ≡ m → n ≡ k → i < n → i < m
within i n m e f h = subst (λ x. i < x) (f ∙ e) h

pub returns-then-not-is_zero : goal.returns-then-not-is_zero
returns-then-not-is_zero c =
    lead_here c.loop-i.i c.args.row.now.items
    c.index.result.now (within c.loop-i.i c.len-i-end.result (length c.args.row.now.items)
    c.args.row.now.ok.0 c.len-i-end.ensures c.loop-i-test.true) c.index.ensures
    (λ z. apart (c.if-not-is_zero.ensures.1 z)) c.loop-i.invariant

pub loop-i-preserved : goal.loop-i-preserved
loop-i-preserved c =
    lead_next c.loop-i.i c.args.row.now.items c.index.result.now (within c.loop-i.i
    c.len-i-end.result (length c.args.row.now.items) c.args.row.now.ok.0 c.len-i-end.ensures
    c.loop-i-test.true) c.index.ensures (c.if-not-is_zero.ensures.0 refl) c.loop-i.invariant
