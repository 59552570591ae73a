use Rattle.std.proofs.Common.{length, IsTrue, false, Vec, Global, ℕ, ◌+◌, arith, subst, sym, refl}
use Rattle.solvable.specs.Tables.{at}
use Rattle.solvable.specs.Ready.{Mutual}
use Rattle.solvable.proofs.Classing.{Collected, collected_first, collected_more, collected_same, collected_group}
use Rattle.solvable.proofs.groups.class.Goals as goal
use Rattle.solvable.proofs.groups.class.Goals.{then-is_mutual+in_ok-push, else-is_mutual}

pub loop-other-init : goal.loop-other-init
loop-other-init c = collected_first (Mutual (at c.args.reach.now.items) c.args.variable)
    c.new-group.result.items c.new-group.ensures.items

apart : IsTrue false → ⊥
apart e = cc

pub loop-other-preserved : goal.loop-other-preserved
loop-other-preserved c =
    let P = Mutual (at c.args.reach.now.items) c.args.variable in
    elim c.if-is_mutual.branch [
      | then-is_mutual+in_ok-push w
          ↦ subst (λ (g : Vec ℕ Global). Collected P (c.loop-other.other + 1) g.items)
          (sym w.group-is)
          (collected_more P c.loop-other.other c.loop-other.group.items w.push.new.self.items
          w.in_ok-push.ensures.items (w.if-is_mutual.ensures.0 refl) c.loop-other.invariant)
      | else-is_mutual w
          ↦ subst (λ (g : Vec ℕ Global). Collected P (c.loop-other.other + 1) g.items)
          (sym w.group-is)
          (collected_same P c.loop-other.other c.loop-other.group.items
          (λ m. apart (w.if-is_mutual.ensures.1 m)) c.loop-other.invariant)
    ]

pub returns : goal.returns
returns c =
    collected_group (at c.args.reach.now.items) (length c.args.reach.now.items) c.loop-other.other
    c.args.variable c.loop-other.group.items
    (let e = c.len-other-end.ensures in let n = c.args.reach.now.ok.0 in let f =
    c.loop-other-test.false in omega (arith, e, n, f))
    (let e = c.len-other-end.ensures in let n = c.args.reach.now.ok.0 in let f =
    c.loop-other.auto.other-end in omega (arith, e, n, f)) c.loop-other.invariant
