use Rattle.std.proofs.Common.{◌≤◌, length, refl, sym, ap, ap₂, subst, ◌∙◌, arith}
use Rattle.complete.specs.declared.pair.Parts.{Parts}
use Rattle.complete.specs.Pairs.{pair_of, rows_of, Stands}
use Rattle.complete.specs.Table.{without}
use Rattle.complete.proofs.Tables.{without_long}
use Rattle.complete.proofs.Walking.{seen_drop, seen_end, told_behind, settled_here, settled_next, settled_none, both_ends}
use Rattle.complete.proofs.pairs.covered_count.Goals as goal

pub loop-i-init : goal.loop-i-init
loop-i-init c = (refl, c.requires.told, c.requires.count)

pub take-requires-clause-apart : goal.take-requires-clause-apart
take-requires-clause-apart c =
    let s = subst (Stands c.args.leads.now) (sym c.index-list-i.is)
    (c.requires.stand c.loop-i.i c.index-list-i.result c.loop-i-test.true) in
    let first = s.left_first in
    let left = ap (λ (p : Parts). p.left) c.deref.ensures in
    let right = ap (λ (p : Parts). p.right) c.deref-in-loop-i.ensures in
    omega (arith, first, left, right)

pub take-requires-clause-inside : goal.take-requires-clause-inside
take-requires-clause-inside c =
    let s = subst (Stands c.args.leads.now) (sym c.index-list-i.is)
    (c.requires.stand c.loop-i.i c.index-list-i.result c.loop-i-test.true) in
    let right = s.right_in in
    let count = c.loop-i.invariant.2 in
    let is = ap (λ (p : Parts). p.right) c.deref-in-loop-i.ensures in
    omega (arith, right, count, is)

pub returns-then-not-is_covered-clause-settled : goal.returns-then-not-is_covered-clause-settled
returns-then-not-is_covered-clause-settled c =
    let s = subst (Stands c.args.leads.now) (sym c.index-list-i.is)
    (c.requires.stand c.loop-i.i c.index-list-i.result c.loop-i-test.true) in
    let right = s.right_in in
    let i = c.loop-i.invariant in
    let count = i.2 in
    let taken = c.take.ensures
    ∙ ap₂ (λ (p q : Parts). without (rows_of c.loop-i.table) p.left q.right) c.deref.ensures
    c.deref-in-loop-i.ensures in
    let told = told_behind c.args.list.now c.loop-i.i c.index-list-i.result _ _ c.loop-i-test.true
    c.index-list-i.is taken s.left_first (omega (arith, right, count)) c.loop-i.table.triangle
    c.requires.once
    i.1 in
    i.0 ∙ settled_here c.args.leads.now _ _ _ (seen_drop pair_of c.args.list.now c.loop-i.i
    c.index-list-i.result c.loop-i-test.true c.index-list-i.is)
    (sym (c.is_covered.ensures _ told) ∙ c.if-not-is_covered.true)

pub returns-then-not-is_covered-clause-told : goal.returns-then-not-is_covered-clause-told
returns-then-not-is_covered-clause-told c = λ l.
    let s = subst (Stands c.args.leads.now) (sym c.index-list-i.is)
    (c.requires.stand c.loop-i.i c.index-list-i.result c.loop-i-test.true) in
    let right = s.right_in in
    let i = c.loop-i.invariant in
    let count = i.2 in
    let taken = c.take.ensures
    ∙ ap₂ (λ (p q : Parts). without (rows_of c.loop-i.table) p.left q.right) c.deref.ensures
    c.deref-in-loop-i.ensures in
    told_behind c.args.list.now c.loop-i.i c.index-list-i.result _ _ l c.index-list-i.is taken
    s.left_first (omega (arith, right, count)) c.loop-i.table.triangle c.requires.once i.1

pub loop-i-preserved : goal.loop-i-preserved
loop-i-preserved c =
    let s = subst (Stands c.args.leads.now) (sym c.index-list-i.is)
    (c.requires.stand c.loop-i.i c.index-list-i.result c.loop-i-test.true) in
    let right = s.right_in in
    let i = c.loop-i.invariant in
    let count = i.2 in
    let taken = c.take.ensures
    ∙ ap₂ (λ (p q : Parts). without (rows_of c.loop-i.table) p.left q.right) c.deref.ensures
    c.deref-in-loop-i.ensures in
    let told = told_behind c.args.list.now c.loop-i.i c.index-list-i.result _ _ c.loop-i-test.true
    c.index-list-i.is taken s.left_first (omega (arith, right, count)) c.loop-i.table.triangle
    c.requires.once
    i.1 in (
      i.0 ∙ settled_next c.args.leads.now _ _ _ (seen_drop pair_of c.args.list.now c.loop-i.i
          c.index-list-i.result c.loop-i-test.true c.index-list-i.is)
          (sym (c.is_covered.ensures _ told) ∙ c.if-not-is_covered.false),
      told,
      ap length taken ∙ without_long _ c.index-list-i.result.parts.value.left
          c.index-list-i.result.parts.value.right ∙ i.2,
    )

pub returns-clause-settled : goal.returns-clause-settled
returns-clause-settled c =
    let out : length c.args.list.now ≤ c.loop-i.i = let e = c.loop-i-test.false in
    omega (arith, e) in
    c.loop-i.invariant.0
    ∙ settled_none c.args.leads.now _ (seen_end pair_of c.args.list.now c.loop-i.i out)
    ∙ both_ends pair_of c.args.list.now c.loop-i.i out
