use Rattle.std.proofs.Common.{[], suc, length, arith, refl, sym, ap, subst, All}
use Rattle.std.proofs.lemmas.List.Elements.{All-append, All-nil, All-cons}
use Rattle.std.proofs.Math.Nat.{le-max_left, le-max_right}
use Rattle.flows.specs.Chart as chart
use Rattle.program_model.specs.Limits.{depth, depth_inside}
use Rattle.program_model.specs.WellFormed.{IsGuarded, IsBlock}
use Rattle.program_model.specs.SyntaxView.{step_of, guard_of}
use Rattle.program_model.specs.StatementView.{statement_of, block_of}
use Rattle.program_model.specs.Events.{Stops}
use Rattle.program_model.specs.Forming.{head_mark, block_events}
use Rattle.program_model.specs.UnderWay.{IsReady}
use Rattle.program_model.proofs.EventLaws.{handed_on}
use Rattle.program_model.proofs.StatementViews.{guarded_at, depth_at}
use Rattle.program_model.proofs.StatementSeen.{seen_do, seen_assert, seen_if, seen_while}
use Rattle.program_model.proofs.Behinds.{Makes_behind, block_begun, block_next, block_stops, block_done, with_paths, open_length, step_events_are, step_comes}
use Rattle.program_model.proofs.Pointed.{point_more}
use Rattle.program_model.proofs.Branching as branch
use Rattle.program_model.proofs.Looping as looping
use Rattle.program_model.proofs.Looping.{head_is, here_open, head_front, edges_here}
use Rattle.program_model.proofs.forming.+behind_block.Goals as goal

-- ---- some statements
pub behind_block-loop-statement-init : goal.behind_block-loop-statement-init
behind_block-loop-statement-init t c = block_begun c.args.variables _ c.requires.ready

pub behind_block-behind_statement-requires : goal.behind_block-behind_statement-requires
behind_block-behind_statement-requires t c =
    let same = c.deref-statement-items.ensures.value in
    let d = depth_at c.deref-statement-items.result.now c.loop-statement.statement-index
    c.statement-item.result c.loop-statement-test.true c.statement-item.is in
    let e = ap (λ ss. depth (block_of ss)) same in
    let k = c.decreases in (
      omega (arith, d, e, k),
      (
        c.requires.some,
        (
          c.requires.few,
          (
            c.loop-statement.invariant.ready,
            guarded_at c.args.variables c.deref-statement-items.result.now
                c.loop-statement.statement-index c.statement-item.result
                (subst (λ ss. IsBlock c.args.variables (block_of ss)) (sym same) c.requires.block)
                c.loop-statement-test.true c.statement-item.is,
          ),
        ),
      ),
    )

pub behind_block-loop-statement-preserved : goal.behind_block-loop-statement-preserved
behind_block-loop-statement-preserved t c =
    block_next c.args.variables c.args.front c.loop-statement.front
    c.deref-statement-items.result.now c.loop-statement.statement-index c.statement-item.result
    c.loop-statement-test.true c.statement-item.is c.loop-statement.invariant
    c.in_ok-front.front c.in_ok-front.ensures.ready
    (λ ps es os h. c.in_ok-front.ensures.makes ps es os h)

pub behind_block-returns-in_err-front-clause-makes :
    goal.behind_block-returns-in_err-front-clause-makes
behind_block-returns-in_err-front-clause-makes t c ps es os h =
    let x = c.in_err-front.field-0.0 in
    handed_on _ _ x _ c.from_residual.ensures.1
    (subst (λ ss. Stops (block_events c.args.variables (suc (length ps)) (length es) (block_of ss)
    os) x) c.deref-statement-items.ensures.value
    (block_stops c.args.variables c.args.front c.loop-statement.front
    c.deref-statement-items.result.now c.loop-statement.statement-index c.statement-item.result
    c.loop-statement-test.true c.statement-item.is c.loop-statement.invariant x
    (λ ps es os h. c.in_err-front.ensures.makes ps es os h) ps es os h))

pub behind_block-returns-clause-ready : goal.behind_block-returns-clause-ready
behind_block-returns-clause-ready t c = c.loop-statement.invariant.ready

pub behind_block-returns-clause-makes : goal.behind_block-returns-clause-makes
behind_block-returns-clause-makes t c ps es os h =
    (block_done c.args.variables c.args.front c.loop-statement.front
    c.deref-statement-items.result.now c.args.statements.now.items
    c.loop-statement.statement-index c.loop-statement-test.false
    c.deref-statement-items.ensures.value c.loop-statement.invariant).goes ps es os h

-- ---- a statement
pub behind_statement-step_all-requires-clause-step :
    goal.behind_statement-step_all-requires-clause-step
unfolding IsGuarded
behind_statement-step_all-requires-clause-step t c =
    subst (IsGuarded c.args.variables) (seen_do c.args.statement.now c.in-Do.step c.in-Do.is)
    c.requires.statement

pub behind_statement-returns-in_err-step_all-in-Do-clause-makes :
    goal.behind_statement-returns-in_err-step_all-in-Do-clause-makes
behind_statement-returns-in_err-step_all-in-Do-clause-makes t c =
    let n = c.args.variables in
    let g = step_of c.in-Do.step in
    let x = c.in_err-step_all-in-Do.field-0.0 in
    subst (λ s. Makes_behind n c.args.front s c.from_residual.result)
    (sym (seen_do c.args.statement.now c.in-Do.step c.in-Do.is))
    (λ ps es os h. handed_on _ _ x _ c.from_residual.ensures.1
    (subst (λ xs. Stops xs x) (sym (step_events_are n g ps es os))
    (c.in_err-step_all-in-Do.ensures.makes os h.paths)))

pub behind_statement-returns-in_ok-step_all-in-Do-clause-makes :
    goal.behind_statement-returns-in_ok-step_all-in-Do-clause-makes
behind_statement-returns-in_ok-step_all-in-Do-clause-makes t c ps es os h =
    let n = c.args.variables in
    let g = step_of c.in-Do.step in
    let x = c.in_ok-step_all-in-Do.ensures.makes os h.paths in
    step_comes n g (statement_of c.args.statement.now) ps es os c.args.front _
    (seen_do c.args.statement.now c.in-Do.step c.in-Do.is) h x.0 refl refl x.1

pub behind_statement-behind_assert-requires-clause-comparison :
    goal.behind_statement-behind_assert-requires-clause-comparison
unfolding IsGuarded
behind_statement-behind_assert-requires-clause-comparison t c =
    (subst (IsGuarded c.args.variables)
    (seen_assert c.args.statement.now c.in-Assert.at c.in-Assert.comparison c.in-Assert.is)
    c.requires.statement).1

pub behind_statement-returns-in-Assert-clause-makes :
    goal.behind_statement-returns-in-Assert-clause-makes
behind_statement-returns-in-Assert-clause-makes t c =
    let n = c.args.variables in
    subst (λ s. Makes_behind n c.args.front s c.behind_assert.result)
    (sym (seen_assert c.args.statement.now c.in-Assert.at c.in-Assert.comparison c.in-Assert.is))
    (λ ps es os h. c.behind_assert.ensures.makes ps es os h)

pub behind_statement-behind_branch-requires : goal.behind_statement-behind_branch-requires
unfolding IsGuarded depth_inside
behind_statement-behind_branch-requires t c =
    let i = c.in-If in
    let is = seen_if c.args.statement.now i.at i.guard i.inner i.other i.is in
    let f = subst (IsGuarded c.args.variables) is c.requires.statement in
    let e = ap depth_inside is in
    let k = c.decreases in (
      omega (arith, e, k),
      (c.requires.some, (c.requires.few, (c.requires.ready, (f.0, (f.1, f.2))))),
    )

pub behind_statement-behind_loop-requires : goal.behind_statement-behind_loop-requires
unfolding IsGuarded depth_inside
behind_statement-behind_loop-requires t c =
    let i = c.in-While in
    let is = seen_while c.args.statement.now i.at i.guard i.body i.is in
    let f = subst (IsGuarded c.args.variables) is c.requires.statement in
    let e = ap depth_inside is in
    let k = c.decreases in
    (omega (arith, e, k), (c.requires.some, (c.requires.few, (c.requires.ready, (f.0, f.1)))))

pub behind_statement-returns-in-If-clause-makes : goal.behind_statement-returns-in-If-clause-makes
behind_statement-returns-in-If-clause-makes t c =
    let i = c.in-If in
    subst (λ s. Makes_behind c.args.variables c.args.front s c.behind_branch.result)
    (sym (seen_if c.args.statement.now i.at i.guard i.inner i.other i.is))
    (λ ps es os h. c.behind_branch.ensures.makes ps es os h)

pub behind_statement-returns-in-While-clause-makes :
    goal.behind_statement-returns-in-While-clause-makes
behind_statement-returns-in-While-clause-makes t c =
    let i = c.in-While in
    subst (λ s. Makes_behind c.args.variables c.args.front s c.behind_loop.result)
    (sym (seen_while c.args.statement.now i.at i.guard i.body i.is))
    (λ ps es os h. c.behind_loop.ensures.makes ps es os h)

-- ---- if
pub behind_branch-returns-then-len-gt-MOST_SPLIT-clause-makes :
    goal.behind_branch-returns-then-len-gt-MOST_SPLIT-clause-makes
behind_branch-returns-then-len-gt-MOST_SPLIT-clause-makes t c ps es os h =
    let n = c.args.variables in
    let o = open_length n os c.args.front.paths.items h.paths in
    let l = c.len.ensures in
    let m = c.args.front.paths.ok.0 in
    let k = c.if-len-gt-MOST_SPLIT.true in
    branch.branch_splits n c.args.at (guard_of c.args.guard.now) (block_of c.args.inner.now.items)
    (block_of c.args.other.now.items) ps es os (omega (arith, o, l, m, k))

pub behind_branch-behind_block-requires : goal.behind_branch-behind_block-requires
behind_branch-behind_block-requires t c =
    let a = depth (block_of c.args.inner.now.items) in
    let b = depth (block_of c.args.other.now.items) in
    let l = le-max_left a b in
    let k = c.decreases in (
      omega (arith, l, k),
      (c.requires.some, (c.requires.few, (c.in_ok-enter_all.ensures.ready, c.requires.inner))),
    )

pub behind_branch-returns-in_err-enter_all-clause-makes :
    goal.behind_branch-returns-in_err-enter_all-clause-makes
behind_branch-returns-in_err-enter_all-clause-makes t c ps es os h =
    let n = c.args.variables in
    let o = open_length n os c.args.front.paths.items h.paths in
    let l = c.len.ensures in
    let m = c.args.front.paths.ok.0 in
    let k = c.if-len-gt-MOST_SPLIT.false in
    let x = c.in_err-enter_all.field-0.0 in
    handed_on _ _ x _ c.from_residual-in_err-enter_all.ensures.1
    (branch.branch_enters n c.args.at (guard_of c.args.guard.now)
    (block_of c.args.inner.now.items) (block_of c.args.other.now.items) ps es os
    (λ g. omega (arith, o, l, m, k, g)) x (c.in_err-enter_all.ensures.makes os h.paths))

pub behind_branch-returns-in_err-inside-clause-makes :
    goal.behind_branch-returns-in_err-inside-clause-makes
behind_branch-returns-in_err-inside-clause-makes t c ps es os h =
    let n = c.args.variables in
    let o = open_length n os c.args.front.paths.items h.paths in
    let l = c.len.ensures in
    let m = c.args.front.paths.ok.0 in
    let k = c.if-len-gt-MOST_SPLIT.false in
    let x1 = c.in_ok-enter_all.ensures.makes os h.paths in
    let x = c.in_err-inside.field-0.0 in
    handed_on _ _ x _ c.from_residual-in_err-inside.ensures.1
    (branch.branch_inside n c.args.at (guard_of c.args.guard.now)
    (block_of c.args.inner.now.items) (block_of c.args.other.now.items) ps es os
    (λ g. omega (arith, o, l, m, k, g)) x1.1 x
    (c.in_err-inside.ensures.makes ps es _
    (with_paths n ps es os _ c.args.front _ h x1.0 refl refl)))

pub behind_branch-leave_all-requires-clause-ready :
    goal.behind_branch-leave_all-requires-clause-ready
behind_branch-leave_all-requires-clause-ready t c =
    c.in_ok-outside.ensures.ready c.args.variables c.requires.ready

pub behind_branch-returns-in_err-leave_all-clause-makes :
    goal.behind_branch-returns-in_err-leave_all-clause-makes
behind_branch-returns-in_err-leave_all-clause-makes t c ps es os h =
    let n = c.args.variables in
    let o = open_length n os c.args.front.paths.items h.paths in
    let l = c.len.ensures in
    let m = c.args.front.paths.ok.0 in
    let k = c.if-len-gt-MOST_SPLIT.false in
    let x1 = c.in_ok-enter_all.ensures.makes os h.paths in
    let x2 = c.in_ok-inside.ensures.makes ps es _
    (with_paths n ps es os _ c.args.front _ h x1.0 refl refl) in
    let x = c.in_err-leave_all.field-0.0 in
    handed_on _ _ x _ c.from_residual-in_err-leave_all.ensures.1
    (branch.branch_leaves n c.args.at (guard_of c.args.guard.now)
    (block_of c.args.inner.now.items) (block_of c.args.other.now.items) ps es os
    (λ g. omega (arith, o, l, m, k, g)) x1.1 x2.1 x
    (c.in_err-leave_all.ensures.makes os (c.in_ok-outside.ensures.paths n os h.paths)))

pub behind_branch-behind_block-requires-2 : goal.behind_branch-behind_block-requires-2
behind_branch-behind_block-requires-2 t c =
    let a = depth (block_of c.args.inner.now.items) in
    let b = depth (block_of c.args.other.now.items) in
    let l = le-max_right a b in
    let k = c.decreases in (
      omega (arith, l, k),
      (c.requires.some, (c.requires.few, (c.in_ok-leave_all.ensures.ready, c.requires.other))),
    )

pub behind_branch-returns-in_err-front-clause-makes :
    goal.behind_branch-returns-in_err-front-clause-makes
behind_branch-returns-in_err-front-clause-makes t c ps es os h =
    let n = c.args.variables in
    let o = open_length n os c.args.front.paths.items h.paths in
    let l = c.len.ensures in
    let m = c.args.front.paths.ok.0 in
    let k = c.if-len-gt-MOST_SPLIT.false in
    let x1 = c.in_ok-enter_all.ensures.makes os h.paths in
    let x2 = c.in_ok-inside.ensures.makes ps es _
    (with_paths n ps es os _ c.args.front _ h x1.0 refl refl) in
    let x3 = c.in_ok-leave_all.ensures.makes os (c.in_ok-outside.ensures.paths n os h.paths) in
    let x = c.in_err-front.field-0.0 in
    handed_on _ _ x _ c.from_residual-in_err-front.ensures.1
    (branch.branch_outside n c.args.at (guard_of c.args.guard.now)
    (block_of c.args.inner.now.items) (block_of c.args.other.now.items) ps es os
    (λ g. omega (arith, o, l, m, k, g)) x1.1 x2.1 x3.1 x
    (c.in_err-front.ensures.makes _ _ _
    (with_paths n _ _ _ _ c.in_ok-inside.inside _ x2.0 x3.0 refl refl)))

pub behind_branch-returns-then-len-gt-MOST_OPEN-clause-makes :
    goal.behind_branch-returns-then-len-gt-MOST_OPEN-clause-makes
behind_branch-returns-then-len-gt-MOST_OPEN-clause-makes t c ps es os h =
    let n = c.args.variables in
    let o = open_length n os c.args.front.paths.items h.paths in
    let l = c.len.ensures in
    let m = c.args.front.paths.ok.0 in
    let k = c.if-len-gt-MOST_SPLIT.false in
    let x1 = c.in_ok-enter_all.ensures.makes os h.paths in
    let x2 = c.in_ok-inside.ensures.makes ps es _
    (with_paths n ps es os _ c.args.front _ h x1.0 refl refl) in
    let x3 = c.in_ok-leave_all.ensures.makes os (c.in_ok-outside.ensures.paths n os h.paths) in
    let x4 = c.in_ok-front.ensures.makes _ _ _
    (with_paths n _ _ _ _ c.in_ok-inside.inside _ x2.0 x3.0 refl refl) in
    let u = open_length n _ c.in_ok-inside.inside.paths.items x2.0.paths in
    let v = open_length n _ c.in_ok-front.front.paths.items x4.0.paths in
    let w = branch.open_count n c.args.at (guard_of c.args.guard.now)
    (block_of c.args.inner.now.items) (block_of c.args.other.now.items) ps es os _ _
    c.append.new.self.items u v c.in_ok-append.ensures.items in
    let a = c.len-2.ensures in
    let b = c.append.new.self.ok.0 in
    let d = c.if-len-gt-MOST_OPEN.true in
    branch.branch_opens n c.args.at (guard_of c.args.guard.now)
    (block_of c.args.inner.now.items) (block_of c.args.other.now.items) ps es os
    (λ g. omega (arith, o, l, m, k, g)) x1.1 x2.1 x3.1 x4.1 (omega (arith, w, a, b, d))

pub behind_branch-returns-clause-ready : goal.behind_branch-returns-clause-ready
behind_branch-returns-clause-ready t c =
    subst (All (IsReady c.args.variables)) (sym c.in_ok-append.ensures.items)
    (All-append (IsReady c.args.variables) _ _ c.in_ok-inside.ensures.ready
    c.in_ok-front.ensures.ready)

pub behind_branch-returns-clause-makes : goal.behind_branch-returns-clause-makes
behind_branch-returns-clause-makes t c ps es os h =
    let n = c.args.variables in
    let at = c.args.at in
    let g = guard_of c.args.guard.now in
    let ia = block_of c.args.inner.now.items in
    let ib = block_of c.args.other.now.items in
    let o = open_length n os c.args.front.paths.items h.paths in
    let l = c.len.ensures in
    let m = c.args.front.paths.ok.0 in
    let k = c.if-len-gt-MOST_SPLIT.false in
    let x1 = c.in_ok-enter_all.ensures.makes os h.paths in
    let x2 = c.in_ok-inside.ensures.makes ps es _
    (with_paths n ps es os _ c.args.front _ h x1.0 refl refl) in
    let x3 = c.in_ok-leave_all.ensures.makes os (c.in_ok-outside.ensures.paths n os h.paths) in
    let x4 = c.in_ok-front.ensures.makes _ _ _
    (with_paths n _ _ _ _ c.in_ok-inside.inside _ x2.0 x3.0 refl refl) in
    let u = open_length n _ c.in_ok-inside.inside.paths.items x2.0.paths in
    let v = open_length n _ c.in_ok-front.front.paths.items x4.0.paths in
    let w = branch.open_count n at g ia ib ps es os _ _ c.append.new.self.items u v
    c.in_ok-append.ensures.items in
    let a = c.len-2.ensures in
    let b = c.append.new.self.ok.0 in
    let d = c.if-len-gt-MOST_OPEN.false in (
      branch.branch_front n at g ia ib ps es os c.in_ok-front.front
          c.in_ok-inside.inside.paths.items _ x4.0 x2.0.paths refl refl
          c.in_ok-append.ensures.items,
      branch.branch_free n at g ia ib ps es os (λ g. omega (arith, o, l, m, k, g)) x1.1 x2.1 x3.1
          x4.1 (λ g. omega (arith, w, a, b, d, g)),
    )

-- ---- while

pub behind_loop-returns-in_err-transitions-clause-makes :
    goal.behind_loop-returns-in_err-transitions-clause-makes
behind_loop-returns-in_err-transitions-clause-makes t c ps es os h =
    let n = c.args.variables in
    let at = c.args.at in
    let g = guard_of c.args.guard.now in
    let a = block_of c.args.body.now.items in
    let p = point_more n ps (head_mark at) c.args.front.points.items c.push.new.self.items _
    c.in_ok-push.ensures.items h.points (record { at = refl; goal = tt }) in
    let l = c.len-head.ensures in
    let m = c.push.new.self.ok.0 in
    let i = head_is n ps (head_mark at) c.push.new.self.items c.len-head.result p
    (omega (arith, l, m)) in
    let x = c.in_err-transitions.field-0.0 in
    handed_on _ _ x _ c.from_residual-in_err-transitions.ensures.1
    (looping.loop_closes n at g a ps es os x (c.in_err-transitions.ensures n es os h.edges h.paths))

pub behind_loop-returns-in_err-enter_all-clause-makes :
    goal.behind_loop-returns-in_err-enter_all-clause-makes
behind_loop-returns-in_err-enter_all-clause-makes t c ps es os h =
    let n = c.args.variables in
    let at = c.args.at in
    let g = guard_of c.args.guard.now in
    let a = block_of c.args.body.now.items in
    let p = point_more n ps (head_mark at) c.args.front.points.items c.push.new.self.items _
    c.in_ok-push.ensures.items h.points (record { at = refl; goal = tt }) in
    let l = c.len-head.ensures in
    let m = c.push.new.self.ok.0 in
    let i = head_is n ps (head_mark at) c.push.new.self.items c.len-head.result p
    (omega (arith, l, m)) in
    let x0 = c.in_ok-transitions.ensures n es os h.edges h.paths in
    let o = here_open n c.len-head.result _ _ _ i c.in_ok-here.ensures.items
    c.in_ok-begin.ensures.ready c.in_ok-begin.ensures.way in
    let x = c.in_err-enter_all.field-0.0 in
    handed_on _ _ x _ c.from_residual-in_err-enter_all.ensures.1
    (looping.loop_enters n at g a ps es os x0.1 x (c.in_err-enter_all.ensures.makes
    (chart.at (suc (length ps))) o))

pub behind_loop-behind_block-requires : goal.behind_loop-behind_block-requires
behind_loop-behind_block-requires t c =
    let k = c.decreases in (
      omega (arith, k),
      (c.requires.some, (c.requires.few, (c.in_ok-enter_all.ensures.ready, c.requires.body))),
    )

pub behind_loop-returns-in_err-inside-clause-makes :
    goal.behind_loop-returns-in_err-inside-clause-makes
behind_loop-returns-in_err-inside-clause-makes t c ps es os h =
    let n = c.args.variables in
    let at = c.args.at in
    let g = guard_of c.args.guard.now in
    let a = block_of c.args.body.now.items in
    let p = point_more n ps (head_mark at) c.args.front.points.items c.push.new.self.items _
    c.in_ok-push.ensures.items h.points (record { at = refl; goal = tt }) in
    let l = c.len-head.ensures in
    let m = c.push.new.self.ok.0 in
    let i = head_is n ps (head_mark at) c.push.new.self.items c.len-head.result p
    (omega (arith, l, m)) in
    let x0 = c.in_ok-transitions.ensures n es os h.edges h.paths in
    let o = here_open n c.len-head.result _ _ _ i c.in_ok-here.ensures.items
    c.in_ok-begin.ensures.ready c.in_ok-begin.ensures.way in
    let x1 = c.in_ok-enter_all.ensures.makes (chart.at (suc (length ps))) o in
    let x = c.in_err-inside.field-0.0 in
    handed_on _ _ x _ c.from_residual-in_err-inside.ensures.1
    (looping.loop_inside n at g a ps es os x0.1 x1.1 x (c.in_err-inside.ensures.makes _ _ _
    (head_front n ps es os at c.args.front _ (suc (length ps)) _ p
    (edges_here n es os c.len-head.result _ _ i x0.0) x1.0)))

pub behind_loop-returns-in_err-transitions-2-clause-makes :
    goal.behind_loop-returns-in_err-transitions-2-clause-makes
behind_loop-returns-in_err-transitions-2-clause-makes t c ps es os h =
    let n = c.args.variables in
    let at = c.args.at in
    let g = guard_of c.args.guard.now in
    let a = block_of c.args.body.now.items in
    let p = point_more n ps (head_mark at) c.args.front.points.items c.push.new.self.items _
    c.in_ok-push.ensures.items h.points (record { at = refl; goal = tt }) in
    let l = c.len-head.ensures in
    let m = c.push.new.self.ok.0 in
    let i = head_is n ps (head_mark at) c.push.new.self.items c.len-head.result p
    (omega (arith, l, m)) in
    let x0 = c.in_ok-transitions.ensures n es os h.edges h.paths in
    let o = here_open n c.len-head.result _ _ _ i c.in_ok-here.ensures.items
    c.in_ok-begin.ensures.ready c.in_ok-begin.ensures.way in
    let x1 = c.in_ok-enter_all.ensures.makes (chart.at (suc (length ps))) o in
    let x2 = c.in_ok-inside.ensures.makes _ _ _
    (head_front n ps es os at c.args.front _ (suc (length ps)) _ p
    (edges_here n es os c.len-head.result _ _ i x0.0) x1.0) in
    let x = c.in_err-transitions-2.field-0.0 in
    handed_on _ _ x _ c.from_residual-in_err-transitions-2.ensures.1
    (looping.loop_ends n at g a ps es os x0.1 x1.1 x2.1 x
    (c.in_err-transitions-2.ensures n _ _ x2.0.edges x2.0.paths))

pub behind_loop-leave_all-requires-clause-ready : goal.behind_loop-leave_all-requires-clause-ready
behind_loop-leave_all-requires-clause-ready t c =
    c.in_ok-outside.ensures.ready c.args.variables
    (subst (All (IsReady c.args.variables)) (sym c.in_ok-here.ensures.items)
    (All-cons (IsReady c.args.variables) _ [] c.in_ok-begin.ensures.ready
    (All-nil (IsReady c.args.variables))))

pub behind_loop-returns-in_err-leave_all-clause-makes :
    goal.behind_loop-returns-in_err-leave_all-clause-makes
behind_loop-returns-in_err-leave_all-clause-makes t c ps es os h =
    let n = c.args.variables in
    let at = c.args.at in
    let g = guard_of c.args.guard.now in
    let a = block_of c.args.body.now.items in
    let p = point_more n ps (head_mark at) c.args.front.points.items c.push.new.self.items _
    c.in_ok-push.ensures.items h.points (record { at = refl; goal = tt }) in
    let l = c.len-head.ensures in
    let m = c.push.new.self.ok.0 in
    let i = head_is n ps (head_mark at) c.push.new.self.items c.len-head.result p
    (omega (arith, l, m)) in
    let x0 = c.in_ok-transitions.ensures n es os h.edges h.paths in
    let o = here_open n c.len-head.result _ _ _ i c.in_ok-here.ensures.items
    c.in_ok-begin.ensures.ready c.in_ok-begin.ensures.way in
    let x1 = c.in_ok-enter_all.ensures.makes (chart.at (suc (length ps))) o in
    let x2 = c.in_ok-inside.ensures.makes _ _ _
    (head_front n ps es os at c.args.front _ (suc (length ps)) _ p
    (edges_here n es os c.len-head.result _ _ i x0.0) x1.0) in
    let x3 = c.in_ok-transitions-2.ensures n _ _ x2.0.edges x2.0.paths in
    let x = c.in_err-leave_all.field-0.0 in
    handed_on _ _ x _ c.from_residual-in_err-leave_all.ensures.1
    (looping.loop_leaves n at g a ps es os x0.1 x1.1 x2.1 x3.1 x
    (c.in_err-leave_all.ensures.makes (chart.at (suc (length ps)))
    (c.in_ok-outside.ensures.paths n (chart.at (suc (length ps))) o)))

pub behind_loop-returns-clause-makes : goal.behind_loop-returns-clause-makes
behind_loop-returns-clause-makes t c ps es os h =
    let n = c.args.variables in
    let at = c.args.at in
    let g = guard_of c.args.guard.now in
    let a = block_of c.args.body.now.items in
    let p = point_more n ps (head_mark at) c.args.front.points.items c.push.new.self.items _
    c.in_ok-push.ensures.items h.points (record { at = refl; goal = tt }) in
    let l = c.len-head.ensures in
    let m = c.push.new.self.ok.0 in
    let i = head_is n ps (head_mark at) c.push.new.self.items c.len-head.result p
    (omega (arith, l, m)) in
    let x0 = c.in_ok-transitions.ensures n es os h.edges h.paths in
    let o = here_open n c.len-head.result _ _ _ i c.in_ok-here.ensures.items
    c.in_ok-begin.ensures.ready c.in_ok-begin.ensures.way in
    let x1 = c.in_ok-enter_all.ensures.makes (chart.at (suc (length ps))) o in
    let x2 = c.in_ok-inside.ensures.makes _ _ _
    (head_front n ps es os at c.args.front _ (suc (length ps)) _ p
    (edges_here n es os c.len-head.result _ _ i x0.0) x1.0) in
    let x3 = c.in_ok-transitions-2.ensures n _ _ x2.0.edges x2.0.paths in
    let x4 = c.in_ok-leave_all.ensures.makes (chart.at (suc (length ps)))
    (c.in_ok-outside.ensures.paths n (chart.at (suc (length ps))) o) in (
      looping.loop_front n at g a ps es os _ x2.0.points
          (edges_here n _ _ c.len-head.result _ _ i x3.0) x4.0,
      looping.loop_free n at g a ps es os x0.1 x1.1 x2.1 x3.1 x4.1,
    )
