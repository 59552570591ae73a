use Rattle.std.proofs.Common.{length}
use Rattle.solvable.proofs.Classing.{grouping_first, iteration_smaller, iteration_more, iteration_done, lists, square_own}
use Rattle.solvable.proofs.groups.classes_of_uses.Goals as goal

pub loop-first-init : goal.loop-first-init
loop-first-init c =
    grouping_first c.args.used.items c.in_ok-reach.reach.items (length c.args.used.items)
    c.new-earlier.result.items c.new-groups.result.items c.requires c.in_ok-reach.ensures
    c.new-earlier.ensures.items c.new-groups.ensures.items

pub loop-first-smaller : goal.loop-first-smaller
loop-first-smaller c =
    iteration_smaller c.args.used.items c.in_ok-reach.reach.items (length c.args.used.items)
    c.in-Some.first c.loop-first.earlier.items c.as_slice.result.now
    c.extend_from_slice.new.self.items c.as_slice-in-Some.result.now
    c.loop-first.groups.items c.push.new.self.items c.in_ok-group.group c.as_slice.ensures.value
    c.as_slice-in-Some.ensures.value c.in_ok-extend_from_slice.ensures.items
    c.loop-first.invariant c.in-Some.ensures.some c.in_ok-group.ensures

pub loop-first-preserved : goal.loop-first-preserved
loop-first-preserved c =
    iteration_more c.args.used.items c.in_ok-reach.reach.items (length c.args.used.items)
    c.in-Some.first
    c.loop-first.earlier.items c.as_slice.result.now c.extend_from_slice.new.self.items
    c.as_slice-in-Some.result.now
    c.loop-first.groups.items c.push.new.self.items c.in_ok-group.group c.as_slice.ensures.value
    c.as_slice-in-Some.ensures.value c.in_ok-extend_from_slice.ensures.items
    c.loop-first.invariant c.in-Some.ensures.some c.in_ok-group.ensures
    c.in_ok-push.ensures.items

pub next-requires : goal.next-requires
next-requires c = square_own (length c.args.used.items) c.in_ok-reach.reach.items
    c.in_ok-reach.ensures.square

pub returns : goal.returns
returns c =
    iteration_done c.args.used.items c.in_ok-reach.reach.items (length c.args.used.items)
    c.loop-first.earlier.items c.as_slice.result.now (lists c.loop-first.groups.items)
    c.as_slice.ensures.value c.in_default.ensures.none c.loop-first.invariant
