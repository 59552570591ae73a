use Rattle.std.proofs.Common.{◌<◌, length, sym, subst, refl}
use Rattle.invariant_fix.specs.Code.{all}
use Rattle.invariant_fix.proofs.Assigned.{place_copy, place_itself, place_within}
use Rattle.invariant_fix.proofs.chain_code.CodeInWork.place_before.Goals as goal

pub returns-then-is_assigned-clause-place : goal.returns-then-is_assigned-clause-place
returns-then-is_assigned-clause-place c =
    let w = c.args.self.now in
    place_copy _ w.code.now c.args.var c.requires.var
    c.count_assigned.ensures.count (sym c.if-is_assigned.ensures)

pub returns-then-is_assigned-clause-within : goal.returns-then-is_assigned-clause-within
returns-then-is_assigned-clause-within c =
    let w = c.args.self.now in
    subst (λ n. n < all (length w.values.now) w.code.now) (sym (place_copy _ w.code.now c.args.var
    c.requires.var c.count_assigned.ensures.count (sym c.if-is_assigned.ensures)))
    (place_within _ w.code.now c.args.var c.requires.var)

pub returns-else-is_assigned-clause-place : goal.returns-else-is_assigned-clause-place
returns-else-is_assigned-clause-place c =
    let w = c.args.self.now in
    place_itself _ w.code.now c.args.var c.requires.var _ w.copies
    c.requires.work.count refl (sym c.if-is_assigned.ensures)

pub returns-else-is_assigned-clause-within : goal.returns-else-is_assigned-clause-within
returns-else-is_assigned-clause-within c =
    let w = c.args.self.now in
    subst (λ n. n < all (length w.values.now) w.code.now) (sym (place_itself _ w.code.now c.args.var
    c.requires.var _ w.copies c.requires.work.count refl (sym c.if-is_assigned.ensures)))
    (place_within _ w.code.now c.args.var c.requires.var)
