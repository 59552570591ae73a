use Rattle.std.proofs.Common.{arith}
use Rattle.invariant_fix.proofs.Places.{found_here, found_later, look_end}
use Rattle.invariant_fix.proofs.relations_ordering.place_in.Goals as goal

pub returns-then-place-var : goal.returns-then-place-var
returns-then-place-var c =
    let e = found_here _ _ c.args.var c.loop-place-test.true c.if-place-var.true in
    let f = c.loop-place.invariant.rest in
    omega (arith, e, f)

pub loop-place-preserved : goal.loop-place-preserved
loop-place-preserved c =
    let e = found_later _ _ c.args.var c.loop-place-test.true c.if-place-var.false in
    let f = c.loop-place.invariant.rest in
    let g = c.loop-place.invariant.at in
    record { at = omega (arith, g); rest = omega (arith, e, f) }

pub returns : goal.returns
returns c =
    let e = look_end c.args.places.now _ c.args.var c.loop-place-test.false
    in
    let f = c.loop-place.invariant.rest in
    omega (arith, e, f)
