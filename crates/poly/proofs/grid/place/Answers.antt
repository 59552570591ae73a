use Rattle.std.proofs.Common.{arith}
use Rattle.poly.proofs.GridSteps.{place_more, place_room, power_room, place_whole}
use Rattle.poly.proofs.grid.place.Goals as goal

pub overflow_mul-place : goal.overflow_mul-place
overflow_mul-place c = rw c.from.ensures
    (omega (
      arith,
      place_room c.args.base c.args.exponents.now c.loop-exponent.exponent-index _ _
          c.loop-exponent-test.true c.loop-exponent.invariant.so_far c.requires.inside
          c.requires.small,
    ))

pub overflow_add-place : goal.overflow_add-place
overflow_add-place c = rw c.from.ensures
    (omega (
      arith,
      place_room c.args.base c.args.exponents.now c.loop-exponent.exponent-index _ _
          c.loop-exponent-test.true c.loop-exponent.invariant.so_far c.requires.inside
          c.requires.small,
    ))

pub overflow_mul-unit : goal.overflow_mul-unit
overflow_mul-unit c =
    let next = power_room c.args.base c.args.exponents.now c.loop-exponent.exponent-index _ _
    c.loop-exponent-test.true c.loop-exponent.invariant.so_far c.requires.inside
    c.requires.small c.loop-exponent.invariant.power in
    omega (arith, next.1)

pub loop-exponent-preserved : goal.loop-exponent-preserved
loop-exponent-preserved c = record {
  power = (power_room c.args.base c.args.exponents.now c.loop-exponent.exponent-index _ _
      c.loop-exponent-test.true c.loop-exponent.invariant.so_far c.requires.inside
      c.requires.small c.loop-exponent.invariant.power).0;
  so_far = rw c.from.ensures (place_more c.args.base c.args.exponents.now
      c.loop-exponent.exponent-index _ _ c.loop-exponent-test.true
      c.loop-exponent.invariant.so_far);
}

pub returns : goal.returns
returns c = place_whole c.args.base c.args.exponents.now _ _ _ c.loop-exponent-test.false
    c.loop-exponent.invariant.so_far
