use Rattle.std.proofs.Common.{◌∙◌}
use Rattle.monos.proofs.LaneSteps.{compare_same, lane_within, lane_decides}
use Rattle.monos.proofs.lanes.compare_lanes.Goals as goal

pub returns-then-left-right : goal.returns-then-left-right
returns-then-left-right c = compare_same c.args.room c.args.count c.args.left c.args.right
    c.if-left-right.true

pub overflow_shr-left : goal.overflow_shr-left
overflow_shr-left c = lane_within c.args.room c.args.count c.args.left c.args.right
    c.ranges.left.fits c.ranges.right.fits c.requires.left_fits c.requires.right_fits
    c.if-left-right.false c.lane_start-at.ensures

pub overflow_shr-right : goal.overflow_shr-right
overflow_shr-right c = lane_within c.args.room c.args.count c.args.left c.args.right
    c.ranges.left.fits c.ranges.right.fits c.requires.left_fits c.requires.right_fits
    c.if-left-right.false c.lane_start-at.ensures

pub returns : goal.returns
returns c = c.cmp.ensures
    ∙ lane_decides c.args.room c.args.count c.args.left c.args.right
    c.ranges.left.fits c.ranges.right.fits c.requires.left_fits c.requires.right_fits
    c.if-left-right.false c.lane_start-at.ensures c.lowest_bits.ensures c.lowest_bits-2.ensures
