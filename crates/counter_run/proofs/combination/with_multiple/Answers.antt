use Rattle.frac128.specs.FracMeaning.{fraction_of}
use Rattle.counter_run.proofs.Combining.{adds_multiple}
use Rattle.counter_run.proofs.combination.with_multiple.Goals as goal

pub returns-in-Ok : goal.returns-in-Ok
returns-in-Ok c =
    adds_multiple (fraction_of c.args.number.now) c.args.image.now c.in-Ok.multiple c.args.so_far
    c.with.result c.in-Ok.ensures.product c.with.ensures
