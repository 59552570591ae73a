use Rattle.program_model.proofs.Inverting.{less_one_stops, less_one_is}
use Rattle.program_model.proofs.inverse.less_one.Goals as goal

pub returns-in_err-product : goal.returns-in_err-product
returns-in_err-product c m y h p q =
    less_one_stops m c.args.at y h c.args.left.now c.args.right.now p q
    c.in_err-product.field-0.0 c.from_residual.result c.from_residual.ensures.1
    c.in_err-product.ensures

pub returns : goal.returns
returns c m y h p q =
    less_one_is m c.args.at y h c.args.left.now c.args.right.now p q c.in_ok-product.product
    c.in_ok-one.one _ c.arity.result c.difference.result c.in_ok-product.ensures
    c.arity.ensures.arity
    c.in_ok-one.ensures.one c.difference.ensures
