use Rattle.std.proofs.Common.{Err, ap, ap₂, ◌∙◌}
use Rattle.polynomials.specs.Exponent.{plus}
use Rattle.solvable_maps.proofs.Exponents.{unit_is}
use Rattle.task_lists.proofs.UnitProducts.{product_fits}
use Rattle.task_lists.proofs.relations.product_of.Goals as goal

pub returns-in-Ok : goal.returns-in-Ok
returns-in-Ok c = record {
  product = c.in-Ok.ensures.ok
      ∙ ap₂ plus (unit_is _ _ _ c.requires.left c.in_ok-one.ensures.ok)
      (unit_is _ _ _ c.requires.right c.in_ok-other.ensures.ok);
}

pub unreachable-requires : goal.unreachable-requires
unreachable-requires c =
    c.in-Err-Wide.ensures.wide.0 (ap Err c.in-Err-Wide.field-0-is) (product_fits c.args.arity
    c.args.left c.args.right c.in_ok-one.one (unit_is _ _ _ c.requires.left c.in_ok-one.ensures.ok)
    (unit_is _ _ _ c.requires.right c.in_ok-other.ensures.ok))
