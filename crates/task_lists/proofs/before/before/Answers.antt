use Rattle.std.proofs.Common.{List, [], sym, subst}
use Rattle.poly.specs.Standing.{AllStandFor}
use Rattle.loop_model.specs.FracPoly.{FracPoly}
use Rattle.task_lists.specs.Shapes.{width_of}
use Rattle.task_lists.proofs.before.before.Goals as goal

pub returns : goal.returns
returns c = record {
  before = c.in_ok-push_before.ensures.before []
      (subst (λ (ps : List FracPoly). AllStandFor (width_of c.args.shape) ps [])
      (sym c.new-out.ensures.items) tt);
}
