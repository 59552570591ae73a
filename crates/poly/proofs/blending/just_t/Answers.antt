use Rattle.std.proofs.lemmas.Result.{IfOk-weaker}
use Rattle.poly.proofs.Blends.{just_t_of}
use Rattle.poly.proofs.blending.just_t.Goals as goal

pub returns : goal.returns
returns c = record {
  ok = IfOk-weaker c.variable.result _ _ (λ t is. just_t_of t is) c.variable.ensures.ok;
}
