use Rattle.std.proofs.Common.{◌≡◌, map, take}
use Rattle.poly.specs.Seen.{terms_each}
use Rattle.expo.specs.declared.exponential.Expo.{Expo}
use Rattle.loop_model.specs.FracPoly.{FracPoly}
use Rattle.task_lists.specs.Late.{bodies_in}
use Rattle.task_lists.proofs.late_form.bodies.Given as goal

abbrev pub invariant-loop-poly : goal.invariant-loop-poly
invariant-loop-poly l = record {
  terms : terms_each l.out.items ≡ bodies_in (take l.poly-index l.polys);
  arity : map (λ (p : FracPoly). p.arity) l.out.items ≡ map (λ (e : Expo). e.body.arity)
      (take l.poly-index l.polys);
}
