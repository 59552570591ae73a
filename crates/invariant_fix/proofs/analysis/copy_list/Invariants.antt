use Rattle.std.proofs.Common.{◌≡◌, map, take}
use Rattle.poly.specs.Seen.{terms_each}
use Rattle.loop_model.specs.FracPoly.{FracPoly}
use Rattle.invariant_fix.proofs.analysis.copy_list.Given as goal

abbrev pub invariant-loop-poly : goal.invariant-loop-poly
invariant-loop-poly l = record {
  terms : terms_each l.out.items ≡ terms_each (take l.poly-index l.list);
  arity : map (λ (p : FracPoly). p.arity) l.out.items ≡ map (λ (p : FracPoly). p.arity)
      (take l.poly-index l.list);
}
