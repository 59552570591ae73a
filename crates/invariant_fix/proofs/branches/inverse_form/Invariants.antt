use Rattle.std.proofs.Common.{◌≡◌, map, take, length}
use Rattle.polynomials.specs.Order.{grevlex}
use Rattle.poly.specs.Seen.{terms_in, terms_each}
use Rattle.expo.specs.View.{base_of}
use Rattle.expo.specs.declared.exponential.Expo.{Expo}
use Rattle.loop_model.specs.FracPoly.{FracPoly}
use Rattle.rounds.specs.Form.{inverse_form}
use Rattle.invariant_fix.proofs.branches.inverse_form.Given as goal

abbrev pub invariant-loop-poly : goal.invariant-loop-poly
invariant-loop-poly l = record {
  terms : terms_each l.out.items ≡ map (λ (e : Expo). inverse_form grevlex (length (base_of e))
      (terms_in e.body)) (take l.poly-index l.polys);
  arity : map (λ (p : FracPoly). p.arity) l.out.items ≡ map (λ (e : Expo). e.body.arity)
      (take l.poly-index l.polys);
}
