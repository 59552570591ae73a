use Rattle.std.proofs.Common.{◌≡◌, All, map, take, length}
use Rattle.poly.specs.Seen.{terms_in, terms_each}
use Rattle.loop_model.specs.FracPoly.{FracPoly}
use Rattle.invariant_fix.specs.Code.{in_code_order, HasItsCopies}
use Rattle.invariant_fix.proofs.chain_code.CodeInWork.list.Given as goal

abbrev pub invariant-loop-element : goal.invariant-loop-element
invariant-loop-element l = record {
  list : terms_each l.gens.items
      ≡ map (λ (g : FracPoly). in_code_order (length l.self.values.now) l.self.code.now
      (terms_in g)) (take l.element-index l.basis);
  block : All (HasItsCopies l.self) l.gens.items;
}
