use Rattle.std.proofs.Common.{◌++◌, inl, inr, map, length, sym, ap, ◌∙◌}
use Rattle.std.proofs.lemmas.Result.{err_from_is_err_and}
use Rattle.std.proofs.lemmas.Simd.{map-map}
use Rattle.poly.specs.Seen.{terms_in}
use Rattle.algebra.proofs.Growing.{grown, all_grown, any_mapped}
use Rattle.algebra.proofs.Lists.{have_more}
use Rattle.loop_model.specs.FracPoly.{FracPoly}
use Rattle.invariant_fix.specs.Blocked.{Blocked}
use Rattle.invariant_fix.specs.Code.{in_code_order, HasItsCopies, value_put, variables_assigned}
use Rattle.invariant_fix.proofs.chain_code.CodeInWork.list.Goals as goal

pub put-requires-clause-element : goal.put-requires-clause-element
put-requires-clause-element c =
    ap (λ (g : FracPoly). g.arity) c.element-item.is
    ∙ c.requires.basis c.loop-element.element-index c.element-item.result c.loop-element-test.true

pub loop-element-preserved : goal.loop-element-preserved
loop-element-preserved c =
    let w = c.args.self.now in
    let p = c.in_ok-put.field-0 in
    record {
      list = grown (λ (q : Blocked). terms_in q)
          (λ (g : FracPoly). in_code_order (length w.values.now) w.code.now (terms_in g)) _ _ _ _ _
          p c.loop-element-test.true c.element-item.is c.in_ok-push.ensures.items
          c.in_ok-put.ensures.put c.loop-element.invariant.list;
      block = have_more (HasItsCopies w) _ _ p
          c.in_ok-push.ensures.items c.loop-element.invariant.block c.in_ok-put.ensures.block;
    }

pub returns-clause-list : goal.returns-clause-list
returns-clause-list c =
    let w = c.args.self.now in
    let order = in_code_order (length w.values.now) w.code.now in
    c.in_ok-push_differences.ensures.list ∙ ap (λ l. l ++ map (value_put w) (variables_assigned w))
    (all_grown (λ (q : Blocked). terms_in q) (λ (g : FracPoly). order (terms_in g)) _ _ _
    c.loop-element-test.false c.loop-element.invariant.list ∙ sym (map-map order
    (λ (g : FracPoly). terms_in g) c.args.basis.now))

pub returns-in_err-put-clause-wide : goal.returns-in_err-put-clause-wide
returns-in_err-put-clause-wide c =
    let p = err_from_is_err_and c.from_residual-in_err-put.result
    c.from_residual-in_err-put.ensures.1 in
    λ w. inl (any_mapped (λ (g : FracPoly). terms_in g) _ _ _ _ c.loop-element-test.true
    c.element-item.is (c.in_err-put.ensures.wide (cc (p.1, p.2, w))))

pub returns-in_err-push_differences-clause-wide : goal.returns-in_err-push_differences-clause-wide
returns-in_err-push_differences-clause-wide c =
    let p = err_from_is_err_and c.from_residual-in_err-push_differences.result
    c.from_residual-in_err-push_differences.ensures.1 in
    λ w. inr (c.in_err-push_differences.ensures.wide (cc (p.1, p.2, w)))
