use Rattle.std.proofs.Common.{◌≡◌, ◌<◌, ℕ, List, length, map, [], ◌∷◌, ◌++◌, Some, Ok, arith, refl, sym, ap, subst, ◌∙◌}
use Rattle.std.specs.Borrow.{Bor}
use Rattle.std.specs.Option.{IfSome}
use Rattle.std.proofs.lemmas.List.{nil_from_length, map-append}
use Rattle.poly.specs.Seen.{terms_each, arity_of}
use Rattle.loop_model.specs.ExpressionView.{expr_of, parts_of}
use Rattle.loops.specs.Program as program
use Rattle.loop_model.specs.FracPoly.{FracPoly}
use Rattle.loop_model.specs.Spine.{first_operand}
use Rattle.loop_model.specs.Stops.{IsFormed}
use Rattle.loop_model.specs.declared.expr.Expr.{Expr}
use Rattle.loop_model.proofs.ExprSize.{seen_number, seen_variable, seen_unary, seen_binary, of_unary, of_binary, variable_of}
use Rattle.loop_model.proofs.FormedLaws.{stopped_as, formed_number, formed_variable, stopped_binary, stops_right}
use Rattle.loop_model.proofs.OperationLaws.{handed_on}
use Rattle.loop_model.proofs.Operators.{unary-first, binary-first}
use Rattle.loop_model.proofs.Spine.{Rising, begun, taken, operand_formed, risen, all_formed}
use Rattle.loop_model.proofs.forming.+expr_poly.Goals as goal

-- ---- up along the spine
-- the expressions that are left before the last of them is taken
before : (ps : List FracPoly) (e : program.Expr ℕ) (olds news : List (Bor Expr)) (p : Bor Expr)
    (q : FracPoly) → olds ≡ news ++ p ∷ [] → Rising ps e (parts_of olds) q
    → Rising ps e (parts_of news ++ expr_of p.now ∷ []) q
before ps e olds news p q h r = subst (λ xs. Rising ps e xs q)
    (ap (map (λ r. expr_of r.now)) h ∙ map-append (λ r. expr_of r.now) news (p ∷ [])) r

pub expr_poly-loop-part-init : goal.expr_poly-loop-part-init
expr_poly-loop-part-init t c = begun c.args.state.now.items (expr_of c.args.expr.now) _
    c.zero-poly.result c.in_ok-parts.ensures

pub expr_poly-part_poly-requires : goal.expr_poly-part_poly-requires
expr_poly-part_poly-requires t c =
    let ps = c.args.state.now.items in
    let e = expr_of c.args.expr.now in
    let r = before ps e c.loop-part.parts.items c.pop.new.self.items c.in-Some.part c.loop-part.poly
    c.in-Some.ensures.items c.loop-part.invariant in
    let on = taken ps e (expr_of c.in-Some.part.now) _ c.loop-part.poly r in
    let small = on.small in
    let level = c.decreases in (
      omega (arith, small, level),
      (
        c.requires.state,
        (
          on.uses (length ps) c.requires.uses,
          operand_formed ps e (expr_of c.in-Some.part.now) _ c.loop-part.poly r,
        ),
      ),
    )

pub expr_poly-loop-part-preserved : goal.expr_poly-loop-part-preserved
expr_poly-loop-part-preserved t c =
    let ps = c.args.state.now.items in
    let e = expr_of c.args.expr.now in
    let r = before ps e c.loop-part.parts.items c.pop.new.self.items c.in-Some.part c.loop-part.poly
    c.in-Some.ensures.items c.loop-part.invariant in
    risen ps e (expr_of c.in-Some.part.now) _ c.loop-part.poly r c.in_ok-poly.poly
    c.in_ok-poly.ensures

pub expr_poly-returns-in_err-poly-clause-stops : goal.expr_poly-returns-in_err-poly-clause-stops
expr_poly-returns-in_err-poly-clause-stops t c =
    let ps = c.args.state.now.items in
    let e = expr_of c.args.expr.now in
    let x = c.in_err-poly.field-0.0 in
    let r = before ps e c.loop-part.parts.items c.pop.new.self.items c.in-Some.part c.loop-part.poly
    c.in-Some.ensures.items c.loop-part.invariant in
    let on = taken ps e (expr_of c.in-Some.part.now) _ c.loop-part.poly r in
    stopped_as (arity_of ps) (terms_each ps) e e x c.from_residual-in_err-poly.result refl
    c.from_residual-in_err-poly.ensures.1 (on.stops x c.in_err-poly.ensures)

pub expr_poly-returns : goal.expr_poly-returns
expr_poly-returns t c =
    let ps = c.args.state.now.items in
    let e = expr_of c.args.expr.now in
    let same = c.loop-part.parts.ok in
    let zero = c.in_default.ensures.cases.0 in
    let none : c.loop-part.parts.items ≡ [] = nil_from_length c.loop-part.parts.items
    (omega (arith, same, zero)) in
    let k = all_formed ps e c.loop-part.poly
    (subst (λ xs. Rising ps e (parts_of xs) c.loop-part.poly) none
    c.loop-part.invariant) in
    record { value = k.0; free = k.1; stops = tt }

-- ---- an expression of the spine
-- its first operand, which is e, is formed
formed_first : (ps : List FracPoly) (q : FracPoly) (part e : program.Expr ℕ)
    → first_operand part ≡ Some e → IfSome (first_operand part) (λ d. IsFormed ps d (Ok q))
    → IsFormed ps e (Ok q)
formed_first ps q part e is h = subst (λ o. IfSome o (λ d. IsFormed ps d (Ok q))) is h

pub part_poly-returns-in-Number : goal.part_poly-returns-in-Number
part_poly-returns-in-Number t c =
    let ps = c.args.state.now.items in
    subst (λ e. IsFormed ps e c.number.result)
    (sym (seen_number c.args.part.now c.in-Number.value c.in-Number.is))
    (formed_number (arity_of ps) (terms_each ps) c.in-Number.value.value c.number.result
    c.number.ensures)

pub part_poly-variable-requires-clause-index : goal.part_poly-variable-requires-clause-index
part_poly-variable-requires-clause-index t c = variable_of (expr_of c.args.part.now)
    (λ i. i < length c.args.state.now.items) c.requires.uses c.in-Variable.index
    (seen_variable c.args.part.now c.in-Variable.index c.in-Variable.is)

pub part_poly-returns-in-Variable : goal.part_poly-returns-in-Variable
part_poly-returns-in-Variable t c =
    let ps = c.args.state.now.items in
    subst (λ e. IsFormed ps e c.variable.result)
    (sym (seen_variable c.args.part.now c.in-Variable.index c.in-Variable.is))
    (formed_variable (arity_of ps) (terms_each ps) c.in-Variable.index c.variable.result
    c.variable.ensures)

pub part_poly-unary_poly-requires : goal.part_poly-unary_poly-requires
part_poly-unary_poly-requires t c =
    let o = c.in-Unary.operator in
    let is = seen_unary _ _ c.in-Unary.of _ refl o c.in-Unary.is in
    (of_unary _ (λ i. i < length c.args.state.now.items) c.requires.uses o _ _ is).1

pub part_poly-returns-in-Unary : goal.part_poly-returns-in-Unary
part_poly-returns-in-Unary t c =
    let ps = c.args.state.now.items in
    let o = c.in-Unary.operator in
    let e = expr_of c.in-Unary.of.value in
    let is = seen_unary _ _ c.in-Unary.of _ refl o c.in-Unary.is in
    let first = formed_first ps c.args.first.now _ e (ap first_operand is ∙ unary-first o _ e)
    c.requires.first in
    subst (λ d. IsFormed ps d c.unary_poly.result) (sym is) (c.unary_poly.ensures ps e first)

pub part_poly-expr_poly-requires : goal.part_poly-expr_poly-requires
part_poly-expr_poly-requires t c =
    let o = c.in-Binary.operator in
    let is = seen_binary _ _ c.in-Binary.left _ refl c.in-Binary.right _ c.deref.ensures o
    c.in-Binary.is in
    let operand =
    (of_binary _ (λ i. i < length c.args.state.now.items) c.requires.uses o _ _ _ is).1 in
    let small = operand.smaller in
    let level = c.decreases in (omega (arith, small, level), (c.requires.state, operand.uses))

pub part_poly-returns-in_err-right-in-Binary : goal.part_poly-returns-in_err-right-in-Binary
part_poly-returns-in_err-right-in-Binary t c =
    let ps = c.args.state.now.items in
    let error = c.in_err-right-in-Binary in
    let o = c.in-Binary.operator in
    let e = expr_of c.in-Binary.left.value in
    let f = expr_of c.deref.result.now in
    let is = seen_binary _ _ c.in-Binary.left _ refl c.in-Binary.right _ c.deref.ensures o
    c.in-Binary.is in
    let first = formed_first ps c.args.first.now _ e (ap first_operand is ∙ binary-first o _ e f)
    c.requires.first in
    subst (λ d. IsFormed ps d c.from_residual.result) (sym is)
    (handed_on (arity_of ps) _ _ error.field-0.0 c.from_residual.result c.from_residual.ensures.1
    (stopped_binary (arity_of ps) (terms_each ps) o c.in-Binary.at e f error.field-0.0
    (stops_right (arity_of ps) (terms_each ps) e f c.args.first.now error.field-0.0 first
    error.ensures.stops)))

pub part_poly-binary_poly-requires : goal.part_poly-binary_poly-requires
part_poly-binary_poly-requires t c =
    let ps = c.args.state.now.items in
    let o = c.in-Binary.operator in
    let e = expr_of c.in-Binary.left.value in
    let f = expr_of c.deref.result.now in
    let is = seen_binary _ _ c.in-Binary.left _ refl c.in-Binary.right _ c.deref.ensures o
    c.in-Binary.is in
    let first = formed_first ps c.args.first.now _ e (ap first_operand is ∙ binary-first o _ e f)
    c.requires.first in
    c.in_ok-right-in-Binary.ensures.value.arity ∙ sym first.0.arity

pub part_poly-returns-in_ok-right-in-Binary : goal.part_poly-returns-in_ok-right-in-Binary
part_poly-returns-in_ok-right-in-Binary t c =
    let ps = c.args.state.now.items in
    let right = c.in_ok-right-in-Binary.ensures in
    let o = c.in-Binary.operator in
    let e = expr_of c.in-Binary.left.value in
    let f = expr_of c.deref.result.now in
    let is = seen_binary _ _ c.in-Binary.left _ refl c.in-Binary.right _ c.deref.ensures o
    c.in-Binary.is in
    let first = formed_first ps c.args.first.now _ e (ap first_operand is ∙ binary-first o _ e f)
    c.requires.first in
    subst (λ d. IsFormed ps d c.binary_poly.result) (sym is)
    (c.binary_poly.ensures ps e f first (right.value, right.free))
