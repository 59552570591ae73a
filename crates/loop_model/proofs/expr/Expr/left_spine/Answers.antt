use Rattle.std.proofs.Common.{◌≡◌, ◌<◌, ◌++◌, ◌∷◌, [], ℕ, Some, None, sym, ap, subst, ◌∙◌, append_assoc}
use Rattle.std.specs.Option.{IfSome, option_map_or}
use Rattle.std.proofs.lemmas.List.{map-append, append-nil}
use Rattle.loops.specs.Program.{Expr}
use Rattle.loop_model.specs.ExpressionView.{expr_of, parts_of}
use Rattle.loop_model.specs.Spine.{first_operand, spine}
use Rattle.loop_model.proofs.ExprSize.{size_of}
use Rattle.loop_model.proofs.Spine.{below, spine_is, first_smaller}
use Rattle.loop_model.proofs.expr.Expr.left_spine.Goals as goal

-- what the first operand says: whether there is one
found : (e f : Expr ℕ) → first_operand e ≡ Some f → below e ≡ f ∷ below f
found e f h = ap (λ o. option_map_or spine o []) h ∙ spine_is f

pub loop-operand-init : goal.loop-operand-init
loop-operand-init c =
    spine_is (expr_of c.args.self.now) ∙ ap (λ ps. parts_of ps ++ below (expr_of c.args.self.now))
    (sym c.in_ok-parts.ensures.items)

pub loop-operand-smaller : goal.loop-operand-smaller
loop-operand-smaller c =
    let e = expr_of c.loop-operand.part.now in
    let is : first_operand e ≡ Some (expr_of c.in-Some.operand.now) = sym c.in-Some.ensures in
    subst (λ o. IfSome o (λ f. size_of f < size_of e)) is (first_smaller e)

pub loop-operand-preserved : goal.loop-operand-preserved
loop-operand-preserved c =
    let e = expr_of c.loop-operand.part.now in
    let f = expr_of c.in-Some.operand.now in
    let is : first_operand e ≡ Some f = sym c.in-Some.ensures in
    let ps = c.loop-operand.parts.items in
    c.loop-operand.invariant ∙ ap (λ ds. parts_of ps ++ ds) (found e f is)
    ∙ sym (append_assoc (parts_of ps) (f ∷ []) (below f))
    ∙ ap (λ ds. ds ++ below f) (sym (ap parts_of c.in_ok-push.ensures.items
    ∙ map-append (λ p. expr_of p.now) ps (c.in-Some.operand ∷ [])))

pub returns : goal.returns
returns c =
    let e = expr_of c.loop-operand.part.now in
    let none : first_operand e ≡ None = sym c.in_default.ensures in
    sym (c.loop-operand.invariant
    ∙ ap (λ o. parts_of c.loop-operand.parts.items ++ option_map_or spine o []) none
    ∙ append-nil (parts_of c.loop-operand.parts.items))
