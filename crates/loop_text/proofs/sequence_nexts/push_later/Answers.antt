use Rattle.std.proofs.Common.{◌++◌, ◌∷◌, [], map, ap, ◌∙◌, arith}
use Rattle.std.proofs.lemmas.List.{map_push}
use Rattle.loops.specs.Program.{variable}
use Rattle.loop_model.specs.ExpressionView.{expr_of}
use Rattle.loop_model.specs.declared.expr.Expr.TheVariants as code_expr
use Rattle.loop_text.proofs.NextReads.{begins_iteration, more_iteration, ends_iteration, seen_variable}
use Rattle.loop_text.proofs.sequence_nexts.push_later.Goals as goal

pub loop-var-init : goal.loop-var-init
loop-var-init c = record {
  iteration = begins_iteration c.args.first (map expr_of c.args.iteration.now.items);
  low = omega arith;
}

pub loop-var-preserved : goal.loop-var-preserved
loop-var-preserved c =
    let var = c.loop-var.var in
    record {
      iteration = ap (map expr_of) c.in_ok-push.ensures.items
          ∙ map_push expr_of c.loop-var.iteration.items (code_expr.Variable var)
          ∙ ap (λ v. map expr_of c.loop-var.iteration.items ++ v ∷ []) (seen_variable var)
          ∙ ap (λ l. l ++ variable var ∷ []) c.loop-var.invariant.iteration
          ∙ more_iteration c.args.first (map expr_of c.args.iteration.now.items) var
          c.loop-var.invariant.low;
      low = let a = c.loop-var.invariant.low in omega (arith, a);
    }

pub returns : goal.returns
returns c =
    let some = c.requires.some in
    let end = c.loop-var-test.false in
    let last = c.loop-var.auto.var-end in
    c.loop-var.invariant.iteration
    ∙ ends_iteration c.args.first (map expr_of c.args.iteration.now.items) c.loop-var.var
    c.args.order
    some c.loop-var.invariant.low (omega (arith, some, last)) (omega (arith, end))
