use Rattle.std.proofs.Common.{refl, ap, ◌∷◌, [], ◌++◌, ◌∙◌, map, Ok}
use Rattle.loop_text.specs.Loops.{start}
use Rattle.loop_text.proofs.Answering.{map_push, err_from_is_err_and, expr_of, sequence, change, rest, GoesOn, start as begin, on, ends, stops_going, equation_of, sum_fault, equation_read, name_fault, set_fault, set_variable, keep, sign, sum, end_equation, with_equation, no_sum_value, loop_language, in_init, used_in}
use Rattle.loop_text.proofs.init.read_equation.Goals as goal
use Rattle.loop_text.proofs.init.read_equation.Goals.{In_ok-var}

pub returns-in_err-var-clause-goes : goal.returns-in_err-var-clause-goes
returns-in_err-var-clause-goes c =
    let names = c.args.names.now.variables in
    let locals = c.args.names.now.locals in
    let before = c.args.set.now.items in
    let init = map equation_of c.args.start.now.items in
    let s = in_init names locals before init [] in
    stops_going (begin loop_language _ _ _) _ (err_from_is_err_and c.from_residual.result
    c.from_residual.ensures.1)
    (rw (c.deref.ensures.value, c.deref-2.ensures.value) at c.in_err-var.ensures.reads (λ c w.
    name_fault c w (set_fault c)) set_variable s (λ i. in_init names locals (before ++ i ∷ []) init
    (i ∷ [])) (record { faults = λ w. refl; goes = λ w. refl }))

-- behind the variable
named : (c : In_ok-var)
    → GoesOn loop_language start (in_init c.args.names.now.variables c.args.names.now.locals
    c.args.set.now.items (map equation_of c.args.start.now.items) []) (rest c.args.cursor)
    (sequence (sign 61) (sequence sum (change end_equation with_equation)))
    (in_init c.args.names.now.variables c.args.names.now.locals (c.args.set.now.items
    ++ c.in_ok-var.var ∷ []) (map equation_of c.args.start.now.items) (c.in_ok-var.var
    ∷ [])) (rest c.in_ok-var.behind)
named c =
    let names = c.args.names.now.variables in
    let locals = c.args.names.now.locals in
    let before = c.args.set.now.items in
    let init = map equation_of c.args.start.now.items in
    let s = in_init names locals before init [] in
    on (begin loop_language _ _ _)
    (rw (c.deref.ensures.value, c.deref-2.ensures.value) at c.in_ok-var.ensures.reads (λ c w.
    name_fault c w (set_fault c)) set_variable s (λ i. in_init names locals (before ++ i ∷ []) init
    (i ∷ [])) (record { faults = λ w. refl; goes = λ w. refl }))

pub returns-in_err-right-clause-goes : goal.returns-in_err-right-clause-goes
returns-in_err-right-clause-goes c =
    stops_going (named (goal.at-returns-in_err-right-clause-goes c).In_ok-var) _
    (err_from_is_err_and c.from_residual-in_err-right.result
    c.from_residual-in_err-right.ensures.1) (c.in_err-right.ensures.goes (λ c. c) keep _)

pub returns-in_err-sum-clause-goes : goal.returns-in_err-sum-clause-goes
returns-in_err-sum-clause-goes c =
    let var = c.in_ok-var.var in
    let init = map equation_of c.args.start.now.items in
    let t = in_init c.args.names.now.variables c.args.names.now.locals (c.args.set.now.items ++ var
    ∷ []) init (var ∷ []) in
    stops_going (on (named (goal.at-returns-in_err-sum-clause-goes c).In_ok-var)
    (c.in_ok-right.ensures.goes (λ c. c) keep _)) _
    (err_from_is_err_and c.from_residual-in_err-sum.result c.from_residual-in_err-sum.ensures.1)
    (sum_fault t (rest c.in_ok-right.right) c.in_err-sum.field-0.0 (rw (
      c.deref-3.ensures.value,
      c.in_ok-push.ensures.items,
    ) at c.in_err-sum.ensures.reads (used_in init)
    no_sum_value))

pub returns-clause-goes : goal.returns-clause-goes
returns-clause-goes c =
    let names = c.args.names.now.variables in
    let locals = c.args.names.now.locals in
    let var = c.in_ok-var.var in
    let init = map equation_of c.args.start.now.items in
    let set_variable = c.args.set.now.items ++ var ∷ [] in
    let part = c.in_ok-sum.sum in
    let end = rest c.in_ok-sum.end in
    ap (λ set_variable.
    Ok (in_init names locals set_variable (map equation_of c.push-2.new.self.items) [], end))
    c.in_ok-push.ensures.items
    ∙ ap (λ init. Ok (in_init names locals set_variable init [], end))
    (ap (map equation_of) c.in_ok-push-2.ensures.items
    ∙ map_push equation_of c.args.start.now.items _)
    ∙ ap (λ e. Ok (
      in_init names locals set_variable (init ++ record { name = var; value = expr_of e } ∷ []) [],
      end,
    )) c.into_inner-value.ensures
    ∙ ends (on (named (goal.at-returns-clause-goes c).In_ok-var) (c.in_ok-right.ensures.goes
    (λ c. c) keep _))
    (equation_read names (expr_of part.value.value) part.operators c.in_ok-right.right
    c.in_ok-sum.end
    locals set_variable init var (rw (c.deref-3.ensures.value, c.in_ok-push.ensures.items) at
    c.in_ok-sum.ensures.reads (used_in init) no_sum_value))
