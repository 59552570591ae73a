use Rattle.std.proofs.Common.{◌≡◌, ◌+◌, List, All, sym, ap, subst, ◌∙◌, arith}
use Rattle.poly.specs.Standing.{IsInVariables, AllStandFor}
use Rattle.poly.proofs.Standing.{stands_over}
use Rattle.loop_model.specs.FracPoly.{FracPoly}
use Rattle.task_lists.specs.Blocks.{Blocked}
use Rattle.task_lists.specs.Placed.{HaveBlock}
use Rattle.task_lists.specs.Late.{vars_in, copies_in, iteration_graph_of}
use Rattle.task_lists.specs.Shapes.{width_of}
use Rattle.task_lists.proofs.LateFormLists.{iteration_arities, iteration_list_is}
use Rattle.task_lists.proofs.late_form.LateForm.iteration_list.Goals as goal

pub returns-clause-list : goal.returns-clause-list
returns-clause-list c =
    let f = c.args.self.now in
    let s = c.shape-shape.result in
    let is = c.shape-shape.ensures.shape in
    let fs = c.args.images.now in
    let gs = c.args.list.now in
    iteration_list_is f s is fs gs _ c.new-gens.ensures.items
    (c.in_ok-push_placed.ensures.placed (width_of s) (iteration_graph_of f fs gs)
    (subst (λ (ps : List FracPoly). AllStandFor (width_of s) ps (iteration_graph_of f fs gs))
    (sym c.deref.ensures.value) c.in_ok-graph.ensures.graph) (iteration_arities f s is fs gs))

pub returns-clause-block : goal.returns-clause-block
returns-clause-block c =
    let f = c.args.self.now in
    let s = c.shape-shape.result in
    let is = c.shape-shape.ensures.shape in
    let fs = c.args.images.now in
    let gs = c.args.list.now in
    let w : width_of s ≡ copies_in f + vars_in f =
    let a = is.front in let b = is.copies in let d = is.variables in omega (arith, a, b, d) in
    let none = subst (λ (ps : List Blocked). HaveBlock s.copies (width_of s) ps)
    (sym c.new-gens.ensures.items) (λ k d l. absurd (omega (arith, l))) in
    let here = c.in_ok-push_placed.ensures.block (width_of s) (subst (λ (ps : List FracPoly). All
    (IsInVariables (width_of s)) ps) (sym c.deref.ensures.value)
    (stands_over _ _ _ c.in_ok-graph.ensures.graph)) none in
    subst (λ n. HaveBlock n (n + vars_in f) c.push_placed.new.gens.items) is.copies
    (subst (λ v. HaveBlock s.copies v c.push_placed.new.gens.items)
    (w ∙ ap (λ n. n + vars_in f) (sym is.copies)) here)
