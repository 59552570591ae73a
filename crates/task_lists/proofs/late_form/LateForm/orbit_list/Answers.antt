use Rattle.std.proofs.Common.{◌≡◌, ◌≤◌, ◌+◌, List, All, sym, ap, subst, ◌∙◌, arith}
use Rattle.poly.specs.Standing.{IsInVariables, AllStandFor}
use Rattle.poly.proofs.Standing.{stands_over}
use Rattle.rounds.specs.Form.{front}
use Rattle.loop_model.specs.FracPoly.{FracPoly}
use Rattle.task_lists.specs.Blocks.{Blocked}
use Rattle.task_lists.specs.Placed.{HaveBlock}
use Rattle.task_lists.specs.Late.{HasShape, numbers_in, vars_in, orbit_graph_of}
use Rattle.task_lists.specs.Shapes.{width_of}
use Rattle.task_lists.proofs.LateLists.{shape_few}
use Rattle.task_lists.proofs.LateFormLists.{numbers_are, orbit_arities, orbit_list_is}
use Rattle.task_lists.proofs.late_form.LateForm.orbit_list.Goals.{After-shape-shape, In_ok-graph}
use Rattle.task_lists.proofs.late_form.LateForm.orbit_list.Goals as goal

counted : (c : After-shape-shape) → c.len-numbers.result ≡ numbers_in c.args.self.now
counted c = c.len-numbers.ensures ∙ c.args.self.now.base.now.ok.0
    ∙ numbers_are c.args.self.now.base.now.items

shaped : (c : After-shape-shape)
    → HasShape c.args.self.now (front (numbers_in c.args.self.now)) c.shape-shape.result
shaped c = subst (λ k. HasShape c.args.self.now k c.shape-shape.result)
    (c.front.ensures ∙ ap front (counted c)) c.shape-shape.ensures.shape

few : (c : After-shape-shape) → width_of c.shape-shape.result ≤ 4096
few c = shape_few c.args.self.now c.requires.fits _ c.shape-shape.result (shaped c) (omega arith)

over : (c : In_ok-graph) → All (IsInVariables (width_of c.shape-shape.result))
    c.in_ok-graph.graph.items
over c = stands_over _ _ _
    (c.in_ok-graph.ensures.graph)

pub overflow_add-first : goal.overflow_add-first
overflow_add-first c =
    let a = few (goal.at.overflow_add-first c).After-shape-shape in
    omega (arith, a)

pub push_normal-requires-clause-front : goal.push_normal-requires-clause-front
push_normal-requires-clause-front c =
    let at = goal.at.push_normal-requires-clause-front c in
    let ps = subst (λ ps. All (IsInVariables (width_of c.shape-shape.result)) ps)
    (sym c.deref.ensures.value) (over at.In_ok-graph) in
    let is = (shaped at.After-shape-shape).front in
    λ k d l. let a = ps k d l in omega (arith, a, is)

pub push_relations-requires : goal.push_relations-requires
push_relations-requires c =
    let at = goal.at.push_relations-requires c in
    let a = few at.After-shape-shape in
    let b = (shaped at.After-shape-shape).front in
    let d = counted at.After-shape-shape in
    record { few = omega (arith, a, b, d) }

pub returns-clause-list : goal.returns-clause-list
returns-clause-list c =
    let at = goal.at.returns-clause-list c in
    let f = c.args.self.now in
    let s = c.shape-shape.result in
    let gs = c.args.list.now in
    orbit_list_is f s (shaped at.After-shape-shape) gs _ (counted at.After-shape-shape)
    c.new-gens.result.items _ _ c.new-gens.ensures.items
    (c.in_ok-push_normal.ensures.normal (width_of s) (orbit_graph_of f gs)
    (subst (λ (ps : List FracPoly). AllStandFor (width_of s) ps (orbit_graph_of f gs))
    (sym c.deref.ensures.value) c.in_ok-graph.ensures.graph)
    (orbit_arities f s (shaped at.After-shape-shape) gs)) c.in_ok-push_relations.ensures.list

pub returns-clause-block : goal.returns-clause-block
returns-clause-block c =
    let at = goal.at.returns-clause-block c in
    let f = c.args.self.now in
    let s = c.shape-shape.result in
    let is = shaped at.After-shape-shape in
    let none = subst (λ (ps : List Blocked). HaveBlock (s.front + s.copies) (width_of s) ps)
    (sym c.new-gens.ensures.items) (λ k d l. absurd (omega (arith, l))) in
    let first = c.in_ok-push_normal.ensures.block (width_of s)
    (subst (λ ps. All (IsInVariables (width_of s)) ps) (sym c.deref.ensures.value)
    (over at.In_ok-graph))
    none in
    let named = ap front (counted at.After-shape-shape) in
    let start = is.front in
    let same : s.front + s.copies ≡ front c.len-numbers.result + s.copies =
    ap (λ n. n + s.copies) (start ∙ sym named) in
    let here = subst (λ n. HaveBlock n (n + s.variables) c.push_normal.new.gens.items) same first in
    let copies = is.copies in
    let variables = is.variables in
    subst (λ n. HaveBlock n (n + vars_in f) c.push_relations.new.gens.items)
    (ap (λ n. n + s.copies) named ∙ ap (λ n. front (numbers_in f) + n) copies)
    (subst (λ m. HaveBlock (front c.len-numbers.result + s.copies)
    (front c.len-numbers.result + s.copies + m) c.push_relations.new.gens.items) variables
    (c.in_ok-push_relations.ensures.block here))
