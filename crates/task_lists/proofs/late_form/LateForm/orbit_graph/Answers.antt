use Rattle.std.proofs.Common.{◌≡◌, ◌+◌, List, [], All, length, map, sym, ap, subst, ◌∙◌, arith}
use Rattle.std.proofs.lemmas.List.{length-map}
use Rattle.std.proofs.lemmas.Result.{IfOk-weaker}
use Rattle.poly.specs.Seen.{terms_in, terms_each}
use Rattle.poly.specs.Standing.{IsInVariables, AllStandFor}
use Rattle.rounds.specs.Form.{with_room_for}
use Rattle.rounds.specs.Graph.{graph_list}
use Rattle.rounds.specs.Past.{IsPastGraph}
use Rattle.loop_model.specs.FracPoly.{FracPoly}
use Rattle.task_lists.specs.Late.{form_in}
use Rattle.task_lists.specs.Shapes.{before_in, passers, width_of}
use Rattle.task_lists.proofs.LateLists.{shape_few, copies_are, bodies_over, orbit_told, orbit_count, before_length, before_over, graph_stands, graph_past, graph_heavy}
use Rattle.task_lists.proofs.late_form.LateForm.orbit_graph.Goals.{In_ok-before, After-deref}
use Rattle.task_lists.proofs.late_form.LateForm.orbit_graph.Goals as goal

pub before-requires : goal.before-requires
before-requires c =
    let f = c.args.self.now in
    let s = c.args.shape in
    let a = c.requires.shape.front in
    let b = c.requires.shape.variables in
    record {
      copies = copies_are f c.requires.fits _ s c.requires.shape
          ∙ ap passers (sym c.as_slice.ensures.value);
      few = shape_few f c.requires.fits _ s c.requires.shape (omega arith);
      over = subst (λ ps. All (IsInVariables (s.front + s.variables)) ps)
          (sym c.as_slice-2.ensures.value)
          (subst (λ n. All (IsInVariables n) f.back.now.items) (omega (arith, a, b))
          c.requires.fits.back_arity);
    }

stands : (c : In_ok-before) → AllStandFor (width_of c.args.shape) c.in_ok-before.before.items
    (before_in (width_of c.args.shape) c.args.shape.front c.args.self.now.passing.now.items 0
    (map (with_room_for c.args.shape.front c.args.shape.copies c.args.shape.variables)
    (terms_each c.args.self.now.back.now.items)))
stands c =
    let s = c.args.shape in
    subst (λ bs. AllStandFor (width_of s) c.in_ok-before.before.items
    (before_in (width_of s) s.front
    bs 0 (map (with_room_for s.front s.copies s.variables)
    (terms_each c.args.self.now.back.now.items))))
    c.as_slice.ensures.value
    (subst (λ (ps : List FracPoly). AllStandFor (width_of s) c.in_ok-before.before.items
    (before_in (width_of s) s.front c.as_slice.result.now 0
    (map (with_room_for s.front s.copies s.variables) (terms_each ps)))) c.as_slice-2.ensures.value
    c.in_ok-before.ensures.before)

forms_are : (c : After-deref) → terms_each c.deref.result.now ≡ (form_in c.args.self.now).polys
forms_are c = ap terms_each c.deref.ensures.value ∙ c.in_ok-forms.ensures.terms
    ∙ ap (λ es. map (λ e. terms_in e.body) es) c.as_slice-3.ensures.value

pub graph-requires : goal.graph-requires
graph-requires c =
    let f = c.args.self.now in
    let s = c.args.shape in
    let a = c.requires.shape.front in
    let b = c.requires.shape.variables in
    let at = stands (goal.at.graph-requires c).In_ok-before in
    let told = orbit_told f c.requires.fits in
    let count = orbit_count f c.requires.fits in
    record {
      some = omega (arith, b, c.requires.fits.some);
      few = shape_few f c.requires.fits _ s c.requires.shape (omega arith);
      count = before_length f c.requires.fits _ s c.requires.shape _ _ told count _ at;
      before = before_over f c.requires.fits _ s c.requires.shape _ _ told count _ at;
      forms = subst (λ ps. All (IsInVariables (s.front + s.variables)) ps)
          (sym c.deref.ensures.value)
          (subst (λ n. All (IsInVariables n) c.in_ok-forms.forms.items) (omega (arith, a, b))
          (bodies_over _ _ f.polys.now.items _ c.requires.fits.over
          (c.in_ok-forms.ensures.arities ∙ ap (λ es. map (λ e. e.body.arity) es)
          c.as_slice-3.ensures.value)));
      places = (let x = ap length (forms_are (goal.at.graph-requires c).After-deref) in
          let y = length-map c.deref.result.now terms_in in
          let z = length-map f.polys.now.items (λ e. terms_in e.body) in
          omega (arith, x, y, z, b, c.requires.fits.count));
      list = subst (λ n. All (IsInVariables n) c.args.list.now) (sym b) c.requires.list;
    }

pub returns : goal.returns
returns c =
    let f = c.args.self.now in
    let s = c.args.shape in
    let forms = forms_are (goal.at.returns c).After-deref in
    let at = stands (goal.at.returns c).In_ok-before in
    let told = orbit_told f c.requires.fits in
    let count = orbit_count f c.requires.fits in
    let drawn = IfOk-weaker c.graph.result _ (λ out. AllStandFor (width_of s) out.items (graph_list
    s.front s.copies s.variables (terms_each c.in_ok-before.before.items) (form_in f).polys []
    (terms_each c.args.list.now))) (λ out. subst (λ fs. AllStandFor (width_of s) out.items
    (graph_list s.front s.copies s.variables (terms_each c.in_ok-before.before.items) fs []
    (terms_each c.args.list.now))) forms) c.graph.ensures.graph in
    record {
      graph = IfOk-weaker c.graph.result _ _ (λ out. graph_stands f c.requires.fits _ s
          c.requires.shape _ _ told count _ at _ _ out.items) drawn;
      wide = λ w. graph_past f c.requires.fits _ s c.requires.shape _ _ told count _ at _ _
          (subst (λ fs. IsPastGraph s.front s.copies s.variables
          (terms_each c.in_ok-before.before.items) fs (terms_each c.args.list.now)) forms
          (c.graph.ensures.wide w));
      heavy = IfOk-weaker c.graph.result _ _ (λ out. graph_heavy f c.requires.fits _ s
          c.requires.shape _ _ told count _ at _ _ out.items) drawn;
    }
