use Rattle.std.proofs.Common.{◌+◌, inl, inr, List, [], All, length, map, sym, ap, subst, ◌∙◌, arith}
use Rattle.std.specs.List.{Any}
use Rattle.std.proofs.lemmas.Result.{IfOk-weaker, err_from_is_err_and}
use Rattle.algebra.specs.Fraction.{fractions}
use Rattle.polynomials.specs.Order.{grevlex}
use Rattle.polynomials.specs.Weight.{IsPastComposition}
use Rattle.poly.specs.Seen.{terms_each}
use Rattle.poly.specs.Standing.{IsInVariables, AllStandFor}
use Rattle.poly.proofs.Standing.{stands_over}
use Rattle.expo.specs.declared.exponential.Expo.{Expo}
use Rattle.rounds.specs.Form.{inverse_form, with_room_for, at_minus_one}
use Rattle.rounds.specs.Past.{iteration_images}
use Rattle.loop_model.specs.FracPoly.{FracPoly}
use Rattle.task_lists.specs.Late.{IsExpoOver, vars_in, form_in, form_over, bodies_in}
use Rattle.task_lists.specs.Shapes.{before_in, passers, width_of}
use Rattle.task_lists.proofs.LateLists.{shape_few, copies_are, iteration_told, iteration_count, before_length, before_over, graph_stands, graph_past}
use Rattle.task_lists.proofs.late_form.LateForm.iteration_graph.Goals.{In_ok-push_told, In_ok-before}
use Rattle.task_lists.proofs.late_form.LateForm.iteration_graph.Goals as goal

all_told : (c : In_ok-push_told) → AllStandFor (vars_in c.args.self.now)
    c.push_told.new.out.items (map (at_minus_one (form_over (form_in c.args.self.now).base)
    (vars_in c.args.self.now)) (bodies_in c.args.self.now.polys.now.items))
all_told c =
    let m = vars_in c.args.self.now in
    let bs = (form_in c.args.self.now).base in
    let none = subst (λ (ps : List FracPoly). AllStandFor m ps []) (sym c.new-told.ensures.items)
    tt in
    subst (λ (es : List Expo). AllStandFor m c.push_told.new.out.items
    (map (at_minus_one (form_over bs) m) (bodies_in es))) c.as_slice.ensures.value
    (c.in_ok-push_told.ensures.told bs m (subst (λ (es : List Expo). All (IsExpoOver bs m) es)
    (sym c.as_slice.ensures.value) c.requires.fits.over) [] none)

pub returns-in_err-push_told-clause-wide : goal.returns-in_err-push_told-clause-wide
returns-in_err-push_told-clause-wide c =
    let m = vars_in c.args.self.now in
    let bs = (form_in c.args.self.now).base in
    let p = err_from_is_err_and c.from_residual.result c.from_residual.ensures.1 in
    λ w. inl (subst (λ (es : List Expo). Any (λ p. IsPastComposition fractions p
    (iteration_images (form_over bs) m)) (map (inverse_form grevlex (length bs)) (bodies_in es)))
    c.as_slice.ensures.value
    (c.in_err-push_told.ensures.wide bs m (subst (λ (es : List Expo). All (IsExpoOver bs m) es)
    (sym c.as_slice.ensures.value) c.requires.fits.over) (cc (p.1, p.2, w))))

pub before-requires : goal.before-requires
before-requires c =
    let f = c.args.self.now in
    let s = c.args.shape in
    let a = c.requires.shape.front in
    let b = c.requires.shape.variables in
    record {
      copies = copies_are f c.requires.fits _ s c.requires.shape
          ∙ ap passers (sym c.as_slice-2.ensures.value);
      few = shape_few f c.requires.fits _ s c.requires.shape (omega arith);
      over = subst (λ ps. All (IsInVariables (s.front + s.variables)) ps)
          (sym c.deref.ensures.value)
          (subst (λ n. All (IsInVariables n) c.push_told.new.out.items) (omega (arith, a, b))
          (stands_over (vars_in f) _ _ (all_told (goal.at.before-requires c).In_ok-push_told)));
    }

stands : (c : In_ok-before) → AllStandFor (width_of c.args.shape) c.in_ok-before.before.items
    (before_in (width_of c.args.shape) c.args.shape.front c.args.self.now.passing.now.items 0
    (map (with_room_for c.args.shape.front c.args.shape.copies c.args.shape.variables)
    (terms_each c.push_told.new.out.items)))
stands c =
    let s = c.args.shape in
    subst (λ bs. AllStandFor (width_of s) c.in_ok-before.before.items
    (before_in (width_of s) s.front
    bs 0 (map (with_room_for s.front s.copies s.variables) (terms_each c.push_told.new.out.items))))
    c.as_slice-2.ensures.value
    (subst (λ (ps : List FracPoly). AllStandFor (width_of s) c.in_ok-before.before.items
    (before_in (width_of s) s.front c.as_slice-2.result.now 0
    (map (with_room_for s.front s.copies s.variables) (terms_each ps)))) c.deref.ensures.value
    c.in_ok-before.ensures.before)

pub graph-requires-clause-few : goal.graph-requires-clause-few
graph-requires-clause-few c = shape_few c.args.self.now c.requires.fits _ c.args.shape
    c.requires.shape (omega arith)

pub graph-requires-clause-count : goal.graph-requires-clause-count
graph-requires-clause-count c =
    let f = c.args.self.now in
    let at = goal.at.graph-requires-clause-count c in
    before_length f c.requires.fits _ c.args.shape c.requires.shape _ _
    (iteration_told f c.requires.fits _ (all_told at.In_ok-push_told))
    (iteration_count f c.requires.fits) c.in_ok-before.before.items (stands at.In_ok-before)

pub graph-requires-clause-before : goal.graph-requires-clause-before
graph-requires-clause-before c =
    let f = c.args.self.now in
    let at = goal.at.graph-requires-clause-before c in
    before_over f c.requires.fits _ c.args.shape c.requires.shape _ _
    (iteration_told f c.requires.fits _ (all_told at.In_ok-push_told))
    (iteration_count f c.requires.fits) c.in_ok-before.before.items (stands at.In_ok-before)

pub returns : goal.returns
returns c =
    let f = c.args.self.now in
    let at = goal.at.returns c in
    let told = iteration_told f c.requires.fits _ (all_told at.In_ok-push_told) in
    let count = iteration_count f c.requires.fits in
    record {
      graph = IfOk-weaker c.graph.result _ _ (λ out. graph_stands f c.requires.fits _ c.args.shape
          c.requires.shape _ _ told count _ (stands at.In_ok-before) _ _ out.items)
          c.graph.ensures.graph;
      wide = λ w. inr (graph_past f c.requires.fits _ c.args.shape c.requires.shape _ _ told count
          _ (stands at.In_ok-before) _ _ (c.graph.ensures.wide w));
    }
