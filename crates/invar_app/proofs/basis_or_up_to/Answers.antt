use Rattle.std.proofs.Common.{◌≡◌, Bool, true, false, refl, sym, ap, ◌∙◌, map, string_bytes}
use Rattle.std.specs.Prelude.{if◌then◌else◌}
use Rattle.io_edge.proofs.Going.{obeys_as, obeys_same}
use Rattle.analysis_commands.specs.BasisArguments as basis_arguments
use Rattle.analysis_commands.specs.BasisCourse as basis_course
use Rattle.closing_commands.specs.DegreeArguments as degree_arguments
use Rattle.closing_commands.specs.DegreeCourse as degree_course
use Rattle.invar_app.specs.Arguments.{basis, basis_up_to, basis_by, evidence_of, course_of}
use Rattle.invar_app.proofs.basis_or_up_to.Goals as goal

chosen : {A : Type 0} (b c : Bool) (x y : A) → b ≡ c → (if b then x else y) ≡ (if c then x else y)
chosen b c x y e = ap (λ o. if o then x else y) e

pub returns-then-names_degree : goal.returns-then-names_degree
returns-then-names_degree g c =
    let arguments = map string_bytes c.args.arguments.now in
    let m = c.args.meter.now in
    obeys_same (course_of m) _ (basis_by c.args.kind arguments) _ _ c.basis_up_to.result
    (sym (chosen (degree_arguments.has_degree arguments) true _ _
    (sym c.names_degree.ensures ∙ c.if-names_degree.true)))
    (obeys_as degree_course.course (course_of m) basis_up_to (λ a. refl)
    (degree_arguments.request_in (evidence_of c.args.kind) arguments) _ _ c.basis_up_to.result
    (obeys_same degree_course.course
    (degree_arguments.request_in c.evidence_of.result arguments)
    (degree_arguments.request_in (evidence_of c.args.kind) arguments) _ _ c.basis_up_to.result
    (ap (λ e. degree_arguments.request_in e arguments) c.evidence_of.ensures)
    c.basis_up_to.ensures))

pub returns-else-names_degree : goal.returns-else-names_degree
returns-else-names_degree g c =
    let arguments = map string_bytes c.args.arguments.now in
    let m = c.args.meter.now in
    obeys_same (course_of m) _ (basis_by c.args.kind arguments) _ _ c.basis.result
    (sym (chosen (degree_arguments.has_degree arguments) false _ _
    (sym c.names_degree.ensures ∙ c.if-names_degree.false)))
    (obeys_as basis_course.course (course_of m) basis (λ a. refl)
    (basis_arguments.request_in c.args.kind arguments) _ _ c.basis.result c.basis.ensures)
