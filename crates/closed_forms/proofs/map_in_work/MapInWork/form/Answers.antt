use Rattle.std.proofs.Common.{◌≤◌, length, sym, subst, ◌∙◌, arith}
use Rattle.coprime_base.specs.Sizes.{sizes}
use Rattle.solvable_maps.specs.Iterations.{width}
use Rattle.closed_forms.specs.MapInWork.{images_in}
use Rattle.closed_forms.specs.Refusal.{IfLater}
use Rattle.closed_forms.specs.Settling.{IsSettled}
use Rattle.closed_forms.specs.Values.{AreOver}
use Rattle.closed_forms.proofs.Ending.{refused_on}
use Rattle.closed_forms.proofs.InWork.{class_later, iteration_later, room_in, none_yet, inside_in, some_states, vars_known, counts_known, arities_known, settling_in, passing_in, passing_wide, form_in}
use Rattle.closed_forms.proofs.StateLists.{states_count}
use Rattle.closed_forms.proofs.map_in_work.MapInWork.form.Goals as goal
use Rattle.closed_forms.proofs.map_in_work.MapInWork.form.Goals.{In_ok-since}

pub zeros-requires-clause-base : goal.zeros-requires-clause-base
zeros-requires-clause-base c =
    let b = c.requires.work.base in (b.coarsest.base.coprime, b.ascending)

pub zeros-requires-clause-few : goal.zeros-requires-clause-few
zeros-requires-clause-few c =
    let w = c.args.self in
    subst (λ n. width (length (sizes w.base.items)) n ≤ 4096)
    (sym (c.len.ensures ∙ w.map.images.now.ok.0)) (room_in c.requires.work)

pub fill-requires-clause-forms : goal.fill-requires-clause-forms
fill-requires-clause-forms c =
    let w = c.args.self in
    let many = c.len.ensures ∙ w.map.images.now.ok.0 in
    rw c.deref.ensures.value (none_yet c.requires.work (c.in_ok-polys.ensures.count ∙ many)
    (subst (λ n. AreOver (sizes w.base.items) n c.in_ok-polys.polys.items) many
    c.in_ok-polys.ensures.over))

pub returns-in_err-fill-clause-refused : goal.returns-in_err-fill-clause-refused
returns-in_err-fill-clause-refused c =
    let e = c.in_err-fill.field-0.0 in
    refused_on (IfLater (images_in c.args.self)) e _ c.from_residual-in_err-fill.ensures.1
    (class_later c.requires.work e c.in_err-fill.ensures.refused)

pub invariant_of-comparison : goal.invariant_of-comparison
invariant_of-comparison c =
    let is = c.requires.work in
    let forms = c.in_ok-fill.ensures.forms in
    record {
      inside = inside_in is forms;
      vars = vars_known is forms;
      some = some_states is forms;
      counts = counts_known is forms;
      arities = arities_known is forms;
    }

pub least-requires : goal.least-requires
least-requires c =
    let w = c.args.self in
    let n = states_count (images_in w) w.iterations w.states.items c.requires.work.states in
    omega (arith, n)

pub returns-in_err-since-clause-refused : goal.returns-in_err-since-clause-refused
returns-in_err-since-clause-refused c =
    let w = c.args.self in
    let e = c.in_err-since.field-0.0 in
    refused_on (IfLater (images_in w)) e _ c.from_residual-in_err-since.ensures.1
    (iteration_later c.requires.work e (c.in_err-since.ensures.refused (images_in w)
    (sizes w.base.items) w.iterations (omega arith)
    (settling_in c.requires.work c.in_ok-fill.ensures.forms)))

settled : (c : In_ok-since) → IsSettled (images_in c.args.self) (sizes c.args.self.base.items)
    c.fill.new.polys.items c.args.self.iterations c.in_ok-since.since
settled c =
    let w = c.args.self in
    c.in_ok-since.ensures.settled (images_in w) (sizes w.base.items) w.iterations (omega arith)
    (settling_in c.requires.work c.in_ok-fill.ensures.forms)

pub returns-in_err-passing-clause-refused : goal.returns-in_err-passing-clause-refused
returns-in_err-passing-clause-refused c =
    let at = (goal.at.returns-in_err-passing-clause-refused c).In_ok-since in
    let e = c.in_err-passing.field-0.0 in
    refused_on (IfLater (images_in c.args.self)) e _ c.from_residual-in_err-passing.ensures.1
    (iteration_later c.requires.work e (passing_wide c.requires.work c.in_ok-fill.ensures.forms
    (settled at) e c.in_err-passing.ensures.refused))

pub returns-clause-form : goal.returns-clause-form
returns-clause-form c =
    let at = (goal.at.returns-clause-form c).In_ok-since in
    form_in c.requires.work c.fill.new.polys c.in_ok-passing.passing c.in_ok-fill.ensures.forms
    (settled at) c.in_ok-passing.ensures.count (passing_in c.requires.work
    c.in_ok-fill.ensures.forms (settled at) _ c.in_ok-passing.ensures.none
    c.in_ok-passing.ensures.marked)
