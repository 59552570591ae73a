use Rattle.std.proofs.Common.{◌≡◌, Ok, Err, map, length, ap, ◌∙◌, rules}
use Rattle.std.specs.Prelude.{codes}
use Rattle.serde_json.specs.Find.{get}
use Rattle.serde_json.specs.View.{view}
use Rattle.polynomials.specs.Order.{grevlex}
use Rattle.poly.specs.Seen.{terms_each}
use Rattle.loop_model.specs.View.{program_of}
use Rattle.loop_model.proofs.BranchMaps.{count_seen}
use Rattle.cert_form.specs.Form.{on}
use Rattle.cert_form.specs.declared.fault.Path.{the_lemmas}
use Rattle.cert_form.proofs.Each.{IfFault-map, passed}
use Rattle.task_lists.specs.Rows.{rows_of}
use Rattle.task_lists.specs.View.{form_in, start_in, round_in}
use Rattle.full_cert.specs.Tables.{raws_at}
use Rattle.full_cert.specs.PartsForm.{steps_at, forms_at, start_there}
use Rattle.full_cert.specs.Form.{rounds_in}
use Rattle.full_cert.proofs.Documents.{terms_count}
use Rattle.cert_form.proofs.Documents.{on_read}
use Rattle.full_cert.proofs.Rest.{BeginsWith}
use Rattle.full_cert.proofs.read.read_parts.Goals as goal
use Rattle.full_cert.proofs.read.read_parts.Goals.{In_ok-basis, In_ok-forms, In_ok-start}

basis_read : (c : In_ok-basis) → raws_at grevlex (length (program_of c.args.lp.now).names)
    (codes "/basis") (get (codes "basis") (view c.args.value.now))
    ≡ Ok (terms_each c.in_ok-basis.basis.items)
basis_read c = search (rules, the_lemmas)

pub returns-in_err-steps-clause-reads : goal.returns-in_err-steps-clause-reads
returns-in_err-steps-clause-reads c =
    let l = program_of c.args.lp.now in
    let branches = count_seen _ _ _ c.branches.ensures.branches in
    let d = view c.args.value.now in
    let basis = basis_read (goal.at-returns-in_err-steps-clause-reads c).In_ok-basis in
    passed _ _ _ _ c.from_residual-in_err-steps.ensures.1 (IfFault-map c.in_err-steps.field-0.0
    (λ f h.
    let steps : steps_at (length l.names) (length (terms_each c.in_ok-basis.basis.items))
    (length l.branches) (codes "/steps") (get (codes "steps") d) ≡ Err f =
    search (rules, the_lemmas, terms_count, branches, h) in
    on_read _ basis ∙ ap (on _) steps) c.in_err-steps.ensures.reads)

pub returns-in_err-forms-clause-reads : goal.returns-in_err-forms-clause-reads
returns-in_err-forms-clause-reads c =
    let l = program_of c.args.lp.now in
    let branches = count_seen _ _ _ c.branches.ensures.branches in
    let d = view c.args.value.now in
    let basis = basis_read (goal.at-returns-in_err-forms-clause-reads c).In_ok-basis in
    let steps : steps_at (length l.names) (length (terms_each c.in_ok-basis.basis.items))
    (length l.branches) (codes "/steps") (get (codes "steps") d)
    ≡ Ok (map (λ b. rows_of b.items) c.in_ok-steps.steps.items) =
    search (rules, the_lemmas, terms_count, branches) in
    passed _ _ _ _ c.from_residual-in_err-forms.ensures.1 (IfFault-map c.in_err-forms.field-0.0
    (λ f h.
    let forms : forms_at (length l.names) (length l.branches) (codes "/forms")
    (get (codes "forms") d) ≡ Err f = search (rules, the_lemmas, branches, h) in
    on_read _ basis ∙ on_read _ steps ∙ ap (on _) forms) c.in_err-forms.ensures.reads)

begins : (c : In_ok-forms) → BeginsWith (program_of c.args.lp.now) (view c.args.value.now)
    (terms_each c.in_ok-basis.basis.items) (map (λ b. rows_of b.items) c.in_ok-steps.steps.items)
    (map form_in c.in_ok-forms.forms.items)
begins c =
    let branches = count_seen _ _ _ c.branches.ensures.branches in
    record {
      basis_is = search (rules, the_lemmas);
      steps_are = search (rules, the_lemmas, terms_count, branches);
      forms_are = search (rules, the_lemmas, branches);
    }

starts : (c : In_ok-start) → start_there (length (program_of c.args.lp.now).names)
    (length (program_of c.args.lp.now).init) (codes "/start")
    (get (codes "start") (view c.args.value.now)) ≡ Ok (start_in c.in_ok-start.start)
starts c =
    let equations = count_seen _ _ _ c.start.ensures in
    search (rules, the_lemmas, equations)

pub returns-in_default-clause-reads : goal.returns-in_default-clause-reads
returns-in_default-clause-reads c =
    let l = program_of c.args.lp.now in
    let b = begins (goal.at-returns-in_default-clause-reads c).In_ok-forms in
    IfFault-map c.shape_at.result (λ f h.
    let start : start_there (length l.names) (length l.init) (codes "/start")
    (get (codes "start") (view c.args.value.now)) ≡ Err f = search (rules, the_lemmas, h) in
    on_read _ b.basis_is ∙ on_read _ b.steps_are ∙ on_read _ b.forms_are ∙ ap (on _) start)
    c.shape_at.ensures

pub returns-in_err-start-clause-reads : goal.returns-in_err-start-clause-reads
returns-in_err-start-clause-reads c =
    let l = program_of c.args.lp.now in
    let b = begins (goal.at-returns-in_err-start-clause-reads c).In_ok-forms in
    let equations = count_seen _ _ _ c.start.ensures in
    passed _ _ _ _ c.from_residual-in_err-start.ensures.1 (IfFault-map c.in_err-start.field-0.0
    (λ f h.
    let start : start_there (length l.names) (length l.init) (codes "/start")
    (get (codes "start") (view c.args.value.now)) ≡ Err f =
    search (rules, the_lemmas, equations, h) in
    on_read _ b.basis_is ∙ on_read _ b.steps_are ∙ on_read _ b.forms_are ∙ ap (on _) start)
    c.in_err-start.ensures.reads)

pub returns-in_err-rounds-clause-reads : goal.returns-in_err-rounds-clause-reads
returns-in_err-rounds-clause-reads c =
    let l = program_of c.args.lp.now in
    let steps = goal.at-returns-in_err-rounds-clause-reads c in
    let b = begins steps.In_ok-forms in
    passed _ _ _ _ c.from_residual-in_err-rounds.ensures.1 (IfFault-map c.in_err-rounds.field-0.0
    (λ f h.
    let rounds : rounds_in (length l.names) (length (terms_each c.in_ok-start.start.out.items))
    (map form_in c.in_ok-forms.forms.items) (codes "/rounds")
    (get (codes "rounds") (view c.args.value.now)) ≡ Err f =
    search (rules, the_lemmas, terms_count, h) in
    on_read _ b.basis_is ∙ on_read _ b.steps_are ∙ on_read _ b.forms_are
    ∙ on_read _ (starts steps.In_ok-start) ∙ ap (on _) rounds) c.in_err-rounds.ensures.reads)

pub returns-clause-reads : goal.returns-clause-reads
returns-clause-reads c =
    let l = program_of c.args.lp.now in
    let steps = goal.at-returns-clause-reads c in
    let b = begins steps.In_ok-forms in
    let rounds : rounds_in (length l.names) (length (terms_each c.in_ok-start.start.out.items))
    (map form_in c.in_ok-forms.forms.items) (codes "/rounds")
    (get (codes "rounds") (view c.args.value.now)) ≡ Ok (map round_in c.in_ok-rounds.rounds.items) =
    search (rules, the_lemmas, terms_count) in
    on_read _ b.basis_is ∙ on_read _ b.steps_are ∙ on_read _ b.forms_are
    ∙ on_read _ (starts steps.In_ok-start) ∙ on_read _ rounds
