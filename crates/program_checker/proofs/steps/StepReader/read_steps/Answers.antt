use Rattle.std.proofs.Common.{◌≡◌, map, sym, ap, ◌∙◌, rules, Some, Err}
use Rattle.std.specs.Prelude.{vec_len, codes}
use Rattle.std.proofs.lemmas.Result.{MatchResult-weaker}
use Rattle.serde_json.specs.Find.{get}
use Rattle.serde_json.specs.View.{view, items_view}
use Rattle.cert_form.specs.Form.{shape, list_with}
use Rattle.cert_form.specs.declared.fault.Path.{the_lemmas}
use Rattle.cert_form.proofs.Each.{IfFault-map}
use Rattle.program_checker.proofs.CertDocuments.{listed, unlisted}
use Rattle.program_checker.proofs.StepShapes.{steps_counted}
use Rattle.program_checker.proofs.steps.StepReader.read_steps.Goals as goal

pub returns-in_default-list_with-clause-reads : goal.returns-in_default-list_with-clause-reads
returns-in_default-list_with-clause-reads c =
    IfFault-map c.shape_at-in_default-list_with.result (λ f is.
    let same : f ≡ shape (codes "/steps") = search (rules, the_lemmas, is) in
    steps_counted c.args.self.now.names.now (map vec_len c.args.self.now.lists.now.items)
    c.args.self.now.graph.now c.len.result (view c.args.value.now) c.len.ensures
    ∙ unlisted _ _ c.len.result (get (codes "steps") (view c.args.value.now))
    (view c.in-Some.steps.now) (search rules) (search rules) ∙ ap Err (sym same))
    c.shape_at-in_default-list_with.ensures

pub returns-clause-reads : goal.returns-clause-reads
returns-clause-reads c =
    let has : list_with c.len.result (view c.in-Some.steps.now)
    ≡ Some (items_view c.in-Some-list_with.list.now.items) = search rules in
    let same = steps_counted c.args.self.now.names.now
    (map vec_len c.args.self.now.lists.now.items)
    c.args.self.now.graph.now c.len.result (view c.args.value.now) c.len.ensures
    ∙ listed _ _ c.len.result (get (codes "steps") (view c.args.value.now))
    (view c.in-Some.steps.now) (search rules)
    (has ∙ ap (λ xs. Some (items_view xs)) (sym c.deref.ensures.value)) in
    MatchResult-weaker c.read_each.result c.read_each.ensures.reads
    (λ k h. record { raw = h.raw; is = same ∙ h.is; alike = h.alike })
    (λ e. IfFault-map e (λ f is. same ∙ is))
