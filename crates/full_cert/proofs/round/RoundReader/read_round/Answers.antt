use Rattle.std.proofs.Common.{rules, ◌≡◌, map, length, subst}
use Rattle.std.specs.Prelude.{None}
use Rattle.std.proofs.lemmas.List.{length-map}
use Rattle.serde_json.specs.View.{view, items_view}
use Rattle.cert_form.specs.Faults.{Reads}
use Rattle.cert_form.specs.Path.{path_bytes}
use Rattle.cert_form.proofs.Each.{IfFault-map}
use Rattle.task_lists.specs.View.{form_in, branch_in}
use Rattle.full_cert.specs.Form.{branches_at, round_at}
use Rattle.full_cert.proofs.round.RoundReader.read_round.Goals as goal

pub returns-in_default-clause-reads : goal.returns-in_default-clause-reads
returns-in_default-clause-reads c =
    let many : length (map form_in c.args.self.now.forms.now) ≡ length c.args.self.now.forms.now =
    length-map _ _ in
    IfFault-map c.shape_at.result (λ f h. search (rules, many, h)) c.shape_at.ensures

pub returns-clause-reads : goal.returns-clause-reads
returns-clause-reads c =
    let r = c.args.self.now in
    let fs = map form_in r.forms.now in
    let many : length fs ≡ length r.forms.now = length-map _ _ in
    let same : branches_at r.variables r.before None fs (path_bytes c.args.path.now) 0
    (items_view c.deref.result.now) ≡ round_at r.variables r.before fs
    (path_bytes c.args.path.now) (view c.args.value.now) = search (rules, many) in
    subst (λ q. Reads (λ bs. map branch_in bs.items) q c.read_branches.result) same
    c.read_branches.ensures.reads
