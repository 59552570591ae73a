use Rattle.std.proofs.Common.{◌≡◌, ◌+◌, length, suc, ap₂, subst, arith, rules}
use Rattle.std.specs.Prelude.{codes}
use Rattle.serde_json.specs.View.{view}
use Rattle.rounds.specs.Form.{front}
use Rattle.std.proofs.lemmas.List.{length-map}
use Rattle.cert_form.specs.Faults.{Reads}
use Rattle.cert_form.specs.Path.{path_bytes}
use Rattle.task_lists.specs.View.{stage_in, form_in}
use Rattle.full_cert.specs.Form.{member_stage}
use Rattle.full_cert.proofs.round.BranchReader.read_orbit.Goals as goal

pub returns-clause-reads : goal.returns-clause-reads
returns-clause-reads c =
    let r = c.args.self.now in
    let n = c.len-numbers.result in
    let base = (form_in r.form.now).base in
    let many : length base ≡ n = search (rules, length-map) in
    let width : 2 + (n + n) ≡ front (length base) = omega (arith, many) in
    let gens : r.before + (1 + n) ≡ r.before + suc (length base) = omega (arith, many) in
    subst (λ q. Reads stage_in q c.read_member.result) (ap₂ (λ k g. member_stage k r.variables g
    (path_bytes c.args.path.now) (codes "orbit") (view c.args.value.now)) width gens)
    c.read_member.ensures.reads
