use Rattle.std.proofs.Common.{◌≡◌, length, sym, subst, ap, ◌∙◌, rules}
use Rattle.serde_json.specs.View.{view}
use Rattle.cert_form.specs.Form.{on, parts_of, cert_of}
use Rattle.cert_form.specs.Cert.{IsCertOf, IsWellSized, certificate_of}
use Rattle.cert_form.proofs.Each.{IfFault-map, passed}
use Rattle.cert_form.proofs.Kept.{resized, kept, cert_is, raws_length}
use Rattle.cert_form.proofs.Documents.{opened, parts_as}
use Rattle.cert_form.proofs.read.read_value.Goals as goal
use Rattle.cert_form.proofs.read.read_value.Goals.{After-has_version-sparse, After-len}

opens : (c : After-has_version-sparse) → cert_of c.args.names.now c.args.branches
    (view c.args.value.now) ≡ parts_of c.args.names.now c.has_version-sparse.result c.args.branches
    (view c.args.value.now)
opens c = opened _ _ (view c.args.value.now) (search rules)
    (sym c.has_known_version.ensures ∙ c.if-not-has_known_version.false)
    (sym c.has_names.ensures ∙ c.if-not-has_names.false) c.has_version-sparse.ensures

as_many : (c : After-len) → length c.in_ok-basis.ensures.raw ≡ c.len.result
as_many c = raws_length _ c.in_ok-basis.basis _ c.in_ok-basis.ensures.alike ∙ sym c.len.ensures

pub returns-in_err-basis : goal.returns-in_err-basis
returns-in_err-basis c = passed _ _ _ _ c.from_residual.ensures.1
    (IfFault-map c.in_err-basis.field-0.0 (λ f h.
    opens (goal.at-returns-in_err-basis c).After-has_version-sparse ∙ ap (on _) h)
    c.in_err-basis.ensures)

pub returns-in_err-steps : goal.returns-in_err-steps
returns-in_err-steps c =
    passed _ _ _ _ c.from_residual-in_err-steps.ensures.1
    (IfFault-map c.in_err-steps.field-0.0 (λ f h.
    opens (goal.at-returns-in_err-steps c).After-has_version-sparse
    ∙ parts_as c.args.names.now _ c.args.branches (view c.args.value.now) c.in_ok-basis.ensures.is
    (as_many (goal.at-returns-in_err-steps c).After-len) h) c.in_err-steps.ensures)

pub new-requires : goal.new-requires
new-requires c =
    let basis = c.in_ok-basis.ensures in
    let steps = c.in_ok-steps.ensures in
    subst (λ m. IsWellSized m c.in_ok-basis.basis c.in_ok-steps.steps) (sym c.len-2.ensures.len)
    (kept _ _ c.in_ok-basis.basis basis.raw c.in_ok-steps.steps steps.raw basis.alike
    (resized c.len.ensures steps.alike))

pub returns : goal.returns
returns c =
    let basis = c.in_ok-basis.ensures in
    let steps = c.in_ok-steps.ensures in
    record {
      raw = record { basis = basis.raw; steps = steps.raw };
      is = opens (goal.at-returns c).After-has_version-sparse
          ∙ parts_as c.args.names.now _ c.args.branches (view c.args.value.now) basis.is
          (as_many (goal.at-returns c).After-len) steps.is;
      alike = subst (λ k. IsCertOf (length c.args.names.now) c.args.branches k
          (record { basis = basis.raw; steps = steps.raw })) (sym (c.new.ensures
          ∙ ap (λ m. record {
            arity = m;
            certificate = certificate_of c.in_ok-basis.basis c.in_ok-steps.steps;
          }) c.len-2.ensures.len)) (cert_is _ _ c.in_ok-basis.basis basis.raw
          c.in_ok-steps.steps steps.raw basis.alike (resized c.len.ensures steps.alike));
    }
