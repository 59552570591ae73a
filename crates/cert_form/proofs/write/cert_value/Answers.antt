use Rattle.std.proofs.Common.{All, sym, subst}
use Rattle.std.proofs.lemmas.List.Elements.{All-weaker}
use Rattle.std.proofs.lemmas.Result.{IfOk-weaker}
use Rattle.cert_form.specs.Cert.{HaveArity, IsSquare}
use Rattle.cert_form.proofs.Writable.{document_is}
use Rattle.cert_form.proofs.write.cert_value.Goals as goal

pub basis_value-requires : goal.basis_value-requires
basis_value-requires c =
    subst (λ n. HaveArity n c.basis.result.now) (sym c.requires) c.basis.ensures.arity

pub steps_value-requires : goal.steps_value-requires
steps_value-requires c =
    let steps = c.steps.result.now.items in
    subst (λ n. All (λ block. All (HaveArity n) block.items) steps) (sym c.requires)
    (All-weaker (IsSquare c.args.cert.now.arity _) (λ block.
    All (HaveArity c.args.cert.now.arity) block.items) (λ block s. s.arities) steps
    c.steps.ensures.square)

pub returns : goal.returns
returns c =
    IfOk-weaker c.object_of.result _ _
    (λ v made. document_is c.args.names.now c.args.cert.now.arity c.basis.result.now
    c.steps.result.now c.args.cert.now.certificate c.basis.ensures.terms c.steps.ensures.terms
    c.steps.ensures.square
    c.in_ok-basis.basis c.in_ok-steps.steps c.in_ok-vars.vars v c.in_ok-basis.ensures
    c.in_ok-steps.ensures c.in_ok-vars.ensures made) c.object_of.ensures
