use Rattle.std.proofs.Common.{◌≡◌, ℕ, length, refl, ap, sym, subst, ◌∙◌, Vec, Global}
use Rattle.std.specs.Prelude.{◌<◌, vec_len, All, IfOk, IfErr}
use Rattle.std.proofs.lemmas.List.{length-map}
use Rattle.loops.specs.Certificate.{Certificate, IsVerdict, element}
use Rattle.loops.specs.Inv.{Inv}
use Rattle.poly.specs.Seen.{terms_in}
use Rattle.loop_model.specs.View.{program_of}
use Rattle.cert_form.specs.Cert.{Polys, HaveArity, IsSquare, polys_in, blocks_in, rows_in, certificate_of}
use Rattle.cert_checker.specs.Short.{AreShort}
use Rattle.cert_checker.specs.Views.{verdict_of}
use Rattle.cert_checker.specs.Wide.{IfCheckRefused}
use Rattle.cert_checker.specs.declared.Verdict.TheVariants.{Valid}
use Rattle.cert_checker.proofs.FormingLaws.{unformed_refused}
use Rattle.cert_checker.proofs.Stopping.{passed_on}
use Rattle.cert_checker.proofs.check.Goals as goal

-- the certificate of the polynomials and cofactors that it has
module _ (c : Certificate) (basis : Polys) (steps : Vec (Vec Polys Global) Global)
    (e : polys_in basis ≡ c.basis) (f : blocks_in steps ≡ c.steps) where
  made_of : c ≡ certificate_of basis steps
  made_of = subst (λ b. c ≡ record { basis = b; steps = blocks_in steps }) (sym e)
      (subst (λ s. c ≡ record { basis = c.basis; steps = s }) (sym f) refl)

  count : length c.basis ≡ length basis.items
  count = ap length (sym e) ∙ length-map basis.items terms_in

pub returns-in_err-maps-clause-refused : goal.returns-in_err-maps-clause-refused
returns-in_err-maps-clause-refused c = passed_on _ _ _ c.from_residual.ensures.1
    (unformed_refused _ _ _ c.in_err-maps.ensures.refused)

pub judge-requires-clause-kept : goal.judge-requires-clause-kept
judge-requires-clause-kept c = record {
  arities = subst (λ m. HaveArity m c.basis.result.now) c.requires.arity c.basis.ensures.arity;
  squares = subst (λ m. All (IsSquare m (vec_len c.basis.result.now)) c.steps.result.now.items)
      c.requires.arity
      (subst (λ n. All (IsSquare c.args.cert.now.arity n) c.steps.result.now.items)
      (count c.args.cert.now.certificate c.basis.result.now c.steps.result.now c.basis.ensures.terms
      c.steps.ensures.terms ∙ sym c.basis.result.now.ok.0) c.steps.ensures.square);
}

pub judge-requires-clause-branches : goal.judge-requires-clause-branches
judge-requires-clause-branches c = sym (length-map c.steps.result.now.items rows_in)
    ∙ ap length c.steps.ensures.terms ∙ c.requires.branches

pub returns-clause-verdict : goal.returns-clause-verdict
returns-clause-verdict c =
    subst (λ d. IfOk c.judge.result (λ v. IsVerdict (program_of c.args.lp.now) d (verdict_of v)))
    (sym (made_of c.args.cert.now.certificate c.basis.result.now c.steps.result.now
    c.basis.ensures.terms c.steps.ensures.terms)) c.judge.ensures.verdict

pub returns-clause-valid : goal.returns-clause-valid
returns-clause-valid c =
    subst (λ (d : Certificate). IfOk c.judge.result (λ v. v ≡ Valid → (i : ℕ) → i < length d.basis
    → Inv (program_of c.args.lp.now) (element d i)))
    (sym (made_of c.args.cert.now.certificate c.basis.result.now c.steps.result.now
    c.basis.ensures.terms c.steps.ensures.terms)) c.judge.ensures.valid

pub returns-clause-refused : goal.returns-clause-refused
returns-clause-refused c =
    subst (λ d. IfErr c.judge.result (IfCheckRefused (program_of c.args.lp.now) d))
    (sym (made_of c.args.cert.now.certificate c.basis.result.now c.steps.result.now
    c.basis.ensures.terms c.steps.ensures.terms)) c.judge.ensures.refused

pub returns-clause-short : goal.returns-clause-short
returns-clause-short c =
    subst (λ d. IfOk c.judge.result (λ v. AreShort (program_of c.args.lp.now) d (verdict_of v)))
    (sym (made_of c.args.cert.now.certificate c.basis.result.now c.steps.result.now
    c.basis.ensures.terms c.steps.ensures.terms)) c.judge.ensures.short
