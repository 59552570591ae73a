use Rattle.std.proofs.Common.{length, sym, ap, ap₂, ◌∙◌}
use Rattle.std.proofs.lemmas.Result.{IfOk-weaker}
use Rattle.polynomials.specs.Exponent.{lcm}
use Rattle.task_lists.proofs.Raised.{lead_length}
use Rattle.task_lists.proofs.s_polynomial.multiple_of.Goals as goal

pub lcm-requires : goal.lcm-requires
lcm-requires g c =
    ap length c.lead_monomial.ensures ∙ lead_length _ _ c.requires.nonzero.0
    c.args.f.now.polynomial.arity ∙ c.requires.arity ∙ sym (lead_length _ _ c.requires.nonzero.1
    c.args.g.now.polynomial.arity) ∙ ap length (sym c.lead_monomial-2.ensures)

pub returns : goal.returns
returns g c = record {
  multiple = IfOk-weaker c.lcm.result _ _ (λ e is. is
      ∙ ap₂ lcm c.lead_monomial.ensures c.lead_monomial-2.ensures) c.lcm.ensures.ok;
}
