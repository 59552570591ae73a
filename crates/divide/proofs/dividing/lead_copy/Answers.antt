use Rattle.std.proofs.Common.{sym, ap, ◌∙◌}
use Rattle.std.proofs.lemmas.Result.{IfOk-weaker}
use Rattle.poly.specs.View.{term_of}
use Rattle.poly.proofs.Multiples.{seen_lead}
use Rattle.divide.proofs.OneCut.{lead_is}
use Rattle.divide.proofs.dividing.lead_copy.Goals as goal

pub returns : goal.returns
returns g c = record {
  lead = let lead = seen_lead (term_of g.K.Ring.meaning) c.deref.result.now c.args.g.now.terms.items
      c.in-Some.lead.now c.in-Some.ensures.value (c.deref.ensures.value
      ∙ ap (λ v. v.items) c.terms.ensures) in
      IfOk-weaker c.copy.result _ _ (λ mono is. is ∙ sym (lead_is _ _ _ lead)) c.copy.ensures.ok;
}
