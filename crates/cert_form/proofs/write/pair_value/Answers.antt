use Rattle.std.proofs.Common.{◌++◌, ◌∷◌, [], ap, ◌∙◌}
use Rattle.poly.specs.Seen.{terms_in}
use Rattle.cert_form.proofs.Listed.{pair_is}
use Rattle.cert_form.proofs.write.pair_value.Goals as goal

pub returns : goal.returns
returns c = record {
  value = pair_is c.args.names.now c.args.position (terms_in c.args.cofactor.now) c.from.result
      c.in_ok-text.text c.push.new.self.items c.push-2.new.self.items c.from-2.result c.from.ensures
      c.in_ok-text.ensures.value
      (c.in_ok-push.ensures.items ∙ ap (λ vs. vs ++ c.from.result ∷ []) c.new-pair.ensures.items)
      c.in_ok-push-2.ensures.items c.from-2.ensures;
  holds = c.in_ok-text.ensures.holds;
}
