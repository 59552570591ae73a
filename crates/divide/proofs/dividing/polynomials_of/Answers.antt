use Rattle.std.proofs.Common.{◌≡◌, sym, ap₂, ◌++◌, ◌∷◌, [], ◌∙◌}
use Rattle.std.proofs.lemmas.List.{map-append}
use Rattle.std.proofs.lemmas.List.Elements.{All-push, All-same}
use Rattle.poly.specs.Seen.{terms_in}
use Rattle.poly.specs.View.{terms_of}
use Rattle.divide.proofs.Divided.{pushed}
use Rattle.divide.proofs.dividing.polynomials_of.Goals as goal

pub loop-terms-preserved : goal.loop-terms-preserved
loop-terms-preserved g c =
    let i = c.loop-terms.invariant in
    let seen = λ (v : _). terms_of g.K.Ring.meaning v.items in (
      pushed terms_in c.loop-terms.out.items c.push.new.self.items c.from_descending.result
          c.in_ok-push.ensures.items ∙ ap₂ (λ l q. l ++ q ∷ []) i.0 c.from_descending.ensures.terms
          ∙ sym (map-append seen c.loop-terms.yielded (c.in-Some.terms ∷ [])),
      All-same (λ q. (q.order ≡ c.args.order) × (q.arity ≡ c.args.arity)) c.push.new.self.items
          (c.loop-terms.out.items ++ c.from_descending.result ∷ []) c.in_ok-push.ensures.items
          (All-push (λ q. (q.order ≡ c.args.order) × (q.arity ≡ c.args.arity))
          c.loop-terms.out.items c.from_descending.result i.1 (
            c.from_descending.ensures.order,
            c.from_descending.ensures.arity,
          )),
    )
