use Rattle.std.proofs.Common.{refl, ap, map, ◌∙◌}
use Rattle.std.proofs.lemmas.List.{map-append, take_all}
use Rattle.polynomials.specs.Terms.{retold}
use Rattle.frac128.specs.FracMeaning.{fraction_of}
use Rattle.poly.specs.View.{term_of, terms_of}
use Rattle.program_model.proofs.Wider.{begin_retold, step_retold}
use Rattle.algebra.proofs.Lists.{take_next}
use Rattle.program_model.specs.Widening.{widen}
use Rattle.program_model.proofs.widening.widened_terms.Goals as goal

pub loop-term-init : goal.loop-term-init
loop-term-init c = begin_retold _ _ (ap (map (term_of fraction_of)) c.new-out.ensures.items)

pub loop-term-preserved : goal.loop-term-preserved
loop-term-preserved c =
    let t = term_of fraction_of in
    step_retold _ _ _ _ _ _ _ (take_next t _ _ _ c.loop-term-test.true c.term-item.is)
    (ap (map t) c.in_ok-push.ensures.items ∙ map-append t _ _) c.in_ok-mono.ensures.ok refl
    c.loop-term.invariant

pub returns : goal.returns
returns c = record {
  ok = c.loop-term.invariant
      ∙ ap (λ ts. retold (widen c.args.at) (terms_of fraction_of ts))
      (take_all _ _ c.loop-term-test.false);
}
