use Rattle.std.proofs.Common.{pos, map, ap, subst, ◌∙◌}
use Rattle.std.proofs.lemmas.Result.{IfOk-weaker}
use Rattle.std.specs.List.{AllZip}
use Rattle.algebra.specs.Ring.{operations}
use Rattle.algebra.proofs.IntRing.{ℤ_ring}
use Rattle.polynomials.specs.Terms.{value_at}
use Rattle.closures.specs.Modulo.{AreCongruent}
use Rattle.loop_model.specs.View.{program_of}
use Rattle.loop_model.proofs.Formed.{formed}
use Rattle.residue_rows.specs.Modulus.{modulus}
use Rattle.residue_rows.specs.Numbers.{numbers_of}
use Rattle.closing.specs.Maps.{modular_terms_each}
use Rattle.closing.proofs.Ends.{sample_begins}
use Rattle.closing.proofs.samples.start_state.Goals as goal

pub returns : goal.returns
returns c =
    IfOk-weaker c.map_at.result _ _ (λ state near. sample_begins (program_of c.args.lp.now)
    (pos modulus) (formed c.args.lp.now) c.args.numbers.now _ c.requires.count c.requires.maps.start
    (subst (λ rs. AllZip (AreCongruent (pos modulus)) (numbers_of state.items) (map (λ r. value_at
    (operations ℤ_ring) r (map pos c.args.numbers.now)) (modular_terms_each rs)))
    c.deref.ensures.value (subst (λ xs. AllZip (AreCongruent (pos modulus)) (numbers_of state.items)
    (map (λ r. value_at (operations ℤ_ring) r xs) (modular_terms_each c.deref.result.now)))
    (ap numbers_of c.deref-2.ensures.value ∙ c.in_ok-state.ensures) near))) c.map_at.ensures
