use Rattle.std.proofs.Common.{pos, refl, ap, ◌∙◌}
use Rattle.frac128.specs.FracMeaning.{fraction_of}
use Rattle.poly.specs.View.{term_of}
use Rattle.loop_model.proofs.Items.{in_list, item_of}
use Rattle.residue_rows.specs.Modulus.{modulus}
use Rattle.residue_rows.specs.Numbers.{number_of}
use Rattle.closing.specs.Modulo.{IsTermModulo}
use Rattle.closing.proofs.Modular.{images_more, term_modulo, no_residues}
use Rattle.closing.proofs.modular_maps.residue_polynomial.Goals as goal

pub returns-in_default-clause-none : goal.returns-in_default-clause-none
returns-in_default-clause-none c = λ none.
    let terms = c.args.polynomial.now.terms.items in
    let value = c.deref-term-items.ensures.value ∙ ap (λ v. v.items) c.terms.ensures in
    no_residues (pos modulus) c.args.polynomial.now c.loop-term.term-index c.term-item.result
    (in_list terms _ value _ c.loop-term-test.true) (item_of terms _ value _ _ c.term-item.is)
    (c.in_default.ensures.none refl)

pub loop-term-preserved : goal.loop-term-preserved
loop-term-preserved c =
    let terms = c.args.polynomial.now.terms.items in
    let value = c.deref-term-items.ensures.value ∙ ap (λ v. v.items) c.terms.ensures in
    images_more (IsTermModulo (pos modulus)) (term_of fraction_of) (term_of number_of) terms _ _
    (record { mono = c.in_ok-mono.mono; coef = c.in-Some.coef })
    (in_list terms _ value _ c.loop-term-test.true) (item_of terms _ value _ _ c.term-item.is)
    c.loop-term.invariant (term_modulo (pos modulus) c.term-item.result
    (record { mono = c.in_ok-mono.mono; coef = c.in-Some.coef }) c.in_ok-mono.ensures.ok
    c.in-Some.ensures.some) c.in_ok-push.ensures.items
