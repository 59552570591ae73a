use Rattle.std.proofs.Common.{◌≡◌, ◌≢◌, ap, ◌∙◌, IsTrue, false, [], true, refl, sym, subst, length}
use Rattle.algebra.proofs.In.{each_in}
use Rattle.polynomials.specs.Exponent.{Divides}
use Rattle.machines.specs.Cut.{lead_of, divides}
use Rattle.machines.proofs.DividesTest.{divides-each, each-divides}
use Rattle.poly.specs.Seen.{terms_in}
use Rattle.residue_rows.proofs.Leads.{not_true}
use Rattle.residue_rows.proofs.ElementSteps.{item_in, lead_mono, divisors_from, true_or, false_or}
use Rattle.residue_rows.proofs.elements.is_led.Goals as goal
use Rattle.residue_rows.proofs.elements.is_led.Goals.{in-Some+else-divides, in_default}

apart : IsTrue false → ⊥
apart e = cc

pub divides-requires : goal.divides-requires
divides-requires c =
    ap length (sym (lead_mono _ _ c.in-Some.ensures.some)) ∙ each_in
    (λ g. length (lead_of g) ≡ length c.args.mono.now) _ _ c.requires.arities (item_in terms_in _ _
    c.loop-element-test.true c.element-item.is)

pub returns-then-divides : goal.returns-then-divides
returns-then-divides c =
    let g = terms_in c.element-item.result in
    let e = c.args.mono.now in
    let is = lead_mono g _ c.in-Some.ensures.some in
    let i = item_in terms_in _ _ c.loop-element-test.true c.element-item.is in
    let w = each_in (λ g. length (lead_of g) ≡ length e) _ g c.requires.arities i in
    true_or _ (divisors_from terms_in _ _ e c.loop-element-test.true c.element-item.is
    c.loop-element.invariant) (subst (λ d. divides d e ≡ true) (sym is) (each-divides _ e
    (ap length (sym is) ∙ w) (c.if-divides.ensures.0 refl)))

pub loop-element-preserved : goal.loop-element-preserved
loop-element-preserved c =
    let g = terms_in c.element-item.result in
    let e = c.args.mono.now in
    let i = item_in terms_in _ _ c.loop-element-test.true c.element-item.is in
    let w = each_in (λ g. length (lead_of g) ≡ length e) _ g c.requires.arities i in
    false_or _ (divisors_from terms_in _ _ e c.loop-element-test.true c.element-item.is
    c.loop-element.invariant) (not_true _ (λ t. elim c.match-lead.branch [
      | in-Some+else-divides b
          ↦ apart (b.if-divides.ensures.1 (subst (λ d. Divides d e)
          (lead_mono g _ b.in-Some.ensures.some) (divides-each _ e w t)))
      | in_default b ↦ absurd (each_in (λ g. g ≢ []) _ g
          c.requires.nonzero i (b.in_default.ensures.none.0 refl))
    ]))
