use Rattle.std.proofs.Common.{pos, refl, sym, ap, subst, ◌∙◌}
use mir.Syntax.{w64}
use Rattle.std.proofs.lemmas.Int.{to_z-of_z}
use Rattle.algebra.specs.Fraction.{Fraction, over}
use Rattle.frac128.specs.Sums.{negate_if}
use Rattle.closures.specs.Modulo.{HasPivot}
use Rattle.residue_rows.specs.Modulus.{modulus}
use Rattle.residue_rows.specs.Limited.{IsFractionOf}
use Rattle.residue_rows.proofs.Fractions.{fraction_found, no_fraction_past, no_fraction_without}
use Rattle.residue_rows.proofs.reconstruction.fraction_of.Goals as goal

pub returns-then-rests-gt-LIMIT-clause-none : goal.returns-then-rests-gt-LIMIT-clause-none
returns-then-rests-gt-LIMIT-clause-none c _ =
    let r = c.rests_within-rests.result in
    let e = c.rests_within-rests.ensures in
    subst (λ a. (f : Fraction) → ¬ IsFractionOf f (pos a)) c.value.ensures
    (no_fraction_past c.value.result r.high r.low r.high_factor r.low_factor r.negative e.rests
    e.low e.high c.if-rests-gt-LIMIT.true)

pub returns-in_err-inverse-clause-none : goal.returns-in_err-inverse-clause-none
returns-in_err-inverse-clause-none c _ =
    let r = c.rests_within-rests.result in
    let e = c.rests_within-rests.ensures in
    subst (λ a. (f : Fraction) → ¬ IsFractionOf f (pos a)) c.value.ensures
    (no_fraction_without c.value.result r.high r.low r.high_factor r.low_factor r.negative e.rests
    e.low e.high (λ p. c.in_err-inverse.ensures.none refl
    (subst (HasPivot (pos modulus)) (sym c.from_number.ensures) p)))

pub returns-clause-some : goal.returns-clause-some
returns-clause-some c =
    let r = c.rests_within-rests.result in
    let e = c.rests_within-rests.ensures in
    let n = c.with_sign.result in
    subst (λ f. IsFractionOf f (pos c.args.residue.now.value))
    (sym (c.quotient.ensures ∙ ap (λ n. over n r.low_factor)
    (to_z-of_z w64 n (record { sfits = c.with_sign.type_inv }) ∙ c.with_sign.ensures)))
    (subst (λ a. IsFractionOf (over (negate_if r.negative (pos r.low)) r.low_factor) (pos a))
    c.value.ensures
    (fraction_found c.value.result r.high r.low r.high_factor r.low_factor r.negative e.rests e.low
    c.if-rests-gt-LIMIT.false
    (subst (HasPivot (pos modulus)) c.from_number.ensures
    (record {
      inverse = pos c.in_ok-inverse.field-0.value;
      is = c.in_ok-inverse.ensures.some;
    }))))
