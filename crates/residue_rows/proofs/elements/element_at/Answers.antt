use Rattle.std.proofs.Common.{◌∙◌, ◌-◌, arith, refl}
use Rattle.std.proofs.lemmas.Result.{err_from_is_err_and}
use Rattle.frac128.specs.FracMeaning.{fraction_of}
use Rattle.algebra.specs.Fraction.{ℚ}
use Rattle.poly.specs.View.{terms_of}
use Rattle.residue_rows.specs.LedRows.{led_of}
use Rattle.residue_rows.proofs.Shares.{element_polynomial}
use Rattle.residue_rows.proofs.ElementSteps.{first_term, first_made, no_row, some_row, row_wide, mono_read}
use Rattle.residue_rows.proofs.elements.element_at.Goals as goal

pub loop-place-init : goal.loop-place-init
loop-place-init c = record {
  within = omega arith;
  element = first_made c.args.monomials.now c.requires.kept c.args.column c.requires.free
      (terms_of fraction_of c.push.new.self.items) c.in_ok-mono.mono
      (first_term c.new-terms.result.items c.push.new.self.items
      (record { mono = c.in_ok-mono.mono; coef = c.one.result }) c.in_ok-mono.mono ℚ.one
      c.new-terms.ensures.items c.in_ok-push.ensures.items refl c.one.ensures)
      (c.in_ok-mono.ensures.ok ∙ mono_read c.args.monomials.now c.args.column c.requires.within
      c.index-monomials-column.is);
}

pub push_share-requires : goal.push_share-requires
push_share-requires c =
    row_wide c.args.monomials.now c.args.echelon.now.rows c.requires.kept c.in-Some.row.now
    c.in-Some.ensures.within c.args.column c.requires.within

pub loop-place-preserved-in-Continue-branch-3 : goal.loop-place-preserved-in-Continue-branch-3
loop-place-preserved-in-Continue-branch-3 c = record {
  within = omega (arith, c.loop-place.invariant.within);
  element =
      some_row _ c.requires.kept _ c.loop-place-test.true c.loop-place.invariant.within
      c.loop-place.invariant.element c.in-Some.row.now c.in-Some.ensures.within
      c.in-Some.ensures.some (mono_read c.args.monomials.now (c.loop-place.place - 1)
      (omega (arith, c.loop-place.invariant.within, c.requires.within, c.loop-place-test.true))
      c.index-monomials-place.is) c.in_ok-push_share.ensures.pushed;
}

pub returns-in_err-push_share-clause-wide : goal.returns-in_err-push_share-clause-wide
returns-in_err-push_share-clause-wide c =
    let p = err_from_is_err_and c.from_residual-in_err-push_share.result
    c.from_residual-in_err-push_share.ensures.1 in
    λ lead h.
    let w = c.in_err-push_share.ensures.wide lead (cc (p.1, p.2, h)) in (
      w.0,
      record { row = led_of c.in-Some.row.now; within = c.in-Some.ensures.within; untold = w.1 },
    )

pub loop-place-preserved : goal.loop-place-preserved
loop-place-preserved c = record {
  within = omega (arith, c.loop-place.invariant.within);
  element =
      no_row _ c.requires.kept _ c.loop-place-test.true c.loop-place.invariant.within
      c.loop-place.invariant.element (c.in_default.ensures.none refl);
}

pub from_descending-requires-clause-descending : goal.from_descending-requires-clause-descending
from_descending-requires-clause-descending c =
    element_polynomial c.args.arity c.args.monomials.now c.requires.arities c.requires.ascend
    c.args.column c.requires.within c.loop-place.invariant.element
