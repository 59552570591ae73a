use Rattle.std.proofs.Common.{◌≡◌, ◌<◌, List, false, subst, sym, ap, ◌∙◌}
use Rattle.polynomials.specs.Polynomial.{Arity}
use Rattle.poly.specs.View.{terms_of}
use Rattle.poly.specs.declared.Term.{Term}
use Rattle.frac128.specs.declared.fraction.Frac.{Frac}
use Rattle.frac128.specs.FracMeaning.{fraction_of}
use Rattle.solvable_maps.specs.Uses.{any}
use Rattle.poly.specs.Seen.{terms_in}
use Rattle.solvable.specs.Terms.{has_above}
use Rattle.solvable.proofs.Using.{term_arity, found_term, passed_term, has_now, has_not, has_low}
use Rattle.solvable.proofs.variables.has_term.Goals as goal
use Rattle.solvable.proofs.variables.has_term.Goals.{else-exponent-gt0-via-then-exponent-gt0+else-degree-below, else-exponent-gt0-via-else-exponent-gt0}

pub loop-term-init : goal.loop-term-init
loop-term-init c = ap (λ (ts : List (Term Frac)). any (has_above c.args.below c.args.variable)
    (terms_of fraction_of ts)) (sym (c.deref-term-items.ensures.value
    ∙ ap (λ v. v.items) c.terms.ensures))

pub exponent-requires : goal.exponent-requires
exponent-requires c =
    subst (λ n. c.args.variable < n)
    (sym (term_arity fraction_of c.args.polynomial.now.arity c.loop-term.term-index
    c.deref-term-items.result.now c.term-item.result c.loop-term-test.true c.term-item.is
    (subst (λ (ts : List (Term Frac)). Arity c.args.polynomial.now.arity (terms_of fraction_of ts))
    (sym (c.deref-term-items.ensures.value ∙ ap (λ v. v.items) c.terms.ensures))
    c.args.polynomial.now.polynomial.arity)))
    c.requires

pub returns-then-degree-below : goal.returns-then-degree-below
returns-then-degree-below c =
    found_term fraction_of (has_above c.args.below c.args.variable) c.loop-term.term-index
    c.deref-term-items.result.now c.term-item.result
    (any (has_above c.args.below c.args.variable) (terms_in c.args.polynomial.now))
    c.loop-term-test.true c.term-item.is
    (has_now c.args.below c.args.variable c.term-item.result.mono c.exponent.result c.degree.result
    c.exponent.ensures c.if-exponent-gt0.true c.degree.ensures c.if-degree-below.true)
    c.loop-term.invariant

pub loop-term-preserved : goal.loop-term-preserved
loop-term-preserved c =
    let all = any (has_above c.args.below c.args.variable) (terms_in c.args.polynomial.now) in
    let next = λ (h : has_above c.args.below c.args.variable c.term-item.result.mono ≡ false).
    passed_term fraction_of (has_above c.args.below c.args.variable) c.loop-term.term-index
    c.deref-term-items.result.now c.term-item.result all c.loop-term-test.true c.term-item.is h
    c.loop-term.invariant in
    elim c.else-exponent-gt0.branch [
      | else-exponent-gt0-via-then-exponent-gt0+else-degree-below w
          ↦ next (has_low c.args.below c.args.variable c.term-item.result.mono w.degree.result
          w.degree.ensures w.if-degree-below.false)
      | else-exponent-gt0-via-else-exponent-gt0 w
          ↦ next (has_not c.args.below c.args.variable c.term-item.result.mono c.exponent.result
          c.exponent.ensures w.if-exponent-gt0.false)
    ]
