use Rattle.std.proofs.Common.{◌≡◌, true, sym, ◌∙◌, arith}
use Rattle.std.proofs.lemmas.Result.{IfOk-weaker}
use Rattle.program_families.proofs.LesserMonomials.{rest_found, rest_passed, rest_none}
use Rattle.program_families.proofs.rests.rest_at.Goals as goal

pub returns-then-eq-clause-terms : goal.returns-then-eq-clause-terms
returns-then-eq-clause-terms c =
    let l = c.loop-count in
    IfOk-weaker c.copy.result _ _
    (λ p h. h ∙ sym (rest_found c.args.rests.now l.count c.index-rests-count.result
    c.loop-count-test.true
    l.invariant.within c.index-rests-count.is c.args.monomial.now
    (c.eq.ensures.same.0 c.if-eq.true)) ∙ l.invariant.rest) c.copy.ensures.terms

pub loop-count-preserved : goal.loop-count-preserved
loop-count-preserved c =
    let l = c.loop-count in
    record {
      within = let w = l.invariant.within in omega (arith, w);
      rest =
          sym (rest_passed c.args.rests.now l.count c.index-rests-count.result
          c.loop-count-test.true l.invariant.within c.index-rests-count.is c.args.monomial.now
          (λ e. let t : c.eq.result ≡ true = c.eq.ensures.same.1 e in
          let f = c.if-eq.false in cc)) ∙ l.invariant.rest;
    }

pub returns-clause-terms : goal.returns-clause-terms
returns-clause-terms c =
    c.zero.ensures.terms
    ∙ sym (rest_none c.args.rests.now c.args.monomial.now c.loop-count.count
    c.loop-count-test.false) ∙ c.loop-count.invariant.rest
