use Rattle.expo.specs.Solutions.{different, same}
use Rattle.std.proofs.Common.{inl, inr}
use Rattle.expo.proofs.Outcomes.{ok_weaker}
use Rattle.expo.proofs.Solved.{same_number, other_number}
use Rattle.expo.proofs.solution.terms_of_table.Goals as goal

pub other_terms-requires-clause-different : goal.other_terms-requires-clause-different
other_terms-requires-clause-different c = other_number c.args.inhomogeneity.now.number
    c.args.own.now.number c.if-eq.ensures

pub returns-then-eq-clause-terms : goal.returns-then-eq-clause-terms
returns-then-eq-clause-terms c =
    ok_weaker _ _ (λ out h. same (same_number c.args.inhomogeneity.now.number c.args.own.now.number
    c.if-eq.ensures) h) c.equal_terms.result c.equal_terms.ensures.terms

pub returns-then-eq-clause-wide : goal.returns-then-eq-clause-wide
returns-then-eq-clause-wide c = λ e. inr (
  same_number c.args.inhomogeneity.now.number c.args.own.now.number
      c.if-eq.ensures,
  c.equal_terms.ensures.wide e,
)

pub returns-else-eq-clause-terms : goal.returns-else-eq-clause-terms
returns-else-eq-clause-terms c =
    ok_weaker _ _ (λ out h.
    different (other_number c.args.inhomogeneity.now.number c.args.own.now.number
    c.if-eq.ensures) h) c.other_terms.result c.other_terms.ensures.terms

pub returns-else-eq-clause-wide : goal.returns-else-eq-clause-wide
returns-else-eq-clause-wide c =
    λ e. inl (
      other_number c.args.inhomogeneity.now.number c.args.own.now.number c.if-eq.ensures,
      c.other_terms.ensures.wide e,
    )
