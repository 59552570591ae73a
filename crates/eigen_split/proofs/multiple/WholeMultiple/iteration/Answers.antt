use Rattle.std.proofs.Common.{◌<◌, ◌≤◌, subst, sym, arith, ◌∙◌}
use mir.Syntax.{w32}
use lib.IntN.{nat_abs}
use Rattle.std.proofs.lemmas.Int.{to_z-of_z}
use Rattle.vectors.proofs.SplitDecided.{denominator_some}
use Rattle.eigen_split.specs.Parts.{found_of}
use Rattle.eigen_split.specs.Residues.{gfs}
use Rattle.eigen_split.specs.WholeMultiple.{rows_in, size_of}
use Rattle.eigen_split.proofs.Excluding.{excluded_iteration}
use Rattle.eigen_split.proofs.Finishing.{iteration_found}
use Rattle.eigen_split.proofs.Reading.{limit_small, candidate_small}
use Rattle.eigen_split.proofs.multiple.WholeMultiple.iteration.Goals as goal

pub value_of-value-requires-clause-some : goal.value_of-value-requires-clause-some
value_of-value-requires-clause-some c = subst (λ d. 0 < d) (sym c.args.self.now.ready.least)
    (denominator_some (rows_in c.args.self.now))

pub value_of-value-requires-clause-candidate : goal.value_of-value-requires-clause-candidate
value_of-value-requires-clause-candidate c =
    subst (λ p. nat_abs p ≤ 4096) (sym (to_z-of_z w32 c.args.candidate c.ranges.candidate)) (let l =
    limit_small (size_of c.args.self.now) in let w =
    candidate_small c.args.self.now.ready c.requires.candidate in
    omega (arith, l, w))

pub returns-clause-iteration : goal.returns-clause-iteration
returns-clause-iteration c =
    let r = to_z-of_z w32 c.args.candidate c.ranges.candidate in
    iteration_found (rows_in c.args.self.now) c.args.self.now.denominator c.args.candidate _ _
    (found_of c.args.found.now) c.in-Ok.forms.items c.join.new.forms.items c.repeat.new.values.items
    c.value_of-value.result c.len.result c.args.self.now.ready.least (c.number_of-number.ensures
    ∙ r) r
    c.in-Ok.ensures.forms c.value_of-value.ensures (c.len.ensures ∙ c.in-Ok.forms.ok.0)
    c.in_ok-join.ensures c.in_ok-repeat.ensures

pub returns-then-is_excluded-clause-iteration : goal.returns-then-is_excluded-clause-iteration
returns-then-is_excluded-clause-iteration c =
    excluded_iteration (rows_in c.args.self.now) c.args.self.now.denominator c.args.candidate _
    (gfs c.args.polynomial.now) (found_of c.args.found.now) c.args.self.now.ready
    (to_z-of_z w32 c.args.candidate c.ranges.candidate) c.requires.annihilating
    (c.is_excluded.ensures c.if-is_excluded.true)
