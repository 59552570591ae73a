use Rattle.std.proofs.Common.{subst, sym, ap, rules, ◌≡◌, ◌≢◌, pos}
use mir.Syntax.{w32}
use Rattle.std.proofs.lemmas.Int.{to_z-of_z}
use Rattle.eigen_split.specs.Parts.{found_of}
use Rattle.eigen_split.specs.Search.{IsIteration, IsOther, zero_passed, other_iteration}
use Rattle.eigen_split.specs.WholeMultiple.{rows_in, size_of}
use Rattle.eigen_split.proofs.Finishing.{iterations_more}
use Rattle.eigen_split.proofs.multiple.WholeMultiple.others.Goals.{then-candidate-ne0+in_default, else-candidate-ne0}
use Rattle.eigen_split.proofs.multiple.WholeMultiple.others.Goals as goal

pub loop-step-preserved : goal.loop-step-preserved
loop-step-preserved c = elim c.if-candidate-ne0.branch [
  | then-candidate-ne0+in_default w ↦
      let some : c.candidate_at-candidate.result ≢ pos 0 = search rules in
      iterations_more c.args.bound _ c.loop-step.invariant c.candidate_at-candidate.ensures
      (subst (λ f. IsOther (size_of c.args.self.now) (rows_in c.args.self.now)
      c.candidate_at-candidate.result (found_of c.loop-step.found) (found_of f)) (sym w.found-is)
      (other_iteration some (subst (λ p. IsIteration (size_of c.args.self.now)
      (rows_in c.args.self.now) p (found_of c.loop-step.found)
      (found_of w.iteration.new.found)) (to_z-of_z w32 c.candidate_at-candidate.result
      (search rules)) w.in_default.ensures.iteration)))
  | else-candidate-ne0 w ↦
      let none : c.candidate_at-candidate.result ≡ pos 0 = search rules in
      iterations_more c.args.bound _ c.loop-step.invariant c.candidate_at-candidate.ensures
      (zero_passed none (ap found_of w.found-is))
]
