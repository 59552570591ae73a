use Rattle.algebra.proofs.In.{each_from}
use Rattle.closures.proofs.Decides.{closure_from_start, invariants_of_closure, generators_from_start, generator_in}
use Rattle.closures.proofs.laws.closures_decide_invariants.Goals as goal

pub returns : goal.returns
returns c s = record {
  members = λ program well P a. (
    (λ h q i. closure_from_start program well P h q i),
    (λ h. invariants_of_closure program P a h),
  );
  generators = λ program well P gs a g. (
    (λ h. each_from gs (λ x i. closure_from_start program well P h x
        (generator_in program P gs g x i))),
    (λ h. invariants_of_closure program P a (generators_from_start program P gs g h)),
  );
}
