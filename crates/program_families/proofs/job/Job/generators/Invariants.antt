use Rattle.std.proofs.Common.{◌≡◌, ◌++◌, map, take}
use Rattle.machines.specs.Elimination.{in_front}
use Rattle.poly.specs.Seen.{terms_each}
use Rattle.ideal_ops.specs.Calls.{AreOver}
use Rattle.program_families.specs.Views.{arity_in}
use Rattle.program_families.proofs.job.Job.generators.Given as goal

abbrev pub invariant-loop-element : goal.invariant-loop-element
invariant-loop-element l =
    let k = l.self.transition.now.unknowns in
    record {
      terms : terms_each l.generators.items
          ≡ map (in_front k) (terms_each (take l.element-index l.self.source.now.items));
      over : AreOver (arity_in l.self) l.generators.items;
    }

abbrev pub invariant-loop-zero : goal.invariant-loop-zero
invariant-loop-zero l =
    let k = l.self.transition.now.unknowns in
    record {
      terms : terms_each l.generators.items
          ≡ map (in_front k) (terms_each l.self.source.now.items)
          ++ terms_each (take l.zero-index l.self.transition.now.zeros.items);
      over : AreOver (arity_in l.self) l.generators.items;
    }
