use Rattle.std.proofs.Common.{◌++◌, List, map, take}
use Rattle.algebra.specs.Fraction.{Fraction, ℚ}
use Rattle.polynomials.specs.Terms.{Terms, compose}
use Rattle.poly.specs.Seen.{terms_each}
use Rattle.poly.specs.Standing.{AllStandFor}
use Rattle.task_lists.specs.Shapes.{width_of}
use Rattle.task_lists.proofs.graph.push_composed.Given as goal

abbrev pub invariant-loop-element : goal.invariant-loop-element
invariant-loop-element l =
    let w = width_of l.fn.shape in
    (qs : List (Terms Fraction)) → AllStandFor w l.initial.out.items qs
    → AllStandFor w l.out.items (qs ++ map (λ t. compose ℚ w t (terms_each l.before.items))
    (terms_each (take l.element-index l.list)))
