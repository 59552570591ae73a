use Rattle.std.proofs.Common.{◌≡◌, All, length}
use Rattle.poly.specs.Seen.{terms_each}
use Rattle.solvable.proofs.Using.{FracPoly}
use Rattle.closed_forms.specs.ClassInWork.{over_class, AreClosedIn}
use Rattle.closed_forms.proofs.class_in_work.ClassInWork.closed_forms.Given as goal

abbrev pub invariant-loop-place : goal.invariant-loop-place
invariant-loop-place l =
    (length l.done.items ≡ l.place)
    × All (λ (p : FracPoly). p.arity ≡ over_class l.self) l.done.items
    × AreClosedIn l.self (terms_each l.done.items)
