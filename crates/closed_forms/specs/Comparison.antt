-- Polynomials that are compared with states, as the code has them.
--   list_at c n                   the state after n iterations
--   AreMarkedBy c n marks         of each variable of the classes the mark tells whether its polynomial isn't that of the state after n iterations
--   IsPastBy c n v                what one of the class that begins with v is at n iterations is past
--   IsSettlingBy c images base since     they are a closed form from `since` on, and the states those after each number of iterations
use Rattle.std.specs.Prelude.{ℕ, Bool, List, [], map, get_or}
use Rattle.algebra.specs.Fraction.{Fraction}
use Rattle.polynomials.specs.Terms.{Terms}
use Rattle.poly.specs.Seen.{terms_each}
use Rattle.closed_forms.specs.Settling.{AreAllMarked, IsPastOfClass, IsSettling}
use Rattle.closed_forms.specs.Splits.{groups_in}
use Rattle.closed_forms.specs.declared.begins.Comparison.{Comparison}

abbrev pub lists_by : Comparison → List (List (Terms Fraction))
lists_by c = map (λ v. terms_each v.items) c.states.now.items

abbrev pub list_at : Comparison → ℕ → List (Terms Fraction)
list_at c n = get_or (lists_by c) n []

abbrev pub AreMarkedBy : Comparison → ℕ → List Bool → Type 0
AreMarkedBy c n marks =
    AreAllMarked c.polys.now.items n (list_at c n) (groups_in c.groups.now.items) marks

abbrev pub IsPastBy : Comparison → ℕ → ℕ → Type 0
IsPastBy c n v = IsPastOfClass (groups_in c.groups.now.items) c.polys.now.items n v

abbrev pub IsSettlingBy : Comparison → List (Terms Fraction) → List ℕ → ℕ → Type 0
IsSettlingBy c images base since =
    IsSettling images base (groups_in c.groups.now.items) (lists_by c) c.polys.now.items since
