-- A map in work, as the code has it.
--   images_in w         its polynomials
--   IsInWork w          it is solvable; its classes, their splittings, the base of their values but zero,
--                       and the branch after up to as many iterations as values are zero are what they say
--   AreFormsBut w groups es     es are over the base, and from some number of iterations on the closed forms of the variables of all classes but these, which come next
use Rattle.std.specs.Prelude.{◌≡◌, ◌≤◌, ℕ, List, All, length, map}
use Rattle.algebra.specs.Fraction.{Fraction}
use Rattle.polynomials.specs.Terms.{Terms}
use Rattle.exponentials.specs.Base.{IsTheBase}
use Rattle.poly.specs.Seen.{terms_each}
use Rattle.coprime_base.specs.Sizes.{sizes}
use Rattle.solvable.specs.Refusal.{AreClassesOf, IsSolvable}
use Rattle.solvable_maps.specs.Classes.{sizes_of}
use Rattle.expo.specs.declared.exponential.Expo.{Expo}
use Rattle.closed_forms.specs.Known.{AreKnown}
use Rattle.closed_forms.specs.Limits.{most_in_base}
use Rattle.closed_forms.specs.Splits.{AreSplits}
use Rattle.closed_forms.specs.SquareMap.{polys_by, size_by}
use Rattle.closed_forms.specs.States.{zeros_in, some_of, states_to}
use Rattle.closed_forms.specs.Values.{values_in, bodies_of, AreOver}
use Rattle.closed_forms.specs.declared.map_in_work.MapInWork.{MapInWork}

abbrev pub images_in : MapInWork → List (Terms Fraction)
images_in w = polys_by w.map

pub record IsInWork (w : MapInWork) : Type 0 where
  pub solvable : IsSolvable (images_in w)
  pub classes : AreClassesOf (images_in w) w.classes.items
  pub splits : AreSplits (images_in w) w.splits.items
  pub base : IsTheBase (sizes_of (some_of (values_in w.splits.items))) (sizes w.base.items)
  pub short : length w.base.items ≤ most_in_base
  pub iterations : w.iterations ≡ zeros_in (values_in w.splits.items)
  pub states : map (λ v. terms_each v.items) w.states.items ≡ states_to (images_in w) w.iterations
  pub arities : All (λ v. All (λ p. p.arity ≡ size_by w.map) v.items) w.states.items

pub record AreFormsBut (w : MapInWork) (groups : List (List ℕ)) (es : List Expo) : Type 0 where
  pub over : AreOver (sizes w.base.items) (size_by w.map) es
  pub known : AreKnown (sizes w.base.items) (images_in w) w.splits.items w.iterations groups
      (bodies_of es)
