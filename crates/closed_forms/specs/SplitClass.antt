-- A class of a map in work with its splitting, as the code has it.
--   base_at k, images_at k, zeros_at k     the map's base and its polynomials; how many values of the class are zero
--   IsSplitClass k        it is a class of the map, with its splitting, whose values but zero are made of the base
--   IsReadyFor k es       es are over the base, and the closed forms of all variables as far as the class's are made from them
--   IsSettingIn k es s    s has what the closed forms of its forms are made from
--   AreFormsOf k es news     news are the closed forms of its variables, from then on;  IsPastOf k es: making these is past
use Rattle.std.specs.Prelude.{◌≢◌, ◌+◌, ℕ, List}
use Rattle.algebra.specs.Each.{Each}
use Rattle.algebra.specs.Fraction.{Fraction, ℚ}
use Rattle.polynomials.specs.Terms.{Terms}
use Rattle.linear.specs.Rows.{fractions_of}
use Rattle.coprime_base.specs.Sizes.{sizes}
use Rattle.solvable_maps.specs.Classes.{IsClass}
use Rattle.expo.specs.declared.exponential.Expo.{Expo}
use Rattle.closed_forms.specs.ClassForms.{IsSettingOf, zeros_of, AreVariablesOf, IsPastClassOf}
use Rattle.closed_forms.specs.Known.{IsReady}
use Rattle.closed_forms.specs.MapInWork.{images_in, IsInWork}
use Rattle.closed_forms.specs.Solved.{IsMade}
use Rattle.closed_forms.specs.Splits.{IsSplitOf}
use Rattle.closed_forms.specs.SquareMap.{size_by}
use Rattle.closed_forms.specs.Values.{bodies_of, AreOver}
use Rattle.closed_forms.specs.declared.class.ClassSetting.{ClassSetting}
use Rattle.closed_forms.specs.declared.class.SplitClass.{SplitClass}

abbrev pub base_at : SplitClass → List ℕ
base_at k = sizes k.work.now.base.items

abbrev pub images_at : SplitClass → List (Terms Fraction)
images_at k = images_in k.work.now

abbrev pub zeros_at : SplitClass → ℕ
zeros_at k = zeros_of k.split.now

pub record IsSplitClass (k : SplitClass) : Type 0 where
  pub work : IsInWork k.work.now
  pub class : IsClass (images_at k) k.group.now
  pub split : IsSplitOf (images_at k) k.group.now k.split.now
  pub made : Each (λ x. x ≢ ℚ.zero → IsMade (base_at k) x) (fractions_of k.split.now.values.items)

pub record IsReadyFor (k : SplitClass) (es : List Expo) : Type 0 where
  pub over : AreOver (base_at k) (size_by k.work.now.map) es
  pub ready : IsReady (base_at k) (images_at k) k.work.now.iterations (zeros_at k) k.group.now
      (bodies_of es)

abbrev pub IsSettingIn : SplitClass → List Expo → ClassSetting → Type 0
IsSettingIn k es s =
    IsSettingOf (images_at k) k.work.now.iterations k.group.now k.split.now es s

abbrev pub AreFormsOf : SplitClass → List Expo → List Expo → Type 0
AreFormsOf k es news =
    (r : IsReady (base_at k) (images_at k) k.work.now.iterations (zeros_at k) k.group.now
    (bodies_of es))
    → AreVariablesOf (base_at k) (images_at k) (r.since + zeros_at k) k.group.now (bodies_of news)

abbrev pub IsPastOf : SplitClass → List Expo → Type 0
IsPastOf k es =
    IsPastClassOf (base_at k) (images_at k) k.work.now.iterations k.group.now k.split.now
    (bodies_of es)
