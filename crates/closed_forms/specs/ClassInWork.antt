-- A class in work, as the code has it.
--   base_in c                 the base;  vars_in c: how many closed forms there are;  over_class c: how many variables polynomials over the base have, with as many of their own
--   AreClosedIn c done        done are the closed forms of the first forms, one after another;  IsPastIn c: making the next one is past
use Rattle.std.specs.Prelude.{ℕ, List, length}
use Rattle.algebra.specs.Fraction.{Fraction}
use Rattle.polynomials.specs.Terms.{Terms}
use Rattle.coprime_base.specs.Sizes.{sizes}
use Rattle.closed_forms.specs.ClassForms.{AreNextOf, IsPastNextOf}
use Rattle.closed_forms.specs.ClassSetting.{variables_over}
use Rattle.closed_forms.specs.declared.class_in_work.ClassInWork.{ClassInWork}

abbrev pub base_in : ClassInWork → List ℕ
base_in c = sizes c.base.now.items

abbrev pub vars_in : ClassInWork → ℕ
vars_in c = length c.setting.earlier.items

abbrev pub over_class : ClassInWork → ℕ
over_class c = variables_over (base_in c) c.setting

abbrev pub AreClosedIn : ClassInWork → List (Terms Fraction) → Type 0
AreClosedIn c done = AreNextOf (base_in c) c.group.now c.setting c.split.now done

abbrev pub IsPastIn : ClassInWork → Type 0
IsPastIn c = IsPastNextOf (base_in c) c.group.now c.setting c.split.now
