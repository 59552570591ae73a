-- What the forms of a class are made from, as the code has it.
--   variables_over base s   how many variables polynomials over this base have, with as many of their own as there are closed forms
--   IsClassSetting base n s      there are closed forms, not too many, and they are such polynomials, the rests have the variables alone, the matrices have width n, and what is ahead has the variables alone;
--                                class_setting_prop: that is a proposition
use Rattle.std.specs.Prelude.{◌≡◌, ◌≤◌, ◌<◌, ℕ, List, length, All}
use Rattle.std.specs.Coded.{le_prop}
use native.Mathlib.Nat.{ℕ_set}
use Rattle.solvable_maps.specs.Iterations.{width}
use Rattle.monos.specs.Variables.{most_variables}
use Rattle.expo.specs.Bases.{IsCoprimeBase, coprime_base_prop}
use Rattle.closed_forms.specs.declared.class.ClassSetting.{ClassSetting}

abbrev pub variables_over : List ℕ → ClassSetting → ℕ
variables_over base s = width (length base) (length s.earlier.items)

pub record IsClassSetting (base : List ℕ) (n : ℕ) (s : ClassSetting) : Type 0 where
  pub coprime : IsCoprimeBase base
  pub some : 0 < length s.earlier.items
  pub few : variables_over base s ≤ most_variables
  pub earlier : All (λ p. p.arity ≡ width (length base) (length s.earlier.items)) s.earlier.items
  pub rests : All (λ p. p.arity ≡ length s.earlier.items) s.rests.items
  pub matrix : All (λ row. length row.items ≡ n) s.matrix.items
  pub back : All (λ row. length row.items ≡ n) s.back.items
  pub ahead : All (λ p. p.arity ≡ length s.earlier.items) s.ahead.items

at_most_prop : (m n : ℕ) → IsProp (m ≤ n)
at_most_prop m n = le_prop

below_prop : (m n : ℕ) → IsProp (m < n)
below_prop m n = le_prop

pub class_setting_prop : (base : List ℕ) (n : ℕ) (s : ClassSetting)
    → IsProp (IsClassSetting base n s)
class_setting_prop base n s = hlevel (coprime_base_prop base, at_most_prop, below_prop, ℕ_set)
