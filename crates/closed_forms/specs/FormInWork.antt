-- A form of a class in work, as the code has it.
--   base_for f, over_form f, numbers_for f, value_for f, variables_for f     the base and the variables over it, the form's numbers and its value, and how many variables there are
--   IsNextBy f done y         y is its closed form, from those of the forms before it;  IsPastBy f done: making it is past
--   moved_by f                the form of the rests, composed with the closed forms of the variables;  IsPastMovedBy f: making it is past
--   IsBeforeBy f done p       p is the combination of earlier forms;  IsPastBeforeBy f done: making it is past
--   IsInhomogeneityBy f done q     q is the inhomogeneity of its recurrence;  IsPastInhomogeneityBy f done: making it is past
--   IsMadeBy f q y            y is its closed form, from that inhomogeneity;  IsPastMadeBy f q: making it is past
use Rattle.std.specs.Prelude.{ℕ, List}
use Rattle.algebra.specs.Fraction.{Fraction}
use Rattle.polynomials.specs.Terms.{Terms}
use Rattle.frac128.specs.FracMeaning.{fraction_of}
use Rattle.linear.specs.Rows.{fractions_of, rows_of}
use Rattle.poly.specs.Seen.{terms_each}
use Rattle.closed_forms.specs.ClassForms.{ahead_in, IsNextOf, IsPastFormOf}
use Rattle.closed_forms.specs.ClassInWork.{base_in, vars_in, over_class}
use Rattle.closed_forms.specs.Inhomogeneities.{part_by_forms, IsBefore, IsInhomogeneity, IsPastMoved, IsPastBefore, IsPastInhomogeneity}
use Rattle.closed_forms.specs.Later.{IsFormFrom, IsPastFrom}
use Rattle.closed_forms.specs.declared.form_in_work.FormInWork.{FormInWork}

abbrev pub base_for : FormInWork → List ℕ
base_for f = base_in f.class.now

abbrev pub over_form : FormInWork → ℕ
over_form f = over_class f.class.now

abbrev pub variables_for : FormInWork → ℕ
variables_for f = vars_in f.class.now

abbrev pub numbers_for : FormInWork → List Fraction
numbers_for f = fractions_of f.form.now

abbrev pub value_for : FormInWork → Fraction
value_for f = fraction_of f.value.now

abbrev pub IsNextBy : FormInWork → List (Terms Fraction) → Terms Fraction → Type 0
IsNextBy f done y =
    IsNextOf (base_for f) f.class.now.group.now f.class.now.setting (numbers_for f) (value_for f)
    done
    y

abbrev pub IsPastBy : FormInWork → List (Terms Fraction) → Type 0
IsPastBy f done =
    IsPastFormOf (base_for f) f.class.now.group.now f.class.now.setting (numbers_for f)
    (value_for f)
    done

-- ---- the inhomogeneity of its recurrence
abbrev pub moved_by : FormInWork → Terms Fraction
moved_by f =
    part_by_forms (base_for f) (variables_for f) (numbers_for f)
    (terms_each f.class.now.setting.rests.items) (terms_each f.class.now.setting.earlier.items)

abbrev pub IsPastMovedBy : FormInWork → Type 0
IsPastMovedBy f = IsPastMoved (numbers_for f) (terms_each f.class.now.setting.rests.items)
    (terms_each f.class.now.setting.earlier.items)

abbrev pub IsBeforeBy : FormInWork → List (Terms Fraction) → Terms Fraction → Type 0
IsBeforeBy f done p = IsBefore (numbers_for f) (rows_of f.class.now.setting.matrix.items)
    (rows_of f.class.now.setting.back.items) done p

abbrev pub IsPastBeforeBy : FormInWork → List (Terms Fraction) → Type 0
IsPastBeforeBy f done = IsPastBefore (numbers_for f) (rows_of f.class.now.setting.matrix.items)
    (rows_of f.class.now.setting.back.items) done

abbrev pub IsInhomogeneityBy : FormInWork → List (Terms Fraction) → Terms Fraction → Type 0
IsInhomogeneityBy f done q =
    IsInhomogeneity (base_for f) (variables_for f) (numbers_for f)
    (terms_each f.class.now.setting.rests.items) (terms_each f.class.now.setting.earlier.items)
    (rows_of f.class.now.setting.matrix.items) (rows_of f.class.now.setting.back.items) done q

abbrev pub IsPastInhomogeneityBy : FormInWork → List (Terms Fraction) → Type 0
IsPastInhomogeneityBy f done =
    IsPastInhomogeneity (base_for f) (variables_for f) (numbers_for f)
    (terms_each f.class.now.setting.rests.items) (terms_each f.class.now.setting.earlier.items)
    (rows_of f.class.now.setting.matrix.items) (rows_of f.class.now.setting.back.items) done

-- ---- from that
abbrev pub IsMadeBy : FormInWork → Terms Fraction → Terms Fraction → Type 0
IsMadeBy f q y =
    IsFormFrom (base_for f) (variables_for f) (numbers_for f) f.class.now.group.now (value_for f)
    (ahead_in f.class.now.setting) q y

abbrev pub IsPastMadeBy : FormInWork → Terms Fraction → Type 0
IsPastMadeBy f q =
    IsPastFrom (base_for f) (variables_for f) (numbers_for f) f.class.now.group.now (value_for f)
    (ahead_in f.class.now.setting) q
