-- Forms with their values: each times the matrix is its value times it, and a combination of earlier forms of the same value.
--   with_value c es              vectors with the value c
--   of_value F c forms       the forms of the value c
--   AreSplitForms F S t before forms     so they are, after those before
use Rattle.std.specs.Prelude.{List, [], ◌∷◌, ◌++◌, cond}
use Rattle.algebra.specs.Ring.{Field}
use Rattle.vectors.specs.Space.{Space, IsCombination}
use Rattle.vectors.specs.Splitting.{shift}

-- vectors with one value
abbrev pub with_value : {A V : Type 0} → A → List V → List (V × A)
with_value c [] = []
with_value c (e ∷ es) = (e, c) ∷ with_value c es

-- the forms of a value
abbrev pub of_value : {A V : Type 0} → Field A → A → List (V × A) → List V
of_value F c [] = []
of_value F c (f ∷ forms) =
    cond (F.is_zero (F.add f.1 (F.neg c))) (f.0 ∷ of_value F c forms) (of_value F c forms)

abbrev pub AreSplitForms : {A V : Type 0} (F : Field A) (S : Space F.ring V) (t : V → V)
    → List (V × A) → List (V × A) → Type 0
AreSplitForms F S t before [] = Unit {0}
AreSplitForms F S t before (f ∷ forms) =
    IsCombination S (of_value F f.1 before) (shift S t f.1 f.0)
    × AreSplitForms F S t (before ++ (f ∷ [])) forms
