-- The closed forms of a class, as the code makes them from a setting and the class's splitting.
--   IsSettingOf images z g split es s     s has what the forms of the class g are made from, where es are the closed forms of all variables, as far as they are known,
--                                   and what the class's variables are after z iterations
--   ahead_in s                      that number of iterations, and what they are
--   IsNormalOver base s p           p is normal, over this base and as many variables as there are closed forms
--   IsNextOf base g s w l done y    y is the closed form of the form w with the value l, from the forms before it;  IsPastFormOf base g s w l done: making it is past
--   parts_of base g s split         what they are made from
--   AreNextOf base g s split done   done are the closed forms of the first forms, one after another;  IsPastNextOf base g s split: making the next one is past
--   AreVariablesOf base images since g ps     from `since` on ps are the closed forms of the variables of the class g, one after another
--   zeros_of split                  how many of the values are zero
--   IsPastClassOf base images z g split ps     making these is past, where ps are the closed forms of all variables, as far as they are known
use Rattle.std.specs.Prelude.{◌≡◌, ◌<◌, ℕ, List, map, length, All}
use Rattle.algebra.specs.Fraction.{Fraction}
use Rattle.polynomials.specs.Order.{grevlex}
use Rattle.polynomials.specs.Terms.{Terms}
use Rattle.solvable_maps.specs.Uses.{poly_at}
use Rattle.linear.specs.Rows.{fractions_of, rows_of}
use Rattle.poly.specs.Seen.{terms_each}
use Rattle.eigen_split.specs.declared.splitting.Split.{Split}
use Rattle.expo.specs.declared.exponential.Expo.{Expo}
use Rattle.solvable_maps.specs.Classes.{class_matrix}
use Rattle.solvable_maps.specs.AfterIterations.{place, IsAfterIterations}
use Rattle.solvable_maps.specs.Iterations.{IsNormalForm}
use Rattle.closed_forms.specs.Inverses.{IsBehind}
use Rattle.closed_forms.specs.Known.{rests_in, IsNextForm, ClassParts, AreNextForms, IsPastForm, IsPastNext, IsPastClass}
use Rattle.closed_forms.specs.Later.{Ahead}
use Rattle.closed_forms.specs.States.{after, zeros_in}
use Rattle.closed_forms.specs.Values.{bodies_of}
use Rattle.closed_forms.specs.declared.class.ClassSetting.{ClassSetting}

pub record IsSettingOf (images : List (Terms Fraction)) (z : ℕ) (g : List ℕ) (split : Split)
    (es : List Expo) (s : ClassSetting) : Type 0 where
  pub earlier : terms_each s.earlier.items ≡ bodies_of es
  pub arities : (w : ℕ) → All (λ e. e.body.arity ≡ w) es → All (λ p. p.arity ≡ w) s.earlier.items
  pub rests : terms_each s.rests.items ≡ rests_in images g
  pub variables : All (λ p. p.arity ≡ length images) s.rests.items
  pub matrix : rows_of s.matrix.items ≡ class_matrix images g
  pub back : IsBehind (rows_of split.forms.items) (rows_of s.back.items)
  pub iterations : s.iterations ≡ z
  pub ahead : terms_each s.ahead.items ≡ map (poly_at (after images z)) g
  pub over : All (λ p. p.arity ≡ length images) s.ahead.items

abbrev pub ahead_in : ClassSetting → Ahead
ahead_in s = record { iterations = s.iterations; state = terms_each s.ahead.items }

abbrev pub IsNormalOver : List ℕ → ClassSetting → Terms Fraction → Type 0
IsNormalOver base s p = IsNormalForm base grevlex (length s.earlier.items) p

abbrev pub IsNextOf : List ℕ → List ℕ → ClassSetting → List Fraction → Fraction
    → List (Terms Fraction)
    → Terms Fraction → Type 0
IsNextOf base g s w l done y =
    IsNextForm base (length s.earlier.items) g (terms_each s.rests.items)
    (terms_each s.earlier.items) (rows_of s.matrix.items) (rows_of s.back.items) (ahead_in s) w l
    done y

abbrev pub IsPastFormOf : List ℕ → List ℕ → ClassSetting → List Fraction → Fraction
    → List (Terms Fraction) → Type 0
IsPastFormOf base g s w l done =
    IsPastForm base (length s.earlier.items) g (terms_each s.rests.items)
    (terms_each s.earlier.items) (rows_of s.matrix.items) (rows_of s.back.items) (ahead_in s) w l
    done

abbrev pub parts_of : List ℕ → List ℕ → ClassSetting → Split → ClassParts
parts_of base g s split = record {
  base = base;
  vars = length s.earlier.items;
  class = g;
  rests = terms_each s.rests.items;
  polys = terms_each s.earlier.items;
  matrix = rows_of s.matrix.items;
  back = rows_of s.back.items;
  ahead = ahead_in s;
  forms = rows_of split.forms.items;
  values = fractions_of split.values.items;
}

abbrev pub AreNextOf : List ℕ → List ℕ → ClassSetting → Split → List (Terms Fraction) → Type 0
AreNextOf base g s split done = AreNextForms (parts_of base g s split) done

abbrev pub IsPastNextOf : List ℕ → List ℕ → ClassSetting → Split → Type 0
IsPastNextOf base g s split = IsPastNext (parts_of base g s split)

abbrev pub AreVariablesOf : List ℕ → List (Terms Fraction) → ℕ → List ℕ → List (Terms Fraction)
    → Type 0
AreVariablesOf base images since g ps =
    (a : ℕ) → a < length g → IsAfterIterations base images since (place g a) (poly_at ps a)

abbrev pub zeros_of : Split → ℕ
zeros_of split = zeros_in (fractions_of split.values.items)

abbrev pub IsPastClassOf : List ℕ → List (Terms Fraction) → ℕ → List ℕ → Split
    → List (Terms Fraction) → Type 0
IsPastClassOf base images z g split ps =
    IsPastClass base images z g (rows_of split.forms.items) (fractions_of split.values.items) ps
