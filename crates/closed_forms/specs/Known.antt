-- What is known of a map's variables class by class, and what is past in making the closed forms of a class.
--   rests_in images g         what the polynomials of the class g have without its variables
--   AreKnown base images splits z groups ps     from some number of iterations on ps has the closed forms of the variables of all classes but these, which come next:
--                             with as many iterations more as the splittings that are left have zeros, z
--   IsReady base images z k g ps     the same where, of the classes in their order, g comes next: with k iterations more, at most z
--   AreDone base images g forms done    from some number of iterations on done are the closed forms of the first of the forms, as many as there are, normal
--   IsNextForm .. y           y is made of a form's inhomogeneity, from the forms before it
--   ClassParts                what the closed forms of a class's forms are made from;  parts_in images z g ..: those of the class g
--   IsNextAt c k done y       y is made so for the form at k;  AreNextForms c done: each is, one after another;  IsPastNext c: making the next one is past
--   variable_in base row done     the polynomial of a variable, by a row of the inverse from those of the forms
--   IsPastForm, IsPastVariable, IsPastClass     a number or a weight is past in making a form, a variable, or one of a class
--   IsWideClass base images z v     that is so of the class whose first variable is v, with the forms and values that its matrix
--                             is split into, once the closed forms of the classes before it are known
--   IsWideIteration base images z v      what a variable of that class is at a number of iterations below z is past, where from one more iteration on all are the state; or at no iteration,
--                             by which it is seen whether the variable passes
use Rattle.std.specs.Prelude.{◌≡◌, ◌⊎◌, ◌<◌, ◌≤◌, ◌+◌, ℕ, suc, List, [], ◌∷◌, ◌++◌, Option, map, take, length, get_or}
use Rattle.std.specs.List.{concat}
use Rattle.algebra.specs.Each.{Each}
use Rattle.algebra.specs.In.{In}
use Rattle.algebra.specs.Fraction.{Fraction, fraction_size}
use Rattle.algebra.specs.Size.{IsPast}
use Rattle.algebra.proofs.Fractions.{ℚ_field}
use Rattle.polynomials.specs.Order.{grevlex}
use Rattle.polynomials.specs.Terms.{Terms}
use Rattle.polynomials.specs.Weight.{weight}
use Rattle.solvable_maps.specs.Class.{IsNext, IsClassOf, AreClasses, AreWhole}
use Rattle.solvable_maps.specs.Uses.{uses, poly_at}
use Rattle.vectors.specs.Causes.{row_at}
use Rattle.vectors.specs.Lists.{entries}
use Rattle.solvable_maps.specs.Classes.{class_matrix, first_of, IsClass}
use Rattle.solvable_maps.specs.Expo.{with_normal_keys}
use Rattle.solvable_maps.specs.AfterIterations.{rest_of, AreAfterIterations, IsFormAfterIterations}
use Rattle.solvable_maps.specs.Iterations.{IsNormalForm, IsClosedFormFrom}
use Rattle.eigen_split.specs.Refusal.{IsSplitInto}
use Rattle.eigen_split.specs.declared.splitting.Split.{Split}
use Rattle.closed_forms.specs.Inverses.{IsBehind, IsPastInverse}
use Rattle.closed_forms.specs.Inhomogeneities.{collect_terms, part, IsInhomogeneity, IsPastInhomogeneity}
use Rattle.closed_forms.specs.Later.{Ahead, ahead_of, IsFormFrom, IsPastAt, IsPastFrom}
use Rattle.closed_forms.specs.States.{zeros_in}
use Rattle.closed_forms.specs.Sums.{IsPastMix}
use Rattle.closed_forms.specs.Values.{values_in}

abbrev pub rests_in : List (Terms Fraction) → List ℕ → List (Terms Fraction)
rests_in images g = map (λ i. rest_of g (poly_at images i)) g

pub record AreKnown (base : List ℕ) (images : List (Terms Fraction)) (splits : List (Option Split))
    (z : ℕ) (groups : List (List ℕ)) (ps : List (Terms Fraction)) : Type 0 where
  pub before : List (List ℕ)
  pub order : AreClasses (uses images) (length images) [] (before ++ groups)
  pub earlier : List ℕ
  pub are : earlier ≡ concat before
  pub whole : AreWhole (uses images) (length images) earlier
  pub classes : AreClasses (uses images) (length images) earlier groups
  pub since : ℕ
  pub turned : AreAfterIterations base images since earlier ps
  pub left : List (Option Split)
  pub others : (k : ℕ) (d : Option Split) → (In k earlier → ⊥) → get_or left k d ≡ get_or splits k d
  pub sum : since + zeros_in (values_in left) ≡ z

pub record IsReady (base : List ℕ) (images : List (Terms Fraction)) (z k : ℕ) (g : List ℕ)
    (ps : List (Terms Fraction)) : Type 0 where
  pub before : List (List ℕ)
  pub behind : List (List ℕ)
  pub order : AreClasses (uses images) (length images) [] (before ++ g ∷ behind)
  pub earlier : List ℕ
  pub are : earlier ≡ concat before
  pub first : ℕ
  pub next : IsNext (uses images) (length images) earlier first
  pub class : IsClassOf (uses images) (length images) first g
  pub since : ℕ
  pub turned : AreAfterIterations base images since earlier ps
  pub within : since + k ≤ z

pub record AreDone (base : List ℕ) (images : List (Terms Fraction)) (g : List ℕ)
    (forms : List (List Fraction)) (done : List (Terms Fraction)) : Type 0 where
  pub since : ℕ
  pub each : (i : ℕ) → i < length done → IsFormAfterIterations base images since g (row_at forms i)
      (poly_at done i)
  pub normal : Each (IsNormalForm base grevlex (length images)) done

-- what is made for the form w with the value l from the rests and the closed forms ps of earlier
-- variables, the class's matrix, the inverse of the forms, what is ahead, and the forms before it
pub record IsNextForm (base : List ℕ) (m : ℕ) (g : List ℕ) (rests ps : List (Terms Fraction))
    (matrix back : List (List Fraction)) (a : Ahead) (w : List Fraction) (l : Fraction)
    (done : List (Terms Fraction)) (y : Terms Fraction) : Type 0 where
  pub inhomogeneity : Terms Fraction
  pub is : IsInhomogeneity base m w rests ps matrix back done inhomogeneity
  pub made : IsFormFrom base m w g l a inhomogeneity y

pub data IsPastForm (base : List ℕ) (m : ℕ) (g : List ℕ) (rests ps : List (Terms Fraction))
    (matrix back : List (List Fraction)) (a : Ahead) (w : List Fraction) (l : Fraction)
    (done : List (Terms Fraction)) : Type 0 where
  inhomogeneity_past : IsPastInhomogeneity base m w rests ps matrix back done
      → IsPastForm base m g rests ps matrix back a w l done
  making_past : (q : Terms Fraction) → IsInhomogeneity base m w rests ps matrix back done q
      → IsPastFrom base m w g l a q
      → IsPastForm base m g rests ps matrix back a w l done

-- what the closed forms of the class's forms are made from, and these and their values
pub record ClassParts : Type 0 where
  pub base : List ℕ
  pub vars : ℕ
  pub class : List ℕ
  pub rests : List (Terms Fraction)
  pub polys : List (Terms Fraction)
  pub matrix : List (List Fraction)
  pub back : List (List Fraction)
  pub ahead : Ahead
  pub forms : List (List Fraction)
  pub values : List Fraction

abbrev pub parts_in : List ℕ → List (Terms Fraction) → ℕ → List ℕ → List (List Fraction)
    → List Fraction → List (Terms Fraction) → List (List Fraction) → ClassParts
parts_in base images z g forms values ps back = record {
  base = base;
  vars = length images;
  class = g;
  rests = rests_in images g;
  polys = ps;
  matrix = class_matrix images g;
  back = back;
  ahead = ahead_of images g z;
  forms = forms;
  values = values;
}

abbrev pub IsNextAt : ClassParts → ℕ → List (Terms Fraction) → Terms Fraction → Type 0
IsNextAt c k done y =
    IsNextForm c.base c.vars c.class c.rests c.polys c.matrix c.back c.ahead (row_at c.forms k)
    (entries ℚ_field c.values k) done y

-- one after another
pub record AreNextForms (c : ClassParts) (done : List (Terms Fraction)) : Type 0 where
  pub each : (i : ℕ) → i < length done → IsNextAt c i (take i done) (poly_at done i)
  pub normal : Each (IsNormalForm c.base grevlex c.vars) done

pub record IsPastNext (c : ClassParts) : Type 0 where
  pub done : List (Terms Fraction)
  pub few : length done < length c.forms
  pub are : AreNextForms c done
  pub past : IsPastForm c.base c.vars c.class c.rests c.polys c.matrix c.back c.ahead
      (row_at c.forms (length done)) (entries ℚ_field c.values (length done)) done

abbrev pub variable_in : List ℕ → List Fraction → List (Terms Fraction) → Terms Fraction
variable_in base row done = collect_terms (with_normal_keys (length base) (part row done))

abbrev pub IsPastVariable : List Fraction → List (Terms Fraction) → Type 0
IsPastVariable row done = IsPastMix row done ⊎ IsPast (weight fraction_size (part row done))

pub record IsPastRowOf (back : List (List Fraction)) (done : List (Terms Fraction)) : Type 0 where
  pub place : ℕ
  pub within : place < length back
  pub past : IsPastVariable (row_at back place) done

pub record IsPastFormAt (base : List ℕ) (images : List (Terms Fraction)) (z : ℕ) (g : List ℕ)
    (forms : List (List Fraction)) (values : List Fraction) (ps : List (Terms Fraction))
    (back : List (List Fraction)) : Type 0 where
  pub done : List (Terms Fraction)
  pub few : length done < length g
  pub are : AreDone base images g forms done
  pub past : IsPastForm base (length images) g (rests_in images g) ps (class_matrix images g) back
      (ahead_of images g z) (row_at forms (length done)) (entries ℚ_field values (length done))
      done

pub record IsPastVariableAt (base : List ℕ) (images : List (Terms Fraction)) (g : List ℕ)
    (forms back : List (List Fraction)) : Type 0 where
  pub done : List (Terms Fraction)
  pub all : length done ≡ length g
  pub are : AreDone base images g forms done
  pub past : IsPastRowOf back done

pub data IsPastClass (base : List ℕ) (images : List (Terms Fraction)) (z : ℕ) (g : List ℕ)
    (forms : List (List Fraction)) (values : List Fraction) (ps : List (Terms Fraction))
    : Type 0 where
  inverse_past : IsPastInverse forms → IsPastClass base images z g forms values ps
  form_past : (back : List (List Fraction)) → IsBehind forms back
      → IsPastFormAt base images z g forms values ps back
      → IsPastClass base images z g forms values ps
  variable_past : (back : List (List Fraction)) → IsBehind forms back
      → IsPastVariableAt base images g forms back
      → IsPastClass base images z g forms values ps

pub record IsWideClass (base : List ℕ) (images : List (Terms Fraction)) (z v : ℕ) : Type 0 where
  pub class : List ℕ
  pub polys : List (Terms Fraction)
  pub forms : List (List Fraction)
  pub values : List Fraction
  pub ready : IsReady base images z (zeros_in values) class polys
  pub normal : Each (IsNormalForm base grevlex (length images)) polys
  pub first : first_of class ≡ v
  pub are : IsSplitInto (length class) (class_matrix images class) forms values
  pub past : IsPastClass base images z class forms values polys

pub record IsWideIteration (base : List ℕ) (images : List (Terms Fraction)) (z v : ℕ) : Type 0 where
  pub iteration : ℕ
  pub before : iteration < z
  pub since : ℕ
  pub near : (since ≤ suc iteration) ⊎ (iteration ≡ 0)
  pub polys : List (Terms Fraction)
  pub closed : IsClosedFormFrom base images since polys
  pub normal : Each (IsNormalForm base grevlex (length images)) polys
  pub class : List ℕ
  pub is : IsClass images class
  pub first : first_of class ≡ v
  pub variable : ℕ
  pub within : In variable class
  pub past : IsPastAt base (length images) iteration (poly_at polys variable)
