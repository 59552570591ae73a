-- What the closed form of a branch is, as the code has it.
--   base_in form, polys_in form     its base, and its polynomials
--   AreNormal base m ps             each of the polynomials is over this base and m variables, in descending order, and normal
--   IsLeastFrom base images ps since     they are a closed form from no smaller number of iterations on
--   ArePassing base m ps passing    it tells of each variable whether it isn't itself at n = 0
--   IsFormOf images form            form is the closed form of the map
use Rattle.std.specs.Prelude.{◌≡◌, ◌≤◌, ◌<◌, ◌↔◌, ℕ, Bool, false, List, length, get_or}
use Rattle.algebra.specs.Each.{Each}
use Rattle.algebra.specs.Fraction.{Fraction}
use Rattle.polynomials.specs.Order.{grevlex}
use Rattle.polynomials.specs.Terms.{Terms}
use Rattle.coprime_base.specs.Sizes.{sizes}
use Rattle.solvable_maps.specs.Classes.{IsFormBase}
use Rattle.solvable_maps.specs.Iterations.{width, IsNormalForm, IsClosedFormFrom, IsItself}
use Rattle.monos.specs.Variables.{most_variables}
use Rattle.closed_forms.specs.Limits.{most_images, most_in_base}
use Rattle.closed_forms.specs.Values.{bodies_of, AreOver}
use Rattle.closed_forms.specs.declared.Form.{Form}

abbrev pub base_in : Form → List ℕ
base_in form = sizes form.base.items

abbrev pub polys_in : Form → List (Terms Fraction)
polys_in form = bodies_of form.polys.items

abbrev pub AreNormal : List ℕ → ℕ → List (Terms Fraction) → Type 0
AreNormal base m ps = Each (IsNormalForm base grevlex m) ps

abbrev pub IsLeastFrom : List ℕ → List (Terms Fraction) → List (Terms Fraction) → ℕ → Type 0
IsLeastFrom base images ps since = (d : ℕ) → IsClosedFormFrom base images d ps → since ≤ d

abbrev pub ArePassing : List ℕ → ℕ → List (Terms Fraction) → List Bool → Type 0
ArePassing base m ps passing =
    (i : ℕ) → i < m → (get_or passing i false ≡ false) ↔ IsItself base m ps i

pub record IsFormOf (images : List (Terms Fraction)) (form : Form) : Type 0 where
  pub base : IsFormBase images (base_in form)
  pub closed : IsClosedFormFrom (base_in form) images form.since (polys_in form)
  pub least : IsLeastFrom (base_in form) images (polys_in form) form.since
  pub normal : AreNormal (base_in form) (length images) (polys_in form)
  pub over : AreOver (base_in form) (length images) form.polys.items
  pub count : length form.polys.items ≡ length images
  pub told : length form.passing.items ≡ length images
  pub passes : ArePassing (base_in form) (length images) (polys_in form) form.passing.items
  pub short : length (base_in form) ≤ most_in_base
  pub early : form.since ≤ most_images
  pub few : width (length (base_in form)) (length images) ≤ most_variables
