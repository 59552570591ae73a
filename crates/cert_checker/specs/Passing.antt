-- Polynomials that pass as the closed form of a map.
--   form_with base polys          the form of these
--   FitsForm m base polys images      there are m of each, above 0, over the variables that they should be over
--   IsExpoWhereNormal bs p found           found is p over the base bs, where p is normal, and else nothing
--   Passes P Q found              P, and what is found has Q; or nothing is found, and not P
--   PassesAt bs images ps i       p_i is normal, at 0 the variable i, and at n + 1 the image i of what the ps are at n
--   IsPastAt bs images ps i       the weight of p_i or of a composition of these is past;  IsPastForm images m f: of any
use Rattle.std.specs.Prelude.{◌≡◌, ◌⊎◌, ℕ, ◌<◌, ◌≤◌, List, [], get_or, length, All, Option, Some, None, Vec}
use Rattle.std.specs.List.{Any}
use Rattle.std.specs.declared.alloc.Global.{Global}
use Rattle.algebra.specs.Fraction.{Fraction, ℚ, fractions, fraction_size}
use Rattle.algebra.specs.Size.{IsPast}
use Rattle.polynomials.specs.Terms.{Terms, Same, variables, compose}
use Rattle.polynomials.specs.Weight.{weight, IsPastComposition}
use Rattle.solvable_maps.specs.Iterations.{width, IsNormal}
use Rattle.solvable_maps.specs.Expo.{with_normal_keys, next_images, zero_images}
use Rattle.rounds.specs.Form.{Form}
use Rattle.frac128.specs.declared.Whole.{Whole}
use Rattle.monos.specs.Variables.{most_variables}
use Rattle.poly.specs.Seen.{terms_in, terms_each}
use Rattle.poly.specs.Standing.{IsInVariables}
use Rattle.loop_model.specs.FracPoly.{FracPoly}
use Rattle.coprime_base.specs.Sizes.{sizes}
use Rattle.expo.specs.View.{base_of}
use Rattle.expo.specs.declared.exponential.Expo.{Expo}

abbrev pub form_with : Vec Whole Global → Vec FracPoly Global → Form
form_with base polys = record { base = sizes base.items; polys = terms_each polys.items; since = 0 }

pub record FitsForm (m : ℕ) (base : Vec Whole Global) (polys images : Vec FracPoly Global) : Type
    0 where
  pub some : 0 < m
  pub few : width (length (sizes base.items)) m ≤ most_variables
  pub count : length polys.items ≡ m
  pub over_width : All (IsInVariables (width (length (sizes base.items)) m)) polys.items
  pub over_variables : All (IsInVariables m) images.items

pub record IsExpoOf (bs : List ℕ) (p : FracPoly) (e : Expo) : Type 0 where
  pub normal : IsNormal bs (terms_in p)
  pub base : base_of e ≡ bs
  pub vars : p.arity ≡ width (length bs) e.vars
  pub terms : terms_in e.body ≡ terms_in p

abbrev pub IsExpoWhereNormal : List ℕ → FracPoly → Option Expo → Type 0
IsExpoWhereNormal bs p (Some e) = IsExpoOf bs p e
IsExpoWhereNormal bs p None = ¬ (IsNormal bs (terms_in p))

abbrev pub Passes : {A : Type 0} → Type 0 → (A → Type 0) → Option A → Type 0
Passes P Q (Some a) = P × Q a
Passes P Q None = ¬ P

module _ (bs : List ℕ) (images ps : List (Terms Fraction)) (i : ℕ) where
  pub record PassesAt : Type 0 where
    pub normal : IsNormal bs (get_or ps i [])
    pub at_zero : Same ℚ
        (compose ℚ (length images) (get_or ps i []) (zero_images (length bs) (length images)))
        (get_or (variables ℚ (length images)) i [])
    pub goes_on : Same ℚ
        (with_normal_keys (length bs) (compose ℚ (width (length bs) (length images))
        (get_or images i [])
        ps))
        (compose ℚ (width (length bs) (length images)) (get_or ps i [])
        (next_images bs (length images)))

  abbrev pub IsPastAt : Type 0
  IsPastAt =
      IsPast (weight fraction_size (get_or ps i []))
      ⊎ (IsPastComposition fractions (get_or ps i []) (zero_images (length bs) (length images))
      ⊎ (IsPastComposition fractions (get_or images i []) ps
      ⊎ IsPastComposition fractions (get_or ps i []) (next_images bs (length images))))

abbrev pub IsPastForm : List (Terms Fraction) → ℕ → Form → Type 0
IsPastForm images m f =
    Any (λ p. IsPast (weight fraction_size p)) f.polys
    ⊎ (Any (λ p. IsPastComposition fractions p (zero_images (length f.base) m)) f.polys
    ⊎ (Any (λ q. IsPastComposition fractions q f.polys) images
    ⊎ Any (λ p. IsPastComposition fractions p (next_images f.base m)) f.polys))
