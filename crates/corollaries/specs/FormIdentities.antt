-- Forms of a branch that are shown to be closed forms by identities alone: what a form is at 0, and that at n + 1 it is the map of what it is at n.
--   IsRightAtZero images m f   at 0 the form is the variables
--   GoesOn images m f          the map with the form for its variables, made normal, is the form at n + 1
--   IsRightForm images m f      both, and the base ascends, is above 1 and pairwise coprime, and no monomial has s s or both u and v of one b
use Rattle.std.specs.Prelude.{ℕ, List, map, length}
use Rattle.algebra.specs.Each.{Each}
use Rattle.algebra.specs.Fraction.{Fraction, ℚ}
use Rattle.polynomials.specs.Terms.{Terms, AllSame, variables, compose}
use Rattle.exponentials.specs.Base.{Coprime, Ascending}
use Rattle.solvable_maps.specs.Iterations.{width, IsNormal}
use Rattle.solvable_maps.specs.Expo.{with_normal_keys, next_images, zero_images}
use Rattle.rounds.specs.Form.{Form}

module _ (images : List (Terms Fraction)) (m : ℕ) (f : Form) where
  abbrev pub IsRightAtZero : Type 0
  IsRightAtZero = AllSame ℚ
      (map (λ p. compose ℚ m p (zero_images (length f.base) m)) f.polys) (variables ℚ m)

  abbrev pub GoesOn : Type 0
  GoesOn =
      let w = width (length f.base) m in
      AllSame ℚ (map (λ q. with_normal_keys (length f.base) (compose ℚ w q f.polys)) images)
      (map (λ p. compose ℚ w p (next_images f.base m)) f.polys)

  pub record IsRightForm : Type 0 where
    pub ascending : Ascending f.base
    pub coprime : Coprime f.base
    pub normal : Each (IsNormal f.base) f.polys
    pub at_zero : IsRightAtZero
    pub goes_on : GoesOn
