-- How long the classes of a map are: how many terms their polynomials multiply out to with a sum of as many terms as its class's length for each variable of an earlier class, where products that are equal but for their order count once.
--   IsLength n                 the number of terms of a sum: neither 0 nor above the limit;  AreLengths ns: of some sums
--   sum_length p ns            how many terms p multiplies out to with sums of so many terms for its variables
--   class_length images g ns     the sum of these over the polynomials of the class g
--   with_length g n ns         the numbers ns with n for each variable of g
--   at_least_one n             a sum that is 0 counts as one term
--   IsLongAmong images groups ns v     of these classes, one after another, v is the first variable of the first that is too long;  AreShort: none is
--   IsLong images v, IsShort images    the same of all classes of the map, in their order, where each variable is one term to begin with
use Rattle.std.specs.Prelude.{◌≡◌, ◌⊎◌, ℕ, zero, suc, ◌+◌, ◌<◌, ◌≤◌, List, [], ◌∷◌, length, replicate, set, All}
use Rattle.std.specs.List.{sum_by}
use Rattle.algebra.specs.Fraction.{Fraction}
use Rattle.polynomials.specs.Terms.{Terms}
use Rattle.expansion.specs.Counts.{most_terms}
use Rattle.expansion.specs.Lengths.{product_length}
use Rattle.solvable_maps.specs.Class.{AreClasses}
use Rattle.solvable_maps.specs.Classes.{first_of}
use Rattle.solvable_maps.specs.Uses.{uses, poly_at}

abbrev pub IsLength : ℕ → Type 0
IsLength n = (0 < n) × (n ≤ most_terms)

abbrev pub AreLengths : List ℕ → Type 0
AreLengths ns = All IsLength ns

abbrev pub sum_length : Terms Fraction → List ℕ → ℕ
sum_length p ns = sum_by (λ t. product_length ns t.0) p

unfoldable pub class_length : List (Terms Fraction) → List ℕ → List ℕ → ℕ
class_length images [] ns = 0
class_length images (i ∷ g) ns = sum_length (poly_at images i) ns + class_length images g ns

abbrev pub with_length : List ℕ → ℕ → List ℕ → List ℕ
with_length [] n ns = ns
with_length (i ∷ g) n ns = with_length g n (set ns i n)

abbrev pub at_least_one : ℕ → ℕ
at_least_one zero = 1
at_least_one (suc n) = suc n

module _ (images : List (Terms Fraction)) where
  abbrev pub with_class : List ℕ → List ℕ → List ℕ
  with_class g ns = with_length g (at_least_one (class_length images g ns)) ns

  abbrev pub IsLongAmong : List (List ℕ) → List ℕ → ℕ → Type 0
  IsLongAmong [] ns v = ⊥
  IsLongAmong (g ∷ groups) ns v = ((first_of g ≡ v) × (most_terms < class_length images g ns))
      ⊎ ((class_length images g ns ≤ most_terms) × IsLongAmong groups (with_class g ns) v)

  abbrev pub AreShort : List (List ℕ) → List ℕ → Type 0
  AreShort [] ns = Unit {0}
  AreShort (g ∷ groups) ns = (class_length images g ns ≤ most_terms)
      × AreShort groups (with_class g ns)

  pub record IsLong (v : ℕ) : Type 0 where
    pub groups : List (List ℕ)
    pub are : AreClasses (uses images) (length images) [] groups
    pub long : IsLongAmong groups (replicate (length images) 1) v

  pub record IsShort : Type 0 where
    pub groups : List (List ℕ)
    pub are : AreClasses (uses images) (length images) [] groups
    pub short : AreShort groups (replicate (length images) 1)
