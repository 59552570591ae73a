-- Bases of exponential polynomials.
--   IsCoprimeBase bs        numbers above 1, pairwise coprime, in ascending order; coprime_base_prop: that is a proposition
--   IsOwnNormal bs p        p, made normal over bs, is p itself; own_normal_prop: that is one too
use Rattle.std.proofs.Common.{◌≡◌, ℕ, ◌<◌, List, [], ◌∷◌, length}
use Rattle.std.specs.Coded.{le_prop}
use mathlib.Core.List
use native.Mathlib.Nat.{ℕ_set}
use Rattle.algebra.proofs.Each.{each_prop}
use Rattle.algebra.specs.Fraction.{Fraction}
use Rattle.algebra.specs.Gcd.{gcd}
use Rattle.algebra.proofs.Fractions.{ℚ_ring}
use Rattle.polynomials.specs.Terms.{Terms}
use Rattle.exponentials.specs.Base.{Coprime, Ascending}
use Rattle.solvable_maps.specs.Expo.{with_normal_keys}

abbrev pub IsCoprimeBase : List ℕ → Type 0
IsCoprimeBase bs = Coprime bs × Ascending bs

below_prop : (m n : ℕ) → IsProp (m < n)
below_prop m n = le_prop

coprime_prop : (bs : List ℕ) → IsProp (Coprime bs)
coprime_prop [] = hlevel
coprime_prop (b ∷ bs) = hlevel (
  below_prop 1 b,
  each_prop (λ c. gcd b c ≡ 1) (λ c. ℕ_set _ _) bs,
  coprime_prop bs,
)

ascending_prop : (bs : List ℕ) → IsProp (Ascending bs)
ascending_prop [] = hlevel
ascending_prop (b ∷ bs) = hlevel (
  each_prop (λ c. b < c) (λ c. below_prop b c) bs,
  ascending_prop bs,
)

pub coprime_base_prop : (bs : List ℕ) → IsProp (IsCoprimeBase bs)
coprime_base_prop bs = hlevel (coprime_prop bs, ascending_prop bs)

abbrev pub IsOwnNormal : List ℕ → Terms Fraction → Type 0
IsOwnNormal bs p = with_normal_keys (length bs) p ≡ p

terms_set : (p q : Terms Fraction) → IsProp (p ≡ q)
terms_set p q = List.is_set (hlevel (List.is_set ℕ_set, ℚ_ring.is_set)) p q

pub own_normal_prop : (bs : List ℕ) (p : Terms Fraction) → IsProp (IsOwnNormal bs p)
own_normal_prop bs p = terms_set (with_normal_keys (length bs) p) p
