-- The test whether an order mixes degrees (machines/specs/Pairs), over plain variables.
--   mixes_zero, mixes_is     without variables, and by two monomials
use Rattle.std.proofs.Common.{◌≡◌, ℕ, ◌-◌, Bool, false, List, [], sym, ap, ap₂, ◌∙◌}
use Rattle.std.specs.Ordering.{is_gt}
use Rattle.std.proofs.lemmas.Cmp.{nat_list_cmp_total, tied_itself}
use Rattle.polynomials.specs.Order.{Rank, compare}
use Rattle.machines.specs.Pairs.{power_at, mixes_degrees}

module _ (O : Rank) (m : ℕ) where
  pub mixes_zero : m ≡ 0 → false ≡ mixes_degrees O m
  unfolding mixes_degrees compare
  mixes_zero e = sym (ap (mixes_degrees O) e ∙ ap is_gt (tied_itself nat_list_cmp_total (O [])))

  pub mixes_is : (d e : List ℕ) (b : Bool) → d ≡ power_at m 0 1 → e ≡ power_at m (m - 1) 2
      → b ≡ is_gt (compare O d e) → b ≡ mixes_degrees O m
  unfolding mixes_degrees
  mixes_is d e b x y h = h ∙ ap₂ (λ p q. is_gt (compare O p q)) x y
