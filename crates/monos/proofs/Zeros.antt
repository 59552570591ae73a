-- Exponents that are all 0.
--   zeros_of_sum   lists whose sum is 0
--   first_zeros    whether the first k are 0, by their sum
use Rattle.std.proofs.Common.{◌≡◌, ◌≤◌, ℕ, IsTrue, nat_eq, eq-eqb, List, [], ◌∷◌, length, length-take, replicate, sum, take, refl, sym, ap, ap₂, ◌∙◌, arith}
use Rattle.std.proofs.lemmas.Bool.{eqb-true}
use Rattle.std.proofs.lemmas.List.Sums.{sum_by-cons}
use Rattle.algebra.proofs.Lists.{sum_zeros}

pub zeros_of_sum : (d : List ℕ) → sum d ≡ 0 → d ≡ replicate (length d) 0
zeros_of_sum [] h = refl
zeros_of_sum (x ∷ d) h =
    let both = sum_by-cons (λ k. k) x d in
    ap₂ ◌∷◌ (let q : x ≡ 0 = omega (arith, both, h) in q) (zeros_of_sum d (omega (arith, both, h)))

-- the test of the first k, by their sum
pub first_zeros : (k r : ℕ) (d : List ℕ) → k ≤ length d → r ≡ sum (take k d)
    → (IsTrue (nat_eq r 0) → take k d ≡ replicate k 0)
    × (take k d ≡ replicate k 0 → IsTrue (nat_eq r 0))
first_zeros k r d l e = (
  (λ t. zeros_of_sum (take k d) (sym e ∙ eqb-true r 0 t)
      ∙ ap (λ n. replicate n 0) (let h = length-take k d in omega (arith, h, l))),
  (λ z. eq-eqb r 0 (e ∙ ap sum z ∙ sum_zeros k)),
)
