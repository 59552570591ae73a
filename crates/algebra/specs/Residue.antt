-- The residues modulo a number p above zero, as a type.
--   Residue p          a number below p: rest
--   residue p some n   what n leaves; `some` says that p is above zero
--   residue_sum, residue_product, residue_opposite, residue_inverse     on residues
--   residues p some    the scalars, without a width: each of the size 0 over 1
--   no_divisor k d p   none of the k numbers from d on divides p
--   prime              the greatest prime below 2^16
use Rattle.std.specs.Prelude.{ℕ, zero, suc, ◌+◌, ◌-◌, ◌*◌, ◌/◌, ◌%◌, Bool, true, false, not, ◌&&◌, T, ltb, eqb}
use Rattle.std.specs.Ordering.{nat_cmp}
use Rattle.algebra.specs.Size.{size}
use Rattle.algebra.specs.Scalars.{Scalars}

pub record Residue (p : ℕ) : Type 0 where
  pub rest : ℕ
  pub below : T (ltb rest p)

abbrev pub prime : ℕ
prime = 65521

-- the inverse of a modulo a prime, in at most so many steps: p = q * a + r, so a * (p - q) leaves r
abbrev pub inverse_within : ℕ → ℕ → ℕ → ℕ
inverse_within p zero a = 0
inverse_within p (suc n) zero = 0
inverse_within p (suc n) (suc zero) = 1
inverse_within p (suc n) (suc (suc a)) =
    ((p - p / suc (suc a)) * inverse_within p n (p % suc (suc a))) % p

abbrev pub no_divisor : ℕ → ℕ → ℕ → Bool
no_divisor zero d p = true
no_divisor (suc k) d p = not (eqb (p % d) 0) && no_divisor k (suc d) p

module _ (p : ℕ) (some : T (ltb 0 p)) where
  abbrev pub residue_where : (n : ℕ) (b : Bool) → (T b → T (ltb n p)) → Residue p
  residue_where n true below = record { rest = n; below = below tt }
  residue_where n false below = record { rest = 0; below = some }

  abbrev pub residue : ℕ → Residue p
  residue n = residue_where (n % p) (ltb (n % p) p) (λ below. below)

  abbrev pub residue_sum : Residue p → Residue p → Residue p
  residue_sum x y = residue (x.rest + y.rest)

  abbrev pub residue_product : Residue p → Residue p → Residue p
  residue_product x y = residue (x.rest * y.rest)

  abbrev pub residue_opposite : Residue p → Residue p
  residue_opposite x = residue (p - x.rest)

  abbrev pub residue_inverse : Residue p → Residue p
  residue_inverse x = residue (inverse_within p x.rest x.rest)

  abbrev pub residues : Scalars
  residues = record {
    Elem = Residue p;
    arithmetic = record {
      zero = residue 0;
      one = residue 1;
      add = residue_sum;
      mul = residue_product;
      neg = residue_opposite;
    };
    inverse = residue_inverse;
    is_zero = λ x. eqb x.rest 0;
    order = λ x y. nat_cmp x.rest y.rest;
    size = λ x. size 0 1;
  }
