-- Sequences of numbers are a vector space: a list of them is a matrix, whose combination with the coefficients y is y times the matrix.
--   sequences R X            their space
--   times_matrix R y rows    y times the matrix
--   column_sum rows j        the sum of the absolute values of a column of whole numbers
use Rattle.std.specs.Prelude.{ℕ, ◌+◌, ℤ, List, [], ◌∷◌}
use mathlib.Core.Path.{fun_ext}
use lib.IntN.{nat_abs}
use Rattle.algebra.specs.Ring.{CommRing}
use Rattle.algebra.proofs.RingLaws as L
use Rattle.vectors.specs.Space.{Space, combine}

abbrev pub sequences : {A : Type 0} (R : CommRing A) (X : Type 0) → Space R (X → A)
sequences R X = record {
  zero = λ x. R.zero;
  add = λ v w x. R.add (v x) (w x);
  neg = λ v x. R.neg (v x);
  scale = λ c v x. R.mul c (v x);
  add_assoc = λ u v w. fun_ext (λ x. R.add_assoc (u x) (v x) (w x));
  add_comm = λ v w. fun_ext (λ x. R.add_comm (v x) (w x));
  zero-add = λ v. fun_ext (λ x. L.zero-add R (v x));
  neg-add = λ v. fun_ext (λ x. L.neg-add_self R (v x));
  scale-add = λ c v w. fun_ext (λ x. R.mul-add c (v x) (w x));
  add-scale = λ c d v. fun_ext (λ x. L.add-mul R c d (v x));
  mul-scale = λ c d v. fun_ext (λ x. R.mul_assoc c d (v x));
  one-scale = λ v. fun_ext (λ x. L.one-mul R (v x));
  is_set = hlevel (R.is_set);
}

-- y times the matrix
abbrev pub times_matrix : {A : Type 0} (R : CommRing A) → (ℕ → A) → List (ℕ → A) → ℕ → A
times_matrix R y rows = combine (sequences R ℕ) y rows

-- the sum of the absolute values of a column
abbrev pub column_sum : List (ℕ → ℤ) → ℕ → ℕ
column_sum [] j = 0
column_sum (r ∷ rows) j = nat_abs (r j) + column_sum rows j
