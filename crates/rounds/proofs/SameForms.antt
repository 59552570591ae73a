-- Settings of as many variables with the same closed forms eliminate the same variables, in the same order.
--   same_block, same_order       in each task
use Rattle.std.proofs.Common.{◌≡◌, ℕ, List, [], get_or, refl, ap, ap₂}
use Rattle.polynomials.specs.Order.{grevlex, blocks}
use Rattle.rounds.specs.Form.{Form, orbit_front, iteration_front}
use Rattle.rounds.specs.Analysis.{Setting, Work, starts, iteration, iteration_meet, orbit, meet, front_of, copies_of, block, order}

abbrev none : Form
none = record { base = []; polys = []; since = 0 }

module _ (A B : Setting) (arity : B.arity ≡ A.arity) (forms : B.forms ≡ A.forms) where
  same_front : (b : ℕ) → front_of B b ≡ front_of A b
  same_front b = ap₂ (λ (fs : List Form) m. orbit_front (get_or fs b none) m) forms arity

  same_copies : (b : ℕ) → copies_of B b ≡ copies_of A b
  same_copies b = ap₂ (λ (fs : List Form) m. iteration_front (get_or fs b none) m) forms arity

  pub same_block : (w : Work) → block B w ≡ block A w
  unfolding block
  same_block starts = refl
  same_block (iteration k b n gs before so_far) = same_copies b
  same_block (iteration_meet k b n gs so_far ks) = refl
  same_block (orbit k b gs so_far) = same_front b
  same_block (meet k b gs so_far hs) = refl

  pub same_order : (w : Work) → order B w ≡ order A w
  same_order starts = refl
  same_order (iteration k b n gs before so_far) = ap (λ d. blocks d grevlex grevlex) (same_copies b)
  same_order (iteration_meet k b n gs so_far ks) = refl
  same_order (orbit k b gs so_far) = ap (λ d. blocks d grevlex grevlex) (same_front b)
  same_order (meet k b gs so_far hs) = refl
