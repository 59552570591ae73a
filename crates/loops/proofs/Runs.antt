-- Runs, letter by letter.
--   branch_at-some     a letter's branch is one of the program's
--   run_keeps          what each iteration keeps holds at the end
--   states_of_run      the states of a run are one more than its letters, and the last is the end
use Rattle.std.proofs.Common.{◌≡◌, ℕ, zero, suc, ◌<◌, List, [], ◌∷◌, get_or, length, refl, ap, subst, Option, Some, None}
use Rattle.std.specs.Prelude.{option_and_then}
use Rattle.std.specs.Option.{option_map_or}
use Rattle.std.proofs.lemmas.Option.{slice_get_within, get_or_from_slice_get}
use Rattle.algebra.specs.Fraction.{Fraction}
use Rattle.loops.specs.Program.{Expr, Program, Statement}
use Rattle.loops.specs.Run.{effect, states, run_end, branch_at}

pub branch_at-some : {At : Type 0} (program : Program (Expr At)) (b : ℕ)
    (branch : List (Statement (Expr At))) → branch_at program b ≡ Some branch
    → (c : ℕ) × (c < length program.branches) × (get_or program.branches c [] ≡ branch)
unfolding branch_at
branch_at-some program zero branch h = absurd (cc)
branch_at-some program (suc b) branch h = (
  b,
  slice_get_within program.branches b branch h,
  get_or_from_slice_get program.branches b branch [] h,
)

module _ {At : Type 0} (program : Program (Expr At)) where
  pub run_keeps : (P : List Fraction → Type 0)
      → ((s : List Fraction) (b : ℕ) (branch : List (Statement (Expr At)))
      → branch_at program b ≡ Some branch → P s → P (effect program branch s))
      → (word : List ℕ) (s end : List Fraction) → P s → run_end program word s ≡ Some end → P end
  unfolding run_end
  run_keeps P step [] s end p h = let e : s ≡ end = cc in subst P e p
  run_keeps P step (b ∷ word) s end p h = go (branch_at program b) refl h (λ branch is.
      run_keeps P step word (effect program branch s) end (step s b branch is p))
    where
      go : (o : Option (List (Statement (Expr At)))) → branch_at program b ≡ o
          → option_and_then (λ branch. run_end program word (effect program branch s)) o ≡ Some end
          → ((branch : List (Statement (Expr At))) → branch_at program b ≡ Some branch
          → run_end program word (effect program branch s) ≡ Some end → P end) → P end
      go None is h k = absurd (cc)
      go (Some branch) is h k = k branch is h

  pub states_of_run : (word : List ℕ) (s end d : List Fraction) → run_end program word s ≡ Some end
      → (length (states program word s) ≡ suc (length word))
      × (get_or (states program word s) (length word) d ≡ end)
  unfolding run_end states
  states_of_run [] s end d h = (refl, cc)
  states_of_run (b ∷ word) s end d h = go (branch_at program b) h (λ branch e.
      states_of_run word (effect program branch s) end d e)
    where
      go : (o : Option (List (Statement (Expr At))))
          → option_and_then (λ branch. run_end program word (effect program branch s)) o ≡ Some end
          → ((branch : List (Statement (Expr At))) → run_end program word (effect program branch s)
          ≡ Some end
          → (length (states program word (effect program branch s)) ≡ suc (length word))
          × (get_or (states program word (effect program branch s)) (length word) d ≡ end))
          → (suc (length (option_map_or (λ branch. states program word (effect program branch s)) o
          [])) ≡ suc (suc (length word)))
          × (get_or (option_map_or (λ branch. states program word (effect program branch s)) o [])
          (length word) d ≡ end)
      go None e ih = absurd (cc)
      go (Some branch) e ih = let (l, is) = ih branch e in (ap suc l, is)
