-- How long what a task begins with is: how many terms it multiplies out to, where products that are equal but for their order count once.
--   lengths_before passes i qs     how many terms what each variable was has, from the ith variable on: the one of its copy where it passes, else those of its q
--   lengths_told passing qs        the same, where a list says which variables pass
--   form_lengths f m               the same for the form f of m variables, by its inverse form
--   length_behind k ns p           how many terms p multiplies out to with sums of so many terms for the variables behind the first k;  lengths_behind k ns ps: so the ps, together
--   orbit_length f m gs            what an orbit begins with: the gs at what was; and, where the form f isn't the state from 0 on, f there. Its inverse form counts for f, which has as many terms
--   iteration_length f m fs gs     what an iteration begins with: the gs and the branch's map fs, at what was
--   work_length A w, task_length A s     what the task of the work w, or of the state s, begins with
--   IsLong A s                     these are more than most_terms
--   short_moves A s                the entry that comes next, if one does and the state's task isn't too long, and the state after it
use Rattle.std.specs.Prelude.{ℕ, zero, suc, ◌+◌, ◌<◌, Bool, cond, ltb, List, [], ◌∷◌, drop, length, get_or, Option, None}
use Rattle.std.specs.List.{sum_by}
use Rattle.algebra.specs.Fraction.{Fraction}
use Rattle.polynomials.specs.Terms.{Terms}
use Rattle.machines.specs.Journal.{Entry}
use Rattle.rounds.specs.Analysis.{Setting, Work, starts, iteration, iteration_meet, orbit, meet, State, fresh, working, closing, turning, asking, form_of, moves}
use Rattle.rounds.specs.Form.{Form, front, inverse_of_form, passes}
use Rattle.expansion.specs.Counts.{most_terms, factor_terms}
use Rattle.expansion.specs.Lengths.{product_length, composition_length, list_length}

unfoldable pub lengths_before : (ℕ → Bool) → ℕ → List (Terms Fraction) → List ℕ
lengths_before passes i [] = []
lengths_before passes i (q ∷ qs) =
    cond (passes i) 1 (factor_terms q) ∷ lengths_before passes (suc i) qs

unfoldable pub lengths_told : List Bool → List (Terms Fraction) → List ℕ
lengths_told [] qs = []
lengths_told (b ∷ bs) [] = []
lengths_told (b ∷ bs) (q ∷ qs) = cond b 1 (factor_terms q) ∷ lengths_told bs qs

abbrev pub form_lengths : Form → ℕ → List ℕ
form_lengths f m = lengths_before (passes f m) 0 (inverse_of_form f)

abbrev pub term_behind : ℕ → List ℕ → List ℕ × Fraction → ℕ
term_behind k ns t = product_length ns (drop k t.0)

abbrev pub length_behind : ℕ → List ℕ → Terms Fraction → ℕ
length_behind k ns p = sum_by (term_behind k ns) p

abbrev pub lengths_behind : ℕ → List ℕ → List (Terms Fraction) → ℕ
lengths_behind k ns ps = sum_by (length_behind k ns) ps

unfoldable pub orbit_length_since : ℕ → Form → ℕ → List (Terms Fraction) → ℕ
orbit_length_since zero f m gs = list_length gs (inverse_of_form f)
orbit_length_since (suc d) f m gs =
    lengths_behind 0 (form_lengths f m) gs
    + lengths_behind (front (length f.base)) (form_lengths f m) (inverse_of_form f)

abbrev pub orbit_length : Form → ℕ → List (Terms Fraction) → ℕ
orbit_length f m gs = orbit_length_since f.since f m gs

unfoldable pub iteration_length : Form → ℕ → List (Terms Fraction) → List (Terms Fraction) → ℕ
iteration_length f m fs gs =
    lengths_behind 0 (form_lengths f m) gs + lengths_behind 0 (form_lengths f m) fs

module _ (A : Setting) where
  unfoldable pub work_length : Work → ℕ
  work_length starts = 0
  work_length (iteration k b n gs before so_far) =
      iteration_length (form_of A b) A.arity (get_or A.maps b []) before
  work_length (iteration_meet k b n gs so_far ks) = 0
  work_length (orbit k b gs so_far) = orbit_length (form_of A b) A.arity gs
  work_length (meet k b gs so_far hs) = 0

  unfoldable pub task_length : State → ℕ
  task_length fresh = 0
  task_length (working w s) = work_length w
  task_length (closing k b i gs s) = composition_length (get_or gs i []) (get_or A.maps b [])
  task_length (turning k gs) = 0
  task_length (asking k gs s) = 0

  abbrev pub IsLong : State → Type 0
  IsLong s = most_terms < task_length s

  unfoldable pub short_moves : State → Option (Entry × State)
  short_moves s = cond (ltb most_terms (task_length s)) None (moves A s)
