-- Where a journal may stop since numbers don't fit: the weight of making a task's starting list, or of what comes next, is past.
--   IsPastLess xs ys           of one of the differences, place by place
--   IsPastComposed ps gs       of a composition of one of the gs with the ps
--   IsPastGraph k t m before fs gs       of a composition or a difference that makes the list of a graph: the fs and the gs at `before`
--   IsPastOrbit f m gs         of one that makes the starting list of an orbit, of the form f
--   iteration_images f m            the values of the variables in front after one iteration, and the variables
--   IsPastIteration f m fs gs       of one that makes that of an iteration, with the branch's map fs, or the form f backward after one iteration
--   IsPastMeet w gs hs         of a product that makes that of an intersection, or of making an element of it monic
--   IsPastStarting w           of a composition or a product that makes an element of the starting list, or of making one monic
--   IsPastEvent s              of the event that comes next
--   IsPast s                   one of the two;  task_of s: the task that s is in
use Rattle.std.specs.Prelude.{◌⊎◌, ℕ, zero, suc, ◌+◌, List, [], ◌∷◌, ◌++◌, map, drop, replicate, length, get_or}
use Rattle.std.specs.List.{Any}
use Rattle.algebra.specs.Fraction.{Fraction, ℚ, fractions, rationals}
use Rattle.polynomials.specs.Order.{grevlex}
use Rattle.polynomials.specs.Terms.{Terms, constant, variables, negate}
use Rattle.polynomials.specs.Weight.{IsPastSum, IsPastProduct, IsPastComposition}
use Rattle.machines.specs.Collect.{collect}
use Rattle.machines.specs.Elimination.{free_part, in_front}
use Rattle.machines.specs.Journal as journal
use Rattle.machines.specs.Journal.{Task}
use Rattle.machines.specs.Past as machine
use Rattle.rounds.specs.Analysis.{Setting, Work, starts, iteration, iteration_meet, orbit, meet, State, fresh, working, closing, turning, asking, form_of, starting, block, order}
use Rattle.rounds.specs.Form.{Form, front, inverse_of_form, passes, passing, form_before, point_of, iteration_before, iteration_front}
use Rattle.rounds.specs.Graph.{images_behind, at_before}

-- the variable in front of m others
abbrev pub the_t : ℕ → Terms Fraction
the_t m = (1 ∷ replicate m 0, ℚ.one) ∷ []

abbrev pub one_less_t : ℕ → Terms Fraction
one_less_t m = constant (1 + m) ℚ.one ++ negate ℚ (the_t m)

abbrev pub IsPastLess : List (Terms Fraction) → List (Terms Fraction) → Type 0
IsPastLess [] ys = ⊥
IsPastLess (x ∷ xs) [] = ⊥
IsPastLess (x ∷ xs) (y ∷ ys) = IsPastSum fractions x y ⊎ IsPastLess xs ys

abbrev pub IsPastComposed : List (Terms Fraction) → List (Terms Fraction) → Type 0
IsPastComposed ps gs = Any (λ g. IsPastComposition fractions g ps) gs

abbrev pub IsPastGraph : ℕ → ℕ → ℕ → List (Terms Fraction) → List (Terms Fraction)
    → List (Terms Fraction) → Type 0
IsPastGraph k t m before fs gs =
    IsPastComposed before gs
    ⊎ (IsPastComposed (images_behind k (k + t + m) before) fs
    ⊎ IsPastLess (drop (k + t) (variables ℚ (k + t + m)))
    (map (λ f. collect rationals grevlex (at_before k t m before f)) fs))

abbrev pub IsPastOrbitSince : ℕ → Form → ℕ → List (Terms Fraction) → Type 0
IsPastOrbitSince zero f m gs = IsPastComposed (inverse_of_form f) gs
IsPastOrbitSince (suc d) f m gs =
    let which = passes f m in
    IsPastGraph (front (length f.base)) (passing m which) m
    (map (collect rationals grevlex) (form_before f m which)) f.polys gs

abbrev pub IsPastOrbit : Form → ℕ → List (Terms Fraction) → Type 0
IsPastOrbit f m gs = IsPastOrbitSince f.since f m gs

abbrev pub iteration_images : Form → ℕ → List (Terms Fraction)
iteration_images f m = map (constant m) (point_of f.base 1) ++ variables ℚ m

abbrev pub IsPastIteration : Form → ℕ → List (Terms Fraction) → List (Terms Fraction) → Type 0
IsPastIteration f m fs gs =
    IsPastComposed (iteration_images f m) (inverse_of_form f)
    ⊎ IsPastGraph 0 (iteration_front f m) m
    (map (collect rationals grevlex) (iteration_before f m (passes f m))) fs gs

module _ (A : Setting) where
  abbrev pub IsPastMeet : Work → List (Terms Fraction) → List (Terms Fraction) → Type 0
  IsPastMeet w so_far hs =
      Any (λ g. IsPastProduct fractions (the_t A.arity) (in_front 1 g)) so_far
      ⊎ (Any (λ g. IsPastProduct fractions (one_less_t A.arity) (in_front 1 g)) hs
      ⊎ machine.IsPastStart fractions rationals (starting A w))

  abbrev pub IsPastStarting : Work → Type 0
  IsPastStarting starts = machine.IsPastStart fractions rationals (starting A starts)
  IsPastStarting (iteration k b n gs before so_far) =
      IsPastIteration (form_of A b) A.arity (get_or A.maps b []) before
      ⊎ machine.IsPastStart fractions rationals (starting A (iteration k b n gs before so_far))
  IsPastStarting (iteration_meet k b n gs so_far ks) =
      IsPastMeet (iteration_meet k b n gs so_far ks) so_far
      ks
  IsPastStarting (orbit k b gs so_far) =
      IsPastOrbit (form_of A b) A.arity gs
      ⊎ machine.IsPastStart fractions rationals (starting A (orbit k b gs so_far))
  IsPastStarting (meet k b gs so_far hs) = IsPastMeet (meet k b gs so_far hs) so_far hs

  abbrev pub IsPastEvent : State → Type 0
  IsPastEvent fresh = ⊥
  IsPastEvent (working w s) =
      machine.IsPastElimination fractions rationals (order A w) grevlex (free_part (block A w)) s
  IsPastEvent (closing k b i gs s) = machine.IsPastDivision fractions rationals gs s
  IsPastEvent (turning k gs) = ⊥
  IsPastEvent (asking k gs s) = machine.IsPastDivision fractions rationals gs s

  abbrev pub IsPastTask : State → Type 0
  IsPastTask fresh = ⊥
  IsPastTask (working w s) = IsPastStarting w
  IsPastTask (closing k b i gs s) =
      IsPastComposition fractions (get_or gs i []) (get_or A.maps b [])
  IsPastTask (turning k gs) = ⊥
  IsPastTask (asking k gs s) = ⊥

  abbrev pub IsPast : State → Type 0
  IsPast s = IsPastTask s ⊎ IsPastEvent s

abbrev pub task_of_work : Work → Task
task_of_work starts = journal.Start
task_of_work (iteration k b n gs before so_far) = journal.Iteration k (suc b) (suc n)
task_of_work (iteration_meet k b n gs so_far ks) = journal.IterationMeet k (suc b) (suc n)
task_of_work (orbit k b gs so_far) = journal.Orbit k (suc b)
task_of_work (meet k b gs so_far hs) = journal.Meet k (suc b)

abbrev pub task_of : State → Task
task_of fresh = journal.Start
task_of (working w s) = task_of_work w
task_of (closing k b i gs s) = journal.Closed k (suc b) (suc i)
task_of (turning k gs) = journal.Round k
task_of (asking k gs s) = journal.Member
