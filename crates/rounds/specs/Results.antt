-- What the tasks of an analysis end with, and what is to be known of that.
--   LeadsTo next s t           the events of some run lead from s to t
--   EndsWork A w                 a run of the elimination that the work w is, which has ended
--   IsReducedList m gs         gs is reduced for its own ideal
--   IsOverWork m w             the lists that the work w is of are reduced; IsBranch program w: its branch is one of the program's
--   orbit_iterations d n            n + d iterations, for the orbit of a form that is the state from d iterations on
--   Laws program A             what the layers below give: tasks eliminate and reduce, divisions decide, the starting lists have the right members
use Rattle.std.specs.Prelude.{◌≡◌, ◌↔◌, ℕ, zero, suc, ◌+◌, ◌<◌, List, [], get_or, length, Option, None, ⊤}
use Rattle.algebra.specs.Fraction.{Fraction, ℚ, rationals}
use Rattle.polynomials.specs.Terms.{Terms}
use Rattle.polynomials.specs.Polynomial.{Arity, IsPolynomial}
use Rattle.polynomials.specs.Order.{grevlex, blocks}
use Rattle.ideals.specs.Members.{IsMember}
use Rattle.machines.specs.Run.{IsRun, HasEnded, Ends}
use Rattle.machines.specs.Division as division
use Rattle.machines.specs.Elimination.{in_front, blend}
use Rattle.machines.specs.Reduced.{IsReducedFor}
use Rattle.loops.specs.Program.{Expr, Program}
use Rattle.rounds.specs.Word.{after_iteration}
use Rattle.rounds.specs.Round.{IsOrbitAt}
use Rattle.rounds.specs.Orbit.{IsEliminated}
use Rattle.rounds.specs.Start.{start_list}
use Rattle.rounds.specs.Analysis.{Setting, Work, starts, iteration, iteration_meet, orbit, meet, machine_of, list_at, block, form_of, starting, pullback}

pub record LeadsTo {S E : Type 0} (next : S → Option (E × S)) (s t : S) : Type 0 where
  pub events : List E
  pub run : IsRun next s events t

abbrev pub EndsWork : Setting → Work → Type 0
EndsWork A w = Ends (machine_of A w).next (machine_of A w).start

abbrev pub IsReducedList : ℕ → List (Terms Fraction) → Type 0
IsReducedList m gs = IsReducedFor rationals grevlex m gs (IsMember ℚ m gs)

-- the lists that a work is of are reduced
abbrev pub IsOverWork : ℕ → Work → Type 0
IsOverWork m starts = Unit {0}
IsOverWork m (iteration k b n gs before so_far) = IsReducedList m before
IsOverWork m (iteration_meet k b n gs so_far ks) = IsReducedList m so_far × IsReducedList m ks
IsOverWork m (orbit k b gs so_far) = IsReducedList m gs
IsOverWork m (meet k b gs so_far hs) = IsReducedList m so_far × IsReducedList m hs

-- the branch of an iteration and of an orbit is one of the program's
abbrev pub IsBranch : {At : Type 0} → Program (Expr At) → Work → Type 0
IsBranch program starts = ⊤
IsBranch program (iteration k b n gs before so_far) = b < length program.branches
IsBranch program (iteration_meet k b n gs so_far ks) = ⊤
IsBranch program (orbit k b gs so_far) = b < length program.branches
IsBranch program (meet k b gs so_far hs) = ⊤

abbrev pub orbit_iterations : ℕ → ℕ → ℕ
orbit_iterations zero n = n
orbit_iterations (suc d) n = suc d + n

pub record Laws {At : Type 0} (program : Program (Expr At)) (A : Setting) : Type 0 where
  -- completion, elimination and tidying
  pub eliminates : (w : Work) → IsBranch program w → IsOverWork (length program.names) w
      → (e : EndsWork A w)
      → IsEliminated (block A w) (length program.names) (starting A w) (list_at A w e.last)
  pub reduces : (w : Work) → IsBranch program w → IsOverWork (length program.names) w
      → (e : EndsWork A w) → IsReducedList (length program.names) (list_at A w e.last)
  -- division
  pub answers : (gs : List (Terms Fraction)) (p : Terms Fraction) (s : division.State Fraction)
      → IsReducedList (length program.names) gs → IsPolynomial ℚ grevlex (length program.names) p
      → LeadsTo (division.next rationals grevlex gs) (division.initial_state gs p) s
      → HasEnded (division.next rationals grevlex gs) s
      → IsMember ℚ (length program.names) gs p ↔ (s.current ≡ None)
  pub divides : (gs : List (Terms Fraction)) (b i : ℕ) (s : division.State Fraction)
      → IsReducedList (length program.names) gs → b < length program.branches → i < length gs
      → LeadsTo (division.next rationals grevlex gs)
      (division.initial_state gs (pullback A b (get_or gs i []))) s
      → HasEnded (division.next rationals grevlex gs) s
      → IsMember ℚ (length program.names) gs (after_iteration program (suc b) (get_or gs i []))
      ↔ (s.current ≡ None)
  -- starting lists
  pub start_members : (p : Terms Fraction) → Arity (length program.names) p
      → IsMember ℚ (0 + length program.names) (starting A starts) (in_front 0 p)
      ↔ IsMember ℚ (length program.names) (start_list program) p
  pub orbits : (k b : ℕ) (gs so_far hs : List (Terms Fraction))
      → IsReducedList (length program.names) gs → b < length program.branches
      → IsEliminated (block A (orbit k b gs so_far)) (length program.names)
      (starting A (orbit k b gs so_far)) hs
      → IsOrbitAt program gs (suc b) (orbit_iterations (form_of A b).since) hs
  pub iterations : (k b n : ℕ) (gs before so_far ks : List (Terms Fraction))
      → IsReducedList (length program.names) before → b < length program.branches
      → IsEliminated (block A (iteration k b n gs before so_far)) (length program.names)
      (starting A (iteration k b n gs before so_far)) ks
      → IsOrbitAt program before (suc b) (λ j. 1) ks
  pub meets : (so_far hs : List (Terms Fraction)) → IsReducedList (length program.names) so_far
      → IsReducedList (length program.names) hs
      → (p : Terms Fraction) → Arity (length program.names) p
      → IsMember ℚ (1 + length program.names) (blend rationals (blocks 1 grevlex grevlex) so_far hs)
      (in_front 1 p)
      ↔ (IsMember ℚ (length program.names) so_far p × IsMember ℚ (length program.names) hs p)
