-- That the premises of the clauses of `Finds`, `Decides` and `Tallies` (specs/) can be met: of each
-- kind a loop that meets it, and where one is asked a question. All are of one variable, x.
--   one_..     of the loop with one branch, which does nothing;  two_..: with two such branches
--   yes_..     of the question whether x is x, whose polynomial is 0
--   no_..      of the question whether x is 0, whose polynomial is x
--   reset_..   of the loop with the branch x = 0, whose eigenvalue is 0 (with init it is in ResetWitnesses)
--   square_..  of the loop with the branch x = x*x, which has no closed form
--   high_..    of the 80th power of x, which passes the limit of degrees
-- What meets each premise, here or in the file that is named:
--   ReadsLoop, ReadsEquation    the texts of ReadTexts, where the outside tells the bytes: of the
--                               loops, of equations, and with a fault
--   AsksOf                      yes_asks, no_asks there: of any of the loops
--   IsNeverRefused              one_never_refused, two_never_refused
--   not ComesToLong             one_never_long
--   IsWithinBudget              one_within, two_within, with any budget: there is no unit
--   AreFree, AllSplit           one_free, two_free, reset_free; one_splits, two_splits, reset_splits
--   NeverStops                  yes_never_stops, no_never_stops
--   NeverPast                   one_never_past, two_never_past: of any polynomial
--   IsAnswered                  yes_answered, with nothing left; no_answered, with x left; within
--                               any budget: yes_units, no_units
--   IsRefusedBranch             square_branch, with square_free and square_exact
--   ¬ AllHaveForms              square_unformed
--   IsLimit                     high_maps, of the maps of a loop; high_equation, of an equation
-- What isn't shown:
--   that the outside tells any bytes, and more of them than a limit (IsLonger)
--   IsFamily of more than no loop, for any of the premises of `Tallies`
--   IsNeverRefused of a loop of two variables or more: that a number is past in a closed form is refuted by hand
--   a branch that is refused for another exact cause than that it isn't solvable
-- A loop with `init` is in StartedWitnesses, loops whose branch changes the variable in TurnedWitnesses and ResetWitnesses. That no state of an analysis is past
-- computes (Fitting); WorkedLoops has it of loops of three variables, and of one with the eigenvalue 0.
use Rattle.std.proofs.Common.{ℕ, ◌≤◌, List, [], ◌∷◌, sym, subst, arith}
use Rattle.algebra.specs.Fraction.{Fraction}
use Rattle.polynomials.specs.Terms.{Terms}
use Rattle.machines.specs.Division as division
use Rattle.machines.specs.Event.{Zero}
use Rattle.machines.specs.Journal.{Entry, Begin, Did, Start, Member, units_of}
use Rattle.loop_model.specs.Operations.{IsLimit}
use Rattle.loop_model.specs.Maps.{maps_operations, AreFree}
use Rattle.rounds.specs.Journal.{IsAnswered}
use Rattle.closed_forms.specs.Refusal.{not_solvable}
use Rattle.invariant_fix.specs.Refusals.{AllHaveForms, IsRefusedBranch}
use Rattle.command_parts.specs.Equations.{operations_of, polynomial_of}
use Rattle.analysis_commands.specs.Causes.{IsNeverRefused, IsWithinBudget, IsExact}
use Rattle.analysis_commands.specs.LongTasks.{ComesToLong}
use Rattle.analysis_commands.specs.Completeness.{AllSplit}
use Rattle.analysis_commands.specs.MemberCauses.{NeverStops, NeverPast}
use Rattle.analysis_commands.proofs.ScaledMap.{one}
use Rattle.analysis_commands.proofs.IdleRuns.{nothing_left, never_past, never_long, never_past_asked}
use Rattle.analysis_commands.proofs.IdleLoops.{one_loop, two_loop, x_free, x_narrow, two_narrow, x_split, two_split, x_branches, two_branches, x_finished, two_finished, zero_asked, some_asked}
use Rattle.analysis_commands.proofs.IdleLoops as loops
use Rattle.analysis_commands.proofs.IdleQuestions.{x, yes_question, no_question, yes_free, no_free, yes_narrow, no_narrow, yes_polynomial, no_polynomial}
use Rattle.analysis_commands.proofs.ResetMap as reset
use Rattle.analysis_commands.proofs.ResetMap.{reset_loop}
use Rattle.analysis_commands.proofs.SquareMap as refused
use Rattle.analysis_commands.proofs.SquareMap.{square_loop}
use Rattle.analysis_commands.proofs.PassedLimits.{high_loop, high_question, high_loop_stops, high_stops}

-- ---- an analysis
pub one_never_refused : IsNeverRefused one_loop
one_never_refused = record {
  free = x_free;
  maps = x_narrow;
  branches = λ b r l. x_branches b r l;
  states = λ es s f. never_past ([] ∷ []) f.forms es s f.run;
  short = λ es s f. never_long ([] ∷ []) f.forms es s f.run;
}

-- and so it comes to no task that is too long
pub one_never_long : ComesToLong one_loop → ⊥
one_never_long c = one_never_refused.short c.entries c.state c.follows c.long

pub two_never_refused : IsNeverRefused two_loop
two_never_refused = record {
  free = loops.two_free;
  maps = two_narrow;
  branches = λ b r l. two_branches b r l;
  states = λ es s f. never_past ([] ∷ [] ∷ []) f.forms es s f.run;
  short = λ es s f. never_long ([] ∷ [] ∷ []) f.forms es s f.run;
}

pub one_within : (budget : ℕ) → IsWithinBudget one_loop budget
unfolding units_of
one_within budget = record {
  entries = Begin Start ∷ [];
  rounds = 0;
  list = [];
  finished = x_finished;
  few = omega arith;
}

pub two_within : (budget : ℕ) → IsWithinBudget two_loop budget
unfolding units_of
two_within budget = record {
  entries = Begin Start ∷ [];
  rounds = 0;
  list = [];
  finished = two_finished;
  few = omega arith;
}

pub one_free : AreFree one_loop
one_free = x_free

pub one_splits : AllSplit one_loop
one_splits = λ b l. x_split b l

pub two_free : AreFree two_loop
two_free = loops.two_free

pub two_splits : AllSplit two_loop
two_splits = λ b l. two_split b l

-- ---- a question
pub one_never_past : (p : Terms Fraction) → NeverPast one_loop p
one_never_past p = λ es s f. never_past_asked ([] ∷ []) f.forms p es s f.run

pub two_never_past : (p : Terms Fraction) → NeverPast two_loop p
two_never_past p = λ es s f. never_past_asked ([] ∷ [] ∷ []) f.forms p es s f.run

module _ (at : ℕ) where
  pub yes_never_stops : NeverStops one_loop (yes_question at)
  yes_never_stops = record { free = yes_free at; narrow = yes_narrow at }

  pub no_never_stops : NeverStops one_loop (no_question at)
  no_never_stops = record { free = no_free at; narrow = no_narrow at }

  abbrev pub yes_entries : List Entry
  yes_entries = Begin Start ∷ Begin Member ∷ Did Zero ∷ []

  -- with nothing left
  pub yes_answered : IsAnswered one_loop (polynomial_of one_loop (yes_question at)) yes_entries 0 []
      nothing_left
  yes_answered =
      subst (λ p. IsAnswered one_loop p yes_entries 0 [] nothing_left) (sym (yes_polynomial at))
      zero_asked

  abbrev pub no_entries : List Entry
  no_entries = Begin Start ∷ Begin Member ∷ []

  -- with x left
  pub no_answered : IsAnswered one_loop (polynomial_of one_loop (no_question at)) no_entries 0 []
      (division.initial_state [] x)
  no_answered =
      subst (λ p. IsAnswered one_loop p no_entries 0 [] (division.initial_state [] x))
      (sym (no_polynomial at)) (some_asked (1 ∷ [], one) [])

  pub yes_units : (budget : ℕ) → units_of yes_entries ≤ budget
  unfolding units_of
  yes_units budget = omega arith

  pub no_units : (budget : ℕ) → units_of no_entries ≤ budget
  unfolding units_of
  no_units budget = omega arith

-- ---- a branch whose eigenvalue is 0
pub reset_free : AreFree reset_loop
reset_free = reset.reset_free

pub reset_splits : AllSplit reset_loop
reset_splits = reset.reset_splits

-- ---- a branch without a closed form
pub square_exact : IsExact (not_solvable (0 ∷ 0 ∷ []))
square_exact = tt

module _ (t : ℕ) where
  pub square_branch : IsRefusedBranch (square_loop t) 0 (not_solvable (0 ∷ 0 ∷ []))
  square_branch = refused.square_refused t

  pub square_free : AreFree (square_loop t)
  square_free = refused.square_free t

  pub square_unformed : ¬ (AllHaveForms (square_loop t))
  square_unformed = refused.square_unformed t

-- ---- a limit that is passed
module _ (u t : ℕ) where
  pub high_maps : IsLimit 1 (maps_operations (high_loop u t)) t
  high_maps = high_loop_stops u t

  pub high_equation : (at : ℕ) → IsLimit 1 (operations_of one_loop (high_question u t at)) t
  high_equation at = high_stops u t at
