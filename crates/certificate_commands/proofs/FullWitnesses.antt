-- That the premises of the clauses of `FindsFull` (specs/FullClauses) can be met, beside those of `Finds`, by loops of one variable, x, without init:
--   one_..     of the loop with one branch, which does nothing;  two_..: with two such branches
--   reset_..: of the loop with the branch x = 0, which begins late
-- And by loops of x that begins with 1, whose analyses need a round:
--   doubled_..  of the loop with the branch x = 2*x;  negated_..: with x = -x
-- What meets each premise:
--   IsWithinBudget, and with its rounds IsNeverRefused     one_within, two_within, with any budget: there is no unit, and no round
--                                   doubled_within, with any budget from 23 on, negated_within, from 22 on, both with a round
--   AllBeginAtZero                  one_at_zero, two_at_zero, of loops that are free and split; reset_begins_late: one that is free and splits for which it fails
--   AllHaveForms, IsFirstLate       reset_have_forms, reset_late of LateLoop, with reset_free of analysis_commands
-- The others are met by what analysis_commands/proofs/Witnesses names.
use Rattle.std.proofs.Common.{ℕ, ◌≤◌, [], ◌∷◌, map, sym, subst, arith, None}
use Rattle.machines.specs.Journal.{Begin, Start, units_of}
use Rattle.corollaries.specs.Full.{WrittenForm, as_form}
use Rattle.corollaries.specs.Trace.{no_results}
use Rattle.corollaries.specs.Followed.{IsFinished}
use Rattle.analysis_commands.proofs.IdleLoops.{one_loop, two_loop, x_form, x_forms, two_forms, x_finished, two_finished}
use Rattle.analysis_commands.proofs.Witnesses as idle
use Rattle.analysis_commands.proofs.IdentityMap.{turned}
use Rattle.analysis_commands.proofs.ResetMap.{reset_loop}
use Rattle.analysis_commands.proofs.Traces.{comes_by}
use Rattle.analysis_commands.proofs.TurnedRuns.{doubled_program, doubled_forms, doubled_entries, doubled_units, doubled_run, negated_program, negated_forms, negated_entries, negated_units, negated_run, square_less}
use Rattle.analysis_commands.proofs.TurnedWitnesses as turned_loops
use Rattle.analysis_commands.proofs.TurnedWitnesses.{doubled_are, negated_are}
use Rattle.full_trace.specs.Late.{AllBeginAtZero}
use Rattle.full_trace.proofs.Late.{never_late}
use Rattle.certificate_commands.specs.FullCauses.{IsNeverRefused, IsWithinBudget}
use Rattle.certificate_commands.proofs.IdleTraces.{never_past, x_run, x_ends}
use Rattle.certificate_commands.proofs.Late.{followed_at_zero}
use Rattle.certificate_commands.proofs.LateLoop.{reset_late}
use Rattle.certificate_commands.proofs.TraceFitting.{trace_never_past, traced_by}
use Rattle.certificate_commands.proofs.TurnedTraces.{doubled_written, doubled_trace, doubled_trace_units, negated_written, negated_trace, negated_trace_units, entries_of, results_of}

abbrev x_written : WrittenForm
x_written = record { base = []; polys = turned ∷ [] }

one_traced : IsFinished one_loop 0 (Begin Start ∷ []) no_results
one_traced = record {
  state = _;
  follows = record {
    forms = x_written ∷ [];
    are_forms = x_forms;
    run = x_run ([] ∷ []) (x_form ∷ []);
  };
  is = x_ends ([] ∷ []) (x_form ∷ []);
}

two_traced : IsFinished two_loop 0 (Begin Start ∷ []) no_results
two_traced = record {
  state = _;
  follows = record {
    forms = x_written ∷ x_written ∷ [];
    are_forms = two_forms;
    run = x_run ([] ∷ [] ∷ []) (x_form ∷ x_form ∷ []);
  };
  is = x_ends ([] ∷ [] ∷ []) (x_form ∷ x_form ∷ []);
}

pub one_within : (budget : ℕ) → (w : IsWithinBudget one_loop budget)
    × IsNeverRefused one_loop w.analysis.rounds
unfolding units_of
one_within budget = (
  record {
    analysis = record {
      entries = Begin Start ∷ [];
      rounds = 0;
      list = [];
      finished = x_finished;
      few = omega arith;
    };
    entries = Begin Start ∷ [];
    given = no_results;
    finished = one_traced;
    few = omega arith;
  },
  record {
    analysis = idle.one_never_refused;
    states = λ es s f. never_past ([] ∷ []) (map as_form f.forms) es s f.run;
  },
)

pub two_within : (budget : ℕ) → (w : IsWithinBudget two_loop budget)
    × IsNeverRefused two_loop w.analysis.rounds
unfolding units_of
two_within budget = (
  record {
    analysis = record {
      entries = Begin Start ∷ [];
      rounds = 0;
      list = [];
      finished = two_finished;
      few = omega arith;
    };
    entries = Begin Start ∷ [];
    given = no_results;
    finished = two_traced;
    few = omega arith;
  },
  record {
    analysis = idle.two_never_refused;
    states = λ es s f. never_past ([] ∷ [] ∷ []) (map as_form f.forms) es s f.run;
  },
)

-- ---- with a round
pub doubled_within : (budget : ℕ) → 23 ≤ budget → (w : IsWithinBudget doubled_program budget)
    × IsNeverRefused doubled_program w.analysis.rounds
doubled_within budget some = (
  record {
    analysis = record {
      entries = doubled_entries;
      rounds = 1;
      list = [];
      finished = comes_by doubled_program None doubled_forms doubled_are None 10 doubled_entries _
          doubled_run;
      few = subst (λ n. n ≤ budget) (sym doubled_units) (omega (arith, some));
    };
    entries = entries_of doubled_program doubled_written;
    given = results_of doubled_program doubled_written;
    finished = traced_by doubled_program doubled_written doubled_are 1 60 _ _ doubled_trace;
    few = subst (λ n. n ≤ budget) (sym doubled_trace_units) some;
  },
  record {
    analysis = turned_loops.doubled_never_refused;
    states = λ es s f. trace_never_past doubled_program doubled_written doubled_are 1 60 _ _
        doubled_trace es s f;
  },
)

pub negated_within : (budget : ℕ) → 22 ≤ budget → (w : IsWithinBudget negated_program budget)
    × IsNeverRefused negated_program w.analysis.rounds
negated_within budget some = (
  record {
    analysis = record {
      entries = negated_entries;
      rounds = 1;
      list = square_less ∷ [];
      finished = comes_by negated_program None negated_forms negated_are None 15 negated_entries _
          negated_run;
      few = subst (λ n. n ≤ budget) (sym negated_units) (omega (arith, some));
    };
    entries = entries_of negated_program negated_written;
    given = results_of negated_program negated_written;
    finished = traced_by negated_program negated_written negated_are 1 60 _ _ negated_trace;
    few = subst (λ n. n ≤ budget) (sym negated_trace_units) some;
  },
  record {
    analysis = turned_loops.negated_never_refused;
    states = λ es s f. trace_never_past negated_program negated_written negated_are 1 60 _ _
        negated_trace es s f;
  },
)

-- ---- where branches begin
pub one_at_zero : AllBeginAtZero one_loop
one_at_zero = followed_at_zero one_loop 0 _ _ one_traced.follows

pub two_at_zero : AllBeginAtZero two_loop
two_at_zero = followed_at_zero two_loop 0 _ _ two_traced.follows

pub reset_begins_late : AllBeginAtZero reset_loop → ⊥
reset_begins_late h = never_late reset_loop h 0 reset_late
