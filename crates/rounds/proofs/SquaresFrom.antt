-- Journals from a list that is given, by computation: the squares loop a=a+1; t=t+2; s=s+t, whose closed form and basis are in rounds.
--   from_starts_finished      from t - 1, s - 1, a, the list that its starts have, it finishes as from its starts, without the first task
--   from_basis_finished       from the basis of its invariants it finishes at once, with round 0
use Rattle.std.proofs.Common.{◌≡◌, pos, negsuc, List, [], ◌∷◌, refl, subst, None, Some}
use Rattle.algebra.specs.Arithmetic.{power}
use Rattle.algebra.specs.Sum.{sum_over}
use Rattle.algebra.specs.Gcd.{gcd}
use Rattle.algebra.specs.Ratio.{is_lowest, reduce}
use Rattle.algebra.specs.Fraction as Fraction
use Rattle.algebra.specs.Fraction.{Fraction, fraction, whole}
use Rattle.polynomials.specs.Algebra as Algebra
use Rattle.polynomials.specs.Exponent.{same, plus, lcm, unit_exponents, over as less}
use Rattle.polynomials.specs.Order.{compare, grevlex, blocks}
use Rattle.polynomials.specs.Terms.{Terms, constant, variables, evaluate, monomial_at, retold}
use Rattle.machines.specs.Collect.{collect, insert, place, scale_terms}
use Rattle.machines.specs.Completion as completion
use Rattle.machines.specs.Elimination as elimination
use Rattle.machines.specs.Completion.{with_element, with_elements, s_polynomial, next_reduction, next_pair, next_completion}
use Rattle.machines.specs.Cut.{lead_of, tail_of, lead_number, divides, cut_by, find_cut, after_cut, monic}
use Rattle.machines.specs.Division as division
use Rattle.machines.specs.Division.{with_term, next_cut, next_division}
use Rattle.machines.specs.Elimination.{all_free, free_part}
use Rattle.machines.specs.Event.{Pair, Cut, Keep, Zero}
use Rattle.machines.specs.Journal.{Entry, Begin, Did, Closed, Round, Orbit}
use Rattle.machines.specs.Pairs.{coprime, mixes_degrees, waits, beside, put_pair, with_new, covers, skip_covered}
use Rattle.machines.specs.Tidying as tidying
use Rattle.machines.specs.Tidying.{without, drop_from, tail_or, tail_from, next_tail, next_drop, ahead, put_by_lead, by_lead}
use Rattle.machines.specs.Run.{IsRun}
use Rattle.machines.proofs.Runs.{on, trace, run_of}
use Rattle.exponentials.specs.Keys.{excess}
use Rattle.loops.specs.Effect.{store, value_of, after_statement, after_branch}
use Rattle.loops.specs.Map.{branch_map}
use Rattle.loops.proofs.Examples.{squares}
use Rattle.rounds.specs.Form.{relation, relations_to}
use Rattle.rounds.specs.Start.{start_list, start_polynomial, in_order}
use Rattle.rounds.proofs.Squares.{squares_form, squares_basis, squares_are_forms}
use Rattle.rounds.specs.Analysis as analysis
use Rattle.rounds.specs.Analysis.{Setting, fresh, finished, next, moves, block, starting, closing_from}
use Rattle.rounds.specs.Journal.{setting_from, IsFinishedFrom}

abbrev one : Fraction
one = whole (pos 1)

abbrev minus_one : Fraction
minus_one = whole (negsuc 0)

-- ---- from what its starts have
abbrev pub starts_basis : List (Terms Fraction)
starts_basis =
    ((0 ∷ 0 ∷ 1 ∷ [], one) ∷ (0 ∷ 0 ∷ 0 ∷ [], minus_one) ∷ [])
    ∷ ((0 ∷ 1 ∷ 0 ∷ [], one) ∷ (0 ∷ 0 ∷ 0 ∷ [], minus_one) ∷ [])
    ∷ ((1 ∷ 0 ∷ 0 ∷ [], one) ∷ []) ∷ []

abbrev setting : Setting
setting = setting_from squares (Some starts_basis) (squares_form ∷ []) None

abbrev pub from_journal : List Entry
from_journal =
    Begin (Closed 0 1 1) ∷ Did (Cut 0) ∷ Begin (Round 1)
    ∷ Begin (Orbit 1 1) ∷ Did (Pair 0 2) ∷ Did Keep ∷ Did (Pair 0 1) ∷ Did (Cut 0) ∷ Did (Cut 0)
    ∷ Did Keep
    ∷ Begin (Closed 1 1 1) ∷ Did (Cut 0) ∷ Did Zero ∷ Begin (Closed 1 1 2) ∷ Did (Cut 1) ∷ Did Zero
    ∷ []

entries_are : (trace (moves setting) 16 fresh).0 ≡ from_journal
unfolding on trace next block starting closing_from analysis.after_iterations analysis.after_branch
    analysis.after relation
    relations_to start_list start_polynomial in_order branch_map after_branch after_statement store
    value_of variables unit_exponents constant collect insert place scale_terms compare blocks
    grevlex
    elimination.next completion.next with_element with_elements s_polynomial next_reduction
    next_pair next_completion
    lead_of tail_of lead_number divides cut_by find_cut after_cut monic division.next with_term
    next_cut next_division all_free free_part retold coprime completion.degree mixes_degrees waits
    beside
    put_pair with_new covers skip_covered tidying.next without drop_from tail_or tail_from next_tail
    next_drop ahead put_by_lead by_lead less same plus lcm excess Algebra.times Algebra.shift
    Algebra.negate evaluate sum_over monomial_at power fraction Fraction.sum Fraction.product
    Fraction.opposite Fraction.inverse is_lowest reduce gcd
entries_are = refl

ends : next setting (trace (moves setting) 16 fresh).1 ≡ finished 1 squares_basis
unfolding on trace next block starting closing_from analysis.after_iterations analysis.after_branch
    analysis.after relation
    relations_to start_list start_polynomial in_order branch_map after_branch after_statement store
    value_of variables unit_exponents constant collect insert place scale_terms compare blocks
    grevlex
    elimination.next completion.next with_element with_elements s_polynomial next_reduction
    next_pair next_completion
    lead_of tail_of lead_number divides cut_by find_cut after_cut monic division.next with_term
    next_cut next_division all_free free_part retold coprime completion.degree mixes_degrees waits
    beside
    put_pair with_new covers skip_covered tidying.next without drop_from tail_or tail_from next_tail
    next_drop ahead put_by_lead by_lead less same plus lcm excess Algebra.times Algebra.shift
    Algebra.negate evaluate sum_over monomial_at power fraction Fraction.sum Fraction.product
    Fraction.opposite Fraction.inverse is_lowest reduce gcd
ends = refl

pub from_starts_finished : IsFinishedFrom squares starts_basis from_journal 1 squares_basis
from_starts_finished = record {
  state = (trace (moves setting) 16 fresh).1;
  follows = record {
    forms = squares_form ∷ [];
    are_forms = squares_are_forms;
    run = subst (λ es. IsRun (moves setting) fresh es (trace (moves setting) 16 fresh).1)
        entries_are (run_of (moves setting) 16 fresh);
  };
  is = ends;
}

-- ---- from the basis of its invariants
abbrev closed_setting : Setting
closed_setting = setting_from squares (Some squares_basis) (squares_form ∷ []) None

abbrev pub closed_journal : List Entry
closed_journal = Begin (Closed 0 1 1) ∷ Did (Cut 0) ∷ Did Zero ∷ Begin (Closed 0 1 2) ∷ Did (Cut 1)
    ∷ Did Zero ∷ []

closed_entries : (trace (moves closed_setting) 6 fresh).0 ≡ closed_journal
unfolding on trace next block starting closing_from analysis.after_iterations analysis.after_branch
    analysis.after relation
    relations_to start_list start_polynomial in_order branch_map after_branch after_statement store
    value_of variables unit_exponents constant collect insert place scale_terms compare blocks
    grevlex
    elimination.next completion.next with_element with_elements s_polynomial next_reduction
    next_pair next_completion
    lead_of tail_of lead_number divides cut_by find_cut after_cut monic division.next with_term
    next_cut next_division all_free free_part retold coprime completion.degree mixes_degrees waits
    beside
    put_pair with_new covers skip_covered tidying.next without drop_from tail_or tail_from next_tail
    next_drop ahead put_by_lead by_lead less same plus lcm excess Algebra.times Algebra.shift
    Algebra.negate evaluate sum_over monomial_at power fraction Fraction.sum Fraction.product
    Fraction.opposite Fraction.inverse is_lowest reduce gcd
closed_entries = refl

closed_ends : next closed_setting (trace (moves closed_setting) 6 fresh).1
    ≡ finished 0 squares_basis
unfolding on trace next block starting closing_from analysis.after_iterations analysis.after_branch
    analysis.after relation
    relations_to start_list start_polynomial in_order branch_map after_branch after_statement store
    value_of variables unit_exponents constant collect insert place scale_terms compare blocks
    grevlex
    elimination.next completion.next with_element with_elements s_polynomial next_reduction
    next_pair next_completion
    lead_of tail_of lead_number divides cut_by find_cut after_cut monic division.next with_term
    next_cut next_division all_free free_part retold coprime completion.degree mixes_degrees waits
    beside
    put_pair with_new covers skip_covered tidying.next without drop_from tail_or tail_from next_tail
    next_drop ahead put_by_lead by_lead less same plus lcm excess Algebra.times Algebra.shift
    Algebra.negate evaluate sum_over monomial_at power fraction Fraction.sum Fraction.product
    Fraction.opposite Fraction.inverse is_lowest reduce gcd
closed_ends = refl

pub from_basis_finished : IsFinishedFrom squares squares_basis closed_journal 0 squares_basis
from_basis_finished = record {
  state = (trace (moves closed_setting) 6 fresh).1;
  follows = record {
    forms = squares_form ∷ [];
    are_forms = squares_are_forms;
    run = subst (λ es. IsRun (moves closed_setting) fresh es (trace (moves closed_setting) 6
        fresh).1) closed_entries (run_of (moves closed_setting) 6 fresh);
  };
  is = closed_ends;
}
