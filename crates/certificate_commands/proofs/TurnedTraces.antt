-- The traces of the loops of TurnedRuns, of one round, by computation: what full certificates are made of.
--   doubled_trace, negated_trace
use Rattle.std.proofs.Common.{◌≡◌, ℕ, pos, List, [], ◌∷◌, map, refl, None}
use Rattle.algebra.specs.Arithmetic.{power}
use Rattle.algebra.specs.Sum.{sum_over}
use Rattle.algebra.specs.Gcd.{gcd, lcm}
use Rattle.algebra.specs.Ratio.{is_lowest, reduce}
use Rattle.algebra.specs.Fraction as Fraction
use Rattle.algebra.specs.Fraction.{Fraction, fraction, whole}
use Rattle.polynomials.specs.Algebra as Algebra
use Rattle.polynomials.specs.Exponent as exponents
use Rattle.polynomials.specs.Exponent.{same, plus, unit_exponents, over as less}
use Rattle.polynomials.specs.Order.{compare, grevlex, blocks}
use Rattle.polynomials.specs.Terms.{constant, variables, evaluate, monomial_at, retold}
use Rattle.polynomials.specs.Weight.{weight, degrees, composition_weight, composition_degrees}
use Rattle.machines.specs.Collect.{collect, insert, place, scale_terms}
use Rattle.machines.specs.Completion as completion
use Rattle.machines.specs.Completion.{with_element, with_elements, s_polynomial, next_reduction, next_pair, next_completion}
use Rattle.machines.specs.Cut.{lead_of, tail_of, lead_number, divides, cut_by, find_cut, after_cut, monic}
use Rattle.machines.specs.Division as division
use Rattle.machines.specs.Division.{with_term, next_cut, next_division}
use Rattle.machines.specs.Elimination.{all_free, free_part}
use Rattle.machines.specs.Journal.{Entry, units_of}
use Rattle.machines.specs.Pairs.{coprime, mixes_degrees, waits, beside, put_pair, with_new, covers, skip_covered}
use Rattle.machines.specs.Tidying as tidying
use Rattle.machines.specs.Tidying.{without, drop_from, tail_or, tail_from, next_tail, next_drop, ahead, put_by_lead, by_lead}
use Rattle.machines.proofs.Runs.{on, trace}
use Rattle.exponentials.specs.Keys.{excess}
use Rattle.loops.specs.Effect.{store, value_of, after_statement, after_branch as after_statements}
use Rattle.loops.specs.Map.{branch_map}
use Rattle.loops.specs.Program.{Expr, Program}
use Rattle.rounds.specs.Form.{relation, relations_to, passes}
use Rattle.rounds.specs.Start.{start_list, start_polynomial, in_order}
use Rattle.rounds.specs.Analysis.{block, starting}
use Rattle.rounds.specs.Journal.{setting_of}
use Rattle.analysis_commands.proofs.Fitting.{all_fit, then_fit, work_fits, orbit_fits, less_fits, dropping_fits, tailing_fits, acting_fits, taking_fits, left_fits, found_fits, reducing_fits, both_fit, exponents_fit, size_fits, each_fits}
use Rattle.corollaries.specs.Full.{WrittenForm, as_form}
use Rattle.corollaries.specs.Representation.{pairs_of}
use Rattle.corollaries.specs.Trace.{Results, State, Step, no_results, fresh, goes, finished, list_dividends, link_dividends, stage_of, next, moves, after_branch, after, link_from, divide_from}
use Rattle.certificate_commands.proofs.TraceFitting.{TraceRun, ended_fits, dividing_fits, dividends_fit, trace_tidying_fits, divided_fits, completing_fits, trace_fits}
use Rattle.analysis_commands.proofs.TurnedRuns.{doubled_program, doubled_key, negated_program, negated_key}

abbrev pub doubled_written : List WrittenForm
doubled_written = record { base = 2 ∷ []; polys = ((doubled_key, whole (pos 1)) ∷ []) ∷ [] } ∷ []

abbrev pub negated_written : List WrittenForm
negated_written = record { base = []; polys = ((negated_key, whole (pos 1)) ∷ []) ∷ [] } ∷ []

abbrev pub results_in : Step → Results
results_in (goes e s) = no_results
results_in (finished done) = done

module _ (l : Program (Expr ℕ)) (forms : List WrittenForm) where
  abbrev run_of_trace : List Entry × State
  run_of_trace = trace (moves (setting_of l (map as_form forms) None) 1) 60 fresh

  abbrev pub entries_of : List Entry
  entries_of = run_of_trace.0

  abbrev pub results_of : Results
  results_of = results_in (next (setting_of l (map as_form forms) None) 1 run_of_trace.1)

pub doubled_trace : TraceRun doubled_program doubled_written 1 60
    (entries_of doubled_program doubled_written) (results_of doubled_program doubled_written)
unfolding on trace all_fit then_fit work_fits orbit_fits less_fits dropping_fits tailing_fits
    acting_fits taking_fits left_fits found_fits reducing_fits both_fit exponents_fit size_fits
    each_fits ended_fits dividing_fits dividends_fit trace_tidying_fits divided_fits completing_fits
    trace_fits weight degrees composition_weight composition_degrees lcm exponents.lcm next block
    starting list_dividends link_dividends pairs_of stage_of after after_branch link_from
    divide_from
    passes relation relations_to start_list start_polynomial in_order branch_map after_statements
    after_statement store value_of variables unit_exponents constant collect insert place
    scale_terms compare blocks grevlex completion.next with_element with_elements s_polynomial
    next_reduction next_pair next_completion lead_of tail_of lead_number divides cut_by find_cut
    after_cut monic division.next with_term next_cut next_division all_free free_part retold coprime
    completion.degree mixes_degrees waits beside put_pair with_new covers skip_covered tidying.next
    without drop_from tail_or tail_from next_tail next_drop ahead put_by_lead by_lead less same plus
    excess Algebra.times Algebra.shift Algebra.negate evaluate sum_over monomial_at power fraction
    Fraction.sum Fraction.product Fraction.opposite Fraction.inverse is_lowest reduce gcd
doubled_trace = record { fits = refl; entries = refl; ends = refl }

pub negated_trace : TraceRun negated_program negated_written 1 60
    (entries_of negated_program negated_written) (results_of negated_program negated_written)
unfolding on trace all_fit then_fit work_fits orbit_fits less_fits dropping_fits tailing_fits
    acting_fits taking_fits left_fits found_fits reducing_fits both_fit exponents_fit size_fits
    each_fits ended_fits dividing_fits dividends_fit trace_tidying_fits divided_fits completing_fits
    trace_fits weight degrees composition_weight composition_degrees lcm exponents.lcm next block
    starting list_dividends link_dividends pairs_of stage_of after after_branch link_from
    divide_from
    passes relation relations_to start_list start_polynomial in_order branch_map after_statements
    after_statement store value_of variables unit_exponents constant collect insert place
    scale_terms compare blocks grevlex completion.next with_element with_elements s_polynomial
    next_reduction next_pair next_completion lead_of tail_of lead_number divides cut_by find_cut
    after_cut monic division.next with_term next_cut next_division all_free free_part retold coprime
    completion.degree mixes_degrees waits beside put_pair with_new covers skip_covered tidying.next
    without drop_from tail_or tail_from next_tail next_drop ahead put_by_lead by_lead less same plus
    excess Algebra.times Algebra.shift Algebra.negate evaluate sum_over monomial_at power fraction
    Fraction.sum Fraction.product Fraction.opposite Fraction.inverse is_lowest reduce gcd
negated_trace = record { fits = refl; entries = refl; ends = refl }

pub doubled_trace_units : units_of (entries_of doubled_program doubled_written) ≡ 23
unfolding units_of on trace all_fit then_fit work_fits orbit_fits less_fits dropping_fits
    tailing_fits
    acting_fits taking_fits left_fits found_fits reducing_fits both_fit exponents_fit size_fits
    each_fits ended_fits dividing_fits dividends_fit trace_tidying_fits divided_fits completing_fits
    trace_fits weight degrees composition_weight composition_degrees lcm exponents.lcm next block
    starting list_dividends link_dividends pairs_of stage_of after after_branch link_from
    divide_from
    passes relation relations_to start_list start_polynomial in_order branch_map after_statements
    after_statement store value_of variables unit_exponents constant collect insert place
    scale_terms compare blocks grevlex completion.next with_element with_elements s_polynomial
    next_reduction next_pair next_completion lead_of tail_of lead_number divides cut_by find_cut
    after_cut monic division.next with_term next_cut next_division all_free free_part retold coprime
    completion.degree mixes_degrees waits beside put_pair with_new covers skip_covered tidying.next
    without drop_from tail_or tail_from next_tail next_drop ahead put_by_lead by_lead less same plus
    excess Algebra.times Algebra.shift Algebra.negate evaluate sum_over monomial_at power fraction
    Fraction.sum Fraction.product Fraction.opposite Fraction.inverse is_lowest reduce gcd
doubled_trace_units = refl

pub negated_trace_units : units_of (entries_of negated_program negated_written) ≡ 22
unfolding units_of on trace all_fit then_fit work_fits orbit_fits less_fits dropping_fits
    tailing_fits
    acting_fits taking_fits left_fits found_fits reducing_fits both_fit exponents_fit size_fits
    each_fits ended_fits dividing_fits dividends_fit trace_tidying_fits divided_fits completing_fits
    trace_fits weight degrees composition_weight composition_degrees lcm exponents.lcm next block
    starting list_dividends link_dividends pairs_of stage_of after after_branch link_from
    divide_from
    passes relation relations_to start_list start_polynomial in_order branch_map after_statements
    after_statement store value_of variables unit_exponents constant collect insert place
    scale_terms compare blocks grevlex completion.next with_element with_elements s_polynomial
    next_reduction next_pair next_completion lead_of tail_of lead_number divides cut_by find_cut
    after_cut monic division.next with_term next_cut next_division all_free free_part retold coprime
    completion.degree mixes_degrees waits beside put_pair with_new covers skip_covered tidying.next
    without drop_from tail_or tail_from next_tail next_drop ahead put_by_lead by_lead less same plus
    excess Algebra.times Algebra.shift Algebra.negate evaluate sum_over monomial_at power fraction
    Fraction.sum Fraction.product Fraction.opposite Fraction.inverse is_lowest reduce gcd
negated_trace_units = refl
