-- Loops of one variable that begins with 1 and is a number times itself in each iteration: their analyses need a round.
--   doubled_program, doubled_key, doubled_forms     vars x; init x=1; branch { x=2*x; }, the exponents of u x, and this closed form
--   negated_program, negated_key, negated_forms     the same with x=-x, and s x
--   doubled_run, negated_run           their analyses;  asked_run: behind that of the second the division of x^2 - 1
--   doubled_entries, negated_entries, doubled_units, negated_units     the entries of their journals, which have 5 and 7 units
--   square_less        x^2 - 1
use Rattle.std.proofs.Common.{◌≡◌, ℕ, pos, negsuc, List, [], ◌∷◌, ◌++◌, refl, None, Some}
use Rattle.algebra.specs.Arithmetic.{power}
use Rattle.algebra.specs.Sum.{sum_over}
use Rattle.algebra.specs.Gcd.{gcd, lcm}
use Rattle.algebra.specs.Ratio.{is_lowest, reduce}
use Rattle.algebra.specs.Fraction as Fraction
use Rattle.algebra.specs.Fraction.{Fraction, fraction, whole}
use Rattle.polynomials.specs.Algebra as Algebra
use Rattle.polynomials.specs.Exponent as exponents
use Rattle.polynomials.specs.Exponent.{same, plus, unit_exponents, over as less}
use Rattle.polynomials.specs.Order.{compare, grevlex, blocks}
use Rattle.polynomials.specs.Terms.{Terms, constant, variables, evaluate, monomial_at, retold}
use Rattle.polynomials.specs.Weight.{weight, degrees, composition_weight, composition_degrees}
use Rattle.machines.specs.Collect.{collect, insert, place, scale_terms}
use Rattle.machines.specs.Completion as completion
use Rattle.machines.specs.Elimination as elimination
use Rattle.machines.specs.Completion.{with_element, with_elements, s_polynomial, next_reduction, next_pair, next_completion}
use Rattle.machines.specs.Cut.{lead_of, tail_of, lead_number, divides, cut_by, find_cut, after_cut, monic}
use Rattle.machines.specs.Division as division
use Rattle.machines.specs.Division.{with_term, next_cut, next_division}
use Rattle.machines.specs.Elimination.{all_free, free_part}
use Rattle.machines.specs.Event.{Pair, Cut, Keep, Zero}
use Rattle.machines.specs.Journal.{Entry, Begin, Did, Start, Closed, Round, Orbit, Member, units_of}
use Rattle.machines.specs.Pairs.{coprime, mixes_degrees, waits, beside, put_pair, with_new, covers, skip_covered}
use Rattle.machines.specs.Tidying as tidying
use Rattle.machines.specs.Tidying.{without, drop_from, tail_or, tail_from, next_tail, next_drop, ahead, put_by_lead, by_lead}
use Rattle.machines.proofs.Runs.{on, trace}
use Rattle.analysis_commands.proofs.Traces.{Run}
use Rattle.exponentials.specs.Keys.{excess}
use Rattle.loops.specs.Effect.{store, value_of, after_statement, after_branch}
use Rattle.loops.specs.Map.{branch_map}
use Rattle.loops.specs.Program.{Expr, Program, number, variable, mul, neg}
use Rattle.rounds.specs.Form.{Form, relation, relations_to, passes}
use Rattle.rounds.specs.Start.{start_list, start_polynomial, in_order}
use Rattle.rounds.specs.Analysis as analysis
use Rattle.rounds.specs.Analysis.{State, finished, answered, next, block, starting, closing_from, after_iterations}
use Rattle.expansion.specs.Counts.{most_terms, factor_terms}
use Rattle.expansion.specs.Lengths.{product_length, power_length}
use Rattle.invariant_fix.specs.Long.{task_length, work_length, orbit_length_since, lengths_before}
use Rattle.analysis_commands.proofs.Fitting.{all_fit, then_fit, state_fits, numbers_fit, work_fits, orbit_fits, less_fits, elimination_fits, behind_fits, dropping_fits, tailing_fits, acting_fits, taking_fits, left_fits, found_fits, reducing_fits, both_fit, exponents_fit, size_fits, each_fits}

abbrev pub begun_with_one : Expr ℕ → Program (Expr ℕ)
begun_with_one e = record {
  names = (120 ∷ []) ∷ [];
  locals = [];
  init = record { name = 0; value = number (pos 1) } ∷ [];
  branches = (record { targets = 0 ∷ []; values = e ∷ [] } ∷ []) ∷ [];
}

abbrev pub doubled_program : Program (Expr ℕ)
doubled_program = begun_with_one (mul 30 (number (pos 2)) (variable 0))

abbrev pub negated_program : Program (Expr ℕ)
negated_program = begun_with_one (neg 29 (variable 0))

abbrev one : Fraction
one = whole (pos 1)

abbrev pub doubled_key : List ℕ
doubled_key = 0 ∷ 0 ∷ 1 ∷ 0 ∷ 1 ∷ []

abbrev pub negated_key : List ℕ
negated_key = 0 ∷ 1 ∷ 1 ∷ []

abbrev pub form_with : List ℕ → List ℕ → Form
form_with base key = record { base = base; polys = ((key, one) ∷ []) ∷ []; since = 0 }

abbrev pub doubled_forms : List Form
doubled_forms = form_with (2 ∷ []) doubled_key ∷ []

abbrev pub negated_forms : List Form
negated_forms = form_with [] negated_key ∷ []

-- ---- x=2*x: round 1 ends with no equation
abbrev pub doubled_entries : List Entry
doubled_entries =
    Begin Start ∷ Begin (Closed 0 1 1) ∷ Did (Cut 0) ∷ Begin (Round 1) ∷ Begin (Orbit 1 1)
    ∷ Did (Pair 0 2) ∷ Did Keep ∷ Did (Pair 2 3) ∷ Did (Cut 0) ∷ Did Zero ∷ []

pub doubled_units : units_of doubled_entries ≡ 5
unfolding units_of
doubled_units = refl

pub doubled_run : Run doubled_program None doubled_forms None 10 doubled_entries (finished 1 [])
unfolding on trace all_fit then_fit state_fits
    numbers_fit task_length work_length orbit_length_since lengths_before product_length
    power_length factor_terms most_terms work_fits orbit_fits less_fits elimination_fits
    behind_fits
    dropping_fits tailing_fits acting_fits taking_fits left_fits found_fits reducing_fits both_fit
    exponents_fit size_fits each_fits weight degrees composition_weight composition_degrees lcm
    exponents.lcm next block starting passes closing_from after_iterations analysis.after_branch
    analysis.after relation relations_to start_list start_polynomial in_order branch_map
    after_branch after_statement store value_of variables unit_exponents constant collect insert
    place scale_terms compare blocks grevlex elimination.next completion.next with_element
    with_elements s_polynomial next_reduction next_pair next_completion lead_of tail_of lead_number
    divides cut_by find_cut after_cut monic division.next with_term next_cut next_division all_free
    free_part retold coprime completion.degree mixes_degrees waits beside put_pair with_new covers
    skip_covered tidying.next without drop_from tail_or tail_from next_tail next_drop ahead
    put_by_lead by_lead less same plus excess Algebra.times Algebra.shift Algebra.negate evaluate
    sum_over monomial_at power fraction Fraction.sum Fraction.product Fraction.opposite
    Fraction.inverse is_lowest reduce gcd
doubled_run = record { fits = refl; entries = refl; ends = refl }

-- ---- x=-x: round 1 ends with x^2 - 1
abbrev pub negated_entries : List Entry
negated_entries =
    Begin Start ∷ Begin (Closed 0 1 1) ∷ Did (Cut 0) ∷ Begin (Round 1) ∷ Begin (Orbit 1 1)
    ∷ Did (Pair 0 1) ∷ Did Keep ∷ Did (Pair 0 2) ∷ Did Keep ∷ Did (Pair 1 2) ∷ Did (Cut 0)
    ∷ Did Zero ∷ Begin (Closed 1 1 1) ∷ Did (Cut 0) ∷ Did Zero ∷ []

pub negated_units : units_of negated_entries ≡ 7
unfolding units_of
negated_units = refl

abbrev pub square_less : Terms Fraction
square_less = (2 ∷ [], one) ∷ (0 ∷ [], whole (negsuc 0)) ∷ []

pub negated_run : Run negated_program None negated_forms None 15 negated_entries
    (finished 1 (square_less ∷ []))
unfolding on trace all_fit then_fit state_fits
    numbers_fit task_length work_length orbit_length_since lengths_before product_length
    power_length factor_terms most_terms work_fits orbit_fits less_fits elimination_fits
    behind_fits
    dropping_fits tailing_fits acting_fits taking_fits left_fits found_fits reducing_fits both_fit
    exponents_fit size_fits each_fits weight degrees composition_weight composition_degrees lcm
    exponents.lcm next block starting passes closing_from after_iterations analysis.after_branch
    analysis.after relation relations_to start_list start_polynomial in_order branch_map
    after_branch after_statement store value_of variables unit_exponents constant collect insert
    place scale_terms compare blocks grevlex elimination.next completion.next with_element
    with_elements s_polynomial next_reduction next_pair next_completion lead_of tail_of lead_number
    divides cut_by find_cut after_cut monic division.next with_term next_cut next_division all_free
    free_part retold coprime completion.degree mixes_degrees waits beside put_pair with_new covers
    skip_covered tidying.next without drop_from tail_or tail_from next_tail next_drop ahead
    put_by_lead by_lead less same plus excess Algebra.times Algebra.shift Algebra.negate evaluate
    sum_over monomial_at power fraction Fraction.sum Fraction.product Fraction.opposite
    Fraction.inverse is_lowest reduce gcd
negated_run = record { fits = refl; entries = refl; ends = refl }

-- ---- and whether the square of x is 1 at its end: nothing is left
abbrev pub asked_entries : List Entry
asked_entries = negated_entries ++ Begin Member ∷ Did (Cut 0) ∷ Did Zero ∷ []

pub asked_units : units_of asked_entries ≡ 8
unfolding units_of
asked_units = refl

abbrev pub nothing_left : division.State Fraction
nothing_left = record { current = None; cofactors = ((0 ∷ [], one) ∷ []) ∷ [] }

pub asked_run : Run negated_program None negated_forms (Some square_less) 18 asked_entries
    (answered 1 (square_less ∷ []) nothing_left)
unfolding on trace all_fit then_fit state_fits
    numbers_fit task_length work_length orbit_length_since lengths_before product_length
    power_length factor_terms most_terms work_fits orbit_fits less_fits elimination_fits
    behind_fits
    dropping_fits tailing_fits acting_fits taking_fits left_fits found_fits reducing_fits both_fit
    exponents_fit size_fits each_fits weight degrees composition_weight composition_degrees lcm
    exponents.lcm next block starting passes closing_from after_iterations analysis.after_branch
    analysis.after relation relations_to start_list start_polynomial in_order branch_map
    after_branch after_statement store value_of variables unit_exponents constant collect insert
    place scale_terms compare blocks grevlex elimination.next completion.next with_element
    with_elements s_polynomial next_reduction next_pair next_completion lead_of tail_of lead_number
    divides cut_by find_cut after_cut monic division.next with_term next_cut next_division all_free
    free_part retold coprime completion.degree mixes_degrees waits beside put_pair with_new covers
    skip_covered tidying.next without drop_from tail_or tail_from next_tail next_drop ahead
    put_by_lead by_lead less same plus excess Algebra.times Algebra.shift Algebra.negate evaluate
    sum_over monomial_at power fraction Fraction.sum Fraction.product Fraction.opposite
    Fraction.inverse is_lowest reduce gcd
asked_run = record { fits = refl; entries = refl; ends = refl }
