-- A loop of one variable that begins with 5 and is made 0 in each iteration: its closed form begins one iteration late, and its analysis meets an intersection.
--   reset_program, reset_forms      vars x; init x=5; branch { x=0; }, and the closed form 0, from one iteration on
--   reset_run                       its analysis, which ends with x^2 - 5 x
use Rattle.std.proofs.Common.{◌≡◌, ℕ, pos, negsuc, List, [], ◌∷◌, refl, None}
use Rattle.algebra.specs.Arithmetic.{power}
use Rattle.algebra.specs.Sum.{sum_over}
use Rattle.algebra.specs.Gcd.{gcd, lcm}
use Rattle.algebra.specs.Ratio.{is_lowest, reduce}
use Rattle.algebra.specs.Fraction as Fraction
use Rattle.algebra.specs.Fraction.{Fraction, fraction, whole}
use Rattle.polynomials.specs.Algebra as Algebra
use Rattle.polynomials.specs.Exponent as exponents
use Rattle.polynomials.specs.Exponent.{same, plus, unit_exponents, over as less}
use Rattle.polynomials.specs.Order.{compare, grevlex, blocks}
use Rattle.polynomials.specs.Terms.{Terms, constant, variables, evaluate, monomial_at, retold}
use Rattle.polynomials.specs.Weight.{weight, degrees, composition_weight, composition_degrees}
use Rattle.machines.specs.Collect.{collect, insert, place, scale_terms}
use Rattle.machines.specs.Completion as completion
use Rattle.machines.specs.Elimination as elimination
use Rattle.machines.specs.Completion.{with_element, with_elements, s_polynomial, next_reduction, next_pair, next_completion}
use Rattle.machines.specs.Cut.{lead_of, tail_of, lead_number, divides, cut_by, find_cut, after_cut, monic}
use Rattle.machines.specs.Division as division
use Rattle.machines.specs.Division.{with_term, next_cut, next_division}
use Rattle.machines.specs.Elimination.{all_free, free_part}
use Rattle.machines.specs.Event.{Pair, Cut, Keep, Zero}
use Rattle.machines.specs.Journal.{Entry, Begin, Did, Start, Closed, Round, Orbit, Meet, units_of}
use Rattle.machines.specs.Pairs.{coprime, mixes_degrees, waits, beside, put_pair, with_new, covers, skip_covered}
use Rattle.machines.specs.Tidying as tidying
use Rattle.machines.specs.Tidying.{without, drop_from, tail_or, tail_from, next_tail, next_drop, ahead, put_by_lead, by_lead}
use Rattle.machines.proofs.Runs.{on, trace}
use Rattle.analysis_commands.proofs.Traces.{Run}
use Rattle.exponentials.specs.Keys.{excess}
use Rattle.loops.specs.Effect.{store, value_of, after_statement, after_branch}
use Rattle.loops.specs.Map.{branch_map}
use Rattle.loops.specs.Program.{Expr, Program, number}
use Rattle.rounds.specs.Form.{Form, relation, relations_to, passes}
use Rattle.rounds.specs.Start.{start_list, start_polynomial, in_order}
use Rattle.rounds.specs.Analysis as analysis
use Rattle.rounds.specs.Analysis.{finished, next, block, starting, closing_from, after_iterations}
use Rattle.expansion.specs.Counts.{most_terms, factor_terms}
use Rattle.expansion.specs.Lengths.{product_length, power_length}
use Rattle.invariant_fix.specs.Long.{task_length, work_length, orbit_length_since, lengths_before}
use Rattle.analysis_commands.proofs.Fitting.{all_fit, then_fit, state_fits, numbers_fit, work_fits, orbit_fits, less_fits, elimination_fits, behind_fits, dropping_fits, tailing_fits, acting_fits, taking_fits, left_fits, found_fits, reducing_fits, both_fit, exponents_fit, size_fits, each_fits}

abbrev pub reset_program : Program (Expr ℕ)
reset_program = record {
  names = (120 ∷ []) ∷ [];
  locals = [];
  init = record { name = 0; value = number (pos 5) } ∷ [];
  branches = (record { targets = 0 ∷ []; values = number (pos 0) ∷ [] } ∷ []) ∷ [];
}

abbrev pub reset_form : Form
reset_form = record { base = []; polys = [] ∷ []; since = 1 }

abbrev pub reset_forms : List Form
reset_forms = reset_form ∷ []

abbrev pub reset_entries : List Entry
reset_entries =
    Begin Start ∷ Begin (Closed 0 1 1) ∷ Begin (Round 1) ∷ Begin (Orbit 1 1) ∷ Begin (Meet 1 1)
    ∷ Did (Pair 0 1) ∷ Did Keep ∷ Did (Pair 0 2) ∷ Did (Cut 2) ∷ Did Keep
    ∷ Begin (Closed 1 1 1) ∷ Did Zero ∷ []

pub reset_units : units_of reset_entries ≡ 4
unfolding units_of
reset_units = refl

abbrev pub reset_basis : List (Terms Fraction)
reset_basis = ((2 ∷ [], whole (pos 1)) ∷ (1 ∷ [], whole (negsuc 4)) ∷ []) ∷ []

pub reset_run : Run reset_program None reset_forms None 12 reset_entries (finished 1 reset_basis)
unfolding on trace all_fit then_fit state_fits
    numbers_fit task_length work_length orbit_length_since lengths_before product_length
    power_length factor_terms most_terms work_fits orbit_fits less_fits elimination_fits
    behind_fits
    dropping_fits tailing_fits acting_fits taking_fits left_fits found_fits reducing_fits both_fit
    exponents_fit size_fits each_fits weight degrees composition_weight composition_degrees lcm
    exponents.lcm next block starting passes closing_from after_iterations analysis.after_branch
    analysis.after relation relations_to start_list start_polynomial in_order branch_map
    after_branch after_statement store value_of variables unit_exponents constant collect insert
    place scale_terms compare blocks grevlex elimination.next completion.next with_element
    with_elements s_polynomial next_reduction next_pair next_completion lead_of tail_of lead_number
    divides cut_by find_cut after_cut monic division.next with_term next_cut next_division all_free
    free_part retold coprime completion.degree mixes_degrees waits beside put_pair with_new covers
    skip_covered tidying.next without drop_from tail_or tail_from next_tail next_drop ahead
    put_by_lead by_lead less same plus excess Algebra.times Algebra.shift Algebra.negate evaluate
    sum_over monomial_at power fraction Fraction.sum Fraction.product Fraction.opposite
    Fraction.inverse is_lowest reduce gcd
reset_run = record { fits = refl; entries = refl; ends = refl }
