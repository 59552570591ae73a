-- The loop of the squares as it is read, and a question to it.
--   squares_program         vars a, s, t; init a=0, s=1, t=1; branch { a=a+1; t=t+2; s=s+t; }
--   same_raw, same_setting      its branch has the map, and its analysis the setting, of the loop without offsets
--   squares_question        whether t is 2 a + 1 at its end;  asked_run: the analysis, and behind it the division, which leaves nothing
use Rattle.std.proofs.Common.{◌≡◌, ℕ, pos, negsuc, List, [], ◌∷◌, ◌++◌, refl, None, Some}
use Rattle.algebra.specs.Arithmetic.{power}
use Rattle.algebra.specs.Sum.{sum_over}
use Rattle.algebra.specs.Gcd.{gcd, lcm}
use Rattle.algebra.specs.Ratio.{is_lowest, reduce}
use Rattle.algebra.specs.Fraction as Fraction
use Rattle.algebra.specs.Fraction.{Fraction, fraction, whole}
use Rattle.polynomials.specs.Algebra as Algebra
use Rattle.polynomials.specs.Exponent as exponents
use Rattle.polynomials.specs.Exponent.{same, plus, unit_exponents, over as less}
use Rattle.polynomials.specs.Order.{compare, grevlex, blocks}
use Rattle.polynomials.specs.Terms.{Terms, constant, variables, evaluate, monomial_at, retold}
use Rattle.polynomials.specs.Weight.{weight, degrees, composition_weight, composition_degrees}
use Rattle.machines.specs.Collect.{collect, insert, place, scale_terms}
use Rattle.machines.specs.Completion as completion
use Rattle.machines.specs.Elimination as elimination
use Rattle.machines.specs.Completion.{with_element, with_elements, s_polynomial, next_reduction, next_pair, next_completion}
use Rattle.machines.specs.Cut.{lead_of, tail_of, lead_number, divides, cut_by, find_cut, after_cut, monic}
use Rattle.machines.specs.Division as division
use Rattle.machines.specs.Division.{with_term, next_cut, next_division}
use Rattle.machines.specs.Elimination.{all_free, free_part}
use Rattle.machines.specs.Event.{Cut, Zero}
use Rattle.machines.specs.Journal.{Entry, Begin, Did, Member, units_of}
use Rattle.machines.specs.Pairs.{coprime, mixes_degrees, waits, beside, put_pair, with_new, covers, skip_covered}
use Rattle.machines.specs.Tidying as tidying
use Rattle.machines.specs.Tidying.{without, drop_from, tail_or, tail_from, next_tail, next_drop, ahead, put_by_lead, by_lead}
use Rattle.machines.proofs.Runs.{on, trace}
use Rattle.analysis_commands.proofs.Traces.{Run}
use Rattle.exponentials.specs.Keys.{excess}
use Rattle.loops.specs.Effect.{store, value_of, after_statement, after_branch}
use Rattle.loops.specs.Map.{branch_map}
use Rattle.loops.specs.Program.{Expr, Program, number, variable, add, sub, mul}
use Rattle.loops.proofs.Examples.{squares, assign, given}
use Rattle.rounds.specs.Form.{Form, relation, relations_to, passes}
use Rattle.rounds.specs.Start.{start_list, start_polynomial, in_order}
use Rattle.rounds.specs.Word.{branch_of}
use Rattle.rounds.specs.Analysis as analysis
use Rattle.rounds.specs.Analysis.{answered, next, block, starting, closing_from, after_iterations}
use Rattle.expansion.specs.Counts.{most_terms, factor_terms}
use Rattle.expansion.specs.Lengths.{product_length, power_length}
use Rattle.invariant_fix.specs.Long.{task_length, work_length, orbit_length_since, lengths_before}
use Rattle.analysis_commands.proofs.Fitting.{all_fit, then_fit, state_fits, numbers_fit, work_fits, orbit_fits, less_fits, elimination_fits, behind_fits, dropping_fits, tailing_fits, acting_fits, taking_fits, left_fits, found_fits, reducing_fits, both_fit, exponents_fit, size_fits, each_fits}
use Rattle.rounds.specs.Journal.{setting_of}
use Rattle.rounds.proofs.Squares.{squares_form, squares_journal, squares_basis}

abbrev pub squares_program : Program (Expr ℕ)
squares_program = record {
  names = (97 ∷ []) ∷ (115 ∷ []) ∷ (116 ∷ []) ∷ [];
  locals = [];
  init = given 0 (number (pos 0)) ∷ given 1 (number (pos 1)) ∷ given 2 (number (pos 1)) ∷ [];
  branches = (assign 0 (add 46 (variable 0) (number (pos 1)))
      ∷ assign 2 (add 53 (variable 2) (number (pos 2)))
      ∷ assign 1 (add 60 (variable 1) (variable 2)) ∷ []) ∷ [];
}

abbrev pub squares_forms : List Form
squares_forms = squares_form ∷ []

pub same_raw : branch_map squares (branch_of squares 1)
    ≡ branch_map squares_program (branch_of squares_program 1)
unfolding branch_map after_branch after_statement store value_of
same_raw = refl

pub same_setting : setting_of squares squares_forms None
    ≡ setting_of squares_program squares_forms None
unfolding start_list start_polynomial in_order branch_map after_branch after_statement store
    value_of
same_setting = refl

-- 8 units
pub squares_units : units_of squares_journal ≡ 8
unfolding units_of
squares_units = refl

-- ---- a question
abbrev pub squares_question : Expr ℕ
squares_question =
    sub 1 (variable 2) (add 5 (mul 3 (number (pos 2)) (variable 0)) (number (pos 1)))

abbrev pub squares_asked : Terms Fraction
squares_asked =
    (1 ∷ 0 ∷ 0 ∷ [], whole (negsuc 1)) ∷ (0 ∷ 0 ∷ 1 ∷ [], whole (pos 1))
    ∷ (0 ∷ 0 ∷ 0 ∷ [], whole (negsuc 0)) ∷ []

abbrev pub asked_entries : List Entry
asked_entries = squares_journal ++ Begin Member ∷ Did (Cut 0) ∷ Did Zero ∷ []

pub asked_units : units_of asked_entries ≡ 9
unfolding units_of
asked_units = refl

abbrev pub nothing_left : division.State Fraction
nothing_left = record {
  current = None;
  cofactors = ((0 ∷ 0 ∷ 0 ∷ [], whole (negsuc 1)) ∷ []) ∷ [] ∷ [];
}

pub asked_run : Run squares_program None squares_forms (Some squares_asked) 20 asked_entries
    (answered 1 squares_basis nothing_left)
unfolding on trace all_fit then_fit state_fits
    numbers_fit task_length work_length orbit_length_since lengths_before product_length
    power_length factor_terms most_terms work_fits orbit_fits less_fits elimination_fits
    behind_fits
    dropping_fits tailing_fits acting_fits taking_fits left_fits found_fits reducing_fits both_fit
    exponents_fit size_fits each_fits weight degrees composition_weight composition_degrees lcm
    exponents.lcm next block starting passes closing_from after_iterations analysis.after_branch
    analysis.after relation relations_to start_list start_polynomial in_order branch_map
    after_branch after_statement store value_of variables unit_exponents constant collect insert
    place scale_terms compare blocks grevlex elimination.next completion.next with_element
    with_elements s_polynomial next_reduction next_pair next_completion lead_of tail_of lead_number
    divides cut_by find_cut after_cut monic division.next with_term next_cut next_division all_free
    free_part retold coprime completion.degree mixes_degrees waits beside put_pair with_new covers
    skip_covered tidying.next without drop_from tail_or tail_from next_tail next_drop ahead
    put_by_lead by_lead less same plus excess Algebra.times Algebra.shift Algebra.negate evaluate
    sum_over monomial_at power fraction Fraction.sum Fraction.product Fraction.opposite
    Fraction.inverse is_lowest reduce gcd
asked_run = record { fits = refl; entries = refl; ends = refl }
