-- Of loops whose finished journals are worked out in rounds (proofs/), no state of the analysis is past, and of that of the squares no task is too long, by computation.
--   squares_never_past, squares_never_long     of vars a, s, t; init a=0, s=1, t=1; branch { a=a+1; t=t+2; s=s+t; }
--   powers_never_past      of vars x, y, z; init x=1, y=1, z=1; branch { x=2*x; y=y/2; z=-z; }
--   resets_never_past      of vars x; init x=5; branch { x=3; }, which begins late: with a copy, and an intersection
use Rattle.std.proofs.Common.{◌≡◌, List, [], ◌∷◌, refl, None, true}
use Rattle.algebra.specs.Arithmetic.{power}
use Rattle.algebra.specs.Sum.{sum_over}
use Rattle.algebra.specs.Gcd.{gcd, lcm}
use Rattle.algebra.specs.Ratio.{is_lowest, reduce}
use Rattle.algebra.specs.Fraction as Fraction
use Rattle.algebra.specs.Fraction.{fraction}
use Rattle.polynomials.specs.Algebra as Algebra
use Rattle.polynomials.specs.Exponent as exponents
use Rattle.polynomials.specs.Exponent.{same, plus, unit_exponents, over as less}
use Rattle.polynomials.specs.Order.{compare, grevlex, blocks}
use Rattle.polynomials.specs.Terms.{constant, variables, evaluate, monomial_at, retold}
use Rattle.polynomials.specs.Weight.{weight, degrees, composition_weight, composition_degrees}
use Rattle.machines.specs.Collect.{collect, insert, place, scale_terms}
use Rattle.machines.specs.Completion as completion
use Rattle.machines.specs.Elimination as elimination
use Rattle.machines.specs.Completion.{with_element, with_elements, s_polynomial, next_reduction, next_pair, next_completion}
use Rattle.machines.specs.Cut.{lead_of, tail_of, lead_number, divides, cut_by, find_cut, after_cut, monic}
use Rattle.machines.specs.Division as division
use Rattle.machines.specs.Division.{with_term, next_cut, next_division}
use Rattle.machines.specs.Elimination.{all_free, free_part}
use Rattle.machines.specs.Pairs.{coprime, mixes_degrees, waits, beside, put_pair, with_new, covers, skip_covered}
use Rattle.machines.specs.Tidying as tidying
use Rattle.machines.specs.Tidying.{without, drop_from, tail_or, tail_from, next_tail, next_drop, ahead, put_by_lead, by_lead}
use Rattle.exponentials.specs.Keys.{excess}
use Rattle.loops.specs.Effect.{store, value_of, after_statement, after_branch}
use Rattle.loops.specs.Map.{branch_map}
use Rattle.rounds.specs.Form.{relation, relations_to, passes}
use Rattle.rounds.specs.Start.{start_list, start_polynomial, in_order}
use Rattle.rounds.specs.Analysis as analysis
use Rattle.rounds.specs.Analysis.{Setting, State, fresh, next, moves, block, starting, closing_from, after_iterations}
use Rattle.rounds.specs.Journal.{setting_of}
use Rattle.expansion.specs.Counts.{most_terms, factor_terms}
use Rattle.expansion.specs.Lengths.{product_length, power_length}
use Rattle.invariant_fix.specs.Long.{IsLong, task_length, work_length, orbit_length_since, lengths_before}
use Rattle.analysis_commands.proofs.Fitting.{never, never_long, all_fit, then_fit, state_fits, numbers_fit, work_fits, orbit_fits, less_fits, elimination_fits, behind_fits, dropping_fits, tailing_fits, acting_fits, taking_fits, left_fits, found_fits, reducing_fits, both_fit, exponents_fit, size_fits, each_fits}
use Rattle.machines.specs.Journal.{Entry}
use Rattle.machines.specs.Run.{IsRun}
use Rattle.rounds.specs.Past.{IsPast}
use Rattle.loops.proofs.Examples.{squares}
use Rattle.rounds.proofs.Powers.{powers, powers_form}
use Rattle.rounds.proofs.Resets.{resets, reset_form}
use Rattle.rounds.proofs.Squares.{squares_form}

abbrev squares_setting : Setting
squares_setting = setting_of squares (squares_form ∷ []) None

squares_fit : all_fit (moves squares_setting) (state_fits squares_setting) 17 fresh ≡ true
unfolding all_fit then_fit state_fits
    numbers_fit task_length work_length orbit_length_since lengths_before product_length
    power_length factor_terms most_terms work_fits orbit_fits less_fits elimination_fits behind_fits
    dropping_fits tailing_fits acting_fits taking_fits left_fits found_fits reducing_fits both_fit
    exponents_fit size_fits each_fits weight degrees composition_weight composition_degrees lcm
    exponents.lcm next block starting passes closing_from after_iterations analysis.after_branch
    analysis.after relation relations_to start_list start_polynomial in_order branch_map
    after_branch after_statement store value_of variables unit_exponents constant collect insert
    place scale_terms compare blocks grevlex elimination.next completion.next with_element
    with_elements s_polynomial next_reduction next_pair next_completion lead_of tail_of lead_number
    divides cut_by find_cut after_cut monic division.next with_term next_cut next_division all_free
    free_part retold coprime completion.degree mixes_degrees waits beside put_pair with_new covers
    skip_covered tidying.next without drop_from tail_or tail_from next_tail next_drop ahead
    put_by_lead by_lead less same plus excess Algebra.times Algebra.shift Algebra.negate evaluate
    sum_over monomial_at power fraction Fraction.sum Fraction.product Fraction.opposite
    Fraction.inverse is_lowest reduce gcd
squares_fit = refl

pub squares_never_past : (es : List Entry) (s : State)
    → IsRun (moves (setting_of squares (squares_form ∷ []) None)) fresh es s
    → IsPast (setting_of squares (squares_form ∷ []) None) s → ⊥
squares_never_past = never squares_setting 17 fresh squares_fit

pub squares_never_long : (es : List Entry) (s : State)
    → IsRun (moves (setting_of squares (squares_form ∷ []) None)) fresh es s
    → IsLong (setting_of squares (squares_form ∷ []) None) s → ⊥
squares_never_long = never_long squares_setting 17 fresh squares_fit

abbrev powers_setting : Setting
powers_setting = setting_of powers (powers_form ∷ []) None

powers_fit : all_fit (moves powers_setting) (state_fits powers_setting) 30 fresh ≡ true
unfolding all_fit then_fit state_fits
    numbers_fit task_length work_length orbit_length_since lengths_before product_length
    power_length factor_terms most_terms work_fits orbit_fits less_fits elimination_fits behind_fits
    dropping_fits tailing_fits acting_fits taking_fits left_fits found_fits reducing_fits both_fit
    exponents_fit size_fits each_fits weight degrees composition_weight composition_degrees lcm
    exponents.lcm next block starting passes closing_from after_iterations analysis.after_branch
    analysis.after relation relations_to start_list start_polynomial in_order branch_map
    after_branch after_statement store value_of variables unit_exponents constant collect insert
    place scale_terms compare blocks grevlex elimination.next completion.next with_element
    with_elements s_polynomial next_reduction next_pair next_completion lead_of tail_of lead_number
    divides cut_by find_cut after_cut monic division.next with_term next_cut next_division all_free
    free_part retold coprime completion.degree mixes_degrees waits beside put_pair with_new covers
    skip_covered tidying.next without drop_from tail_or tail_from next_tail next_drop ahead
    put_by_lead by_lead less same plus excess Algebra.times Algebra.shift Algebra.negate evaluate
    sum_over monomial_at power fraction Fraction.sum Fraction.product Fraction.opposite
    Fraction.inverse is_lowest reduce gcd
powers_fit = refl

pub powers_never_past : (es : List Entry) (s : State)
    → IsRun (moves (setting_of powers (powers_form ∷ []) None)) fresh es s
    → IsPast (setting_of powers (powers_form ∷ []) None) s → ⊥
powers_never_past = never powers_setting 30 fresh powers_fit

abbrev resets_setting : Setting
resets_setting = setting_of resets (reset_form ∷ []) None

resets_fit : all_fit (moves resets_setting) (state_fits resets_setting) 12 fresh ≡ true
unfolding all_fit then_fit state_fits
    numbers_fit task_length work_length orbit_length_since lengths_before product_length
    power_length factor_terms most_terms work_fits orbit_fits less_fits elimination_fits behind_fits
    dropping_fits tailing_fits acting_fits taking_fits left_fits found_fits reducing_fits both_fit
    exponents_fit size_fits each_fits weight degrees composition_weight composition_degrees lcm
    exponents.lcm next block starting passes closing_from after_iterations analysis.after_branch
    analysis.after relation relations_to start_list start_polynomial in_order branch_map
    after_branch after_statement store value_of variables unit_exponents constant collect insert
    place scale_terms compare blocks grevlex elimination.next completion.next with_element
    with_elements s_polynomial next_reduction next_pair next_completion lead_of tail_of lead_number
    divides cut_by find_cut after_cut monic division.next with_term next_cut next_division all_free
    free_part retold coprime completion.degree mixes_degrees waits beside put_pair with_new covers
    skip_covered tidying.next without drop_from tail_or tail_from next_tail next_drop ahead
    put_by_lead by_lead less same plus excess Algebra.times Algebra.shift Algebra.negate evaluate
    sum_over monomial_at power fraction Fraction.sum Fraction.product Fraction.opposite
    Fraction.inverse is_lowest reduce gcd
resets_fit = refl

pub resets_never_past : (es : List Entry) (s : State)
    → IsRun (moves (setting_of resets (reset_form ∷ []) None)) fresh es s
    → IsPast (setting_of resets (reset_form ∷ []) None) s → ⊥
resets_never_past = never resets_setting 12 fresh resets_fit
