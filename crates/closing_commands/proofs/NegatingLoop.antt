-- The loop vars x; init x=1; branch { x=-x; }, and two closings of it, by computation.
--   negating, negating_read, maps_small     the loop, its text, and its one operation, on small numbers
--   squares_are_one, square_read, square_operations     the equation x^2 = 1, its text, and its operations, on small numbers
--   numbers_are_one, number_read, number_operations     so x = 1
--   square, square_is, single, single_is    their polynomials
--   square_small, single_small   in their closings all numbers are small
--   square_closed, single_countered     the one ends with a list, the other with the word 1;  square_units, single_units: within three units
--   square_holds, number_fails   the one equation holds at the end of every run, the other doesn't
--   single_first, single_has     the word 1 is the first that counters it
use Rattle.std.proofs.Common.{◌≡◌, ℕ, ◌≤◌, pos, negsuc, true, List, [], ◌∷◌, refl, sym, subst, Ok, codes, arith}
use Rattle.algebra.specs.Arithmetic.{power}
use Rattle.algebra.specs.Each.{Each}
use Rattle.algebra.specs.Sum.{sum_over}
use Rattle.algebra.specs.Gcd.{gcd}
use Rattle.algebra.specs.Gcd as gcd
use Rattle.algebra.specs.Ratio.{is_lowest, reduce}
use Rattle.algebra.specs.Fraction as Fraction
use Rattle.algebra.specs.Fraction.{Fraction, fraction, whole, ℚ}
use Rattle.algebra.proofs.Fractions.{ℚ_field}
use Rattle.algebra.proofs.Wholes.{whole_injective}
use Rattle.grammars.specs.Reader.{read}
use Rattle.polynomials.specs.Algebra as Algebra
use Rattle.polynomials.specs.Exponent.{same, plus, lcm, unit_exponents, over as less}
use Rattle.polynomials.specs.Order.{compare, grevlex, blocks}
use Rattle.polynomials.specs.Terms.{Terms, constant, variables, evaluate, monomial_at}
use Rattle.polynomials.specs.Weight.{weight, degrees}
use Rattle.polynomials.specs.Polynomial.{Falls, IsPolynomial}
use Rattle.machines.specs.Collect.{collect, insert, place, scale_terms}
use Rattle.machines.specs.Completion as completion
use Rattle.machines.specs.Elimination as elimination
use Rattle.machines.specs.Completion.{with_element, with_elements, s_polynomial, next_reduction, next_pair, next_completion}
use Rattle.machines.specs.Cut.{lead_of, tail_of, lead_number, divides, cut_by, find_cut, after_cut, monic}
use Rattle.machines.specs.Division as division
use Rattle.machines.specs.Division.{with_term, next_cut, next_division}
use Rattle.machines.specs.Event.{Cut, Zero}
use Rattle.machines.specs.Journal.{Entry, Begin, Did, Image, Extend, units_of}
use Rattle.machines.specs.Pairs.{coprime, mixes_degrees, waits, beside, put_pair, with_new, covers, skip_covered}
use Rattle.machines.specs.Tidying as tidying
use Rattle.machines.specs.Tidying.{without, drop_from, tail_or, tail_from, next_tail, next_drop, ahead, put_by_lead, by_lead}
use Rattle.machines.proofs.Runs.{on, trace, run_of}
use Rattle.machines.specs.Run.{IsRun}
use Rattle.loops.specs.Effect.{store, init_statement, value_of, after_statement, after_branch, start_from}
use Rattle.loops.specs.Limits.{most_names, most_bytes, most_branches, most_statements, most_operators, most_exponent}
use Rattle.loops.specs.Map.{branch_map, start_map}
use Rattle.loops.specs.Program.{Expr, number, variable, neg, sub, power as raised, Program}
use Rattle.loops.specs.WellFormed.{local_places, IsWellFormed}
use Rattle.loops.specs.Inv.{Inv}
use Rattle.corollaries.specs.Counter.{IsFirstWord}
use Rattle.corollaries.proofs.Images.{refutes}
use Rattle.loop_model.specs.Maps.{maps_operations, statements_operations}
use Rattle.loop_model.specs.Operations.{operations, operations_all, partial_powers}
use Rattle.loop_model.specs.Words.{keyword_of}
use Rattle.counter_run.specs.Composition.{factors, product_of, product_operations, composition_operations}
use Rattle.closures.specs.Closing.{Candidate, fresh, closed, countered, level_from, from_level, from_waiting, by_start, by_rest, divided, extended, next, moves, State}
use Rattle.closures.specs.Ends.{ComesNext}
use Rattle.closures.proofs.Ended.{closed_invariants, countered_first}
use Rattle.poly_text.specs.Lexemes.{lexeme_at, placed_behind}
use Rattle.poly_text.specs.Sums.{most_depth}
use Rattle.poly_text.specs.Equations.{equation_of}
use Rattle.loop_text.specs.LoopReader.{loop_of}
use Rattle.loop_text.proofs.WellFormed.{loop_well}
use Rattle.command_parts.specs.Equations.{equation_in, operations_of, polynomial_of, Holds}
use Rattle.command_parts.proofs.Polynomials.{holds_invariant}
use Rattle.closing_commands.proofs.SmallOperations.{small, low, in_variables, low_terms, operands_small, result_small, all_in_variables, operation_small, all_small_operations}
use Rattle.closing_commands.proofs.SmallClosings.{quotient_small, difference_small, shift_low, cutting_small, left_small, is_none, is_empty, nothing_comes, monic_small, first_letter, state_small, step_small}
use Rattle.closing_commands.specs.Deciding.{HasCountered}

abbrev pub one : Fraction
one = whole (pos 1)

abbrev pub minus : Fraction
minus = whole (negsuc 0)

abbrev pub negating : Program (Expr ℕ)
negating = record {
  names = (120 ∷ []) ∷ [];
  locals = [];
  init = record { name = 0; value = number (pos 1) } ∷ [];
  branches = (record { targets = 0 ∷ []; values = neg 29 (variable 0) ∷ [] } ∷ []) ∷ [];
}

abbrev pub squares_are_one : Expr ℕ
squares_are_one = sub 3 (raised 1 (variable 0) 2) (number (pos 1))

abbrev pub numbers_are_one : Expr ℕ
numbers_are_one = sub 1 (variable 0) (number (pos 1))

pub negating_read : loop_of (codes "vars x; init x=1; branch { x=-x; }") ≡ Ok negating
unfolding placed_behind lexeme_at read keyword_of most_names most_bytes most_branches
    most_statements most_operators most_exponent most_depth local_places
negating_read = refl

pub square_read : equation_in negating.names (codes "x^2=1") ≡ Ok squares_are_one
unfolding equation_of placed_behind lexeme_at read keyword_of most_names most_bytes most_operators
    most_exponent most_depth
square_read = refl

pub number_read : equation_in negating.names (codes "x=1") ≡ Ok numbers_are_one
unfolding equation_of placed_behind lexeme_at read keyword_of most_names most_bytes most_operators
    most_exponent most_depth
number_read = refl

-- ---- their operations
pub maps_small : all_small_operations 1 (maps_operations negating) ≡ true
unfolding small low in_variables low_terms operands_small result_small all_in_variables
    operation_small all_small_operations operations operations_all statements_operations
    partial_powers value_of variables unit_exponents constant collect insert place scale_terms
    compare blocks grevlex same plus lcm weight degrees Algebra.times Algebra.shift Algebra.negate
    power fraction Fraction.sum Fraction.product Fraction.opposite is_lowest reduce gcd gcd.lcm
maps_small = refl

pub square_operations : all_small_operations 1 (operations_of negating squares_are_one) ≡ true
unfolding small low in_variables low_terms operands_small result_small all_in_variables
    operation_small all_small_operations operations operations_all statements_operations
    partial_powers value_of variables unit_exponents constant collect insert place scale_terms
    compare blocks grevlex same plus lcm weight degrees Algebra.times Algebra.shift Algebra.negate
    power fraction Fraction.sum Fraction.product Fraction.opposite is_lowest reduce gcd gcd.lcm
square_operations = refl

pub number_operations : all_small_operations 1 (operations_of negating numbers_are_one) ≡ true
unfolding small low in_variables low_terms operands_small result_small all_in_variables
    operation_small all_small_operations operations operations_all statements_operations
    partial_powers value_of variables unit_exponents constant collect insert place scale_terms
    compare blocks grevlex same plus lcm weight degrees Algebra.times Algebra.shift Algebra.negate
    power fraction Fraction.sum Fraction.product Fraction.opposite is_lowest reduce gcd gcd.lcm
number_operations = refl

-- ---- their polynomials
abbrev pub square : Terms Fraction
square = (2 ∷ [], one) ∷ (0 ∷ [], minus) ∷ []

abbrev pub single : Terms Fraction
single = (1 ∷ [], one) ∷ (0 ∷ [], minus) ∷ []

pub square_is : polynomial_of negating squares_are_one ≡ square
unfolding value_of variables unit_exponents constant collect insert place scale_terms
    compare blocks grevlex same plus Algebra.times Algebra.shift Algebra.negate
    power fraction Fraction.sum Fraction.product Fraction.opposite is_lowest reduce gcd
square_is = refl

pub single_is : polynomial_of negating numbers_are_one ≡ single
unfolding value_of variables unit_exponents constant collect insert place scale_terms
    compare blocks grevlex same plus Algebra.times Algebra.shift Algebra.negate
    power fraction Fraction.sum Fraction.product Fraction.opposite is_lowest reduce gcd
single_is = refl

-- ---- their closings
abbrev pub square_journal : List Entry
square_journal = Begin (Image 0) ∷ Begin (Extend 0) ∷ Begin (Image 1) ∷ Did (Cut 0) ∷ Did Zero ∷ []

abbrev pub single_journal : List Entry
single_journal = Begin (Image 0) ∷ Begin (Extend 0) ∷ Begin (Image 1) ∷ Did (Cut 0) ∷ []

abbrev pub counters_single : Candidate
counters_single = record {
  of = single;
  word = 1 ∷ [];
  polynomial = (0 ∷ [], whole (negsuc 1)) ∷ [];
}

pub square_small : step_small negating (square ∷ []) 6 (next negating (square ∷ []) fresh) ≡ true
unfolding small low in_variables low_terms operands_small result_small all_in_variables
    operation_small all_small_operations quotient_small difference_small shift_low cutting_small
    left_small is_none is_empty nothing_comes monic_small first_letter state_small step_small
    factors product_of product_operations composition_operations weight degrees gcd.lcm
    next level_from from_level from_waiting by_start by_rest divided extended
    branch_map start_map start_from init_statement after_branch after_statement store
    value_of variables unit_exponents constant collect insert place scale_terms compare blocks
    grevlex elimination.next completion.next with_element with_elements s_polynomial next_reduction
    next_pair next_completion lead_of tail_of lead_number divides cut_by find_cut after_cut monic
    division.next with_term next_cut next_division coprime completion.degree mixes_degrees waits
    beside put_pair with_new covers skip_covered tidying.next without drop_from tail_or tail_from
    next_tail next_drop ahead put_by_lead by_lead less same plus lcm Algebra.times Algebra.shift
    Algebra.negate evaluate sum_over monomial_at power fraction Fraction.sum Fraction.product
    Fraction.opposite Fraction.inverse is_lowest reduce gcd
square_small = refl

pub single_small : step_small negating (single ∷ []) 5 (next negating (single ∷ []) fresh) ≡ true
unfolding small low in_variables low_terms operands_small result_small all_in_variables
    operation_small all_small_operations quotient_small difference_small shift_low cutting_small
    left_small is_none is_empty nothing_comes monic_small first_letter state_small step_small
    factors product_of product_operations composition_operations weight degrees gcd.lcm
    next level_from from_level from_waiting by_start by_rest divided extended
    branch_map start_map start_from init_statement after_branch after_statement store
    value_of variables unit_exponents constant collect insert place scale_terms compare blocks
    grevlex elimination.next completion.next with_element with_elements s_polynomial next_reduction
    next_pair next_completion lead_of tail_of lead_number divides cut_by find_cut after_cut monic
    division.next with_term next_cut next_division coprime completion.degree mixes_degrees waits
    beside put_pair with_new covers skip_covered tidying.next without drop_from tail_or tail_from
    next_tail next_drop ahead put_by_lead by_lead less same plus lcm Algebra.times Algebra.shift
    Algebra.negate evaluate sum_over monomial_at power fraction Fraction.sum Fraction.product
    Fraction.opposite Fraction.inverse is_lowest reduce gcd
single_small = refl

square_after : List Entry × State
square_after = trace (moves negating (square ∷ [])) 5 fresh

single_after : List Entry × State
single_after = trace (moves negating (single ∷ [])) 4 fresh

-- the entries, and what comes behind them
square_comes : (square_after.0 ≡ square_journal)
    × (next negating (square ∷ []) square_after.1 ≡ closed (square ∷ []))
unfolding square_after on trace next level_from from_level from_waiting by_start by_rest divided
    extended branch_map start_map start_from init_statement after_branch after_statement store
    value_of variables unit_exponents constant collect insert place scale_terms compare blocks
    grevlex elimination.next completion.next with_element with_elements s_polynomial next_reduction
    next_pair next_completion lead_of tail_of lead_number divides cut_by find_cut after_cut monic
    division.next with_term next_cut next_division coprime completion.degree mixes_degrees waits
    beside put_pair with_new covers skip_covered tidying.next without drop_from tail_or tail_from
    next_tail next_drop ahead put_by_lead by_lead less same plus lcm Algebra.times Algebra.shift
    Algebra.negate evaluate sum_over monomial_at power fraction Fraction.sum Fraction.product
    Fraction.opposite Fraction.inverse is_lowest reduce gcd
square_comes = (refl, refl)

single_comes : (single_after.0 ≡ single_journal)
    × (next negating (single ∷ []) single_after.1
    ≡ countered counters_single ((0 ∷ [], whole (negsuc 1)) ∷ []))
unfolding single_after on trace next level_from from_level from_waiting by_start by_rest divided
    extended branch_map start_map start_from init_statement after_branch after_statement store
    value_of variables unit_exponents constant collect insert place scale_terms compare blocks
    grevlex elimination.next completion.next with_element with_elements s_polynomial next_reduction
    next_pair next_completion lead_of tail_of lead_number divides cut_by find_cut after_cut monic
    division.next with_term next_cut next_division coprime completion.degree mixes_degrees waits
    beside put_pair with_new covers skip_covered tidying.next without drop_from tail_or tail_from
    next_tail next_drop ahead put_by_lead by_lead less same plus lcm Algebra.times Algebra.shift
    Algebra.negate evaluate sum_over monomial_at power fraction Fraction.sum Fraction.product
    Fraction.opposite Fraction.inverse is_lowest reduce gcd
single_comes = (refl, refl)

pub square_closed : ComesNext negating (square ∷ []) square_journal (closed (square ∷ []))
unfolding square_after
square_closed = record {
  state = square_after.1;
  run =
      subst (λ es. IsRun (moves negating (square ∷ [])) fresh es square_after.1) square_comes.0
      (run_of (moves negating (square ∷ [])) 5 fresh);
  is = square_comes.1;
}

pub single_countered : ComesNext negating (single ∷ []) single_journal
    (countered counters_single ((0 ∷ [], whole (negsuc 1)) ∷ []))
unfolding single_after
single_countered = record {
  state = single_after.1;
  run =
      subst (λ es. IsRun (moves negating (single ∷ [])) fresh es single_after.1) single_comes.0
      (run_of (moves negating (single ∷ [])) 4 fresh);
  is = single_comes.1;
}

pub square_units : units_of square_journal ≤ 3
unfolding units_of
square_units = omega arith

pub single_units : units_of single_journal ≤ 3
unfolding units_of
single_units = omega arith

-- ---- what holds
negating_formed : IsWellFormed negating
negating_formed = (loop_well (codes "vars x; init x=1; branch { x=-x; }") negating
    negating_read).formed

minus_some : minus ≡ ℚ.zero → ⊥
minus_some e = (let z : negsuc 0 ≡ pos 0 = whole_injective (negsuc 0) (pos 0) e in cc)

square_polynomial : IsPolynomial ℚ grevlex 1 square
unfolding Each Falls compare grevlex
square_polynomial = record {
  nonzero = (ℚ_field.one-ne-zero, (minus_some, tt));
  arity = (refl, (refl, tt));
  falls = ((refl, tt), (tt, tt));
}

pub single_polynomial : IsPolynomial ℚ grevlex 1 single
unfolding Each Falls compare grevlex
single_polynomial = record {
  nonzero = (ℚ_field.one-ne-zero, (minus_some, tt));
  arity = (refl, (refl, tt));
  falls = ((refl, tt), (tt, tt));
}

pub square_holds : Holds negating squares_are_one
unfolding Each
square_holds =
    (holds_invariant negating squares_are_one).0
    (subst (Inv negating) (sym square_is)
    (closed_invariants negating (square ∷ []) (square_polynomial, tt) square_journal (square ∷ [])
    square_closed).0)

pub single_first : IsFirstWord negating single (1 ∷ [])
single_first = countered_first negating negating_formed single single_polynomial single_journal
    counters_single ((0 ∷ [], whole (negsuc 1)) ∷ []) single_countered

pub single_has : HasCountered negating single single_journal (1 ∷ [])
single_has = record {
  candidate = counters_single;
  image = (0 ∷ [], whole (negsuc 1)) ∷ [];
  ends = single_countered;
  is_word = refl;
  first = single_first;
}

pub number_fails : Holds negating numbers_are_one → ⊥
number_fails h =
    refutes negating single (1 ∷ []) single_first.counters
    (subst (Inv negating) single_is ((holds_invariant negating numbers_are_one).1 h))
