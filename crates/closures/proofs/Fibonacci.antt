-- Closings at a small loop that isn't simple, by computation: vars a, b, s; init a=1, b=1, s=1; branch { (a, b) = (b, a+b); s = -s; }
--   fibonacci_formed     the loop is well formed
--   cassini_closed       the closing of -a^2 - a b + b^2 + s ends with a list
--   cassini_invariant    so it is an invariant
--   same_countered       that of a - b ends with the word 1
--   same_first           which is the first word that counters it
use Rattle.std.proofs.Common.{◌≡◌, pos, negsuc, List, [], ◌∷◌, refl, subst}
use Rattle.std.specs.Prelude.{⊤, ◌≢◌}
use Rattle.algebra.specs.Arithmetic.{power}
use Rattle.algebra.specs.Each.{Each}
use Rattle.algebra.specs.Sum.{sum_over}
use Rattle.algebra.specs.Gcd.{gcd}
use Rattle.algebra.specs.Ratio.{is_lowest, reduce}
use Rattle.algebra.specs.Fraction as Fraction
use Rattle.algebra.specs.Fraction.{Fraction, fraction, whole, ℚ}
use Rattle.algebra.proofs.Fractions.{ℚ_field}
use Rattle.algebra.proofs.Wholes.{whole_injective}
use Rattle.polynomials.specs.Algebra as Algebra
use Rattle.polynomials.specs.Exponent.{same, plus, lcm, unit_exponents, over as less}
use Rattle.polynomials.specs.Order.{compare, grevlex, blocks}
use Rattle.polynomials.specs.Polynomial.{Falls, IsPolynomial}
use Rattle.polynomials.specs.Terms.{Terms, constant, variables, evaluate, monomial_at}
use Rattle.machines.specs.Collect.{collect, insert, place, scale_terms}
use Rattle.machines.specs.Completion as completion
use Rattle.machines.specs.Elimination as elimination
use Rattle.machines.specs.Completion.{with_element, with_elements, s_polynomial, next_reduction, next_pair, next_completion}
use Rattle.machines.specs.Cut.{lead_of, tail_of, lead_number, divides, cut_by, find_cut, after_cut, monic}
use Rattle.machines.specs.Division as division
use Rattle.machines.specs.Division.{with_term, next_cut, next_division}
use Rattle.machines.specs.Event.{Cut, Zero}
use Rattle.machines.specs.Journal.{Entry, Begin, Did, Image, Extend, units_of}
use Rattle.machines.specs.Pairs.{coprime, mixes_degrees, waits, beside, put_pair, with_new, covers, skip_covered}
use Rattle.machines.specs.Tidying as tidying
use Rattle.machines.specs.Tidying.{without, drop_from, tail_or, tail_from, next_tail, next_drop, ahead, put_by_lead, by_lead}
use Rattle.machines.specs.Run.{IsRun}
use Rattle.machines.proofs.Runs.{on, trace, run_of}
use Rattle.loops.specs.Effect.{store, init_statement, value_of, after_statement, after_branch, start_from}
use Rattle.loops.specs.Map.{branch_map, start_map}
use Rattle.loops.specs.Program.{Expr, number, variable, neg, add, Program}
use Rattle.loops.specs.Inv.{Inv}
use Rattle.loops.proofs.Examples.{assign, given}
use Rattle.closures.specs.Closing.{Candidate, fresh, closed, countered, level_from, from_level, from_waiting, by_start, by_rest, divided, extended, next, moves}
use Rattle.closures.specs.Ends.{ComesNext}
use Rattle.closures.proofs.Ended.{closed_invariants}

abbrev pub fibonacci : Program (Expr ⊤)
fibonacci = record {
  names = (97 ∷ []) ∷ (98 ∷ []) ∷ (115 ∷ []) ∷ [];
  locals = [];
  init = given 0 (number (pos 1)) ∷ given 1 (number (pos 1)) ∷ given 2 (number (pos 1)) ∷ [];
  branches = (record {
    targets = 0 ∷ 1 ∷ [];
    values = variable 1 ∷ add tt (variable 0) (variable 1) ∷ [];
  } ∷ assign 2 (neg tt (variable 2)) ∷ []) ∷ [];
}

abbrev one : Fraction
one = whole (pos 1)

abbrev minus : Fraction
minus = whole (negsuc 0)

-- -a^2 - a b + b^2 + s, and made monic
abbrev cassini : Terms Fraction
cassini = (2 ∷ 0 ∷ 0 ∷ [], minus) ∷ (1 ∷ 1 ∷ 0 ∷ [], minus) ∷ (0 ∷ 2 ∷ 0 ∷ [], one)
    ∷ (0 ∷ 0 ∷ 1 ∷ [], one) ∷ []

abbrev monic_cassini : Terms Fraction
monic_cassini = (2 ∷ 0 ∷ 0 ∷ [], one) ∷ (1 ∷ 1 ∷ 0 ∷ [], one) ∷ (0 ∷ 2 ∷ 0 ∷ [], minus)
    ∷ (0 ∷ 0 ∷ 1 ∷ [], minus) ∷ []

abbrev cassini_journal : List Entry
cassini_journal = Begin (Image 0) ∷ Begin (Extend 0) ∷ Begin (Image 1)
    ∷ Did (Cut 0) ∷ Did Zero ∷ []

cassini_entries : (trace (moves fibonacci (cassini ∷ [])) 5 fresh).0 ≡ cassini_journal
unfolding on trace next level_from from_level from_waiting by_start by_rest divided extended
    branch_map start_map start_from init_statement after_branch after_statement store
    value_of variables unit_exponents constant collect insert place scale_terms compare blocks
    grevlex elimination.next completion.next with_element with_elements s_polynomial next_reduction
    next_pair next_completion lead_of tail_of lead_number divides cut_by find_cut after_cut monic
    division.next with_term next_cut next_division coprime completion.degree mixes_degrees waits
    beside put_pair with_new covers skip_covered tidying.next without drop_from tail_or tail_from
    next_tail next_drop ahead put_by_lead by_lead less same plus lcm Algebra.times Algebra.shift
    Algebra.negate evaluate sum_over monomial_at power fraction Fraction.sum Fraction.product
    Fraction.opposite Fraction.inverse is_lowest reduce gcd
cassini_entries = refl

cassini_ends : next fibonacci (cassini ∷ []) (trace (moves fibonacci (cassini ∷ [])) 5 fresh).1
    ≡ closed (monic_cassini ∷ [])
unfolding on trace next level_from from_level from_waiting by_start by_rest divided extended
    branch_map start_map start_from init_statement after_branch after_statement store
    value_of variables unit_exponents constant collect insert place scale_terms compare blocks
    grevlex elimination.next completion.next with_element with_elements s_polynomial next_reduction
    next_pair next_completion lead_of tail_of lead_number divides cut_by find_cut after_cut monic
    division.next with_term next_cut next_division coprime completion.degree mixes_degrees waits
    beside put_pair with_new covers skip_covered tidying.next without drop_from tail_or tail_from
    next_tail next_drop ahead put_by_lead by_lead less same plus lcm Algebra.times Algebra.shift
    Algebra.negate evaluate sum_over monomial_at power fraction Fraction.sum Fraction.product
    Fraction.opposite Fraction.inverse is_lowest reduce gcd
cassini_ends = refl

pub cassini_closed : ComesNext fibonacci (cassini ∷ []) cassini_journal
    (closed (monic_cassini ∷ []))
cassini_closed = record {
  state = (trace (moves fibonacci (cassini ∷ [])) 5 fresh).1;
  run =
      subst (λ es. IsRun (moves fibonacci (cassini ∷ [])) fresh es
      (trace (moves fibonacci (cassini ∷ [])) 5 fresh).1) cassini_entries
      (run_of (moves fibonacci (cassini ∷ [])) 5 fresh);
  is = cassini_ends;
}

cassini_units : units_of cassini_journal ≡ 3
unfolding units_of
cassini_units = refl

no_minus : minus ≢ ℚ.zero
no_minus e = let f : negsuc 0 ≡ pos 0 = whole_injective (negsuc 0) (pos 0) e in cc

cassini_polynomial : IsPolynomial ℚ grevlex 3 cassini
unfolding Each Falls compare grevlex
cassini_polynomial = record {
  nonzero = (no_minus, (no_minus, (ℚ_field.one-ne-zero, (ℚ_field.one-ne-zero, tt))));
  arity = (refl, (refl, (refl, (refl, tt))));
  falls = ((refl, (refl, (refl, tt))), ((refl, (refl, tt)), ((refl, tt), (tt, tt))));
}

pub cassini_invariant : Inv fibonacci cassini
unfolding Each
cassini_invariant =
    (closed_invariants fibonacci (cassini ∷ []) (cassini_polynomial, tt) cassini_journal
    (monic_cassini ∷ []) cassini_closed).0

-- ---- a - b
abbrev same_numbers : Terms Fraction
same_numbers = (1 ∷ 0 ∷ 0 ∷ [], one) ∷ (0 ∷ 1 ∷ 0 ∷ [], minus) ∷ []

abbrev same_journal : List Entry
same_journal = Begin (Image 0) ∷ Begin (Extend 0) ∷ Begin (Image 1)
    ∷ Did (Cut 0) ∷ []

abbrev same_candidate : Candidate
same_candidate = record {
  of = same_numbers;
  word = 1 ∷ [];
  polynomial = (0 ∷ 1 ∷ 0 ∷ [], minus) ∷ [];
}

same_entries : (trace (moves fibonacci (same_numbers ∷ [])) 4 fresh).0 ≡ same_journal
unfolding on trace next level_from from_level from_waiting by_start by_rest divided extended
    branch_map start_map start_from init_statement after_branch after_statement store
    value_of variables unit_exponents constant collect insert place scale_terms compare blocks
    grevlex elimination.next completion.next with_element with_elements s_polynomial next_reduction
    next_pair next_completion lead_of tail_of lead_number divides cut_by find_cut after_cut monic
    division.next with_term next_cut next_division coprime completion.degree mixes_degrees waits
    beside put_pair with_new covers skip_covered tidying.next without drop_from tail_or tail_from
    next_tail next_drop ahead put_by_lead by_lead less same plus lcm Algebra.times Algebra.shift
    Algebra.negate evaluate sum_over monomial_at power fraction Fraction.sum Fraction.product
    Fraction.opposite Fraction.inverse is_lowest reduce gcd
same_entries = refl

same_ends : next fibonacci (same_numbers ∷ [])
    (trace (moves fibonacci (same_numbers ∷ [])) 4 fresh).1
    ≡ countered same_candidate ((0 ∷ 0 ∷ 0 ∷ [], minus) ∷ [])
unfolding on trace next level_from from_level from_waiting by_start by_rest divided extended
    branch_map start_map start_from init_statement after_branch after_statement store
    value_of variables unit_exponents constant collect insert place scale_terms compare blocks
    grevlex elimination.next completion.next with_element with_elements s_polynomial next_reduction
    next_pair next_completion lead_of tail_of lead_number divides cut_by find_cut after_cut monic
    division.next with_term next_cut next_division coprime completion.degree mixes_degrees waits
    beside put_pair with_new covers skip_covered tidying.next without drop_from tail_or tail_from
    next_tail next_drop ahead put_by_lead by_lead less same plus lcm Algebra.times Algebra.shift
    Algebra.negate evaluate sum_over monomial_at power fraction Fraction.sum Fraction.product
    Fraction.opposite Fraction.inverse is_lowest reduce gcd
same_ends = refl

pub same_countered : ComesNext fibonacci (same_numbers ∷ []) same_journal
    (countered same_candidate ((0 ∷ 0 ∷ 0 ∷ [], minus) ∷ []))
same_countered = record {
  state = (trace (moves fibonacci (same_numbers ∷ [])) 4 fresh).1;
  run =
      subst (λ es. IsRun (moves fibonacci (same_numbers ∷ [])) fresh es
      (trace (moves fibonacci (same_numbers ∷ [])) 4 fresh).1) same_entries
      (run_of (moves fibonacci (same_numbers ∷ [])) 4 fresh);
  is = same_ends;
}
