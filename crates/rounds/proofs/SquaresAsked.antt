-- What the finished journal of the squares loop gives: the reduced basis of its invariants, and the answer to what is asked, here s = (a + 1)^2.
--   squares_formed           the loop is well formed
--   squares_reduced          its basis is the reduced basis of its invariants
--   squares_answered         the journal where a^2 + 2 a - s + 1 is asked for, with its division
--   squares_invariant        so that is an invariant
--   squares_out              a journal that is out of a limit
use Rattle.std.proofs.Common.{◌≡◌, zero, suc, ◌<◌, pos, negsuc, List, [], ◌∷◌, get_or, refl, subst, arith, ◌++◌, None, Some}
use Rattle.std.specs.Prelude.{⊤, ◌≢◌}
use Rattle.std.specs.List.{All}
use Rattle.std.proofs.lemmas.List.Elements.{All-nil, All-cons}
use Rattle.algebra.specs.Arithmetic.{power}
use Rattle.algebra.specs.Each.{Each}
use Rattle.algebra.specs.Sum.{sum_over}
use Rattle.algebra.specs.Gcd.{gcd}
use Rattle.algebra.specs.Ratio.{is_lowest, reduce}
use Rattle.algebra.specs.Fraction as Fraction
use Rattle.algebra.specs.Fraction.{Fraction, fraction, over, whole, ℚ, rationals}
use Rattle.algebra.proofs.Fractions.{ℚ_field}
use Rattle.algebra.proofs.Wholes.{whole_injective}
use Rattle.polynomials.specs.Algebra as Algebra
use Rattle.polynomials.specs.Exponent.{same, plus, lcm, unit_exponents, over as less}
use Rattle.polynomials.specs.Order.{compare, grevlex, blocks}
use Rattle.polynomials.specs.Polynomial.{Falls, IsPolynomial}
use Rattle.polynomials.specs.Terms.{Terms, constant, variables, evaluate, monomial_at, retold}
use Rattle.machines.specs.Collect.{collect, insert, place, scale_terms}
use Rattle.machines.specs.Completion as completion
use Rattle.machines.specs.Elimination as elimination
use Rattle.machines.specs.Completion.{with_element, with_elements, s_polynomial, next_reduction, next_pair, next_completion}
use Rattle.machines.specs.Cut.{lead_of, tail_of, lead_number, divides, cut_by, find_cut, after_cut, monic}
use Rattle.machines.specs.Division as division
use Rattle.machines.specs.Division.{with_term, next_cut, next_division}
use Rattle.machines.specs.Elimination.{all_free, free_part}
use Rattle.machines.specs.Event.{Cut, Zero}
use Rattle.machines.specs.Journal.{Entry, Begin, Did, Start, Closed, Member, units_of}
use Rattle.machines.specs.Pairs.{coprime, mixes_degrees, waits, beside, put_pair, with_new, covers, skip_covered}
use Rattle.machines.specs.Tidying as tidying
use Rattle.machines.specs.Tidying.{without, drop_from, tail_or, tail_from, next_tail, next_drop, ahead, put_by_lead, by_lead}
use Rattle.machines.specs.Run.{IsRun}
use Rattle.machines.proofs.Runs.{on, trace, run_of}
use Rattle.exponentials.specs.Keys.{excess}
use Rattle.loops.specs.Effect.{store, value_of, after_statement, after_branch}
use Rattle.loops.specs.Map.{branch_map}
use Rattle.loops.specs.Program.{Expr, number, variable, add, Equation}
use Rattle.loops.specs.Inv.{Inv}
use Rattle.loops.specs.WellFormed.{Uses, AreDistinct, IsStatement, IsWellFormed}
use Rattle.loops.proofs.Examples.{squares}
use Rattle.loops.proofs.Formed.{assigned}
use Rattle.loops.proofs.Locals.{sets_no_locals}
use Rattle.machines.specs.Reduced.{IsReducedFor}
use Rattle.rounds.specs.Analysis as analysis
use Rattle.rounds.specs.Analysis.{Setting, State, fresh, goes, answered, next, moves, block, starting, closing_from}
use Rattle.rounds.specs.Form.{relation, relations_to}
use Rattle.rounds.specs.Journal.{setting_of, IsAnswered, IsOut}
use Rattle.rounds.specs.Start.{start_list, start_polynomial, in_order}
use Rattle.rounds.proofs.Squares.{squares_form, squares_journal, squares_basis, squares_are_forms, squares_finished}
use Rattle.rounds.proofs.Theorem.{finished_is, answered_decides_all}

abbrev one : Fraction
one = whole (pos 1)

abbrev two : Fraction
two = whole (pos 2)

-- ---- well formed
set_of : All (λ (e : Equation (Expr ⊤)). e.name < 3) squares.init
set_of zero d k = omega arith
set_of (suc zero) d k = omega arith
set_of (suc (suc zero)) d k = omega arith
set_of (suc (suc (suc j))) d k = absurd (omega arith)

free_of : All (λ (e : Equation (Expr ⊤)).
    Uses (λ i. (i < 3) × All (λ (f : Equation (Expr ⊤)). i ≢ f.name) squares.init) e.value)
    squares.init
unfolding Uses
free_of zero d k = tt
free_of (suc zero) d k = tt
free_of (suc (suc zero)) d k = tt
free_of (suc (suc (suc j))) d k = absurd (omega arith)

statements_of : All (All (IsStatement 3)) squares.branches
unfolding Uses
statements_of zero bd bk zero d k = assigned 3 0 (add tt (variable 0) (number (pos 1)))
    (omega arith) (omega arith, tt)
statements_of zero bd bk (suc zero) d k = assigned 3 2 (add tt (variable 2) (number (pos 2)))
    (omega arith) (omega arith, tt)
statements_of zero bd bk (suc (suc zero)) d k = assigned 3 1 (add tt (variable 1) (variable 2))
    (omega arith) (omega arith, omega arith)
statements_of zero bd bk (suc (suc (suc j))) d k = absurd (omega arith)
statements_of (suc b) bd bk j d k = absurd (omega arith)

pub squares_formed : IsWellFormed squares
unfolding Uses AreDistinct
squares_formed = record {
  set_once = (
    All-cons (λ y. y ≢ 0) 1 (2 ∷ []) (λ e. omega arith) (All-cons (λ y. y ≢ 0) 2 []
        (λ e. omega arith) (All-nil (λ y. y ≢ 0))),
    (
      All-cons (λ y. y ≢ 1) 2 [] (λ e. omega arith) (All-nil (λ y. y ≢ 1)),
      (All-nil (λ y. y ≢ 2), tt),
    ),
  );
  set = set_of;
  free = free_of;
  some_branch = omega arith;
  statements = statements_of;
  set_first = λ k d l. sets_no_locals 3 3 (get_or squares.branches k d) (statements_of k d l);
}

pub squares_reduced : IsReducedFor rationals grevlex 3 squares_basis (Inv squares)
squares_reduced = (finished_is squares squares_formed squares_journal 1 squares_basis
    squares_finished).2

-- ---- asked
abbrev asked : Terms Fraction
asked = (2 ∷ 0 ∷ 0 ∷ [], one) ∷ (1 ∷ 0 ∷ 0 ∷ [], two) ∷ (0 ∷ 1 ∷ 0 ∷ [], whole (negsuc 0))
    ∷ (0 ∷ 0 ∷ 0 ∷ [], one) ∷ []

abbrev setting : Setting
setting = setting_of squares (squares_form ∷ []) (Some asked)

abbrev asked_journal : List Entry
asked_journal = squares_journal ++ Begin Member ∷ Did (Cut 0) ∷ Did (Cut 0) ∷ Did (Cut 1)
    ∷ Did (Cut 0) ∷ Did Zero ∷ []

-- by (a + 1/2 t + 3/2) times the first and 1/4 times the second
abbrev divided_so : division.State Fraction
divided_so = record {
  current = None;
  cofactors = ((1 ∷ 0 ∷ 0 ∷ [], one) ∷ (0 ∷ 0 ∷ 1 ∷ [], over (pos 1) 2) ∷ (
    0 ∷ 0 ∷ 0 ∷ [],
    over (pos 3) 2,
  ) ∷ []) ∷ ((0 ∷ 0 ∷ 0 ∷ [], over (pos 1) 4) ∷ []) ∷ [];
}

entries_are : (trace (moves setting) 23 fresh).0 ≡ asked_journal
unfolding on trace next block starting closing_from analysis.after_iterations analysis.after_branch
    analysis.after relation
    relations_to start_list start_polynomial in_order branch_map after_branch after_statement store
    value_of variables unit_exponents constant collect insert place scale_terms compare blocks
    grevlex
    elimination.next completion.next with_element with_elements s_polynomial next_reduction
    next_pair next_completion
    lead_of tail_of lead_number divides cut_by find_cut after_cut monic division.next with_term
    next_cut next_division all_free free_part retold coprime completion.degree mixes_degrees waits
    beside
    put_pair with_new covers skip_covered tidying.next without drop_from tail_or tail_from next_tail
    next_drop ahead put_by_lead by_lead less same plus lcm excess Algebra.times Algebra.shift
    Algebra.negate evaluate sum_over monomial_at power fraction Fraction.sum Fraction.product
    Fraction.opposite Fraction.inverse is_lowest reduce gcd
entries_are = refl

ends : next setting (trace (moves setting) 23 fresh).1 ≡ answered 1 squares_basis divided_so
unfolding on trace next block starting closing_from analysis.after_iterations analysis.after_branch
    analysis.after relation
    relations_to start_list start_polynomial in_order branch_map after_branch after_statement store
    value_of variables unit_exponents constant collect insert place scale_terms compare blocks
    grevlex
    elimination.next completion.next with_element with_elements s_polynomial next_reduction
    next_pair next_completion
    lead_of tail_of lead_number divides cut_by find_cut after_cut monic division.next with_term
    next_cut next_division all_free free_part retold coprime completion.degree mixes_degrees waits
    beside
    put_pair with_new covers skip_covered tidying.next without drop_from tail_or tail_from next_tail
    next_drop ahead put_by_lead by_lead less same plus lcm excess Algebra.times Algebra.shift
    Algebra.negate evaluate sum_over monomial_at power fraction Fraction.sum Fraction.product
    Fraction.opposite Fraction.inverse is_lowest reduce gcd
ends = refl

pub squares_answered : IsAnswered squares asked asked_journal 1 squares_basis divided_so
squares_answered = record {
  state = (trace (moves setting) 23 fresh).1;
  follows = record {
    forms = squares_form ∷ [];
    are_forms = squares_are_forms;
    run = subst (λ es. IsRun (moves setting) fresh es (trace (moves setting) 23 fresh).1)
        entries_are (run_of (moves setting) 23 fresh);
  };
  is = ends;
}

asked_polynomial : IsPolynomial ℚ grevlex 3 asked
unfolding Each Falls compare grevlex
asked_polynomial = record {
  nonzero = (
    ℚ_field.one-ne-zero,
    (
      λ e. no_two (whole_injective (pos 2) (pos 0) e),
      (λ e. no_minus (whole_injective (negsuc 0) (pos 0) e), (ℚ_field.one-ne-zero, tt)),
    ),
  );
  arity = (refl, (refl, (refl, (refl, tt))));
  falls = ((refl, (refl, (refl, tt))), ((refl, (refl, tt)), ((refl, tt), (tt, tt))));
}
  where
    no_two : pos 2 ≡ pos 0 → ⊥
    no_two e = cc

    no_minus : negsuc 0 ≡ pos 0 → ⊥
    no_minus e = cc

pub squares_invariant : Inv squares asked
squares_invariant = (answered_decides_all squares squares_formed asked asked_polynomial
    asked_journal 1 squares_basis divided_so squares_answered).0 refl

-- ---- out of a limit of no unit
abbrev plain_setting : Setting
plain_setting = setting_of squares (squares_form ∷ []) None

abbrev begun_so : State × State
begun_so = ((trace (moves plain_setting) 2 fresh).1, (trace (moves plain_setting) 3 fresh).1)

first_are : (trace (moves plain_setting) 2 fresh).0 ≡ Begin Start ∷ Begin (Closed 0 1 1) ∷ []
unfolding on trace next block starting closing_from analysis.after_iterations analysis.after_branch
    analysis.after relation
    relations_to start_list start_polynomial in_order branch_map after_branch after_statement store
    value_of variables unit_exponents constant collect insert place scale_terms compare blocks
    grevlex
    elimination.next completion.next with_element with_elements s_polynomial next_reduction
    next_pair next_completion
    lead_of tail_of lead_number divides cut_by find_cut after_cut monic division.next with_term
    next_cut next_division all_free free_part retold coprime completion.degree mixes_degrees waits
    beside
    put_pair with_new covers skip_covered tidying.next without drop_from tail_or tail_from next_tail
    next_drop ahead put_by_lead by_lead less same plus lcm excess Algebra.times Algebra.shift
    Algebra.negate evaluate sum_over monomial_at power fraction Fraction.sum Fraction.product
    Fraction.opposite Fraction.inverse is_lowest reduce gcd
first_are = refl

then_cut : next plain_setting begun_so.0 ≡ goes (Did (Cut 0)) begun_so.1
unfolding on trace next block starting closing_from analysis.after_iterations analysis.after_branch
    analysis.after relation
    relations_to start_list start_polynomial in_order branch_map after_branch after_statement store
    value_of variables unit_exponents constant collect insert place scale_terms compare blocks
    grevlex
    elimination.next completion.next with_element with_elements s_polynomial next_reduction
    next_pair next_completion
    lead_of tail_of lead_number divides cut_by find_cut after_cut monic division.next with_term
    next_cut next_division all_free free_part retold coprime completion.degree mixes_degrees waits
    beside
    put_pair with_new covers skip_covered tidying.next without drop_from tail_or tail_from next_tail
    next_drop ahead put_by_lead by_lead less same plus lcm excess Algebra.times Algebra.shift
    Algebra.negate evaluate sum_over monomial_at power fraction Fraction.sum Fraction.product
    Fraction.opposite Fraction.inverse is_lowest reduce gcd
then_cut = refl

pub squares_out : IsOut squares None 0 (Begin Start ∷ Begin (Closed 0 1 1) ∷ [])
unfolding units_of
squares_out = record {
  entry = Did (Cut 0);
  state = begun_so.1;
  comes = record {
    state = begun_so.0;
    follows = record {
      forms = squares_form ∷ [];
      are_forms = squares_are_forms;
      run = subst (λ es. IsRun (moves plain_setting) fresh es begun_so.0) first_are
          (run_of (moves plain_setting) 2 fresh);
    };
    is = then_cut;
  };
  unit = refl;
  exhausted = refl;
}
