-- A trace by computation: that of the loop vars a, s, t; init a=0, s=1, t=1; branch { a=a+1; t=t+2; s=s+t; }, whose analysis ends with round 1.
--   squares_entries, squares_done    its entries, and what it gives, as another program has found them
--   squares_traced                   it is finished with these
--   signs_entries_are, signs_end     the same of vars x; init x=1; branch { x=x; } branch { x=-x; }, with an intersection
--   squares_full                     so it gives a valid full certificate
use Rattle.std.proofs.Common.{◌≡◌, ℕ, zero, suc, ◌<◌, pos, negsuc, List, [], ◌∷◌, refl, subst, arith, None, Some}
use Rattle.std.specs.Prelude.{⊤}
use Rattle.algebra.specs.Arithmetic.{power}
use Rattle.algebra.specs.Sum.{sum_over}
use Rattle.algebra.specs.Gcd.{gcd}
use Rattle.algebra.specs.Ratio.{is_lowest, reduce}
use Rattle.algebra.specs.Fraction as Fraction
use Rattle.algebra.specs.Fraction.{Fraction, fraction, over, whole}
use Rattle.algebra.proofs.Fractions.{fraction_eq}
use Rattle.polynomials.specs.Algebra as Algebra
use Rattle.polynomials.specs.Exponent.{same, plus, over as less, lcm, unit_exponents}
use Rattle.polynomials.specs.Order.{compare, grevlex, blocks}
use Rattle.polynomials.specs.Terms.{Terms, combination, constant, variables, evaluate, monomial_at, retold}
use Rattle.polynomials.proofs.SameDecided.{agree_at, test_same}
use Rattle.exponentials.specs.Keys.{excess}
use Rattle.machines.specs.Collect.{collect, insert, place, scale_terms}
use Rattle.machines.specs.Completion as completion
use Rattle.machines.specs.Completion.{with_element, with_elements, s_polynomial, next_reduction, next_pair, next_completion}
use Rattle.machines.specs.Cut.{lead_of, tail_of, lead_number, divides, cut_by, find_cut, after_cut, monic}
use Rattle.machines.specs.Division as division
use Rattle.machines.specs.Division.{with_term, next_cut, next_division}
use Rattle.machines.specs.Elimination.{all_free, free_part}
use Rattle.machines.specs.Event.{Pair, Cut, Keep, Zero}
use Rattle.machines.specs.Journal.{Entry, Begin, Did, Start, Orbit, Meet}
use Rattle.machines.specs.Pairs.{coprime, mixes_degrees, waits, beside, put_pair, with_new, covers, skip_covered}
use Rattle.machines.specs.Tidying as tidying
use Rattle.machines.specs.Tidying.{without, drop_from, tail_or, tail_from, next_tail, next_drop, ahead, put_by_lead, by_lead}
use Rattle.machines.specs.Run.{IsRun}
use Rattle.machines.proofs.Runs.{on, trace, run_of}
use Rattle.loops.specs.Effect.{init_statement, start_from, store, value_of, after_statement, after_branch as after_statements}
use Rattle.loops.specs.Map.{branch_map, start_map}
use Rattle.loops.specs.Certificate.{IsValid, PassesStart, PassesStep}
use Rattle.loops.specs.Program.{Expr, Program, number, variable, neg}
use Rattle.loops.proofs.Examples.{assign, given, squares}
use Rattle.rounds.specs.Analysis.{Setting, block, starting}
use Rattle.rounds.specs.Form.{relation, relations_to}
use Rattle.rounds.specs.Journal.{setting_of}
use Rattle.rounds.specs.Start.{start_list, start_polynomial, in_order}
use Rattle.corollaries.specs.Full.{WrittenForm}
use Rattle.rounds.proofs.Squares.{squares_form, squares_journal, squares_basis, squares_are_forms, squares_finished}
use Rattle.rounds.proofs.SquaresAsked.{squares_formed}
use Rattle.corollaries.specs.Parts.{AllHold}
use Rattle.corollaries.specs.Representation.{pairs_of}
use Rattle.corollaries.specs.Stage.{no_stage}
use Rattle.corollaries.specs.Certified.{full_from}
use Rattle.corollaries.specs.Followed.{IsFinished}
use Rattle.corollaries.specs.Trace.{Results, fresh, finished, list_dividends, link_dividends, stage_of, next, moves, after_branch, after, link_from, divide_from}
use Rattle.corollaries.proofs.Certified.{finished_full}
use Rattle.corollaries.proofs.Examples.{tested}

abbrev one : Fraction
one = whole (pos 1)

abbrev minus : Fraction
minus = whole (negsuc 0)

abbrev setting : Setting
setting = setting_of squares (squares_form ∷ []) None

abbrev pub squares_entries : List Entry
squares_entries =
    Begin Start ∷ Did (Cut 2) ∷ Did Zero ∷ Did (Cut 1) ∷ Did Zero ∷ Did (Cut 0) ∷ Did Zero
    ∷ Begin (Orbit 1 1)
    ∷ Did (Pair 0 2) ∷ Did Keep ∷ Did (Pair 0 1) ∷ Did (Cut 0) ∷ Did (Cut 0) ∷ Did Keep
    ∷ Did (Cut 0) ∷ Did Zero
    ∷ Did (Cut 0) ∷ Did (Cut 0) ∷ Did (Cut 0) ∷ Did (Cut 5) ∷ Did Zero ∷ Did (Cut 0) ∷ Did (Cut 4)
    ∷ Did Zero
    ∷ Did (Cut 3) ∷ Did Zero ∷ Did (Pair 0 1) ∷ Did (Cut 0) ∷ Did (Cut 0) ∷ Did (Cut 5) ∷ Did Zero
    ∷ Did (Pair 0 2)
    ∷ Did (Cut 4) ∷ Did Zero ∷ Did (Pair 0 3) ∷ Did (Cut 3) ∷ Did (Cut 3) ∷ Did (Cut 0) ∷ Did Zero
    ∷ Did (Pair 0 4)
    ∷ Did (Cut 0) ∷ Did (Cut 0) ∷ Did (Cut 4) ∷ Did (Cut 4) ∷ Did Zero ∷ Did (Pair 0 5)
    ∷ Did (Cut 0) ∷ Did (Cut 0)
    ∷ Did (Cut 0) ∷ Did (Cut 5) ∷ Did (Cut 5) ∷ Did Zero ∷ Did (Pair 1 2) ∷ Did (Cut 0)
    ∷ Did (Cut 0) ∷ Did (Cut 0)
    ∷ Did (Cut 4) ∷ Did (Cut 5) ∷ Did (Cut 4) ∷ Did Zero ∷ Did (Pair 1 3) ∷ Did (Cut 0)
    ∷ Did (Cut 0) ∷ Did (Cut 0)
    ∷ Did (Cut 3) ∷ Did (Cut 3) ∷ Did (Cut 3) ∷ Did (Cut 0) ∷ Did (Cut 0) ∷ Did (Cut 5) ∷ Did Zero
    ∷ Did (Pair 1 4)
    ∷ Did (Cut 0) ∷ Did (Cut 0) ∷ Did (Cut 0) ∷ Did (Cut 0) ∷ Did (Cut 0) ∷ Did (Cut 0)
    ∷ Did (Cut 0) ∷ Did (Cut 4)
    ∷ Did (Cut 5) ∷ Did (Cut 4) ∷ Did (Cut 5) ∷ Did (Cut 4) ∷ Did Zero ∷ Did (Pair 1 5)
    ∷ Did (Cut 0) ∷ Did (Cut 0)
    ∷ Did (Cut 0) ∷ Did (Cut 0) ∷ Did (Cut 0) ∷ Did (Cut 0) ∷ Did (Cut 0) ∷ Did (Cut 0)
    ∷ Did (Cut 0) ∷ Did (Cut 5)
    ∷ Did (Cut 5) ∷ Did (Cut 5) ∷ Did Zero ∷ Did (Pair 2 3) ∷ Did (Cut 3) ∷ Did (Cut 0)
    ∷ Did (Cut 4) ∷ Did Zero
    ∷ Did (Pair 2 4) ∷ Did (Cut 0) ∷ Did (Cut 0) ∷ Did (Cut 4) ∷ Did (Cut 4) ∷ Did (Cut 4)
    ∷ Did Zero ∷ Did (Pair 2 5)
    ∷ Did (Cut 0) ∷ Did (Cut 0) ∷ Did (Cut 0) ∷ Did (Cut 4) ∷ Did (Cut 5) ∷ Did (Cut 5) ∷ Did Zero
    ∷ Did (Pair 3 4)
    ∷ Did (Cut 3) ∷ Did (Cut 3) ∷ Did (Cut 4) ∷ Did Zero ∷ Did (Pair 3 5) ∷ Did (Cut 3)
    ∷ Did (Cut 3) ∷ Did (Cut 3)
    ∷ Did (Cut 5) ∷ Did Zero ∷ Did (Pair 4 5) ∷ Did (Cut 5) ∷ Did (Cut 4) ∷ Did (Cut 4)
    ∷ Did (Cut 5) ∷ Did (Cut 4)
    ∷ Did Zero ∷ Did (Cut 0) ∷ Did Zero ∷ Did (Cut 1) ∷ Did Zero ∷ []

abbrev pub squares_done : Results
squares_done = record {
  start_out = ((0 ∷ 0 ∷ 1 ∷ [], one) ∷ (0 ∷ 0 ∷ 0 ∷ [], minus) ∷ [])
      ∷ ((0 ∷ 1 ∷ 0 ∷ [], one) ∷ (0 ∷ 0 ∷ 0 ∷ [], minus) ∷ []) ∷ ((1 ∷ 0 ∷ 0 ∷ [], one) ∷ []) ∷ [];
  start_links = ([] ∷ [] ∷ ((0 ∷ 0 ∷ 0 ∷ [], one) ∷ []) ∷ []) ∷ ([] ∷ ((0 ∷ 0 ∷ 0 ∷ [], one) ∷ [])
      ∷ [] ∷ []) ∷ (((0 ∷ 0 ∷ 0 ∷ [], one) ∷ []) ∷ [] ∷ [] ∷ []) ∷ [];
  rounds = ((record {
    orbit_stage =
        record {
          list =
              ((1 ∷ 0 ∷ 0 ∷ 0 ∷ 0 ∷ [], one) ∷ (0 ∷ 0 ∷ 0 ∷ 0 ∷ 1 ∷ [], over (negsuc 0) 2)
              ∷ (0 ∷ 0 ∷ 0 ∷ 0 ∷ 0 ∷ [], over (pos 1) 2) ∷ []) ∷ ((2 ∷ 0 ∷ 0 ∷ 0 ∷ 0 ∷ [], one)
              ∷ (1 ∷ 0 ∷ 0 ∷ 0 ∷ 1 ∷ [], minus) ∷ (1 ∷ 0 ∷ 0 ∷ 0 ∷ 0 ∷ [], minus)
              ∷ (0 ∷ 0 ∷ 0 ∷ 1 ∷ 0 ∷ [], one) ∷ (0 ∷ 0 ∷ 0 ∷ 0 ∷ 0 ∷ [], minus) ∷ [])
              ∷ ((1 ∷ 0 ∷ 0 ∷ 0 ∷ 0 ∷ [], one) ∷ (0 ∷ 0 ∷ 1 ∷ 0 ∷ 0 ∷ [], minus) ∷ [])
              ∷ ((0 ∷ 2 ∷ 0 ∷ 0 ∷ 0 ∷ [], one) ∷ (0 ∷ 0 ∷ 0 ∷ 0 ∷ 0 ∷ [], minus) ∷ [])
              ∷ ((0 ∷ 0 ∷ 1 ∷ 0 ∷ 0 ∷ [], one) ∷ (0 ∷ 0 ∷ 0 ∷ 0 ∷ 1 ∷ [], over (negsuc 0) 2)
              ∷ (0 ∷ 0 ∷ 0 ∷ 0 ∷ 0 ∷ [], over (pos 1) 2) ∷ []) ∷ ((0 ∷ 0 ∷ 0 ∷ 0 ∷ 2 ∷ [], one)
              ∷ (0 ∷ 0 ∷ 0 ∷ 1 ∷ 0 ∷ [], whole (negsuc 3)) ∷ (0 ∷ 0 ∷ 0 ∷ 0 ∷ 1 ∷ [], whole (pos 2))
              ∷ (0 ∷ 0 ∷ 0 ∷ 0 ∷ 0 ∷ [], one) ∷ []) ∷ [];
          gens =
              (((0 ∷ 0 ∷ 0 ∷ 0 ∷ 0 ∷ [], whole (negsuc 1)) ∷ []) ∷ [] ∷ [] ∷ [] ∷ [] ∷ [] ∷ [])
              ∷ (((1 ∷ 0 ∷ 0 ∷ 0 ∷ 0 ∷ [], one) ∷ (0 ∷ 0 ∷ 0 ∷ 0 ∷ 1 ∷ [], over (negsuc 0) 2)
              ∷ (0 ∷ 0 ∷ 0 ∷ 0 ∷ 0 ∷ [], over (negsuc 2) 2) ∷ []) ∷ [] ∷ [] ∷ [] ∷ []
              ∷ ((0 ∷ 0 ∷ 0 ∷ 0 ∷ 0 ∷ [], over (negsuc 0) 4) ∷ []) ∷ [])
              ∷ (((0 ∷ 0 ∷ 0 ∷ 0 ∷ 0 ∷ [], minus) ∷ []) ∷ [] ∷ [] ∷ []
              ∷ ((0 ∷ 0 ∷ 0 ∷ 0 ∷ 0 ∷ [], one) ∷ []) ∷ [] ∷ [])
              ∷ ([] ∷ [] ∷ [] ∷ ((0 ∷ 0 ∷ 0 ∷ 0 ∷ 0 ∷ [], one) ∷ []) ∷ [] ∷ [] ∷ []) ∷ [];
          pairs =
              (((0 ∷ 0 ∷ 0 ∷ 0 ∷ 1 ∷ [], over (pos 1) 2) ∷ (0 ∷ 0 ∷ 0 ∷ 0 ∷ 0 ∷ [], over (pos 3) 2)
              ∷ []) ∷ [] ∷ [] ∷ [] ∷ [] ∷ ((0 ∷ 0 ∷ 0 ∷ 0 ∷ 0 ∷ [], over (pos 1) 4) ∷ []) ∷ [])
              ∷ ([] ∷ [] ∷ [] ∷ [] ∷ ((0 ∷ 0 ∷ 0 ∷ 0 ∷ 0 ∷ [], one) ∷ []) ∷ [] ∷ [])
              ∷ (((0 ∷ 0 ∷ 0 ∷ 0 ∷ 0 ∷ [], one) ∷ []) ∷ [] ∷ []
              ∷ ((0 ∷ 0 ∷ 0 ∷ 0 ∷ 1 ∷ [], over (negsuc 0) 2) ∷ (
                0 ∷ 0 ∷ 0 ∷ 0 ∷ 0 ∷ [],
                over (pos 1) 2,
              ) ∷ []) ∷ [] ∷ [] ∷ [])
              ∷ (((0 ∷ 0 ∷ 0 ∷ 0 ∷ 1 ∷ [], over (pos 1) 2) ∷ (
                0 ∷ 0 ∷ 0 ∷ 0 ∷ 0 ∷ [],
                over (negsuc 0) 2,
              ) ∷ []) ∷ [] ∷ [] ∷ [] ∷ ((0 ∷ 0 ∷ 0 ∷ 0 ∷ 1 ∷ [], over (negsuc 0) 2)
              ∷ (0 ∷ 0 ∷ 0 ∷ 0 ∷ 0 ∷ [], over (pos 1) 2) ∷ []) ∷ [] ∷ [])
              ∷ (((0 ∷ 0 ∷ 0 ∷ 1 ∷ 0 ∷ [], whole (pos 4)) ∷ (
                0 ∷ 0 ∷ 0 ∷ 0 ∷ 1 ∷ [],
                whole (negsuc 1),
              ) ∷ (0 ∷ 0 ∷ 0 ∷ 0 ∷ 0 ∷ [], minus) ∷ []) ∷ [] ∷ [] ∷ [] ∷ []
              ∷ ((0 ∷ 0 ∷ 0 ∷ 0 ∷ 1 ∷ [], over (negsuc 0) 2) ∷ (
                0 ∷ 0 ∷ 0 ∷ 0 ∷ 0 ∷ [],
                over (pos 1) 2,
              ) ∷ []) ∷ [])
              ∷ (((0 ∷ 0 ∷ 1 ∷ 0 ∷ 0 ∷ [], one) ∷ (0 ∷ 0 ∷ 0 ∷ 0 ∷ 1 ∷ [], minus)
              ∷ (0 ∷ 0 ∷ 0 ∷ 0 ∷ 0 ∷ [], minus) ∷ []) ∷ [] ∷ [] ∷ []
              ∷ ((0 ∷ 0 ∷ 0 ∷ 0 ∷ 1 ∷ [], over (pos 1) 2) ∷ (
                0 ∷ 0 ∷ 0 ∷ 0 ∷ 0 ∷ [],
                over (negsuc 0) 2,
              ) ∷ []) ∷ ((0 ∷ 0 ∷ 0 ∷ 0 ∷ 0 ∷ [], over (negsuc 0) 4) ∷ []) ∷ [])
              ∷ (((0 ∷ 2 ∷ 0 ∷ 0 ∷ 1 ∷ [], minus) ∷ (0 ∷ 2 ∷ 0 ∷ 0 ∷ 0 ∷ [], minus)
              ∷ (1 ∷ 0 ∷ 0 ∷ 0 ∷ 0 ∷ [], one) ∷ (0 ∷ 0 ∷ 0 ∷ 0 ∷ 1 ∷ [], over (pos 1) 2)
              ∷ (0 ∷ 0 ∷ 0 ∷ 0 ∷ 0 ∷ [], over (negsuc 0) 2) ∷ []) ∷ [] ∷ []
              ∷ ((0 ∷ 0 ∷ 0 ∷ 0 ∷ 2 ∷ [], over (negsuc 0) 2) ∷ (0 ∷ 0 ∷ 0 ∷ 1 ∷ 0 ∷ [], one)
              ∷ (0 ∷ 0 ∷ 0 ∷ 0 ∷ 0 ∷ [], over (negsuc 0) 2) ∷ []) ∷ []
              ∷ ((0 ∷ 0 ∷ 0 ∷ 0 ∷ 0 ∷ [], over (negsuc 0) 4) ∷ []) ∷ [])
              ∷ (((1 ∷ 0 ∷ 0 ∷ 0 ∷ 1 ∷ [], over (pos 1) 2) ∷ (
                1 ∷ 0 ∷ 0 ∷ 0 ∷ 0 ∷ [],
                over (negsuc 0) 2,
              ) ∷ (0 ∷ 0 ∷ 1 ∷ 0 ∷ 1 ∷ [], minus) ∷ (
                0 ∷ 0 ∷ 0 ∷ 0 ∷ 2 ∷ [],
                over (pos 1) 4,
              ) ∷ (0 ∷ 0 ∷ 1 ∷ 0 ∷ 0 ∷ [], minus) ∷ (
                0 ∷ 0 ∷ 0 ∷ 0 ∷ 1 ∷ [],
                over (negsuc 0) 2,
              ) ∷ (0 ∷ 0 ∷ 0 ∷ 0 ∷ 0 ∷ [], over (pos 1) 4) ∷ []) ∷ [] ∷ [] ∷ []
              ∷ ((0 ∷ 0 ∷ 0 ∷ 0 ∷ 2 ∷ [], over (negsuc 0) 2) ∷ (0 ∷ 0 ∷ 0 ∷ 1 ∷ 0 ∷ [], one)
              ∷ (0 ∷ 0 ∷ 0 ∷ 0 ∷ 0 ∷ [], over (negsuc 0) 2) ∷ [])
              ∷ ((0 ∷ 0 ∷ 0 ∷ 0 ∷ 1 ∷ [], over (negsuc 0) 8) ∷ (
                0 ∷ 0 ∷ 0 ∷ 0 ∷ 0 ∷ [],
                over (pos 1) 8,
              ) ∷ []) ∷ [])
              ∷ (((1 ∷ 0 ∷ 0 ∷ 1 ∷ 0 ∷ [], whole (pos 4)) ∷ (
                1 ∷ 0 ∷ 0 ∷ 0 ∷ 1 ∷ [],
                whole (negsuc 1),
              ) ∷ (1 ∷ 0 ∷ 0 ∷ 0 ∷ 0 ∷ [], minus) ∷ (0 ∷ 0 ∷ 0 ∷ 0 ∷ 3 ∷ [], minus)
              ∷ (0 ∷ 0 ∷ 0 ∷ 1 ∷ 1 ∷ [], whole (pos 2)) ∷ (0 ∷ 0 ∷ 0 ∷ 0 ∷ 2 ∷ [], whole (negsuc 1))
              ∷ (0 ∷ 0 ∷ 0 ∷ 1 ∷ 0 ∷ [], whole (negsuc 1)) ∷ (
                0 ∷ 0 ∷ 0 ∷ 0 ∷ 1 ∷ [],
                over (pos 1) 2,
              ) ∷ (0 ∷ 0 ∷ 0 ∷ 0 ∷ 0 ∷ [], over (pos 1) 2) ∷ []) ∷ [] ∷ [] ∷ [] ∷ []
              ∷ ((0 ∷ 0 ∷ 0 ∷ 0 ∷ 2 ∷ [], over (negsuc 0) 2) ∷ (
                0 ∷ 0 ∷ 0 ∷ 0 ∷ 1 ∷ [],
                over (pos 1) 2,
              ) ∷ (0 ∷ 0 ∷ 0 ∷ 0 ∷ 0 ∷ [], over (negsuc 0) 4) ∷ []) ∷ [])
              ∷ (((0 ∷ 0 ∷ 0 ∷ 0 ∷ 0 ∷ [], one) ∷ []) ∷ [] ∷ [] ∷ ((0 ∷ 0 ∷ 1 ∷ 0 ∷ 0 ∷ [], minus)
              ∷ []) ∷ ((0 ∷ 0 ∷ 0 ∷ 0 ∷ 0 ∷ [], minus) ∷ []) ∷ [] ∷ [])
              ∷ (((0 ∷ 0 ∷ 0 ∷ 0 ∷ 1 ∷ [], over (pos 1) 2) ∷ (
                0 ∷ 0 ∷ 0 ∷ 0 ∷ 0 ∷ [],
                over (negsuc 0) 2,
              ) ∷ []) ∷ [] ∷ [] ∷ [] ∷ ((0 ∷ 0 ∷ 1 ∷ 0 ∷ 0 ∷ [], minus)
              ∷ (0 ∷ 0 ∷ 0 ∷ 0 ∷ 1 ∷ [], over (negsuc 0) 2) ∷ (
                0 ∷ 0 ∷ 0 ∷ 0 ∷ 0 ∷ [],
                over (pos 1) 2,
              ) ∷ []) ∷ [] ∷ [])
              ∷ (((0 ∷ 0 ∷ 0 ∷ 1 ∷ 0 ∷ [], whole (pos 4)) ∷ (
                0 ∷ 0 ∷ 0 ∷ 0 ∷ 1 ∷ [],
                whole (negsuc 1),
              ) ∷ (0 ∷ 0 ∷ 0 ∷ 0 ∷ 0 ∷ [], minus) ∷ []) ∷ [] ∷ [] ∷ []
              ∷ ((0 ∷ 0 ∷ 0 ∷ 0 ∷ 2 ∷ [], minus) ∷ [])
              ∷ ((0 ∷ 0 ∷ 0 ∷ 0 ∷ 1 ∷ [], over (negsuc 0) 2) ∷ (
                0 ∷ 0 ∷ 0 ∷ 0 ∷ 0 ∷ [],
                over (pos 1) 2,
              ) ∷ []) ∷ [])
              ∷ ([] ∷ [] ∷ [] ∷ ((0 ∷ 0 ∷ 0 ∷ 0 ∷ 1 ∷ [], over (pos 1) 2) ∷ (
                0 ∷ 0 ∷ 0 ∷ 0 ∷ 0 ∷ [],
                over (negsuc 0) 2,
              ) ∷ []) ∷ ((0 ∷ 0 ∷ 0 ∷ 0 ∷ 0 ∷ [], minus) ∷ []) ∷ [] ∷ [])
              ∷ ([] ∷ [] ∷ [] ∷ ((0 ∷ 0 ∷ 0 ∷ 1 ∷ 0 ∷ [], whole (pos 4)) ∷ (
                0 ∷ 0 ∷ 0 ∷ 0 ∷ 1 ∷ [],
                whole (negsuc 1),
              ) ∷ (0 ∷ 0 ∷ 0 ∷ 0 ∷ 0 ∷ [], minus) ∷ []) ∷ []
              ∷ ((0 ∷ 0 ∷ 0 ∷ 0 ∷ 0 ∷ [], minus) ∷ []) ∷ [])
              ∷ ([] ∷ [] ∷ [] ∷ [] ∷ ((0 ∷ 0 ∷ 0 ∷ 1 ∷ 0 ∷ [], whole (pos 4))
              ∷ (0 ∷ 0 ∷ 0 ∷ 0 ∷ 1 ∷ [], whole (negsuc 1)) ∷ (0 ∷ 0 ∷ 0 ∷ 0 ∷ 0 ∷ [], minus) ∷ [])
              ∷ ((0 ∷ 0 ∷ 0 ∷ 0 ∷ 1 ∷ [], over (negsuc 0) 2) ∷ (
                0 ∷ 0 ∷ 0 ∷ 0 ∷ 0 ∷ [],
                over (pos 1) 2,
              ) ∷ []) ∷ []) ∷ [];
          out =
              ((1 ∷ 0 ∷ 0 ∷ [], one) ∷ (0 ∷ 0 ∷ 1 ∷ [], over (negsuc 0) 2) ∷ (
                0 ∷ 0 ∷ 0 ∷ [],
                over (pos 1) 2,
              ) ∷ []) ∷ ((0 ∷ 0 ∷ 2 ∷ [], one) ∷ (0 ∷ 1 ∷ 0 ∷ [], whole (negsuc 3))
              ∷ (0 ∷ 0 ∷ 1 ∷ [], whole (pos 2)) ∷ (0 ∷ 0 ∷ 0 ∷ [], one) ∷ []) ∷ [];
          links =
              (((0 ∷ 0 ∷ 0 ∷ [], one) ∷ []) ∷ [] ∷ []) ∷ ([] ∷ ((0 ∷ 0 ∷ 0 ∷ [], one) ∷ []) ∷ [])
              ∷ [];
        };
    meet_stage = None;
  }) ∷ []) ∷ [];
  branches = [];
  orbit_stage = no_stage;
}

abbrev pub squares_steps : List (List (List (Terms Fraction)))
squares_steps = ((((0 ∷ 0 ∷ 0 ∷ [], one) ∷ []) ∷ [] ∷ []) ∷ ([] ∷ ((0 ∷ 0 ∷ 0 ∷ [], one) ∷ []) ∷ [])
    ∷ []) ∷ []

entries_are : (trace (moves setting 1) 141 fresh).0 ≡ squares_entries
unfolding on trace next block starting list_dividends link_dividends stage_of after_branch after
    link_from divide_from relation relations_to start_list start_polynomial in_order branch_map
    after_statements after_statement store value_of variables unit_exponents constant collect insert
    place scale_terms compare blocks grevlex completion.next with_element with_elements s_polynomial
    next_reduction next_pair next_completion lead_of tail_of lead_number divides cut_by find_cut
    after_cut monic
    division.next with_term next_cut next_division all_free free_part retold coprime mixes_degrees
    waits beside
    put_pair with_new covers skip_covered tidying.next without drop_from tail_or tail_from next_tail
    next_drop ahead put_by_lead by_lead pairs_of less same plus lcm excess Algebra.times
    Algebra.shift
    Algebra.negate evaluate sum_over monomial_at power fraction Fraction.sum Fraction.product
    Fraction.opposite Fraction.inverse is_lowest reduce gcd completion.degree
entries_are = refl

ends : next setting 1 (trace (moves setting 1) 141 fresh).1 ≡ finished squares_done
unfolding on trace next block starting list_dividends link_dividends stage_of after_branch after
    link_from divide_from relation relations_to start_list start_polynomial in_order branch_map
    after_statements after_statement store value_of variables unit_exponents constant collect insert
    place scale_terms compare blocks grevlex completion.next with_element with_elements s_polynomial
    next_reduction next_pair next_completion lead_of tail_of lead_number divides cut_by find_cut
    after_cut monic
    division.next with_term next_cut next_division all_free free_part retold coprime mixes_degrees
    waits beside
    put_pair with_new covers skip_covered tidying.next without drop_from tail_or tail_from next_tail
    next_drop ahead put_by_lead by_lead pairs_of less same plus lcm excess Algebra.times
    Algebra.shift
    Algebra.negate evaluate sum_over monomial_at power fraction Fraction.sum Fraction.product
    Fraction.opposite Fraction.inverse is_lowest reduce gcd completion.degree
ends = refl

abbrev pub squares_written : WrittenForm
squares_written = record { base = squares_form.base; polys = squares_form.polys }

pub squares_traced : IsFinished squares 1 squares_entries squares_done
squares_traced = record {
  state = (trace (moves setting 1) 141 fresh).1;
  follows = record {
    forms = squares_written ∷ [];
    are_forms = squares_are_forms;
    run = subst (λ es. IsRun (moves setting 1) fresh es (trace (moves setting 1) 141 fresh).1)
        entries_are (run_of (moves setting 1) 141 fresh);
  };
  is = ends;
}

-- ---- the certificate in it
at_start : (i : ℕ) → i < 2
    → PassesStart squares (record { basis = squares_basis; steps = squares_steps }) i
unfolding combination start_map branch_map start_from init_statement after_statements
    after_statement store value_of variables unit_exponents constant evaluate sum_over monomial_at
    power Algebra.times Algebra.shift Algebra.negate Algebra.coefficient plus same collect insert
    place compare grevlex test_same agree_at fraction_eq fraction Fraction.sum Fraction.product
    Fraction.opposite Fraction.inverse is_lowest reduce gcd completion.degree
at_start zero l = tested _ _ refl
at_start (suc zero) l = tested _ _ refl
at_start (suc (suc i)) l = absurd (omega (arith, l))

at_step : (b i : ℕ) → b < 1 → i < 2
    → PassesStep squares (record { basis = squares_basis; steps = squares_steps }) b i
unfolding combination start_map branch_map start_from init_statement after_statements
    after_statement store value_of variables unit_exponents constant evaluate sum_over monomial_at
    power Algebra.times Algebra.shift Algebra.negate Algebra.coefficient plus same collect insert
    place compare grevlex test_same agree_at fraction_eq fraction Fraction.sum Fraction.product
    Fraction.opposite Fraction.inverse is_lowest reduce gcd completion.degree
at_step zero zero k l = tested _ _ refl
at_step zero (suc zero) k l = tested _ _ refl
at_step zero (suc (suc i)) k l = absurd (omega (arith, l))
at_step (suc b) i k l = absurd (omega (arith, k))

squares_valid : IsValid squares (record { basis = squares_basis; steps = squares_steps })
squares_valid = record { starts = λ i l. at_start i l; steps = λ b i k l. at_step b i k l }

pub squares_full : AllHold squares (full_from squares_basis squares_steps (squares_written ∷ [])
    squares_done)
unfolding squares_traced
squares_full = finished_full squares squares_formed squares_journal squares_entries 1 squares_basis
    squares_finished squares_done squares_traced squares_steps squares_valid

-- ---- vars x; init x=1; branch { x=x; } branch { x=-x; }, with an intersection
abbrev pub signs : Program (Expr ⊤)
signs = record {
  names = (120 ∷ []) ∷ [];
  locals = [];
  init = given 0 (number (pos 1)) ∷ [];
  branches = (assign 0 (variable 0) ∷ []) ∷ (assign 0 (neg tt (variable 0)) ∷ []) ∷ [];
}

abbrev signs_setting : Setting
signs_setting = setting_of signs (record {
  base = [];
  polys = ((0 ∷ 0 ∷ 1 ∷ [], one) ∷ []) ∷ [];
  since = 0;
}
    ∷ record { base = []; polys = ((0 ∷ 1 ∷ 1 ∷ [], one) ∷ []) ∷ []; since = 0 } ∷ []) None

abbrev pub signs_entries : List Entry
signs_entries =
    Begin Start ∷ Did (Cut 0) ∷ Did Zero ∷ Begin (Orbit 1 1) ∷ Did (Cut 0) ∷ Did Zero ∷ Did (Cut 1)
    ∷ Did Zero
    ∷ Did (Pair 0 1) ∷ Did (Cut 1) ∷ Did (Cut 0) ∷ Did Zero ∷ Did (Cut 0) ∷ Did Zero
    ∷ Begin (Orbit 1 2) ∷ Did (Pair 0 1)
    ∷ Did Keep ∷ Did (Pair 0 2) ∷ Did Keep ∷ Did (Pair 1 2) ∷ Did (Cut 0) ∷ Did Zero ∷ Did (Cut 0)
    ∷ Did Zero
    ∷ Did (Cut 1) ∷ Did Zero ∷ Did (Pair 0 1) ∷ Did (Cut 2) ∷ Did Zero ∷ Did (Pair 0 2)
    ∷ Did (Cut 3) ∷ Did Zero
    ∷ Did (Pair 0 3) ∷ Did (Cut 2) ∷ Did Zero ∷ Did (Pair 1 2) ∷ Did (Cut 0) ∷ Did Zero
    ∷ Did (Pair 1 3) ∷ Did (Cut 1)
    ∷ Did (Cut 3) ∷ Did Zero ∷ Did (Pair 2 3) ∷ Did (Cut 2) ∷ Did (Cut 3) ∷ Did Zero ∷ Did (Cut 0)
    ∷ Did Zero
    ∷ Begin (Meet 1 2) ∷ Did (Pair 0 1) ∷ Did (Cut 0) ∷ Did Keep ∷ Did (Pair 0 2) ∷ Did (Cut 0)
    ∷ Did Zero ∷ Did (Cut 0)
    ∷ Did Zero ∷ Did (Cut 0) ∷ Did (Cut 0) ∷ Did (Cut 2) ∷ Did Zero ∷ Did (Pair 0 1) ∷ Did (Cut 0)
    ∷ Did (Cut 2)
    ∷ Did Zero ∷ Did (Pair 0 2) ∷ Did (Cut 0) ∷ Did Zero ∷ Did (Pair 1 2) ∷ Did (Cut 2) ∷ Did Zero
    ∷ Did (Cut 0)
    ∷ Did Zero ∷ []

abbrev pub signs_done : Results
signs_done = record {
  start_out = ((1 ∷ [], one) ∷ (0 ∷ [], minus) ∷ []) ∷ [];
  start_links = (((0 ∷ [], one) ∷ []) ∷ []) ∷ [];
  rounds = ((record {
    orbit_stage =
        record {
          list = ((0 ∷ 0 ∷ 1 ∷ [], one) ∷ (0 ∷ 0 ∷ 0 ∷ [], minus) ∷ [])
              ∷ ((0 ∷ 2 ∷ 0 ∷ [], one) ∷ (0 ∷ 0 ∷ 0 ∷ [], minus) ∷ []) ∷ [];
          gens =
              (((0 ∷ 0 ∷ 0 ∷ [], one) ∷ []) ∷ [] ∷ []) ∷ ([] ∷ ((0 ∷ 0 ∷ 0 ∷ [], one) ∷ []) ∷ [])
              ∷ [];
          pairs = (((0 ∷ 0 ∷ 0 ∷ [], one) ∷ []) ∷ ((0 ∷ 0 ∷ 0 ∷ [], minus) ∷ []) ∷ [])
              ∷ [];
          out = ((1 ∷ [], one) ∷ (0 ∷ [], minus) ∷ []) ∷ [];
          links = (((0 ∷ [], one) ∷ []) ∷ []) ∷ [];
        };
    meet_stage = None;
  })
      ∷ (record {
        orbit_stage =
            record {
              list = ((0 ∷ 1 ∷ 1 ∷ [], one) ∷ (0 ∷ 0 ∷ 0 ∷ [], minus) ∷ [])
                  ∷ ((0 ∷ 2 ∷ 0 ∷ [], one) ∷ (0 ∷ 0 ∷ 0 ∷ [], minus) ∷ [])
                  ∷ ((0 ∷ 1 ∷ 0 ∷ [], one) ∷ (0 ∷ 0 ∷ 1 ∷ [], minus) ∷ [])
                  ∷ ((0 ∷ 0 ∷ 2 ∷ [], one) ∷ (0 ∷ 0 ∷ 0 ∷ [], minus) ∷ []) ∷ [];
              gens =
                  (((0 ∷ 0 ∷ 0 ∷ [], one) ∷ []) ∷ [] ∷ [] ∷ [] ∷ [])
                  ∷ ([] ∷ ((0 ∷ 0 ∷ 0 ∷ [], one) ∷ []) ∷ [] ∷ [] ∷ []) ∷ [];
              pairs =
                  ([] ∷ [] ∷ ((0 ∷ 0 ∷ 0 ∷ [], minus) ∷ []) ∷ [] ∷ [])
                  ∷ ([] ∷ [] ∷ [] ∷ ((0 ∷ 0 ∷ 0 ∷ [], one) ∷ []) ∷ [])
                  ∷ ([] ∷ [] ∷ ((0 ∷ 0 ∷ 0 ∷ [], one) ∷ []) ∷ [] ∷ [])
                  ∷ (((0 ∷ 0 ∷ 0 ∷ [], one) ∷ []) ∷ [] ∷ [] ∷ [] ∷ [])
                  ∷ ([] ∷ ((0 ∷ 0 ∷ 0 ∷ [], one) ∷ []) ∷ []
                  ∷ ((0 ∷ 0 ∷ 0 ∷ [], minus) ∷ []) ∷ []) ∷ ([] ∷ [] ∷ ((0 ∷ 0 ∷ 0 ∷ [], one) ∷ [])
                  ∷ ((0 ∷ 0 ∷ 1 ∷ [], minus) ∷ []) ∷ []) ∷ [];
              out = ((2 ∷ [], one) ∷ (0 ∷ [], minus) ∷ []) ∷ [];
              links = (((0 ∷ [], one) ∷ []) ∷ [])
                  ∷ [];
            };
        meet_stage =
            Some (record {
              list = ((1 ∷ 1 ∷ [], one) ∷ (1 ∷ 0 ∷ [], minus) ∷ [])
                  ∷ ((1 ∷ 2 ∷ [], one) ∷ (1 ∷ 0 ∷ [], minus) ∷ (0 ∷ 2 ∷ [], minus)
                  ∷ (0 ∷ 0 ∷ [], one) ∷ []) ∷ ((0 ∷ 2 ∷ [], one) ∷ (0 ∷ 0 ∷ [], minus) ∷ []) ∷ [];
              gens =
                  (((0 ∷ 0 ∷ [], one) ∷ []) ∷ [] ∷ [] ∷ [])
                  ∷ (((0 ∷ 1 ∷ [], minus) ∷ (0 ∷ 0 ∷ [], minus) ∷ []) ∷ []
                  ∷ ((0 ∷ 0 ∷ [], one) ∷ []) ∷ []) ∷ [];
              pairs = (((0 ∷ 0 ∷ [], minus) ∷ []) ∷ [] ∷ ((0 ∷ 0 ∷ [], one) ∷ []) ∷ [])
                  ∷ (((0 ∷ 0 ∷ [], minus) ∷ []) ∷ [] ∷ [] ∷ [])
                  ∷ ([] ∷ [] ∷ ((0 ∷ 0 ∷ [], minus) ∷ []) ∷ []) ∷ [];
              out = ((2 ∷ [], one) ∷ (0 ∷ [], minus) ∷ []) ∷ [];
              links = (((0 ∷ [], one) ∷ []) ∷ []) ∷ [];
            });
      }) ∷ []) ∷ [];
  branches = [];
  orbit_stage = no_stage;
}

pub signs_entries_are : (trace (moves signs_setting 1) 73 fresh).0 ≡ signs_entries
unfolding on trace next block starting list_dividends link_dividends stage_of after_branch after
    link_from divide_from relation relations_to start_list start_polynomial in_order branch_map
    after_statements after_statement store value_of variables unit_exponents constant collect insert
    place scale_terms compare blocks grevlex completion.next with_element with_elements s_polynomial
    next_reduction next_pair next_completion lead_of tail_of lead_number divides cut_by find_cut
    after_cut monic
    division.next with_term next_cut next_division all_free free_part retold coprime mixes_degrees
    waits beside
    put_pair with_new covers skip_covered tidying.next without drop_from tail_or tail_from next_tail
    next_drop ahead put_by_lead by_lead pairs_of less same plus lcm excess Algebra.times
    Algebra.shift
    Algebra.negate evaluate sum_over monomial_at power fraction Fraction.sum Fraction.product
    Fraction.opposite Fraction.inverse is_lowest reduce gcd completion.degree
signs_entries_are = refl

pub signs_end : next signs_setting 1 (trace (moves signs_setting 1) 73 fresh).1
    ≡ finished signs_done
unfolding on trace next block starting list_dividends link_dividends stage_of after_branch after
    link_from divide_from relation relations_to start_list start_polynomial in_order branch_map
    after_statements after_statement store value_of variables unit_exponents constant collect insert
    place scale_terms compare blocks grevlex completion.next with_element with_elements s_polynomial
    next_reduction next_pair next_completion lead_of tail_of lead_number divides cut_by find_cut
    after_cut monic
    division.next with_term next_cut next_division all_free free_part retold coprime mixes_degrees
    waits beside
    put_pair with_new covers skip_covered tidying.next without drop_from tail_or tail_from next_tail
    next_drop ahead put_by_lead by_lead pairs_of less same plus lcm excess Algebra.times
    Algebra.shift
    Algebra.negate evaluate sum_over monomial_at power fraction Fraction.sum Fraction.product
    Fraction.opposite Fraction.inverse is_lowest reduce gcd completion.degree
signs_end = refl
