-- What `decide` and `prove` answer of vars x; init x=1; branch { x=-x; }: of x^2 = 1, which holds, and of x = 1, which doesn't.
--   run_narrow                   the numbers of the run with the word 1 fit
--   square_proved, square_tests  the divisions that prove the list of x^2 - 1 closed end, and all numbers are small
--   says                         so a call answers, where the closing of an equation ends and has small numbers
--   square_says_yes, number_says_no     yes of the one equation, and no of the other
use Rattle.std.proofs.Common.{◌≡◌, ◌≢◌, ◌⊎◌, inl, inr, ℕ, zero, suc, ◌<◌, ◌≤◌, pos, negsuc, true, List, [], ◌∷◌, length, refl, sym, subst, ◌∙◌, Some, Ok, Err, codes, arith, ap, ◌++◌}
use Rattle.std.specs.Prelude.{Result, map, Option}
use Rattle.std.proofs.lemmas.List.Elements.{All-head}
use Rattle.algebra.specs.Arithmetic.{power}
use Rattle.algebra.specs.Each.{Each}
use Rattle.algebra.specs.Sum.{sum_over}
use Rattle.algebra.specs.Gcd.{gcd}
use Rattle.algebra.specs.Gcd as gcd
use Rattle.algebra.specs.Ratio.{is_lowest, reduce}
use Rattle.algebra.specs.Fraction as Fraction
use Rattle.algebra.specs.Fraction.{Fraction, fraction, whole, fraction_size, fractions}
use Rattle.polynomials.specs.Algebra as Algebra
use Rattle.polynomials.specs.Exponent.{same, plus, lcm, unit_exponents, over as less}
use Rattle.polynomials.specs.Order.{compare, grevlex, blocks}
use Rattle.polynomials.specs.Terms.{Terms, constant, variables, evaluate, monomial_at}
use Rattle.polynomials.specs.Weight.{weight, degrees, composition_weight, composition_degrees, IsPastValue}
use Rattle.machines.specs.Collect.{collect, insert, place, scale_terms}
use Rattle.machines.specs.Cut.{lead_of, tail_of, lead_number, divides, cut_by, find_cut, after_cut, monic}
use Rattle.machines.specs.Division as division
use Rattle.machines.specs.Division.{with_term, next_cut, next_division}
use Rattle.machines.specs.Event.{Cut, Zero}
use Rattle.machines.specs.Journal.{Entry, Begin, Did, Closed, units_of}
use Rattle.machines.proofs.Runs.{on, trace, run_of}
use Rattle.machines.specs.Run.{IsRun}
use Rattle.loops.specs.Effect.{store, init_statement, value_of, after_statement, after_branch, start_from}
use Rattle.loops.specs.Map.{branch_map}
use Rattle.loops.specs.Program.{Expr, number, Equation}
use Rattle.loops.specs.Run.{branch_at, run_end}
use Rattle.loops.specs.Inv.{Inv}
use Rattle.corollaries.specs.Counter.{start_of}
use Rattle.corollaries.specs.Point.{wholes}
use Rattle.corollaries.proofs.Images.{refutes}
use Rattle.loop_model.specs.Maps.{maps_operations}
use Rattle.loop_runs.specs.Checked.{all_fit, checked_value}
use Rattle.loop_runs.specs.Replay.{RunFault, wide, replay_of, start_fault, values, branch_end, iteration_end, states_from}
use Rattle.counter_run.specs.Causes.{IsWideStart, IsWideRun}
use Rattle.closures.specs.Closing.{Candidate, fresh, closed, countered, next}
use Rattle.closures.specs.Ends.{ComesNext}
use Rattle.closures.proofs.Ended.{closed_invariants}
use Rattle.closures.specs.Certified.{AreOthers, IsListOf}
use Rattle.closures.specs.Proving as proving
use Rattle.closures.specs.Proving.{testing, tests, tests_of, tests_from}
use Rattle.closures.proofs.Agrees.{ends_once}
use Rattle.io_edge.specs.declared.answer.Status.TheVariants as status
use Rattle.io_edge.specs.Outcome.{Call}
use Rattle.io_edge.specs.Clauses.{IsExcused}
use Rattle.command_parts.specs.Equations.{equation_in, operations_of, polynomial_of}
use Rattle.command_parts.proofs.Polynomials.{holds_invariant}
use Rattle.closing_commands.proofs.SmallOperations.{small, low, all_small_operations, small_free, small_narrow, small_holds, low_holds}
use Rattle.closing_commands.proofs.SmallClosings.{quotient_small, difference_small, shift_low, cutting_small, left_small, step_small, small_closing_unlimited, small_closing_fits}
use Rattle.closing_commands.specs.declared.evidence.Evidence.{Evidence}
use Rattle.closing_commands.specs.declared.evidence.Evidence.TheVariants as kinds
use Rattle.closing_commands.specs.DecideArguments.{Request}
use Rattle.closing_commands.specs.Deciding.{HasCountered, IsWideWord}
use Rattle.closing_commands.specs.DecideClauses.{HasLimit, HasWideWord, HasWideTest, HasWide, HasEnd, EndsDecided, DecidesAny}
use Rattle.closing_commands.specs.ProvedLists.{AreProved}
use Rattle.closing_commands.proofs.SmallTests.{test_small, proving_small, rest_small, small_tests_fit}
use Rattle.closing_commands.proofs.NegatingLoop.{one, minus, negating, squares_are_one, numbers_are_one, negating_read, square_read, number_read, maps_small, square_operations, number_operations, square, single, square_is, single_is, square_journal, single_journal, counters_single, square_small, single_small, square_closed, single_countered, square_units, single_units, single_polynomial, square_holds, single_first, single_has, number_fails}

-- ---- the run with the word 1, from 1 to -1
begins_at_one : (xs : List ℕ) → length xs ≡ 1 → start_of negating xs ≡ one ∷ []
unfolding start_from init_statement after_statement store value_of wholes
begins_at_one [] e = absurd (omega (arith, e))
begins_at_one (x ∷ []) e = refl
begins_at_one (x ∷ y ∷ xs) e = absurd (omega (arith, e))

ends_at_minus : run_end negating (1 ∷ []) (one ∷ []) ≡ Some (minus ∷ [])
unfolding run_end branch_at after_branch after_statement store value_of fraction Fraction.opposite
    is_lowest gcd
ends_at_minus = refl

replayed : replay_of negating (one ∷ []) (1 ∷ []) ≡ Ok ((one ∷ []) ∷ (minus ∷ []) ∷ [])
unfolding replay_of start_fault values branch_end iteration_end states_from all_fit checked_value
    branch_at value_of store fraction Fraction.opposite is_lowest gcd
replayed = refl

value_weight : small (composition_weight fraction_size single (map (constant 0) (minus ∷ [])))
    ≡ true
unfolding small composition_weight weight evaluate sum_over monomial_at power constant gcd gcd.lcm
    fraction is_lowest
value_weight = refl

value_degrees : low (composition_degrees single (map (constant 0) (minus ∷ []))) ≡ true
unfolding low composition_degrees degrees evaluate sum_over monomial_at power constant plus lcm
value_degrees = refl

value_fits : IsPastValue fractions single (minus ∷ []) → ⊥
value_fits (inl w) =
    small_holds (composition_weight fraction_size single (map (constant 0) (minus ∷ [])))
    value_weight w
value_fits (inr n) =
    n (low_holds (composition_degrees single (map (constant 0) (minus ∷ []))) value_degrees)

start_narrow : (w : List ℕ) → IsWideStart negating single w → ⊥
start_narrow w h =
    go h.place h.within (All-head (λ (e : Equation (Expr ℕ)). h.place ≢ e.name)
    (record { name = 0; value = number (pos 1) }) [] h.is_free)
  where
    go : (place : ℕ) → place < 1 → (place ≡ 0 → ⊥) → ⊥
    go zero less free = free refl
    go (suc place) less free = omega (arith, less)

run_narrow : IsWideRun negating single (1 ∷ []) → ⊥
run_narrow h =
    let start = begins_at_one h.numbers h.first.count in
    elim h.cause [
      | inl (i, v, r) ↦
          let other : replay_of negating (one ∷ []) (1 ∷ []) ≡ Err (wide i v) =
          subst (λ s. replay_of negating s (1 ∷ []) ≡ Err (wide i v)) start r in
          let z : ◌≡◌ {A = Result (List (List Fraction)) RunFault}
          (Ok ((one ∷ []) ∷ (minus ∷ []) ∷ [])) (Err (wide i v)) = sym replayed ∙ other in
          let f : ⊥ = cc in
          f
      | inr (end, is, past) ↦
          let other : run_end negating (1 ∷ []) (one ∷ []) ≡ Some end =
          subst (λ s. run_end negating (1 ∷ []) s ≡ Some end) start is in
          let both : ◌≡◌ {A = Option (List Fraction)} (Some (minus ∷ [])) (Some end) =
          sym ends_at_minus ∙ other in
          let same : minus ∷ [] ≡ end = cc in
          value_fits (subst (IsPastValue fractions single) (sym same) past)
    ]

single_runs : (es : List Entry) (w : List ℕ) → HasCountered negating single es w
    → IsWideWord negating single w → ⊥
single_runs es w c h =
    let one = ends_once negating (single ∷ []) es single_journal _ _ refl refl c.ends
    single_countered in
    let both : countered c.candidate c.image
    ≡ countered counters_single ((0 ∷ [], whole (negsuc 1)) ∷ []) = one.1 in
    let candidates : c.candidate ≡ counters_single = cc in
    let word : w ≡ 1 ∷ [] = sym c.is_word ∙ ap (λ (x : Candidate). x.word) candidates in
    elim (subst (IsWideWord negating single) word h) [
      | inl s ↦ start_narrow (1 ∷ []) s
      | inr r ↦ run_narrow r
    ]

square_runs : (es : List Entry) (w : List ℕ) → HasCountered negating square es w
    → IsWideWord negating square w → ⊥
square_runs es w c h =
    refutes negating square w c.first.counters
    (subst (Inv negating) square_is ((holds_invariant negating squares_are_one).1 square_holds))

-- ---- what a call answers
module _ (e : Expr ℕ) (p : Terms Fraction) (is : polynomial_of negating e ≡ p) (n : ℕ)
    (all : step_small negating (p ∷ []) n (next negating (p ∷ []) fresh) ≡ true)
    (formed : all_small_operations 1 (operations_of negating e) ≡ true)
    (runs : (es : List Entry) (w : List ℕ) → HasCountered negating p es w
    → IsWideWord negating p w → ⊥) (evidence : Evidence)
    (tests : HasWideTest negating p evidence → ⊥) where
  unlimited : HasLimit negating (polynomial_of negating e) → ⊥
  unlimited h = small_closing_unlimited negating p n all (subst (HasLimit negating) is h)

  narrow : HasWide negating e evidence → ⊥
  narrow (inl (at, w)) = small_narrow 1 (operations_of negating e) formed at w
  narrow (inr (inl (at, w))) = small_narrow 1 (maps_operations negating) maps_small at w
  narrow (inr (inr (inl w))) =
      small_closing_fits negating p n all runs (subst (HasWideWord negating) is w)
  narrow (inr (inr (inr t))) = tests (subst (λ q. HasWideTest negating q evidence) is t)

  module _ (request : Request) (call : Call) (promises : DecidesAny request call)
      (kind : request.evidence ≡ evidence)
      (told : call.files.before.told request.file
      ≡ Some (codes "vars x; init x=1; branch { x=-x; }"))
      (reads : equation_in negating.names request.equation ≡ Ok e)
      (ends : HasEnd negating p evidence request.budget) where
    pub says : EndsDecided negating e call.status ⊎ IsExcused call.status
    says =
        promises.completes negating e
        (record {
          loop = record {
            text = codes "vars x; init x=1; branch { x=-x; }";
            is_told = told;
            reads = negating_read;
          };
          reads = reads;
        })
        (small_free 1 (operations_of negating e) formed)
        (small_free 1 (maps_operations negating) maps_small) unlimited
        (λ h. narrow (subst (HasWide negating e) kind h))
        (subst (λ k. HasEnd negating (polynomial_of negating e) k request.budget) (sym kind)
        (subst (λ q. HasEnd negating q evidence request.budget) (sym is) ends))

-- ---- the divisions behind the closing of x^2 - 1
abbrev proof_journal : List Entry
proof_journal = Begin (Closed 0 1 1) ∷ Did (Cut 0) ∷ Did Zero ∷ []

square_tests_small : rest_small negating (square ∷ []) 4
    (proving.next negating (square ∷ []) (testing (tests negating (square ∷ [])))) ≡ true
unfolding small low quotient_small difference_small shift_low cutting_small
    left_small test_small proving_small rest_small composition_weight composition_degrees
    weight degrees gcd.lcm proving.next proving.begin proving.divided tests_from tests_of
    branch_map after_branch after_statement store
    value_of variables unit_exponents constant collect insert place scale_terms compare blocks
    grevlex lead_of tail_of lead_number divides cut_by find_cut after_cut monic
    division.next with_term next_cut next_division less same plus lcm Algebra.times Algebra.shift
    Algebra.negate evaluate sum_over monomial_at power fraction Fraction.sum Fraction.product
    Fraction.opposite Fraction.inverse is_lowest reduce gcd
square_tests_small = refl

proof_after : List Entry × proving.State
proof_after = trace (proving.next negating (square ∷ [])) 3 (testing (tests negating (square ∷ [])))

proof_comes : (proof_after.0 ≡ proof_journal)
    × (proving.next negating (square ∷ []) proof_after.1
    ≡ proving.begin negating (square ∷ []) [])
unfolding proof_after on trace proving.next proving.begin proving.divided tests_from tests_of
    branch_map after_branch after_statement store
    value_of variables unit_exponents constant collect insert place scale_terms compare blocks
    grevlex lead_of tail_of lead_number divides cut_by find_cut after_cut monic
    division.next with_term next_cut next_division less same plus lcm Algebra.times Algebra.shift
    Algebra.negate evaluate sum_over monomial_at power fraction Fraction.sum Fraction.product
    Fraction.opposite Fraction.inverse is_lowest reduce gcd
proof_comes = (refl, refl)

proof_units : units_of (square_journal ++ proof_journal) ≤ 4
unfolding units_of
proof_units = omega arith

square_others : AreOthers (square ∷ []) (square ∷ []) []
unfolding AreOthers
square_others = (inl refl, refl)

square_proved : AreProved negating (square ∷ []) (square_journal ++ proof_journal) (square ∷ [])
unfolding proof_after
square_proved = record {
  elements = square ∷ [];
  listed = record { others = []; are = square_others; is = refl };
  over =
      record {
        state = proof_after.1;
        follows =
            record {
              before = square_journal;
              closes = square_closed;
              behind = proof_journal;
              order = refl;
              run =
                  subst (λ es. IsRun (proving.next negating (square ∷ []))
                  (testing (tests negating (square ∷ []))) es proof_after.1) proof_comes.0
                  (run_of (proving.next negating (square ∷ [])) 3
                  (testing (tests negating (square ∷ []))));
            };
        is = proof_comes.1;
      };
}

one_list : (bs : List (Terms Fraction)) → IsListOf (square ∷ []) (square ∷ []) bs
    → bs ≡ square ∷ []
unfolding AreOthers
one_list bs h = h.is ∙ ap (λ qs. square ∷ qs) (go h.others h.are)
  where
    go : (qs : List (Terms Fraction)) → AreOthers (square ∷ []) (square ∷ []) qs → qs ≡ []
    go [] are = refl
    go (q ∷ qs) (inl are) = are.1
    go (q ∷ qs) (inr are) = absurd (are.0 (inl refl))

square_tests : (evidence : Evidence) → HasWideTest negating square evidence → ⊥
square_tests kinds.Basis h = h.is
square_tests kinds.Certificate h =
    let gs = h.is.0 in
    let p = h.is.1 in
    let one = ends_once negating (square ∷ []) p.past.follows.before square_journal (closed gs)
    (closed (square ∷ [])) refl refl p.past.follows.closes square_closed in
    let both : closed gs ≡ closed (square ∷ []) = one.1 in
    let list : gs ≡ square ∷ [] = cc in
    let elements : p.elements ≡ square ∷ [] =
    one_list p.elements (subst (λ hs. IsListOf (square ∷ []) hs p.elements) list p.listed) in
    small_tests_fit negating gs (square ∷ []) p.elements 4
    (subst (λ hs. rest_small negating hs 4 (proving.next negating hs
    (testing (tests negating p.elements))) ≡ true) (sym list)
    (subst (λ bs. rest_small negating (square ∷ []) 4 (proving.next negating (square ∷ [])
    (testing (tests negating bs))) ≡ true) (sym elements) square_tests_small))
    h.entries p.test p.past

square_ends : (evidence : Evidence) (n : ℕ) → 4 ≤ n → HasEnd negating square evidence n
square_ends kinds.Basis n some = record {
  entries = square_journal;
  ends = inl (square ∷ [], square_closed);
  few = let few = square_units in omega (arith, few, some);
}
square_ends kinds.Certificate n some = record {
  entries = square_journal ++ proof_journal;
  ends = inl (square ∷ [], square_proved);
  few = let few = proof_units in omega (arith, few, some);
}

number_ends : (evidence : Evidence) (n : ℕ) → 3 ≤ n → HasEnd negating single evidence n
number_ends evidence n some = record {
  entries = single_journal;
  ends = inr (1 ∷ [], single_has);
  few = let few = single_units in omega (arith, few, some);
}

never_closed : (es : List Entry) (gs : List (Terms Fraction))
    → ComesNext negating (single ∷ []) es (closed gs) → ⊥
unfolding Each
never_closed es gs c =
    refutes negating single (1 ∷ []) single_first.counters
    (closed_invariants negating (single ∷ []) (single_polynomial, tt) es gs c).0

number_tests : (evidence : Evidence) → HasWideTest negating single evidence → ⊥
number_tests kinds.Basis h = h.is
number_tests kinds.Certificate h =
    let p = h.is.1 in
    never_closed p.past.follows.before h.is.0 p.past.follows.closes

pub number_says_no : (request : Request) (call : Call) → DecidesAny request call
    → call.files.before.told request.file ≡ Some (codes "vars x; init x=1; branch { x=-x; }")
    → request.equation ≡ codes "x=1" → 3 ≤ request.budget
    → (call.status ≡ status.No) ⊎ IsExcused call.status
number_says_no request call promises told asked some =
    elim (says numbers_are_one single single_is 5 single_small number_operations single_runs
    request.evidence (number_tests request.evidence) request call promises refl told
    (subst (λ text. equation_in negating.names text ≡ Ok numbers_are_one) (sym asked) number_read)
    (number_ends request.evidence request.budget some)) [
      | inl (inl y) ↦ absurd (number_fails y.1)
      | inl (inr n) ↦ inl n.0
      | inr x ↦ inr x
    ]

pub square_says_yes : (request : Request) (call : Call) → DecidesAny request call
    → call.files.before.told request.file ≡ Some (codes "vars x; init x=1; branch { x=-x; }")
    → request.equation ≡ codes "x^2=1" → 4 ≤ request.budget
    → (call.status ≡ status.Yes) ⊎ IsExcused call.status
square_says_yes request call promises told asked some =
    elim (says squares_are_one square square_is 6 square_small square_operations square_runs
    request.evidence (square_tests request.evidence) request call promises refl told
    (subst (λ text. equation_in negating.names text ≡ Ok squares_are_one) (sym asked) square_read)
    (square_ends request.evidence request.budget some)) [
      | inl (inl y) ↦ inl y.0
      | inl (inr n) ↦ absurd (n.1 square_holds)
      | inr x ↦ inr x
    ]
