-- That the premises of the clauses of `Finds` and `Answers` (specs/) can be met by a loop of three variables, that of the squares, whose basis is a - t/2 + 1/2 and t^2 - 4 s + 2 t + 1.
--   squares_..     of the loop `vars a, s, t; init a=0, s=1, t=1; branch { a=a+1; t=t+2; s=s+t; }`
-- What meets each premise:
--   ReadsLoop                          squares_read, where the outside tells the bytes
--   IsNeverRefused, IsWithinBudget     squares_never_refused, squares_within, with any budget from 8 on
--   AreFree, AllSplit                  squares_free, squares_split
--   NeverStops, NeverPast, IsAnswered  squares_never_stop, squares_never_past_asked, squares_answered: of the question `t=2*a+1`, with nothing left, within 9 units
use Rattle.std.proofs.Common.{◌≡◌, inl, inr, ℕ, zero, suc, ◌<◌, ◌≤◌, pos, negsuc, List, [], ◌∷◌, ◌++◌, map, length, get_or, refl, sym, ap, subst, arith, true, None, Some, Ok, codes, All, sum}
use Rattle.std.proofs.lemmas.List.Elements.{All-nil, All-cons, All-head, All-tail}
use Rattle.algebra.specs.Each.{Each}
use Rattle.algebra.specs.Gcd.{gcd, lcm}
use Rattle.algebra.specs.Ratio.{is_lowest, reduce}
use Rattle.algebra.specs.Size.{sum_size}
use Rattle.algebra.specs.Fraction as Fraction
use Rattle.algebra.specs.Fraction.{Fraction, fraction, fraction_size, fractions, rationals, whole, ℚ}
use Rattle.algebra.proofs.Fractions.{ℚ_field}
use Rattle.algebra.proofs.Wholes.{whole_injective}
use Rattle.grammars.specs.Reader.{read}
use Rattle.polynomials.specs.Algebra as Algebra
use Rattle.polynomials.specs.Exponent as exponents
use Rattle.polynomials.specs.Exponent.{plus, unit_exponents}
use Rattle.std.specs.declared.cmp.Ordering.TheVariants.{Less}
use Rattle.polynomials.specs.Order.{compare, grevlex}
use Rattle.polynomials.specs.Polynomial.{Falls, IsPolynomial}
use Rattle.polynomials.specs.Terms.{Terms, Same, constant, negate, times, variables}
use Rattle.polynomials.specs.Weight.{weight, degrees, IsPastSum, IsPastProduct}
use Rattle.polynomials.proofs.Orders.{grevlex_order}
use Rattle.polynomials.proofs.Same.{Same-refl}
use Rattle.machines.specs.Collect.{collect, insert, place}
use Rattle.machines.specs.Journal.{Entry, units_of}
use Rattle.machines.specs.Run.{IsRun}
use Rattle.machines.proofs.Collecting.{collect-same}
use Rattle.loops.specs.Effect.{after_branch, after_statement, store, value_of}
use Rattle.loops.specs.Limits.{most_names, most_bytes, most_branches, most_statements, most_operators, most_exponent}
use Rattle.loops.specs.Map.{branch_map}
use Rattle.loops.specs.WellFormed.{local_places}
use Rattle.loops.proofs.Examples.{squares}
use Rattle.solvable_maps.specs.Classes.{IsFormBase}
use Rattle.solvable_maps.specs.Iterations.{IsClosedFormFrom}
use Rattle.invariant_fix.specs.Long.{IsLong}
use Rattle.rounds.specs.Analysis.{Setting, State, finished, fresh, moves, next}
use Rattle.rounds.specs.BranchMap.{map_of}
use Rattle.rounds.specs.Form.{Form, IsClosedForm}
use Rattle.rounds.specs.Journal.{setting_of, AreForms, Follows, IsFinished, IsAnswered}
use Rattle.rounds.specs.Past.{IsPast}
use Rattle.rounds.proofs.Forms.{forms_are_one}
use Rattle.rounds.proofs.Squares.{squares_form, squares_is_form, squares_journal, squares_basis, squares_are_forms, squares_finished}
use Rattle.loop_model.specs.Operations.{Operation, HoldsCollected, HasHighDegree, IsHigh, sum_at, product_at, difference_at, operations, operations_all, most_terms, PassesLimit, IsPastOperation, IsFree, IsWide}
use Rattle.loop_model.specs.Maps.{maps_operations, statements_operations, AreFree}
use Rattle.loop_model.specs.Words.{keyword_of}
use Rattle.loop_model.proofs.OperatorLaws.{only}
use Rattle.solvable.specs.Refusal.{IsSolvable}
use Rattle.closed_forms.specs.Lengths.{IsShort}
use Rattle.closed_forms.specs.Refusal.{AllPass, Refusal, IfFormRefused}
use Rattle.poly_text.specs.Lexemes.{lexeme_at, placed_behind}
use Rattle.poly_text.specs.Sums.{most_depth}
use Rattle.poly_text.specs.Equations.{equation_of}
use Rattle.loop_text.specs.LoopReader.{loop_of}
use Rattle.command_parts.specs.Equations.{equation_in, operations_of, polynomial_of}
use Rattle.analysis_commands.specs.Causes.{IsNeverRefused, IsWithinBudget}
use Rattle.analysis_commands.specs.Completeness.{AllSplit}
use Rattle.analysis_commands.specs.MemberCauses.{NeverStops, NeverPast}
use Rattle.analysis_commands.proofs.Fitting.{size_fits, size_holds, exponents_fit, both_fit, both_hold, product_fits, sum_fits}
use Rattle.analysis_commands.proofs.ScaledMap.{one}
use Rattle.analysis_commands.proofs.ScaledNumbers.{two, minus}
use Rattle.analysis_commands.proofs.SquaresClasses.{squares_images, squares_solvable, squares_pass, squares_short}
use Rattle.analysis_commands.proofs.SquaresUnrefused.{squares_unrefused}
use Rattle.analysis_commands.proofs.SquaresRuns.{squares_program, squares_forms, same_raw, same_setting, squares_units, squares_question, squares_asked, asked_entries, asked_units, nothing_left, asked_run}
use Rattle.analysis_commands.proofs.Traces.{never_past, comes_by}
use Rattle.analysis_commands.proofs.WorkedLoops.{squares_never_past, squares_never_long}

-- ---- its map and its closed form
same_map : map_of squares 1 ≡ map_of squares_program 1
unfolding map_of
same_map = ap (map (collect rationals grevlex)) same_raw

squares_map : map_of squares_program 1 ≡ squares_images
unfolding map_of branch_map after_branch after_statement store value_of variables unit_exponents
    constant collect insert place compare grevlex fraction Fraction.sum is_lowest reduce gcd
squares_map = refl

form_is : IsClosedForm squares_program 1 squares_form
form_is = record {
  base = subst (λ ms. IsFormBase ms []) same_map squares_is_form.base;
  polynomials = squares_is_form.polynomials;
  normal = squares_is_form.normal;
  form = subst (λ ms. IsClosedFormFrom [] ms 0 squares_form.polys) same_raw squares_is_form.form;
  least = λ d h. omega arith;
}

squares_program_are : AreForms squares_program squares_forms
squares_program_are = record { count = refl; each = λ b d less. go b d less }
  where
    go : (b : ℕ) (d : Form) → b < 1
        → IsClosedForm squares_program (suc b) (get_or squares_forms b d)
    go zero d less = form_is
    go (suc b) d less = absurd (omega (arith, less))

-- ---- operations that are done
holds_at : {X : Type 0} (P : X → Type 0) (before : List X) (x : X) (behind : List X)
    → All P (before ++ x ∷ behind) → P x
holds_at P [] x behind a = All-head P x behind a
holds_at P (y ∷ before) x behind a =
    holds_at P before x behind (All-tail P y (before ++ x ∷ behind) a)

-- it passes no limit and isn't past
record IsDone (o : Operation) : Type 0 where
  free : PassesLimit 3 o → ⊥
  fits : IsPastOperation 3 o → ⊥

module _ (os : List Operation) (o u w : Operation) (are : os ≡ o ∷ u ∷ w ∷ []) (a : IsDone o)
    (b : IsDone u) (c : IsDone w) where
  all_done : (P : Operation → Type 0) → ((x : Operation) → IsDone x → P x) → All P os
  all_done P h =
      subst (All P) (sym are) (All-cons P o (u ∷ w ∷ []) (h o a) (All-cons P u (w ∷ []) (h u b)
      (All-cons P w [] (h w c) (All-nil P))))

  free_of : IsFree 3 os
  free_of = all_done (λ o. ¬ (PassesLimit 3 o)) (λ o d. d.free)

  narrow_of : (at : ℕ) → IsWide 3 os at → ⊥
  narrow_of at wide =
      holds_at (λ o. ¬ (IsPastOperation 3 o)) wide.before wide.operation wide.behind
      (subst (All (λ o. ¬ (IsPastOperation 3 o))) wide.order
      (all_done (λ o. ¬ (IsPastOperation 3 o)) (λ o d. d.fits))) wide.holds.1

short : (p q : Terms Fraction) → IsPolynomial ℚ grevlex 3 p → Same ℚ p q → length p < 4
    → HoldsCollected 3 (λ r. most_terms < length r) q → ⊥
short p q is s l c = let more = only 3 (λ r. most_terms < length r) p q is s c in
    omega (arith, l, more)

past_sides : (P : Terms Fraction → Terms Fraction → Type 0) (p q : Terms Fraction)
    → IsPolynomial ℚ grevlex 3 p → IsPolynomial ℚ grevlex 3 q
    → HoldsCollected 3 (λ p. HoldsCollected 3 (λ q. P p q) q) p → P p q
past_sides P p q a b h =
    only 3 (P p) q q b (Same-refl ℚ q)
    (only 3 (λ p. HoldsCollected 3 (λ q. P p q) q) p p a (Same-refl ℚ p) h)

sum_done : (at : ℕ) (p q : Terms Fraction) → IsPolynomial ℚ grevlex 3 p
    → IsPolynomial ℚ grevlex 3 q → IsPolynomial ℚ grevlex 3 (p ++ q) → length (p ++ q) < 4
    → sum_fits p q ≡ true → IsDone (sum_at at p q)
sum_done at p q a b both few fit = record { free = free; fits = fits }
  where
    free : PassesLimit 3 (sum_at at p q) → ⊥
    free (inl h) = h
    free (inr c) = short (p ++ q) (p ++ q) both (Same-refl ℚ (p ++ q)) few c

    fits : IsPastOperation 3 (sum_at at p q) → ⊥
    fits h = size_holds (sum_size (weight fraction_size p) (weight fraction_size q)) fit
        (past_sides (λ p q. IsPastSum fractions p q) p q a b h)

-- ---- polynomials
two_some : two ≡ ℚ.zero → ⊥
two_some e = (let z : pos 2 ≡ pos 0 = whole_injective (pos 2) (pos 0) e in cc)

minus_some : minus ≡ ℚ.zero → ⊥
minus_some e = (let z : negsuc 0 ≡ pos 0 = whole_injective (negsuc 0) (pos 0) e in cc)

less_two_some : whole (negsuc 1) ≡ ℚ.zero → ⊥
less_two_some e = (let z : negsuc 1 ≡ pos 0 = whole_injective (negsuc 1) (pos 0) e in cc)

abbrev IsDescending : Terms Fraction → Type 0
IsDescending p = IsPolynomial ℚ grevlex 3 p

term_falls : (e : List ℕ) (c : Fraction) → length e ≡ 3 → (c ≡ ℚ.zero → ⊥)
    → IsDescending ((e, c) ∷ [])
unfolding Each Falls
term_falls e c l some = record { nonzero = (some, tt); arity = (l, tt); falls = (tt, tt) }

pair_falls : (d e : List ℕ) (b c : Fraction) → length d ≡ 3 → length e ≡ 3 → (b ≡ ℚ.zero → ⊥)
    → (c ≡ ℚ.zero → ⊥) → compare grevlex e d ≡ Less → IsDescending ((d, b) ∷ (e, c) ∷ [])
unfolding Each Falls
pair_falls d e b c k l some other less = record {
  nonzero = (some, (other, tt));
  arity = (k, (l, tt));
  falls = ((less, tt), (tt, tt));
}

triple_falls : (d e f : List ℕ) (a b c : Fraction) → length d ≡ 3 → length e ≡ 3 → length f ≡ 3
    → (a ≡ ℚ.zero → ⊥) → (b ≡ ℚ.zero → ⊥) → (c ≡ ℚ.zero → ⊥) → compare grevlex e d ≡ Less
    → compare grevlex f d ≡ Less → compare grevlex f e ≡ Less
    → IsDescending ((d, a) ∷ (e, b) ∷ (f, c) ∷ [])
unfolding Each Falls
triple_falls d e f a b c k l m some other last less lesser least = record {
  nonzero = (some, (other, (last, tt)));
  arity = (k, (l, (m, tt)));
  falls = ((less, (lesser, tt)), ((least, tt), (tt, tt)));
}

abbrev of_a : List ℕ
of_a = 1 ∷ 0 ∷ 0 ∷ []

abbrev of_s : List ℕ
of_s = 0 ∷ 1 ∷ 0 ∷ []

abbrev of_t : List ℕ
of_t = 0 ∷ 0 ∷ 1 ∷ []

abbrev of_one : List ℕ
of_one = 0 ∷ 0 ∷ 0 ∷ []

one_some : one ≡ ℚ.zero → ⊥
one_some = ℚ_field.one-ne-zero

-- ---- the operations of its maps
squares_operations : maps_operations squares_program
    ≡ sum_at 46 ((of_a, one) ∷ []) ((of_one, one) ∷ [])
    ∷ sum_at 53 ((of_t, one) ∷ []) ((of_one, two) ∷ [])
    ∷ sum_at 60 ((of_s, one) ∷ []) ((of_t, one) ∷ (of_one, two) ∷ []) ∷ []
unfolding operations operations_all statements_operations after_statement store value_of variables
    unit_exponents constant
squares_operations = refl

first_done : IsDone (sum_at 46 ((of_a, one) ∷ []) ((of_one, one) ∷ []))
unfolding compare grevlex size_fits weight fraction is_lowest gcd lcm
first_done = sum_done 46 ((of_a, one) ∷ []) ((of_one, one) ∷ [])
    (term_falls of_a one refl one_some) (term_falls of_one one refl one_some)
    (pair_falls of_a of_one one one refl refl one_some one_some refl) (omega arith) refl

second_done : IsDone (sum_at 53 ((of_t, one) ∷ []) ((of_one, two) ∷ []))
unfolding compare grevlex size_fits weight fraction is_lowest gcd lcm
second_done = sum_done 53 ((of_t, one) ∷ []) ((of_one, two) ∷ [])
    (term_falls of_t one refl one_some) (term_falls of_one two refl two_some)
    (pair_falls of_t of_one one two refl refl one_some two_some refl) (omega arith) refl

third_done : IsDone (sum_at 60 ((of_s, one) ∷ []) ((of_t, one) ∷ (of_one, two) ∷ []))
unfolding compare grevlex size_fits weight fraction is_lowest gcd lcm
third_done = sum_done 60 ((of_s, one) ∷ []) ((of_t, one) ∷ (of_one, two) ∷ [])
    (term_falls of_s one refl one_some)
    (pair_falls of_t of_one one two refl refl one_some two_some refl)
    (triple_falls of_s of_t of_one one one two refl refl refl one_some one_some two_some refl refl
    refl) (omega arith) refl

-- ---- the premises
pub squares_free : AreFree squares_program
squares_free = free_of (maps_operations squares_program) _ _ _ squares_operations first_done
    second_done third_done

pub squares_split : AllSplit squares_program
squares_split zero less =
    subst (λ ms. IsSolvable ms × AllPass ms × IsShort ms) (sym squares_map)
    (squares_solvable, squares_pass, squares_short)
squares_split (suc b) less = absurd (omega (arith, less))

unrefused : (b : ℕ) (r : Refusal) → b < 1 → ¬ (IfFormRefused (map_of squares_program (suc b)) r)
unrefused zero r less h = squares_unrefused r (subst (λ ms. IfFormRefused ms r) squares_map h)
unrefused (suc b) r less h = absurd (omega (arith, less))

-- what is so at no state of the analysis by the worked setting is so at none of it by the program's
at_no_state : (P : Setting → State → Type 0) → ((es : List Entry) (s : State)
    → IsRun (moves (setting_of squares squares_forms None)) fresh es s
    → P (setting_of squares squares_forms None) s → ⊥) → (es : List Entry) (s : State)
    (f : Follows squares_program None es s) → P (setting_of squares_program f.forms None) s → ⊥
at_no_state P never es s f p =
    let same = forms_are_one squares_program f.forms squares_forms f.are_forms
    squares_program_are in
    never es s
    (subst (λ A. IsRun (moves A) fresh es s) (sym same_setting)
    (subst (λ gs. IsRun (moves (setting_of squares_program gs None)) fresh es s) same f.run))
    (subst (λ A. P A s) (sym same_setting)
    (subst (λ gs. P (setting_of squares_program gs None) s) same p))

pub squares_never_refused : IsNeverRefused squares_program
squares_never_refused = record {
  free = squares_free;
  maps = narrow_of (maps_operations squares_program) _ _ _ squares_operations first_done second_done
      third_done;
  branches = unrefused;
  states = λ es s f p. at_no_state IsPast squares_never_past es s f p;
  short = λ es s f p. at_no_state IsLong squares_never_long es s f p;
}

squares_ends : IsFinished squares_program squares_journal 1 squares_basis
squares_ends =
    let f = squares_finished.follows in
    let same = forms_are_one squares f.forms squares_forms f.are_forms squares_are_forms in
    record {
      state = squares_finished.state;
      follows = record {
        forms = squares_forms;
        are_forms = squares_program_are;
        run = subst (λ A. IsRun (moves A) fresh squares_journal squares_finished.state) same_setting
            (subst (λ gs. IsRun (moves (setting_of squares gs None)) fresh squares_journal
            squares_finished.state) same f.run);
      };
      is = subst (λ A. next A squares_finished.state ≡ finished 1 squares_basis) same_setting
          (subst (λ gs. next (setting_of squares gs None) squares_finished.state
          ≡ finished 1 squares_basis) same squares_finished.is);
    }

pub squares_within : (budget : ℕ) → 8 ≤ budget → IsWithinBudget squares_program budget
squares_within budget some = record {
  entries = squares_journal;
  rounds = 1;
  list = squares_basis;
  finished = squares_ends;
  few = subst (λ n. n ≤ budget) (sym squares_units) some;
}

pub squares_read : loop_of (codes
    "vars a, s, t; init a=0, s=1, t=1; branch { a=a+1; t=t+2; s=s+t; }") ≡ Ok squares_program
unfolding placed_behind lexeme_at read keyword_of most_names most_bytes most_branches
    most_statements most_operators most_exponent most_depth local_places
squares_read = refl

-- ---- whether t is 2 a + 1
abbrev twice : Terms Fraction
twice = (of_a, two) ∷ []

abbrev odd : Terms Fraction
odd = (of_a, two) ∷ (of_one, one) ∷ []

twice_is : times ℚ ((of_one, two) ∷ []) ((of_a, one) ∷ []) ≡ twice
unfolding Algebra.times Algebra.shift plus fraction Fraction.product is_lowest reduce gcd
twice_is = refl

question_operations : operations_of squares_program squares_question
    ≡ product_at 3 ((of_one, two) ∷ []) ((of_a, one) ∷ [])
    ∷ sum_at 5 twice ((of_one, one) ∷ []) ∷ difference_at 1 ((of_t, one) ∷ []) odd ∷ []
unfolding operations value_of variables unit_exponents constant Algebra.times Algebra.shift plus
    fraction Fraction.product is_lowest reduce gcd
question_operations = refl

twice_falls : IsDescending twice
twice_falls = term_falls of_a two refl two_some

odd_falls : IsDescending odd
unfolding compare grevlex
odd_falls = pair_falls of_a of_one two one refl refl two_some one_some refl

low : IsHigh twice → ⊥
low h = go h.is.reached.0 h.is.reached.1 h.is.reached.2 h.is.reached.3 h.is.reached.4
  where
    go : (k : ℕ) (t : List ℕ × Fraction) → k < 1 → get_or twice k t ≡ t → sum t.0 ≡ h.degree → ⊥
    go zero t l is s =
        let same : sum of_a ≡ sum t.0 = ap (λ (u : List ℕ × Fraction). sum u.0) is in
        let high = h.high in omega (arith, same, s, high)
    go (suc k) t l is s = absurd (omega (arith, l))

product_small : product_fits ((of_one, two) ∷ []) ((of_a, one) ∷ []) ≡ true
unfolding both_fit size_fits exponents_fit weight degrees plus exponents.lcm fraction is_lowest gcd
    lcm
product_small = refl

product_holds : IsPastProduct fractions ((of_one, two) ∷ []) ((of_a, one) ∷ []) → ⊥
product_holds p = both_hold _ _ product_small p

product_done : IsDone (product_at 3 ((of_one, two) ∷ []) ((of_a, one) ∷ []))
product_done = record { free = free; fits = fits }
  where
    same : Same ℚ twice (times ℚ ((of_one, two) ∷ []) ((of_a, one) ∷ []))
    same = subst (Same ℚ twice) (sym twice_is) (Same-refl ℚ twice)

    free : PassesLimit 3 (product_at 3 ((of_one, two) ∷ []) ((of_a, one) ∷ [])) → ⊥
    free (inl h) = low (only 3 IsHigh twice twice twice_falls (Same-refl ℚ twice)
        (subst (HasHighDegree 3) twice_is h))
    free (inr c) = short twice (times ℚ ((of_one, two) ∷ []) ((of_a, one) ∷ [])) twice_falls same
        (omega arith) c

    fits : IsPastOperation 3 (product_at 3 ((of_one, two) ∷ []) ((of_a, one) ∷ [])) → ⊥
    fits h = product_holds (past_sides (λ p q. IsPastProduct fractions p q) ((of_one, two) ∷ [])
        ((of_a, one) ∷ []) (term_falls of_one two refl two_some)
        (term_falls of_a one refl one_some) h)

asked_is : collect rationals grevlex ((of_t, one) ∷ negate ℚ odd) ≡ squares_asked
unfolding collect insert place compare grevlex Algebra.negate fraction Fraction.sum
    Fraction.opposite is_lowest reduce gcd
asked_is = refl

asked_falls : IsDescending squares_asked
unfolding compare grevlex
asked_falls = triple_falls of_a of_t of_one (whole (negsuc 1)) one minus refl refl refl
    less_two_some one_some minus_some refl refl refl

asked_same : Same ℚ squares_asked ((of_t, one) ∷ negate ℚ odd)
asked_same = subst (λ p. Same ℚ p ((of_t, one) ∷ negate ℚ odd)) asked_is
    (collect-same ℚ_field grevlex grevlex_order ((of_t, one) ∷ negate ℚ odd))

difference_fits : sum_fits ((of_t, one) ∷ []) odd ≡ true
unfolding size_fits weight fraction is_lowest gcd lcm
difference_fits = refl

difference_done : IsDone (difference_at 1 ((of_t, one) ∷ []) odd)
difference_done = record { free = free; fits = fits }
  where
    free : PassesLimit 3 (difference_at 1 ((of_t, one) ∷ []) odd) → ⊥
    free (inl h) = h
    free (inr c) = short squares_asked ((of_t, one) ∷ negate ℚ odd) asked_falls asked_same
        (omega arith) c

    fits : IsPastOperation 3 (difference_at 1 ((of_t, one) ∷ []) odd) → ⊥
    fits h = size_holds (sum_size (weight fraction_size ((of_t, one) ∷ []))
        (weight fraction_size odd)) difference_fits
        (past_sides (λ p q. IsPastSum fractions p q) ((of_t, one) ∷ []) odd
        (term_falls of_t one refl one_some) odd_falls h)

sum_is_done : IsDone (sum_at 5 twice ((of_one, one) ∷ []))
unfolding compare grevlex size_fits weight fraction is_lowest gcd lcm
sum_is_done = sum_done 5 twice ((of_one, one) ∷ []) twice_falls
    (term_falls of_one one refl one_some) odd_falls (omega arith) refl

pub squares_never_stop : NeverStops squares_program squares_question
squares_never_stop = record {
  free = free_of (operations_of squares_program squares_question) _ _ _ question_operations
      product_done sum_is_done difference_done;
  narrow = narrow_of (operations_of squares_program squares_question) _ _ _ question_operations
      product_done sum_is_done difference_done;
}

pub squares_polynomial : polynomial_of squares_program squares_question ≡ squares_asked
unfolding value_of variables unit_exponents constant collect insert place compare grevlex
    Algebra.times Algebra.shift Algebra.negate plus fraction Fraction.sum Fraction.product
    Fraction.opposite is_lowest reduce gcd
squares_polynomial = refl

pub squares_never_past_asked : NeverPast squares_program
    (polynomial_of squares_program squares_question)
squares_never_past_asked = subst (NeverPast squares_program) (sym squares_polynomial)
    (λ es s f p. never_past squares_program None squares_forms squares_program_are
    (Some squares_asked) 20 asked_entries _ asked_run es s f p)

pub squares_answered : IsAnswered squares_program
    (polynomial_of squares_program squares_question) asked_entries 1 squares_basis nothing_left
squares_answered =
    subst (λ p. IsAnswered squares_program p asked_entries 1 squares_basis nothing_left)
    (sym squares_polynomial)
    (comes_by squares_program None squares_forms squares_program_are (Some squares_asked) 20
    asked_entries _ asked_run)

pub asked_few : (budget : ℕ) → 9 ≤ budget → units_of asked_entries ≤ budget
asked_few budget some = subst (λ n. n ≤ budget) (sym asked_units) some

pub question_read : equation_in squares_program.names (codes "t=2*a+1") ≡ Ok squares_question
unfolding equation_of placed_behind lexeme_at read keyword_of most_names most_bytes most_operators
    most_exponent most_depth
question_read = refl
