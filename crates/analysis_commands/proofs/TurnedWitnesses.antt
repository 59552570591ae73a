-- That the premises of the clauses of `Finds` and `Decides` (specs/) can be met by loops whose branch changes the variable, and whose
-- analysis needs a round.
--   doubled_..   of the loop `vars x; init x=1; branch { x=2*x; }`, which has no invariants but 0
--   negated_..   of the loop `vars x; init x=1; branch { x=-x; }`, whose basis is x^2 - 1
-- What meets each premise:
--   ReadsLoop                          doubled_read, negated_read, where the outside tells the bytes
--   IsNeverRefused, IsWithinBudget     doubled_never_refused, doubled_within, with any budget from 5 on; negated_never_refused, negated_within, from 7 on
--   AreFree, AllSplit                  doubled_free, doubled_splits; negated_free, negated_splits
--   AreForms                           doubled_are; negated_are
--   NeverPast, IsAnswered              negated_never_past, negated_answered: of x^2 - 1, with nothing left; within any budget from 8 on: asked_few
use Rattle.std.proofs.Common.{◌≡◌, inl, inr, ℕ, zero, suc, ◌<◌, ◌≤◌, pos, negsuc, List, [], ◌∷◌, length, get_or, refl, sym, ap, subst, ◌∙◌, arith, None, Some, Ok, codes, All}
use Rattle.std.proofs.lemmas.List.Elements.{All-nil, All-cons}
use Rattle.std.specs.Prelude.{slice_index, sum}
use Rattle.algebra.specs.Each.{Each}
use Rattle.algebra.specs.Gcd.{gcd, lcm}
use Rattle.algebra.specs.Ratio.{is_lowest, reduce}
use Rattle.algebra.specs.Size.{size}
use Rattle.algebra.specs.Fraction as Fraction
use Rattle.algebra.specs.Fraction.{Fraction, fraction, fractions, ℚ}
use Rattle.algebra.proofs.Fractions.{ℚ_field}
use Rattle.algebra.proofs.Wholes.{whole_injective}
use Rattle.grammars.specs.Reader.{read}
use Rattle.polynomials.specs.Algebra as Algebra
use Rattle.polynomials.specs.Exponent.{plus, unit_exponents}
use Rattle.polynomials.specs.Exponent as exponents
use Rattle.polynomials.specs.Order.{compare, grevlex}
use Rattle.polynomials.specs.Polynomial.{Falls, IsPolynomial}
use Rattle.polynomials.specs.Terms.{Terms, Same, constant, variables, negate, times}
use Rattle.polynomials.specs.Weight.{weight, degrees, IsPastSum, IsPastProduct}
use Rattle.polynomials.proofs.Same.{Same-refl}
use Rattle.machines.specs.Collect.{collect, insert, place}
use Rattle.machines.specs.Journal.{units_of}
use Rattle.loops.specs.Effect.{after_branch, after_statement, store, value_of}
use Rattle.loops.specs.Limits.{most_names, most_bytes, most_branches, most_statements, most_operators, most_exponent}
use Rattle.loops.specs.Map.{branch_map}
use Rattle.loops.specs.Program.{Expr, Program}
use Rattle.loops.specs.WellFormed.{local_places}
use Rattle.solvable_maps.specs.Classes.{IsFormBase}
use Rattle.solvable_maps.specs.Iterations.{width, IsClosedFormFrom}
use Rattle.rounds.specs.BranchMap.{map_of}
use Rattle.rounds.specs.Form.{Form, IsClosedForm}
use Rattle.rounds.specs.Journal.{AreForms, IsAnswered}
use Rattle.rounds.specs.Word.{branch_of}
use Rattle.loop_model.specs.Operations.{Operation, IsWide, IsHigh, HasHighDegree, IsPastOperation, PassesLimit, HoldsCollected, opposite_at, product_at, most_terms, operations, operations_all}
use Rattle.loop_model.specs.Maps.{maps_operations, AreFree, statements_operations}
use Rattle.loop_model.proofs.OperatorLaws.{only}
use Rattle.loop_model.specs.Words.{keyword_of}
use Rattle.solvable.specs.Refusal.{IsSolvable}
use Rattle.closed_forms.specs.Lengths.{IsShort}
use Rattle.closed_forms.specs.Refusal.{AllPass, Refusal, IfFormRefused}
use Rattle.poly_text.specs.Lexemes.{lexeme_at, placed_behind}
use Rattle.poly_text.specs.Sums.{most_depth}
use Rattle.loop_text.specs.LoopReader.{loop_of}
use Rattle.analysis_commands.specs.Causes.{IsNeverRefused, IsWithinBudget}
use Rattle.analysis_commands.specs.Completeness.{AllSplit}
use Rattle.analysis_commands.specs.MemberCauses.{NeverPast}
use Rattle.analysis_commands.proofs.IdleQuestions.{alone}
use Rattle.analysis_commands.proofs.ScaledMap.{one, scaled, scaled_solvable, scaled_passes, scaled_short, IsScaled, scaled_base_is, same_iterations}
use Rattle.analysis_commands.proofs.ScaledUnrefused.{fits, IsNarrow, scaled_unrefused}
use Rattle.analysis_commands.proofs.ScaledNumbers.{two, minus, double_scaled, minus_scaled, double_narrow, minus_narrow}
use Rattle.analysis_commands.proofs.Traces.{never_past, never_too_long, comes_by}
use Rattle.analysis_commands.proofs.TurnedRuns.{form_with, doubled_program, doubled_forms, doubled_key, doubled_entries, doubled_units, doubled_run, negated_program, negated_forms, negated_key, negated_entries, negated_units, negated_run, square_less, asked_entries, asked_units, nothing_left, asked_run}

-- ---- loops of one variable with one branch, whose map is a number times it
module _ (l : Program (Expr ℕ)) (c : Fraction) (base key : List ℕ) (known : IsScaled c base key)
    (single : length l.branches ≡ 1) (small : length l.names ≡ 1) (map_is : map_of l 1 ≡ scaled c)
    (raw_is : branch_map l (branch_of l 1) ≡ scaled c) where
  form_is : IsClosedForm l 1 (form_with base key)
  unfolding Each
  form_is = record {
    base = subst (λ ms. IsFormBase ms base) (sym map_is) (scaled_base_is c base key known);
    polynomials = (
      subst (λ m. IsPolynomial ℚ grevlex (width (length base) m) ((key, one) ∷ [])) (sym small)
          known.normal.polynomial,
      tt,
    );
    normal = (known.normal.normal, tt);
    form = subst (λ ms. IsClosedFormFrom base ms 0 (((key, one) ∷ []) ∷ [])) (sym raw_is)
        (record {
          arity = (known.normal.polynomial.arity, tt);
          values = λ n s l e. same_iterations c base key known n s l;
        });
    least = λ d h. omega arith;
  }

  pub forms_are : AreForms l (form_with base key ∷ [])
  forms_are = record { count = sym single; each = λ b d less. go b d less }
    where
      go : (b : ℕ) (d : Form) → b < 1
          → IsClosedForm l (suc b) (get_or (form_with base key ∷ []) b d)
      go zero d less = form_is
      go (suc b) d less = absurd (omega (arith, less))

  splits_of : AllSplit l
  splits_of zero less = subst (λ ms. IsSolvable ms × AllPass ms × IsShort ms) (sym map_is)
      (scaled_solvable c, scaled_passes c, scaled_short c)
  splits_of (suc b) less = absurd (omega (arith, less, single))

  unrefused_of : IsNarrow c → (b : ℕ) (r : Refusal) → b < length l.branches
      → ¬ (IfFormRefused (map_of l (suc b)) r)
  unrefused_of narrow zero r less h =
      scaled_unrefused c base key known narrow r (subst (λ ms. IfFormRefused ms r) map_is h)
  unrefused_of narrow (suc b) r less h = absurd (omega (arith, less, single))

-- ---- loops with one operation
module _ (l : Program (Expr ℕ)) (o : Operation) (are : maps_operations l ≡ o ∷ [])
    (small : length l.names ≡ 1) where
  free_of : (PassesLimit 1 o → ⊥) → AreFree l
  free_of free =
      subst (λ m. All (λ o. ¬ (PassesLimit m o)) (maps_operations l)) (sym small)
      (subst (All (λ o. ¬ (PassesLimit 1 o))) (sym are)
      (All-cons (λ o. ¬ (PassesLimit 1 o)) o [] free (All-nil (λ o. ¬ (PassesLimit 1 o)))))

  narrow_of : (IsPastOperation 1 o → ⊥) → (at : ℕ) → IsWide (length l.names) (maps_operations l) at
      → ⊥
  narrow_of fit at wide = go (subst (λ m. IsWide m (maps_operations l) at) small wide)
    where
      go : IsWide 1 (maps_operations l) at → ⊥
      go w = fit (subst (IsPastOperation 1)
          (sym (alone 0 o w.before w.behind w.operation (sym are ∙ w.order))) w.holds.1)

-- ---- polynomials
term_polynomial : (e : ℕ) (a : Fraction) → (a ≡ ℚ.zero → ⊥)
    → IsPolynomial ℚ grevlex 1 ((e ∷ [], a) ∷ [])
unfolding Each Falls
term_polynomial e a some = record { nonzero = (some, tt); arity = (refl, tt); falls = (tt, tt) }

none_polynomial : IsPolynomial ℚ grevlex 1 []
unfolding Each Falls
none_polynomial = record { nonzero = tt; arity = tt; falls = tt }

abbrev x : Terms Fraction
x = (1 ∷ [], one) ∷ []

abbrev twice : Terms Fraction
twice = (1 ∷ [], two) ∷ []

abbrev doubling : Operation
doubling = product_at 30 (constant 1 two) x

abbrev opposing : Operation
opposing = opposite_at 29 x

doubled_operations : maps_operations doubled_program ≡ doubling ∷ []
unfolding operations operations_all statements_operations value_of variables unit_exponents constant
doubled_operations = refl

negated_operations : maps_operations negated_program ≡ opposing ∷ []
unfolding operations operations_all statements_operations value_of variables unit_exponents
negated_operations = refl

twice_is : times ℚ (constant 1 two) x ≡ twice
unfolding Algebra.times Algebra.shift plus constant fraction Fraction.product is_lowest reduce gcd
twice_is = refl

two_some : two ≡ ℚ.zero → ⊥
two_some e = (let z : pos 2 ≡ pos 0 = whole_injective (pos 2) (pos 0) e in cc)

minus_some : minus ≡ ℚ.zero → ⊥
minus_some e = (let z : negsuc 0 ≡ pos 0 = whole_injective (negsuc 0) (pos 0) e in cc)

low : IsHigh twice → ⊥
low h = go h.is.reached.0 h.is.reached.1 h.is.reached.2 h.is.reached.3 h.is.reached.4
  where
    go : (k : ℕ) (t : List ℕ × Fraction) → k < 1 → get_or twice k t ≡ t → sum t.0 ≡ h.degree → ⊥
    go zero t l is s =
        let same : sum (1 ∷ []) ≡ sum t.0 = ap (λ (u : List ℕ × Fraction). sum u.0) is in
        let high = h.high in omega (arith, same, s, high)
    go (suc k) t l is s = absurd (omega (arith, l))

short : (p q : Terms Fraction) → IsPolynomial ℚ grevlex 1 p → Same ℚ p q → length p < 2
    → HoldsCollected 1 (λ r. most_terms < length r) q → ⊥
short p q is s l c = let more = only 1 (λ r. most_terms < length r) p q is s c in
    omega (arith, l, more)

doubling_free : PassesLimit 1 doubling → ⊥
doubling_free (inl h) = low (only 1 IsHigh twice twice (term_polynomial 1 two two_some)
    (Same-refl ℚ twice) (subst (HasHighDegree 1) twice_is h))
doubling_free (inr c) = short twice (times ℚ (constant 1 two) x) (term_polynomial 1 two two_some)
    (subst (Same ℚ twice) (sym twice_is) (Same-refl ℚ twice)) (omega arith) c

opposite_is : negate ℚ x ≡ (1 ∷ [], minus) ∷ []
unfolding Algebra.negate fraction Fraction.opposite is_lowest gcd
opposite_is = refl

opposing_free : PassesLimit 1 opposing → ⊥
opposing_free (inl h) = h
opposing_free (inr c) = short ((1 ∷ [], minus) ∷ []) (negate ℚ x)
    (term_polynomial 1 minus minus_some)
    (subst (Same ℚ ((1 ∷ [], minus) ∷ [])) (sym opposite_is) (Same-refl ℚ ((1 ∷ [], minus) ∷ [])))
    (omega arith) c

product_fits : IsPastProduct fractions ((0 ∷ [], two) ∷ []) x → ⊥
unfolding weight degrees plus exponents.lcm fraction is_lowest gcd lcm
product_fits (inl p) = fits (size 2 1) (omega arith) (omega arith) p
product_fits (inr h) = h (λ k l. each k l)
  where
    each : (k : ℕ) → k < 1 → slice_index (1 ∷ []) k < 65536
    each zero l = omega arith
    each (suc k) l = absurd (omega (arith, l))

sum_fits : IsPastSum fractions [] x → ⊥
unfolding weight fraction is_lowest gcd lcm
sum_fits p = fits (size 1 1) (omega arith) (omega arith) p

doubling_fits : IsPastOperation 1 doubling → ⊥
unfolding constant
doubling_fits h =
    product_fits (only 1 (λ q. IsPastProduct fractions ((0 ∷ [], two) ∷ []) q) x x
    (term_polynomial 1 one ℚ_field.one-ne-zero) (Same-refl ℚ x)
    (only 1 (λ p. HoldsCollected 1 (λ q. IsPastProduct fractions p q) x) ((0 ∷ [], two) ∷ [])
    ((0 ∷ [], two) ∷ []) (term_polynomial 0 two two_some) (Same-refl ℚ ((0 ∷ [], two) ∷ [])) h))

opposing_fits : IsPastOperation 1 opposing → ⊥
opposing_fits h =
    sum_fits (only 1 (λ q. IsPastSum fractions [] q) x x
    (term_polynomial 1 one ℚ_field.one-ne-zero) (Same-refl ℚ x)
    (only 1 (λ p. HoldsCollected 1 (λ q. IsPastSum fractions p q) x) [] []
    none_polynomial (Same-refl ℚ []) h))

-- ---- x=2*x
doubled_map : map_of doubled_program 1 ≡ scaled two
unfolding map_of branch_map after_branch after_statement store value_of variables unit_exponents
    constant collect insert place compare grevlex Algebra.times Algebra.shift plus fraction
    Fraction.product is_lowest reduce gcd
doubled_map = refl

doubled_raw : branch_map doubled_program (branch_of doubled_program 1) ≡ scaled two
unfolding branch_map after_branch after_statement store value_of variables unit_exponents
    constant Algebra.times Algebra.shift plus fraction Fraction.product is_lowest reduce gcd
doubled_raw = refl

pub doubled_are : AreForms doubled_program doubled_forms
doubled_are = forms_are doubled_program two (2 ∷ []) doubled_key double_scaled refl refl doubled_map
    doubled_raw

pub doubled_free : AreFree doubled_program
doubled_free = free_of doubled_program doubling doubled_operations refl doubling_free

pub doubled_splits : AllSplit doubled_program
doubled_splits = splits_of doubled_program two (2 ∷ []) doubled_key double_scaled refl refl
    doubled_map doubled_raw

pub doubled_never_refused : IsNeverRefused doubled_program
doubled_never_refused = record {
  free = doubled_free;
  maps = narrow_of doubled_program doubling doubled_operations refl doubling_fits;
  branches = unrefused_of doubled_program two (2 ∷ []) doubled_key double_scaled refl refl
      doubled_map doubled_raw double_narrow;
  states = λ es s f p. never_past doubled_program None doubled_forms doubled_are None 10
      doubled_entries
      _ doubled_run es s f p;
  short = λ es s f p. never_too_long doubled_program None doubled_forms doubled_are None 10
      doubled_entries _ doubled_run es s f p;
}

pub doubled_within : (budget : ℕ) → 5 ≤ budget → IsWithinBudget doubled_program budget
doubled_within budget some = record {
  entries = doubled_entries;
  rounds = 1;
  list = [];
  finished = comes_by doubled_program None doubled_forms doubled_are None 10 doubled_entries _
      doubled_run;
  few = subst (λ n. n ≤ budget) (sym doubled_units) some;
}

pub doubled_read : loop_of (codes "vars x; init x=1; branch { x=2*x; }") ≡ Ok doubled_program
unfolding placed_behind lexeme_at read keyword_of most_names most_bytes most_branches
    most_statements most_operators most_exponent most_depth local_places
doubled_read = refl

-- ---- x=-x
negated_map : map_of negated_program 1 ≡ scaled minus
unfolding map_of branch_map after_branch after_statement store value_of variables unit_exponents
    constant collect insert place compare grevlex Algebra.negate fraction Fraction.opposite
    is_lowest reduce gcd
negated_map = refl

negated_raw : branch_map negated_program (branch_of negated_program 1) ≡ scaled minus
unfolding branch_map after_branch after_statement store value_of variables unit_exponents
    constant Algebra.negate fraction Fraction.opposite is_lowest reduce gcd
negated_raw = refl

pub negated_are : AreForms negated_program negated_forms
negated_are = forms_are negated_program minus [] negated_key minus_scaled refl refl negated_map
    negated_raw

pub negated_free : AreFree negated_program
negated_free = free_of negated_program opposing negated_operations refl opposing_free

pub negated_splits : AllSplit negated_program
negated_splits = splits_of negated_program minus [] negated_key minus_scaled refl refl negated_map
    negated_raw

pub negated_never_refused : IsNeverRefused negated_program
negated_never_refused = record {
  free = negated_free;
  maps = narrow_of negated_program opposing negated_operations refl opposing_fits;
  branches = unrefused_of negated_program minus [] negated_key minus_scaled refl refl negated_map
      negated_raw minus_narrow;
  states = λ es s f p. never_past negated_program None negated_forms negated_are None 15
      negated_entries
      _ negated_run es s f p;
  short = λ es s f p. never_too_long negated_program None negated_forms negated_are None 15
      negated_entries _ negated_run es s f p;
}

pub negated_within : (budget : ℕ) → 7 ≤ budget → IsWithinBudget negated_program budget
negated_within budget some = record {
  entries = negated_entries;
  rounds = 1;
  list = square_less ∷ [];
  finished = comes_by negated_program None negated_forms negated_are None 15 negated_entries _
      negated_run;
  few = subst (λ n. n ≤ budget) (sym negated_units) some;
}

pub negated_read : loop_of (codes "vars x; init x=1; branch { x=-x; }") ≡ Ok negated_program
unfolding placed_behind lexeme_at read keyword_of most_names most_bytes most_branches
    most_statements most_operators most_exponent most_depth local_places
negated_read = refl

-- ---- whether the square of x is 1 at its end
pub negated_never_past : NeverPast negated_program square_less
negated_never_past = λ es s f p. never_past negated_program None negated_forms negated_are
    (Some square_less) 18 asked_entries _ asked_run es s f p

pub negated_answered : IsAnswered negated_program square_less asked_entries 1 (square_less ∷ [])
    nothing_left
negated_answered = comes_by negated_program None negated_forms negated_are (Some square_less) 18
    asked_entries _ asked_run

pub asked_few : (budget : ℕ) → 8 ≤ budget → units_of asked_entries ≤ budget
asked_few budget some = subst (λ n. n ≤ budget) (sym asked_units) some
