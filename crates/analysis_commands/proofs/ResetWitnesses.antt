-- That the premises of the clauses of `Finds` (specs/) can be met by a loop whose branch has the eigenvalue 0, so that its closed form begins late.
--   reset_..     of the loop `vars x; init x=5; branch { x=0; }`, whose basis is x^2 - 5 x
-- What meets each premise:
--   ReadsLoop                          reset_read, where the outside tells the bytes
--   IsNeverRefused, IsWithinBudget     reset_never_refused, reset_within, with any budget from 4 on
--   AreFree, AllSplit                  reset_free, reset_splits
use Rattle.std.proofs.Common.{◌≡◌, ℕ, zero, suc, ◌<◌, ◌≤◌, List, [], ◌∷◌, length, get_or, refl, sym, ap, subst, ◌∙◌, arith, None, Ok, codes, All}
use Rattle.std.proofs.lemmas.List.Elements.{All-nil}
use Rattle.algebra.specs.Each.{Each}
use Rattle.algebra.specs.Sum.{sum_over}
use Rattle.algebra.specs.Gcd.{gcd}
use Rattle.algebra.specs.Ratio.{is_lowest}
use Rattle.algebra.specs.Fraction.{Fraction, fraction, ℚ}
use Rattle.algebra.proofs.Basics.{same_head}
use Rattle.algebra.proofs.Fractions.{ℚ_ring, ℚ_field}
use Rattle.grammars.specs.Reader.{read}
use Rattle.polynomials.specs.Algebra as Algebra
use Rattle.polynomials.specs.Exponent.{same, unit_exponents}
use Rattle.polynomials.specs.Order.{compare, grevlex}
use Rattle.polynomials.specs.Polynomial.{Falls}
use Rattle.polynomials.specs.Terms.{Terms, constant, evaluate, variables}
use Rattle.polynomials.proofs.ValueAt.{value_at-constant}
use Rattle.machines.specs.Collect.{collect, insert, place}
use Rattle.exponentials.specs.Base.{IsTheBase}
use Rattle.loops.specs.Effect.{after_branch, after_statement, store, value_of}
use Rattle.loops.specs.Limits.{most_names, most_bytes, most_branches, most_statements, most_operators, most_exponent}
use Rattle.loops.specs.Map.{branch_map}
use Rattle.loops.specs.WellFormed.{local_places}
use Rattle.solvable_maps.specs.Classes.{IsEigenvalue, IsFormBase}
use Rattle.solvable_maps.specs.Iterations.{IsClosedFormFrom, point, iterations, values_at}
use Rattle.rounds.specs.Analysis.{finished}
use Rattle.rounds.specs.BranchMap.{map_of}
use Rattle.rounds.specs.Form.{Form, IsClosedForm}
use Rattle.rounds.specs.Journal.{AreForms}
use Rattle.rounds.specs.Word.{branch_of}
use Rattle.rounds.proofs.Alone.{own, eigenvalue_is_own}
use Rattle.loop_model.specs.Operations.{PassesLimit, operations, operations_all}
use Rattle.loop_model.specs.Maps.{maps_operations, statements_operations, AreFree}
use Rattle.loop_model.specs.Words.{keyword_of}
use Rattle.solvable.specs.Refusal.{IsSolvable}
use Rattle.closed_forms.specs.Lengths.{IsShort}
use Rattle.closed_forms.specs.Refusal.{AllPass, Refusal, IfFormRefused}
use Rattle.poly_text.specs.Lexemes.{lexeme_at, placed_behind}
use Rattle.poly_text.specs.Sums.{most_depth}
use Rattle.loop_text.specs.LoopReader.{loop_of}
use Rattle.analysis_commands.specs.Causes.{IsNeverRefused, IsWithinBudget}
use Rattle.analysis_commands.specs.Completeness.{AllSplit}
use Rattle.analysis_commands.proofs.ResetMap.{gone, gone_solvable, gone_passes, gone_short}
use Rattle.analysis_commands.proofs.ResetUnrefused.{gone_turned, gone_unrefused}
use Rattle.analysis_commands.proofs.ResetRuns.{reset_program, reset_form, reset_forms, reset_entries, reset_units, reset_basis, reset_run}
use Rattle.analysis_commands.proofs.StartedWitnesses.{none_of}
use Rattle.analysis_commands.proofs.Traces.{never_past, never_too_long, comes_by}

-- ---- its map
reset_map : map_of reset_program 1 ≡ gone
unfolding map_of branch_map after_branch after_statement store value_of variables unit_exponents
    constant collect insert place compare grevlex fraction is_lowest gcd
reset_map = refl

abbrev raw : List (Terms Fraction)
raw = branch_map reset_program (branch_of reset_program 1)

raw_is : raw ≡ constant 1 ℚ.zero ∷ []
unfolding branch_map after_branch after_statement store value_of variables unit_exponents constant
raw_is = refl

raw_value : (s : List Fraction) → values_at raw s ≡ values_at gone s
unfolding evaluate sum_over
raw_value s = ap (λ ps. values_at ps s) raw_is
    ∙ ap (λ y. y ∷ []) (value_at-constant ℚ_ring 1 ℚ.zero s)

raw_turned : (n : ℕ) (s : List Fraction) → 1 ≤ n → iterations raw n s ≡ ℚ.zero ∷ []
raw_turned zero s l = absurd (omega (arith, l))
raw_turned (suc n) s l = raw_value (iterations raw n s)
    ∙ gone_turned 1 (iterations raw n s) (omega arith)

-- ---- its closed form
only_zero : (c : Fraction) → IsEigenvalue gone c → c ≡ ℚ.zero
unfolding Each Algebra.coefficient same sum_over
only_zero c e =
    let (i, l, is) = eigenvalue_is_own gone (tt, tt) tt c e in
    is ∙ go i l
  where
    go : (i : ℕ) → i < 1 → own gone i ≡ ℚ.zero
    go zero l = refl
    go (suc i) l = absurd (omega (arith, l))

no_base : IsTheBase [] []
unfolding Each
no_base = record {
  coarsest = record { base = record { coprime = tt; products = tt }; coarsest = λ cs c. tt };
  ascending = tt;
  divides = tt;
}

form_base : IsFormBase gone []
form_base = record {
  values = [];
  all = λ c e some. absurd (some (only_zero c e));
  only = λ c i. absurd i;
  is = no_base;
}

form_value : (z : List Fraction) → values_at reset_form.polys z ≡ ℚ.zero ∷ []
unfolding evaluate sum_over
form_value z = refl

from_one : IsClosedFormFrom [] raw 1 reset_form.polys
unfolding Each
from_one = record {
  arity = (tt, tt);
  values = λ n s l late. form_value (point [] n s) ∙ sym (raw_turned n s late);
}

not_at_once : IsClosedFormFrom [] raw 0 reset_form.polys → ⊥
not_at_once form = ℚ_field.one-ne-zero
    (same_head (sym (form.values 0 (ℚ.one ∷ []) (ap length (sym raw_is)) (omega arith))
    ∙ form_value (point [] 0 (ℚ.one ∷ []))))

least : (d : ℕ) → IsClosedFormFrom [] raw d reset_form.polys → 1 ≤ d
least zero h = absurd (not_at_once h)
least (suc d) h = omega arith

form_is : IsClosedForm reset_program 1 reset_form
unfolding Each Falls
form_is = record {
  base = subst (λ ms. IsFormBase ms []) (sym reset_map) form_base;
  polynomials = (record { nonzero = tt; arity = tt; falls = tt }, tt);
  normal = (tt, tt);
  form = from_one;
  least = least;
}

reset_are : AreForms reset_program reset_forms
reset_are = record { count = refl; each = λ b d less. go b d less }
  where
    go : (b : ℕ) (d : Form) → b < 1 → IsClosedForm reset_program (suc b) (get_or reset_forms b d)
    go zero d less = form_is
    go (suc b) d less = absurd (omega (arith, less))

-- ---- the premises
reset_operations : maps_operations reset_program ≡ []
unfolding operations operations_all statements_operations
reset_operations = refl

pub reset_free : AreFree reset_program
reset_free = subst (All (λ o. ¬ (PassesLimit 1 o))) (sym reset_operations)
    (All-nil (λ o. ¬ (PassesLimit 1 o)))

pub reset_splits : AllSplit reset_program
reset_splits zero less =
    subst (λ ms. IsSolvable ms × AllPass ms × IsShort ms) (sym reset_map)
    (gone_solvable, gone_passes, gone_short)
reset_splits (suc b) less = absurd (omega (arith, less))

unrefused : (b : ℕ) (r : Refusal) → b < 1 → ¬ (IfFormRefused (map_of reset_program (suc b)) r)
unrefused zero r less h = gone_unrefused r (subst (λ ms. IfFormRefused ms r) reset_map h)
unrefused (suc b) r less h = absurd (omega (arith, less))

pub reset_never_refused : IsNeverRefused reset_program
reset_never_refused = record {
  free = reset_free;
  maps = λ at w.
      none_of (maps_operations reset_program) w.before w.behind w.operation reset_operations
      w.order;
  branches = unrefused;
  states = λ es s f p. never_past reset_program None reset_forms reset_are None 12 reset_entries
      (finished 1 reset_basis) reset_run es s f p;
  short = λ es s f p. never_too_long reset_program None reset_forms reset_are None 12
      reset_entries (finished 1 reset_basis) reset_run es s f p;
}

pub reset_within : (budget : ℕ) → 4 ≤ budget → IsWithinBudget reset_program budget
reset_within budget some = record {
  entries = reset_entries;
  rounds = 1;
  list = reset_basis;
  finished = comes_by reset_program None reset_forms reset_are None 12 reset_entries
      (finished 1 reset_basis) reset_run;
  few = subst (λ n. n ≤ budget) (sym reset_units) some;
}

pub reset_read : loop_of (codes "vars x; init x=5; branch { x=0; }") ≡ Ok reset_program
unfolding placed_behind lexeme_at read keyword_of most_names most_bytes most_branches
    most_statements most_operators most_exponent most_depth local_places
reset_read = refl
