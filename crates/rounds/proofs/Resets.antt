-- A loop that overwrites, whole: vars x; init x=5; branch { x=3; }
--   resets                the loop
--   reset_form            the closed form 3, from one iteration on
--   resets_journal        the journal, which meets the start with what is after an iteration
--   resets_finished       and ends in round 1 with x^2 - 8 x + 15
use Rattle.std.proofs.Common.{◌≡◌, ℕ, zero, suc, ◌+◌, ◌<◌, ◌≤◌, pos, negsuc, List, [], ◌∷◌, length, get_or, refl, sym, ap, subst, ◌∙◌, arith, None}
use Rattle.std.specs.Prelude.{⊤}
use Rattle.algebra.specs.Arithmetic.{power}
use Rattle.algebra.specs.Each.{Each}
use Rattle.algebra.specs.Sum.{sum_over}
use Rattle.algebra.proofs.Basics.{same_head}
use Rattle.algebra.specs.Gcd.{gcd}
use Rattle.algebra.specs.Ratio.{is_lowest, reduce}
use Rattle.algebra.specs.Fraction as Fraction
use Rattle.algebra.specs.Fraction.{Fraction, fraction, whole, ℚ}
use Rattle.algebra.proofs.Fractions.{ℚ_ring}
use Rattle.algebra.proofs.Wholes.{whole-some}
use Rattle.polynomials.specs.Algebra as Algebra
use Rattle.polynomials.specs.Exponent.{same, plus, lcm, unit_exponents, over as less}
use Rattle.polynomials.specs.Order.{compare, grevlex, blocks}
use Rattle.polynomials.specs.Polynomial.{Falls}
use Rattle.polynomials.specs.Terms.{Terms, constant, variables, evaluate, monomial_at, retold}
use Rattle.polynomials.proofs.ValueAt.{value_at-constant}
use Rattle.machines.specs.Collect.{collect, insert, place, scale_terms}
use Rattle.machines.specs.Completion as completion
use Rattle.machines.specs.Elimination as elimination
use Rattle.machines.specs.Completion.{with_element, with_elements, s_polynomial, next_reduction, next_pair, next_completion}
use Rattle.machines.specs.Cut.{lead_of, tail_of, lead_number, divides, cut_by, find_cut, after_cut, monic}
use Rattle.machines.specs.Division as division
use Rattle.machines.specs.Division.{with_term, next_cut, next_division}
use Rattle.machines.specs.Elimination.{all_free, free_part}
use Rattle.machines.specs.Event.{Pair, Cut, Keep, Zero}
use Rattle.machines.specs.Pairs.{coprime, mixes_degrees, waits, beside, put_pair, with_new, covers, skip_covered}
use Rattle.machines.specs.Tidying as tidying
use Rattle.machines.specs.Tidying.{without, drop_from, tail_or, tail_from, next_tail, next_drop, ahead, put_by_lead, by_lead}
use Rattle.machines.specs.Run.{IsRun}
use Rattle.machines.proofs.Runs.{on, trace, run_of}
use Rattle.exponentials.specs.Base.{IsTheBase}
use Rattle.exponentials.specs.Keys.{excess}
use Rattle.solvable_maps.specs.Classes.{IsEigenvalue, IsFormBase}
use Rattle.solvable_maps.specs.Iterations as iterations
use Rattle.solvable_maps.specs.Iterations.{point, values_at, IsClosedFormFrom}
use Rattle.loops.specs.Effect.{store, value_of, after_statement, after_branch}
use Rattle.loops.specs.Map.{branch_map}
use Rattle.loops.specs.Program.{Expr, number, Program}
use Rattle.loops.proofs.Examples.{assign, given}
use Rattle.rounds.specs.BranchMap.{map_of}
use Rattle.rounds.specs.Form.{Form, relation, relations_to, passes, IsClosedForm}
use Rattle.rounds.specs.Start.{start_list, start_polynomial, in_order}
use Rattle.rounds.specs.Word.{branch_of}
use Rattle.rounds.proofs.Alone.{own, eigenvalue_is_own}
use Rattle.machines.specs.Journal.{Entry, Begin, Did, Start, Closed, Round, Orbit, Meet}
use Rattle.rounds.specs.Analysis as analysis
use Rattle.rounds.specs.Analysis.{Setting, fresh, finished, next, moves, block, starting, closing_from, after_iterations}
use Rattle.rounds.specs.Journal.{AreForms, setting_of, IsFinished}

abbrev pub resets : Program (Expr ⊤)
resets = record {
  names = (120 ∷ []) ∷ [];
  locals = [];
  init = given 0 (number (pos 5)) ∷ [];
  branches = (assign 0 (number (pos 3)) ∷ []) ∷ [];
}

abbrev three : Fraction
three = whole (pos 3)

abbrev pub reset_form : Form
reset_form = record { base = []; polys = ((0 ∷ 0 ∷ 0 ∷ [], whole (pos 3)) ∷ []) ∷ []; since = 1 }

-- ---- the eigenvalue
abbrev images : List (Terms Fraction)
images = ((0 ∷ [], three) ∷ []) ∷ []

images_are : map_of resets 1 ≡ images
unfolding map_of branch_map after_branch after_statement store value_of variables unit_exponents
    constant collect insert place compare grevlex Algebra.times Algebra.shift Algebra.negate plus
    fraction Fraction.sum Fraction.product Fraction.opposite Fraction.inverse is_lowest reduce gcd
images_are = refl

only_zero : (c : Fraction) → IsEigenvalue images c → c ≡ ℚ.zero
unfolding Each Algebra.coefficient same sum_over fraction Fraction.sum Fraction.product is_lowest
    reduce gcd
only_zero c e =
    let (i, l, is) = eigenvalue_is_own images ((refl, tt), tt) tt c e in
    is ∙ go i l
  where
    go : (i : ℕ) → i < 1 → own images i ≡ ℚ.zero
    go zero l = refl
    go (suc i) l = absurd (omega (arith, l))

no_base : IsTheBase [] []
unfolding Each
no_base = record {
  coarsest = record { base = record { coprime = tt; products = tt }; coarsest = λ cs c. tt };
  ascending = tt;
  divides = tt;
}

base_is : IsFormBase (map_of resets 1) []
base_is = record {
  values = [];
  all = λ c e ne. absurd (ne (only_zero c (subst (λ l. IsEigenvalue l c) images_are e)));
  only = λ c i. absurd i;
  is = no_base;
}

-- ---- the form
abbrev raw : List (Terms Fraction)
raw = branch_map resets (branch_of resets 1)

raw_is : raw ≡ constant 1 three ∷ []
unfolding branch_map after_branch after_statement store value_of variables unit_exponents constant
raw_is = refl

polys_are : reset_form.polys ≡ constant 3 three ∷ []
unfolding constant
polys_are = refl

polys_at : (z : List Fraction) → values_at reset_form.polys z ≡ three ∷ []
polys_at z = ap (λ ps. values_at ps z) polys_are
    ∙ ap (λ x. x ∷ []) (value_at-constant ℚ_ring 3 three z)

turned_at : (n : ℕ) (s : List Fraction) → 1 ≤ n → iterations.iterations raw n s ≡ three ∷ []
turned_at zero s l = absurd (omega (arith, l))
turned_at (suc n) s l = ap (λ ps. values_at ps (iterations.iterations raw n s)) raw_is
    ∙ ap (λ x. x ∷ []) (value_at-constant ℚ_ring 1 three (iterations.iterations raw n s))

from_one : IsClosedFormFrom [] raw 1 reset_form.polys
unfolding Each
from_one = record {
  arity = subst (λ n. Each (λ p. Each (λ t. length t.0 ≡ suc (suc (0 + (0 + n)))) p)
      reset_form.polys) (ap length (sym raw_is)) ((refl, tt), tt);
  values = λ n s l late. polys_at (point [] n s) ∙ sym (turned_at n s late);
}

not_from_zero : IsClosedFormFrom [] raw 0 reset_form.polys → ⊥
not_from_zero form = whole-some 3 (omega arith)
    (same_head (sym (polys_at (point [] 0 (ℚ.zero ∷ [])))
    ∙ form.values 0 (ℚ.zero ∷ []) (ap length (sym raw_is)) (omega arith)))

least : (d : ℕ) → IsClosedFormFrom [] raw d reset_form.polys → 1 ≤ d
least zero h = absurd (not_from_zero h)
least (suc d) h = omega arith

pub reset_is_form : IsClosedForm resets 1 reset_form
unfolding Each Falls
reset_is_form = record {
  base = base_is;
  polynomials = (
    record { nonzero = (whole-some 3 (omega arith), tt); arity = (refl, tt); falls = (tt, tt) },
    tt,
  );
  normal = (((omega arith, tt, tt, tt), tt), tt);
  form = from_one;
  least = least;
}

-- ---- the journal
abbrev forms : List Form
forms = reset_form ∷ []

abbrev setting : Setting
setting = setting_of resets forms None

abbrev pub resets_journal : List Entry
resets_journal =
    Begin Start ∷ Begin (Closed 0 1 1) ∷ Begin (Round 1)
    ∷ Begin (Orbit 1 1) ∷ Begin (Meet 1 1) ∷ Did (Pair 0 1) ∷ Did Keep ∷ Did (Pair 0 2)
    ∷ Did (Cut 2) ∷ Did Keep
    ∷ Begin (Closed 1 1 1) ∷ Did Zero ∷ []

abbrev pub resets_basis : List (Terms Fraction)
resets_basis = ((2 ∷ [], whole (pos 1)) ∷ (1 ∷ [], whole (negsuc 7)) ∷ (0 ∷ [], whole (pos 15))
    ∷ []) ∷ []

entries_are : (trace (moves setting) 12 fresh).0 ≡ resets_journal
unfolding on trace next block starting passes closing_from after_iterations analysis.after_branch
    analysis.after relation relations_to start_list start_polynomial in_order branch_map
    after_branch after_statement store value_of variables unit_exponents constant collect insert
    place scale_terms compare blocks grevlex elimination.next completion.next with_element
    with_elements
    s_polynomial next_reduction next_pair next_completion lead_of tail_of lead_number divides cut_by
    find_cut
    after_cut monic division.next with_term next_cut next_division all_free free_part retold coprime
    completion.degree mixes_degrees waits beside put_pair with_new covers skip_covered tidying.next
    without drop_from tail_or tail_from next_tail next_drop ahead put_by_lead by_lead less same plus
    lcm excess Algebra.times Algebra.shift Algebra.negate evaluate sum_over monomial_at power
    fraction
    Fraction.sum Fraction.product Fraction.opposite Fraction.inverse is_lowest reduce gcd
entries_are = refl

ends : next setting (trace (moves setting) 12 fresh).1 ≡ finished 1 resets_basis
unfolding on trace next block starting passes closing_from after_iterations analysis.after_branch
    analysis.after relation relations_to start_list start_polynomial in_order branch_map
    after_branch after_statement store value_of variables unit_exponents constant collect insert
    place scale_terms compare blocks grevlex elimination.next completion.next with_element
    with_elements
    s_polynomial next_reduction next_pair next_completion lead_of tail_of lead_number divides cut_by
    find_cut
    after_cut monic division.next with_term next_cut next_division all_free free_part retold coprime
    completion.degree mixes_degrees waits beside put_pair with_new covers skip_covered tidying.next
    without drop_from tail_or tail_from next_tail next_drop ahead put_by_lead by_lead less same plus
    lcm excess Algebra.times Algebra.shift Algebra.negate evaluate sum_over monomial_at power
    fraction
    Fraction.sum Fraction.product Fraction.opposite Fraction.inverse is_lowest reduce gcd
ends = refl

are_forms : AreForms resets forms
are_forms = record { count = refl; each = λ b d l. go b d l }
  where
    go : (b : ℕ) (d : Form) → b < 1 → IsClosedForm resets (suc b) (get_or forms b d)
    go zero d l = reset_is_form
    go (suc b) d l = absurd (omega (arith, l))

pub resets_finished : IsFinished resets resets_journal 1 resets_basis
resets_finished = record {
  state = (trace (moves setting) 12 fresh).1;
  follows = record {
    forms = forms;
    are_forms = are_forms;
    run = subst (λ es. IsRun (moves setting) fresh es (trace (moves setting) 12 fresh).1)
        entries_are (run_of (moves setting) 12 fresh);
  };
  is = ends;
}
