-- A loop of two branches, whole: vars x, y; init x=0, y=0; branch { x=x+1; y=y+1; } branch { x=2*x; y=2*y; }
--   step_form, double_form      the closed forms: x + n, y + n; over the base 2 u x, u y
--   step_is_form, double_is_form
--   steps_journal         the journal, which meets what both branches keep
--   steps_finished        and ends in round 1 with x - y
use Rattle.std.proofs.Common.{◌≡◌, inl, inr, ℕ, zero, suc, ◌<◌, ◌≤◌, pos, negsuc, List, [], ◌∷◌, length, get_or, refl, sym, ap, ap₂, subst, ◌∙◌, arith, None, Less}
use Rattle.std.specs.Prelude.{⊤}
use native.Mathlib.Nat as N
use Rattle.algebra.specs.Arithmetic.{power}
use Rattle.algebra.specs.Each.{Each}
use Rattle.algebra.specs.In.{In}
use Rattle.algebra.specs.Ring.{CommRing}
use Rattle.algebra.specs.Sum.{sum_over}
use Rattle.algebra.proofs.RingLaws.{zero-add, add_rotate, one-mul}
use Rattle.algebra.proofs.RingSolver.{ring_rules, ring}
use Rattle.algebra.specs.Gcd.{gcd}
use Rattle.algebra.specs.Ratio.{is_lowest, reduce}
use Rattle.algebra.specs.Fraction as Fraction
use Rattle.algebra.specs.Fraction.{Fraction, fraction, whole, ℚ}
use Rattle.algebra.proofs.Fractions.{ℚ_ring, ℚ_field}
use Rattle.algebra.proofs.Wholes.{whole-suc}
use Rattle.polynomials.specs.Algebra as Algebra
use Rattle.polynomials.specs.Exponent.{same, plus, lcm, unit_exponents, over as less}
use Rattle.polynomials.specs.Order.{compare, grevlex, blocks}
use Rattle.polynomials.specs.Polynomial.{Falls, IsPolynomial}
use Rattle.polynomials.specs.Terms.{Terms, constant, variables, evaluate, monomial_at, retold}
use Rattle.machines.specs.Collect.{collect, insert, place, scale_terms}
use Rattle.machines.specs.Completion as completion
use Rattle.machines.specs.Elimination as elimination
use Rattle.machines.specs.Completion.{with_element, with_elements, s_polynomial, next_reduction, next_pair, next_completion}
use Rattle.machines.specs.Cut.{lead_of, tail_of, lead_number, divides, cut_by, find_cut, after_cut, monic}
use Rattle.machines.specs.Division as division
use Rattle.machines.specs.Division.{with_term, next_cut, next_division}
use Rattle.machines.specs.Elimination.{all_free, free_part}
use Rattle.machines.specs.Event.{Pair, Cut, Keep, Zero}
use Rattle.machines.specs.Journal.{Entry, Begin, Did, Start, Closed, Round, Orbit, Meet}
use Rattle.machines.specs.Pairs.{coprime, mixes_degrees, waits, beside, put_pair, with_new, covers, skip_covered}
use Rattle.machines.specs.Tidying as tidying
use Rattle.machines.specs.Tidying.{without, drop_from, tail_or, tail_from, next_tail, next_drop, ahead, put_by_lead, by_lead}
use Rattle.machines.specs.Run.{IsRun}
use Rattle.machines.proofs.Runs.{on, trace, run_of}
use Rattle.exponentials.specs.Base.{IsTheBase}
use Rattle.exponentials.specs.Keys.{excess}
use Rattle.solvable_maps.specs.Iterations as iterations
use Rattle.solvable_maps.specs.Iterations.{point, values_at}
use Rattle.loops.specs.Effect.{store, value_of, after_statement, after_branch}
use Rattle.loops.specs.Map.{branch_map}
use Rattle.loops.specs.Program.{Expr, number, variable, add, mul, Program}
use Rattle.loops.proofs.Examples.{assign, given}
use Rattle.loops.proofs.Maps.{branch_map_values}
use Rattle.rounds.specs.BranchMap.{map_of}
use Rattle.solvable_maps.specs.Classes.{IsEigenvalue}
use Rattle.rounds.specs.Analysis as analysis
use Rattle.rounds.specs.Analysis.{Setting, fresh, finished, next, moves, block, starting, closing_from}
use Rattle.rounds.specs.Form.{Form, IsClosedForm, relation, relations_to}
use Rattle.rounds.specs.Journal.{setting_of, AreForms, IsFinished}
use Rattle.rounds.specs.Start.{start_list, start_polynomial, in_order}
use Rattle.rounds.specs.Word.{branch_of}
use Rattle.rounds.proofs.Alone.{own, own_is_eigenvalue, eigenvalue_is_own}

abbrev pub steps : Program (Expr ⊤)
steps = record {
  names = (120 ∷ []) ∷ (121 ∷ []) ∷ [];
  locals = [];
  init = given 0 (number (pos 0)) ∷ given 1 (number (pos 0)) ∷ [];
  branches =
      (assign 0 (add tt (variable 0) (number (pos 1)))
      ∷ assign 1 (add tt (variable 1) (number (pos 1))) ∷ [])
      ∷ (assign 0 (mul tt (number (pos 2)) (variable 0))
      ∷ assign 1 (mul tt (number (pos 2)) (variable 1)) ∷ []) ∷ [];
}

abbrev one : Fraction
one = whole (pos 1)

abbrev two : Fraction
two = whole (pos 2)

abbrev pub step_form : Form
step_form = record {
  base = [];
  polys = ((1 ∷ 0 ∷ 0 ∷ 0 ∷ [], one) ∷ (0 ∷ 0 ∷ 1 ∷ 0 ∷ [], one) ∷ [])
      ∷ ((1 ∷ 0 ∷ 0 ∷ 0 ∷ [], one) ∷ (0 ∷ 0 ∷ 0 ∷ 1 ∷ [], one) ∷ []) ∷ [];
  since = 0;
}

abbrev pub double_form : Form
double_form = record {
  base = 2 ∷ [];
  polys = ((0 ∷ 0 ∷ 1 ∷ 0 ∷ 1 ∷ 0 ∷ [], one) ∷ []) ∷ ((0 ∷ 0 ∷ 1 ∷ 0 ∷ 0 ∷ 1 ∷ [], one) ∷ []) ∷ [];
  since = 0;
}

abbrev step_images : List (Terms Fraction)
step_images = ((1 ∷ 0 ∷ [], one) ∷ (0 ∷ 0 ∷ [], one) ∷ []) ∷ ((0 ∷ 1 ∷ [], one) ∷ (0 ∷ 0 ∷ [], one)
    ∷ []) ∷ []

abbrev double_images : List (Terms Fraction)
double_images = ((1 ∷ 0 ∷ [], two) ∷ []) ∷ ((0 ∷ 1 ∷ [], two) ∷ []) ∷ []

step_images_are : map_of steps 1 ≡ step_images
unfolding map_of branch_map after_branch after_statement store value_of variables unit_exponents
    constant collect insert place compare grevlex Algebra.times Algebra.shift Algebra.negate plus
    fraction Fraction.sum Fraction.product Fraction.opposite Fraction.inverse is_lowest reduce gcd
step_images_are = refl

double_images_are : map_of steps 2 ≡ double_images
unfolding map_of branch_map after_branch after_statement store value_of variables unit_exponents
    constant collect insert place compare grevlex Algebra.times Algebra.shift Algebra.negate plus
    fraction Fraction.sum Fraction.product Fraction.opposite Fraction.inverse is_lowest reduce gcd
double_images_are = refl

-- ---- the eigenvalues
step_value : (x : Fraction) → In x (one ∷ []) → IsEigenvalue step_images x
unfolding Each Algebra.coefficient same sum_over fraction Fraction.sum Fraction.product is_lowest
    reduce gcd
step_value x i =
    elim i [
      | inl e ↦ subst (IsEigenvalue step_images) (sym e) (own_is_eigenvalue step_images
          ((refl, (refl, tt)), ((refl, (refl, tt)), tt)) tt 0 (omega arith))
      | inr n ↦ absurd n
    ]

step_all : (x : Fraction) → IsEigenvalue step_images x → In x (one ∷ [])
unfolding Each Algebra.coefficient same sum_over fraction Fraction.sum Fraction.product is_lowest
    reduce gcd
step_all x e =
    let (i, l, is) = eigenvalue_is_own step_images ((refl, (refl, tt)), ((refl, (refl, tt)), tt)) tt
    x e in
    inl (is ∙ go i l)
  where
    go : (i : ℕ) → i < 2 → own step_images i ≡ one
    go zero l = refl
    go (suc zero) l = refl
    go (suc (suc i)) l = absurd (omega (arith, l))

double_value : (x : Fraction) → In x (two ∷ []) → IsEigenvalue double_images x
unfolding Each Algebra.coefficient same sum_over fraction Fraction.sum Fraction.product is_lowest
    reduce gcd
double_value x i = elim i [
  | inl e ↦ subst (IsEigenvalue double_images) (sym e)
      (own_is_eigenvalue double_images ((refl, tt), ((refl, tt), tt)) tt 0 (omega arith))
  | inr n
      ↦ absurd n
]

double_all : (x : Fraction) → IsEigenvalue double_images x → In x (two ∷ [])
unfolding Each Algebra.coefficient same sum_over fraction Fraction.sum Fraction.product is_lowest
    reduce gcd
double_all x e =
    let (i, l, is) = eigenvalue_is_own double_images ((refl, tt), ((refl, tt), tt)) tt x e in
    inl (is ∙ go i l)
  where
    go : (i : ℕ) → i < 2 → own double_images i ≡ two
    go zero l = refl
    go (suc zero) l = refl
    go (suc (suc i)) l = absurd (omega (arith, l))

step_base : IsTheBase (1 ∷ 1 ∷ []) []
unfolding Each
step_base = record {
  coarsest = record {
    base = record {
      coprime = tt;
      products = (
        record { exponents = []; fits = tt; is = refl },
        (record { exponents = []; fits = tt; is = refl }, tt),
      );
    };
    coarsest = λ cs c. tt;
  };
  ascending = tt;
  divides = tt;
}

double_base : IsTheBase (2 ∷ 1 ∷ []) (2 ∷ [])
unfolding Each
double_base = record {
  coarsest = record {
    base = record {
      coprime = (omega arith, tt, tt);
      products = (
        record { exponents = 1 ∷ []; fits = tt; is = refl },
        (record { exponents = 0 ∷ []; fits = tt; is = refl }, tt),
      );
    };
    coarsest = λ cs c. (c.products.0, tt);
  };
  ascending = (tt, tt);
  divides = (record { number = 2; within = inl refl; divides = N.dvd_refl 2 }, tt);
}

-- ---- the state after n iterations
module _ {A : Type 0} (R : CommRing A) where
  open R use {one as 𝟙, zero as 𝟘, add as ◌⊕◌, mul as ◌⊗◌}

  infixl 60 ◌⊕◌
  infixl 70 ◌⊗◌
  x_step : (n x : A) → 𝟙 ⊗ ((n ⊗ 𝟙) ⊗ (𝟙 ⊗ (𝟙 ⊗ (𝟙 ⊗ 𝟙)))) ⊕ (𝟙 ⊗ (𝟙 ⊗ (𝟙 ⊗ ((x ⊗ 𝟙) ⊗ (𝟙 ⊗ 𝟙)))) ⊕
      𝟘) ≡ n ⊕ x
  x_step n x = ring R (n ∷ x ∷ []) (search ring_rules depth 40) refl

  y_step : (n y : A) → 𝟙 ⊗ ((n ⊗ 𝟙) ⊗ (𝟙 ⊗ (𝟙 ⊗ (𝟙 ⊗ 𝟙)))) ⊕ (𝟙 ⊗ (𝟙 ⊗ (𝟙 ⊗ (𝟙 ⊗ ((y ⊗ 𝟙) ⊗ 𝟙)))) ⊕
      𝟘) ≡ n ⊕ y
  y_step n y = ring R (n ∷ y ∷ []) (search ring_rules depth 40) refl

  x_double : (u x : A) → 𝟙 ⊗ (𝟙 ⊗ (𝟙 ⊗ ((u ⊗ 𝟙) ⊗ (𝟙 ⊗ ((x ⊗ 𝟙) ⊗ (𝟙 ⊗ 𝟙)))))) ⊕ 𝟘 ≡ u ⊗ x
  x_double u x = ring R (u ∷ x ∷ []) (search ring_rules depth 40) refl

  y_double : (u y : A) → 𝟙 ⊗ (𝟙 ⊗ (𝟙 ⊗ ((u ⊗ 𝟙) ⊗ (𝟙 ⊗ (𝟙 ⊗ ((y ⊗ 𝟙) ⊗ 𝟙)))))) ⊕ 𝟘 ≡ u ⊗ y
  y_double u y = ring R (u ∷ y ∷ []) (search ring_rules depth 40) refl

abbrev both : (Fraction → Fraction) → Fraction → Fraction → List Fraction
both f x y = f x ∷ f y ∷ []

abbrev step_raw : List (Terms Fraction)
step_raw = branch_map steps (branch_of steps 1)

abbrev double_raw : List (Terms Fraction)
double_raw = branch_map steps (branch_of steps 2)

step_iteration : (x y : Fraction) → values_at step_raw (x ∷ y ∷ []) ≡ both (λ z. ℚ.add z one) x y
unfolding after_branch after_statement store value_of
step_iteration x y = branch_map_values steps (branch_of steps 1) (x ∷ y ∷ []) refl

double_iteration : (x y : Fraction) → values_at double_raw (x ∷ y ∷ []) ≡ both (ℚ.mul two) x y
unfolding after_branch after_statement store value_of
double_iteration x y = branch_map_values steps (branch_of steps 2) (x ∷ y ∷ []) refl

step_turned : (n : ℕ) (x y : Fraction) → iterations.iterations step_raw n (x ∷ y ∷ [])
    ≡ both (ℚ.add (whole (pos n))) x y
step_turned zero x y = sym (ap₂ ◌∷◌ (zero-add ℚ_ring x) (ap (λ z. z ∷ []) (zero-add ℚ_ring y)))
step_turned (suc n) x y =
    ap (values_at step_raw) (step_turned n x y) ∙ step_iteration _ _
    ∙ ap₂ ◌∷◌ (add_rotate ℚ_ring (whole (pos n)) x one)
    (ap (λ z. z ∷ []) (add_rotate ℚ_ring (whole (pos n)) y one))
    ∙ ap (λ k. both (ℚ.add k) x y) (sym (whole-suc n))

double_turned : (n : ℕ) (x y : Fraction) → iterations.iterations double_raw n (x ∷ y ∷ [])
    ≡ both (ℚ.mul (power ℚ two n)) x y
unfolding power
double_turned zero x y = sym (ap₂ ◌∷◌ (one-mul ℚ_ring x) (ap (λ z. z ∷ []) (one-mul ℚ_ring y)))
double_turned (suc n) x y =
    ap (values_at double_raw) (double_turned n x y) ∙ double_iteration _ _
    ∙ ap₂ ◌∷◌ (sym (ℚ_ring.mul_assoc two (power ℚ two n) x))
    (ap (λ z. z ∷ []) (sym (ℚ_ring.mul_assoc two (power ℚ two n) y)))

step_at : (n : ℕ) (x y : Fraction) → values_at step_form.polys (point [] n (x ∷ y ∷ []))
    ≡ both (ℚ.add (whole (pos n))) x y
unfolding evaluate sum_over monomial_at power
step_at n x y = ap₂ ◌∷◌ (x_step ℚ_ring (whole (pos n)) x)
    (ap (λ z. z ∷ []) (y_step ℚ_ring (whole (pos n)) y))

double_at : (n : ℕ) (x y : Fraction) → values_at double_form.polys (point (2 ∷ []) n (x ∷ y ∷ []))
    ≡ both (ℚ.mul (power ℚ two n)) x y
unfolding evaluate sum_over monomial_at power
double_at n x y = ap₂ ◌∷◌ (x_double ℚ_ring (power ℚ two n) x)
    (ap (λ z. z ∷ []) (y_double ℚ_ring (power ℚ two n) y))

step_values : (n : ℕ) (s : List Fraction) → length s ≡ length step_raw → 0 ≤ n
    → values_at step_form.polys (point [] n s) ≡ iterations.iterations step_raw n s
unfolding branch_map after_branch after_statement store variables unit_exponents
step_values n [] l late = absurd (omega (arith, l))
step_values n (x ∷ []) l late = absurd (omega (arith, l))
step_values n (x ∷ y ∷ z ∷ zs) l late = absurd (omega (arith, l))
step_values n (x ∷ y ∷ []) l late = step_at n x y ∙ sym (step_turned n x y)

double_values : (n : ℕ) (s : List Fraction) → length s ≡ length double_raw → 0 ≤ n
    → values_at double_form.polys (point (2 ∷ []) n s) ≡ iterations.iterations double_raw n s
unfolding branch_map after_branch after_statement store variables unit_exponents
double_values n [] l late = absurd (omega (arith, l))
double_values n (x ∷ []) l late = absurd (omega (arith, l))
double_values n (x ∷ y ∷ z ∷ zs) l late = absurd (omega (arith, l))
double_values n (x ∷ y ∷ []) l late = double_at n x y ∙ sym (double_turned n x y)

-- ---- whole
two_terms : (d e : List ℕ) → length d ≡ 4 → length e ≡ 4 → compare grevlex e d ≡ Less
    → IsPolynomial ℚ grevlex 4 ((d, one) ∷ (e, one) ∷ [])
unfolding Each Falls
two_terms d e k l c = record {
  nonzero = (ℚ_field.one-ne-zero, (ℚ_field.one-ne-zero, tt));
  arity = (k, (l, tt));
  falls = ((c, tt), (tt, tt));
}

one_term : (e : List ℕ) → length e ≡ 6 → IsPolynomial ℚ grevlex 6 ((e, one) ∷ [])
unfolding Each Falls
one_term e l = record { nonzero = (ℚ_field.one-ne-zero, tt); arity = (l, tt); falls = (tt, tt) }

pub step_is_form : IsClosedForm steps 1 step_form
unfolding Each compare grevlex branch_map after_branch after_statement store variables
    unit_exponents fraction is_lowest reduce gcd
step_is_form = record {
  base = record {
    values = one ∷ [];
    all = λ x e ne. step_all x (subst (λ l. IsEigenvalue l x) step_images_are e);
    only = λ x i. subst (λ l. IsEigenvalue l x) (sym step_images_are) (step_value x i);
    is = step_base;
  };
  polynomials = (two_terms _ _ refl refl refl, (two_terms _ _ refl refl refl, tt));
  normal = (
    ((omega arith, tt, tt, tt), ((omega arith, tt, tt, tt), tt)),
    (((omega arith, tt, tt, tt), ((omega arith, tt, tt, tt), tt)), tt),
  );
  form = record { arity = ((refl, (refl, tt)), ((refl, (refl, tt)), tt)); values = step_values };
  least = λ d h. omega arith;
}

pub double_is_form : IsClosedForm steps 2 double_form
unfolding Each branch_map after_branch after_statement store variables unit_exponents fraction
    is_lowest reduce gcd
double_is_form = record {
  base = record {
    values = two ∷ [];
    all = λ x e ne. double_all x (subst (λ l. IsEigenvalue l x) double_images_are e);
    only = λ x i. subst (λ l. IsEigenvalue l x) (sym double_images_are) (double_value x i);
    is = double_base;
  };
  polynomials = (one_term _ refl, (one_term _ refl, tt));
  normal = (
    ((omega arith, tt, tt, (inr refl, tt)), tt),
    (((omega arith, tt, tt, (inr refl, tt)), tt), tt),
  );
  form = record { arity = ((refl, tt), ((refl, tt), tt)); values = double_values };
  least = λ d h. omega arith;
}

-- ---- the journal
abbrev forms : List Form
forms = step_form ∷ double_form ∷ []

abbrev setting : Setting
setting = setting_of steps forms None

abbrev pub steps_journal : List Entry
steps_journal =
    Begin Start ∷ Begin (Closed 0 1 1) ∷ Did (Cut 0) ∷ Begin (Round 1) ∷ Begin (Orbit 1 1)
    ∷ Did (Pair 0 1) ∷ Did Keep ∷ Begin (Orbit 1 2) ∷ Did (Pair 0 1) ∷ Did Zero ∷ Did (Pair 0 3)
    ∷ Did Keep ∷ Did (Pair 1 3) ∷ Did Keep ∷ Did (Pair 0 4) ∷ Did Zero ∷ Did (Pair 1 5)
    ∷ Did Zero ∷ Begin (Meet 1 2) ∷ Did (Pair 0 2) ∷ Did (Cut 1) ∷ Did Keep ∷ Did (Pair 0 3)
    ∷ Did Zero ∷ Begin (Closed 1 1 1) ∷ Did (Cut 0) ∷ Did Zero ∷ Begin (Closed 1 2 1)
    ∷ Did (Cut 0) ∷ Did Zero ∷ []

abbrev pub steps_basis : List (Terms Fraction)
steps_basis = ((1 ∷ 0 ∷ [], one) ∷ (0 ∷ 1 ∷ [], whole (negsuc 0)) ∷ []) ∷ []

entries_are : (trace (moves setting) 30 fresh).0 ≡ steps_journal
unfolding on trace next block starting closing_from analysis.after_iterations analysis.after_branch
    analysis.after relation
    relations_to start_list start_polynomial in_order branch_map after_branch after_statement store
    value_of variables unit_exponents constant collect insert place scale_terms compare blocks
    grevlex
    elimination.next completion.next with_element with_elements s_polynomial next_reduction
    next_pair next_completion
    lead_of tail_of lead_number divides cut_by find_cut after_cut monic division.next with_term
    next_cut next_division all_free free_part retold coprime completion.degree mixes_degrees waits
    beside
    put_pair with_new covers skip_covered tidying.next without drop_from tail_or tail_from next_tail
    next_drop ahead put_by_lead by_lead less same plus lcm excess Algebra.times Algebra.shift
    Algebra.negate evaluate sum_over monomial_at power fraction Fraction.sum Fraction.product
    Fraction.opposite Fraction.inverse is_lowest reduce gcd
entries_are = refl

ends : next setting (trace (moves setting) 30 fresh).1 ≡ finished 1 steps_basis
unfolding on trace next block starting closing_from analysis.after_iterations analysis.after_branch
    analysis.after relation
    relations_to start_list start_polynomial in_order branch_map after_branch after_statement store
    value_of variables unit_exponents constant collect insert place scale_terms compare blocks
    grevlex
    elimination.next completion.next with_element with_elements s_polynomial next_reduction
    next_pair next_completion
    lead_of tail_of lead_number divides cut_by find_cut after_cut monic division.next with_term
    next_cut next_division all_free free_part retold coprime completion.degree mixes_degrees waits
    beside
    put_pair with_new covers skip_covered tidying.next without drop_from tail_or tail_from next_tail
    next_drop ahead put_by_lead by_lead less same plus lcm excess Algebra.times Algebra.shift
    Algebra.negate evaluate sum_over monomial_at power fraction Fraction.sum Fraction.product
    Fraction.opposite Fraction.inverse is_lowest reduce gcd
ends = refl

are_forms : AreForms steps forms
are_forms = record { count = refl; each = λ b d l. go b d l }
  where
    go : (b : ℕ) (d : Form) → b < 2 → IsClosedForm steps (suc b) (get_or forms b d)
    go zero d l = step_is_form
    go (suc zero) d l = double_is_form
    go (suc (suc b)) d l = absurd (omega (arith, l))

pub steps_finished : IsFinished steps steps_journal 1 steps_basis
steps_finished = record {
  state = (trace (moves setting) 30 fresh).1;
  follows = record {
    forms = forms;
    are_forms = are_forms;
    run = subst (λ es. IsRun (moves setting) fresh es (trace (moves setting) 30 fresh).1)
        entries_are (run_of (moves setting) 30 fresh);
  };
  is = ends;
}
