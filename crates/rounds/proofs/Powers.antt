-- A loop with the eigenvalues 2, 1/2 and -1, whole: vars x, y, z; init x=1, y=1, z=1; branch { x=2*x; y=y/2; z=-z; }
--   powers                 the loop
--   powers_form            its closed form over the base 2: u x, v y, s z
--   powers_is_form         which it is
--   powers_journal         its journal, which ends in round 1
--   powers_finished        with z^2 - 1 and x y - 1
use Rattle.std.proofs.Common.{◌≡◌, inl, inr, ℕ, zero, suc, ◌<◌, ◌≤◌, pos, negsuc, List, [], ◌∷◌, length, get_or, refl, sym, ap, ap₂, subst, ◌∙◌, arith, None}
use Rattle.std.specs.Prelude.{⊤}
use native.Mathlib.Nat as N
use Rattle.algebra.specs.Arithmetic.{power}
use Rattle.algebra.specs.Each.{Each}
use Rattle.algebra.specs.In.{In}
use Rattle.algebra.specs.Ring.{CommRing}
use Rattle.algebra.specs.Sum.{sum_over}
use Rattle.algebra.proofs.RingLaws.{one-mul, mul_rotate}
use Rattle.algebra.proofs.RingSolver.{ring_rules, ring}
use Rattle.algebra.specs.Gcd.{gcd}
use Rattle.algebra.specs.Ratio.{is_lowest, reduce}
use Rattle.algebra.specs.Fraction as Fraction
use Rattle.algebra.specs.Fraction.{Fraction, fraction, over, whole, ℚ}
use Rattle.algebra.proofs.Fractions.{ℚ_ring, ℚ_field}
use Rattle.polynomials.specs.Algebra as Algebra
use Rattle.polynomials.specs.Exponent.{same, plus, lcm, unit_exponents, over as less}
use Rattle.polynomials.specs.Order.{compare, grevlex, blocks}
use Rattle.polynomials.specs.Polynomial.{Falls, IsPolynomial}
use Rattle.polynomials.specs.Terms.{Terms, constant, variables, evaluate, monomial_at, retold}
use Rattle.machines.specs.Collect.{collect, insert, place, scale_terms}
use Rattle.machines.specs.Completion as completion
use Rattle.machines.specs.Elimination as elimination
use Rattle.machines.specs.Completion.{with_element, with_elements, s_polynomial, next_reduction, next_pair, next_completion}
use Rattle.machines.specs.Cut.{lead_of, tail_of, lead_number, divides, cut_by, find_cut, after_cut, monic}
use Rattle.machines.specs.Division as division
use Rattle.machines.specs.Division.{with_term, next_cut, next_division}
use Rattle.machines.specs.Elimination.{all_free, free_part}
use Rattle.machines.specs.Event.{Pair, Cut, Keep, Zero}
use Rattle.machines.specs.Journal.{Entry, Begin, Did, Start, Closed, Round, Orbit}
use Rattle.machines.specs.Pairs.{coprime, mixes_degrees, waits, beside, put_pair, with_new, covers, skip_covered}
use Rattle.machines.specs.Tidying as tidying
use Rattle.machines.specs.Tidying.{without, drop_from, tail_or, tail_from, next_tail, next_drop, ahead, put_by_lead, by_lead}
use Rattle.machines.specs.Run.{IsRun}
use Rattle.machines.proofs.Runs.{on, trace, run_of}
use Rattle.exponentials.specs.Base.{IsProductOf, IsTheBase}
use Rattle.exponentials.specs.Keys.{excess}
use Rattle.solvable_maps.specs.Iterations as iterations
use Rattle.solvable_maps.specs.Iterations.{point, values_at}
use Rattle.loops.specs.Effect.{store, value_of, after_statement, after_branch}
use Rattle.loops.specs.Map.{branch_map}
use Rattle.loops.specs.Program.{Expr, number, variable, neg, mul, divide, Program}
use Rattle.loops.proofs.Examples.{assign, given}
use Rattle.loops.proofs.Maps.{branch_map_values}
use Rattle.rounds.specs.BranchMap.{map_of}
use Rattle.solvable_maps.specs.Classes.{IsEigenvalue}
use Rattle.rounds.specs.Analysis as analysis
use Rattle.rounds.specs.Analysis.{Setting, fresh, finished, next, moves, block, starting, closing_from}
use Rattle.rounds.specs.Form.{Form, IsClosedForm, relation, relations_to}
use Rattle.rounds.specs.Journal.{setting_of, AreForms, IsFinished}
use Rattle.rounds.specs.Start.{start_list, start_polynomial, in_order}
use Rattle.rounds.specs.Word.{branch_of}
use Rattle.rounds.proofs.Alone.{own, own_is_eigenvalue, eigenvalue_is_own}

abbrev pub powers : Program (Expr ⊤)
powers = record {
  names = (120 ∷ []) ∷ (121 ∷ []) ∷ (122 ∷ []) ∷ [];
  locals = [];
  init = given 0 (number (pos 1)) ∷ given 1 (number (pos 1)) ∷ given 2 (number (pos 1)) ∷ [];
  branches = (assign 0 (mul tt (number (pos 2)) (variable 0))
      ∷ assign 1 (divide tt (variable 1) (pos 2)) ∷ assign 2 (neg tt (variable 2)) ∷ []) ∷ [];
}

abbrev one : Fraction
one = whole (pos 1)

abbrev two : Fraction
two = whole (pos 2)

abbrev half : Fraction
half = over (pos 1) 2

abbrev minus : Fraction
minus = whole (negsuc 0)

abbrev pub powers_form : Form
powers_form = record {
  base = 2 ∷ [];
  polys =
      ((0 ∷ 0 ∷ 1 ∷ 0 ∷ 1 ∷ 0 ∷ 0 ∷ [], one) ∷ [])
      ∷ ((0 ∷ 0 ∷ 0 ∷ 1 ∷ 0 ∷ 1 ∷ 0 ∷ [], one) ∷ [])
      ∷ ((0 ∷ 1 ∷ 0 ∷ 0 ∷ 0 ∷ 0 ∷ 1 ∷ [], one) ∷ []) ∷ [];
  since = 0;
}

abbrev images : List (Terms Fraction)
images = ((1 ∷ 0 ∷ 0 ∷ [], two) ∷ []) ∷ ((0 ∷ 1 ∷ 0 ∷ [], half) ∷ [])
    ∷ ((0 ∷ 0 ∷ 1 ∷ [], minus) ∷ []) ∷ []

images_are : map_of powers 1 ≡ images
unfolding map_of branch_map after_branch after_statement store value_of variables unit_exponents
    constant collect insert place compare grevlex Algebra.times Algebra.shift Algebra.negate plus
    fraction Fraction.sum Fraction.product Fraction.opposite Fraction.inverse is_lowest reduce gcd
images_are = refl

-- ---- the eigenvalues
abbrev values : List Fraction
values = two ∷ half ∷ minus ∷ []

is_value : (x : Fraction) → In x values → IsEigenvalue images x
unfolding Each Algebra.coefficient same sum_over fraction Fraction.sum Fraction.product is_lowest
    reduce gcd
is_value x i =
    elim i [
      | inl e ↦ subst (IsEigenvalue images) (sym e) (own_is_eigenvalue images (
        (refl, tt),
        ((refl, tt), ((refl, tt), tt)),
      ) tt 0 (omega arith))
      | inr i ↦ elim i [
        | inl e ↦ subst (IsEigenvalue images) (sym e) (own_is_eigenvalue images (
          (refl, tt),
          ((refl, tt), ((refl, tt), tt)),
        ) tt 1 (omega arith))
        | inr i ↦ elim i [
          | inl e
              ↦ subst (IsEigenvalue images) (sym e) (own_is_eigenvalue images (
                (refl, tt),
                ((refl, tt), ((refl, tt), tt)),
              ) tt 2 (omega arith))
          | inr n ↦ absurd n
        ]
      ]
    ]

are_all : (x : Fraction) → IsEigenvalue images x → In x values
unfolding Each Algebra.coefficient same sum_over fraction Fraction.sum Fraction.product is_lowest
    reduce gcd
are_all x e =
    let (i, l, is) = eigenvalue_is_own images ((refl, tt), ((refl, tt), ((refl, tt), tt))) tt x e in
    go i l is
  where
    go : (i : ℕ) → i < 3 → x ≡ own images i → In x values
    go zero l is = inl is
    go (suc zero) l is = inr (inl is)
    go (suc (suc zero)) l is = inr (inr (inl is))
    go (suc (suc (suc i))) l is = absurd (omega (arith, l))

abbrev sizes : List ℕ
sizes = 2 ∷ 1 ∷ 1 ∷ 1 ∷ 2 ∷ 1 ∷ []

made_two : IsProductOf (2 ∷ []) 2
made_two = record { exponents = 1 ∷ []; fits = tt; is = refl }

made_one : IsProductOf (2 ∷ []) 1
made_one = record { exponents = 0 ∷ []; fits = tt; is = refl }

base : IsTheBase sizes (2 ∷ [])
unfolding Each
base = record {
  coarsest = record {
    base = record {
      coprime = (omega arith, tt, tt);
      products = (made_two, (made_one, (made_one, (made_one, (made_two, (made_one, tt))))));
    };
    coarsest = λ cs c. (c.products.0, tt);
  };
  ascending = (tt, tt);
  divides = (record { number = 2; within = inl refl; divides = N.dvd_refl 2 }, tt);
}

-- ---- the state after n iterations
module _ {A : Type 0} (R : CommRing A) where
  open R use {one as 𝟙, zero as 𝟘, add as ◌⊕◌, mul as ◌⊗◌, neg}

  infixl 60 ◌⊕◌
  infixl 70 ◌⊗◌
  x_at : (u x : A) → 𝟙 ⊗ (𝟙 ⊗ (𝟙 ⊗ ((u ⊗ 𝟙) ⊗ (𝟙 ⊗ ((x ⊗ 𝟙) ⊗ (𝟙 ⊗ (𝟙 ⊗ 𝟙))))))) ⊕ 𝟘 ≡ u ⊗ x
  x_at u x = ring R (u ∷ x ∷ []) (search ring_rules depth 40) refl

  y_at : (v y : A) → 𝟙 ⊗ (𝟙 ⊗ (𝟙 ⊗ (𝟙 ⊗ ((v ⊗ 𝟙) ⊗ (𝟙 ⊗ ((y ⊗ 𝟙) ⊗ (𝟙 ⊗ 𝟙))))))) ⊕ 𝟘 ≡ v ⊗ y
  y_at v y = ring R (v ∷ y ∷ []) (search ring_rules depth 40) refl

  z_at : (s z : A) → 𝟙 ⊗ (𝟙 ⊗ ((s ⊗ 𝟙) ⊗ (𝟙 ⊗ (𝟙 ⊗ (𝟙 ⊗ (𝟙 ⊗ ((z ⊗ 𝟙) ⊗ 𝟙))))))) ⊕ 𝟘 ≡ s ⊗ z
  z_at s z = ring R (s ∷ z ∷ []) (search ring_rules depth 40) refl

  next_sign : (e s z : A) → e ≡ neg 𝟙 → neg (s ⊗ z) ≡ e ⊗ s ⊗ z
  next_sign e s z is = sym (ap (λ e. e ⊗ s ⊗ z) is
      ∙ ring R (s ∷ z ∷ []) (search ring_rules depth 40) refl)

minus_is : minus ≡ ℚ.neg one
unfolding fraction Fraction.opposite is_lowest gcd
minus_is = refl

abbrev after : Fraction → Fraction → Fraction → Fraction → Fraction → Fraction → List Fraction
after u v s x y z = ℚ.mul u x ∷ ℚ.mul v y ∷ ℚ.mul s z ∷ []

abbrev after_iterations : ℕ → Fraction → Fraction → Fraction → List Fraction
after_iterations n x y z = after (power ℚ two n) (power ℚ (Fraction.inverse two) n)
    (power ℚ minus n) x y
    z

abbrev raw : List (Terms Fraction)
raw = branch_map powers (branch_of powers 1)

iteration : (x y z : Fraction) → values_at raw (x ∷ y ∷ z ∷ []) ≡ ℚ.mul two x
    ∷ ℚ.mul y (Fraction.inverse two) ∷ ℚ.neg z ∷ []
unfolding after_branch after_statement store value_of
iteration x y z = branch_map_values powers (branch_of powers 1) (x ∷ y ∷ z ∷ []) refl

turned : (n : ℕ) (x y z : Fraction) → iterations.iterations raw n (x ∷ y ∷ z ∷ [])
    ≡ after_iterations n x y z
unfolding power
turned zero x y z =
    sym (ap₂ ◌∷◌ (one-mul ℚ_ring x)
    (ap₂ ◌∷◌ (one-mul ℚ_ring y) (ap (λ z. z ∷ []) (one-mul ℚ_ring z))))
turned (suc n) x y z =
    ap (values_at raw) (turned n x y z) ∙ iteration _ _ _
    ∙ ap₂ ◌∷◌ (sym (ℚ_ring.mul_assoc two (power ℚ two n) x))
    (ap₂ ◌∷◌ (mul_rotate ℚ_ring (power ℚ (Fraction.inverse two) n) y (Fraction.inverse two))
    (ap (λ z. z ∷ []) (next_sign ℚ_ring minus (power ℚ minus n) z minus_is)))

at : (n : ℕ) (x y z : Fraction) → values_at powers_form.polys (point (2 ∷ []) n (x ∷ y ∷ z ∷ []))
    ≡ after_iterations n x y z
unfolding evaluate sum_over monomial_at power
at n x y z = ap₂ ◌∷◌ (x_at ℚ_ring (power ℚ two n) x)
    (ap₂ ◌∷◌ (y_at ℚ_ring (power ℚ (Fraction.inverse two) n) y)
    (ap (λ z. z ∷ []) (z_at ℚ_ring (power ℚ minus n) z)))

form_values : (n : ℕ) (s : List Fraction) → length s ≡ length raw → 0 ≤ n
    → values_at powers_form.polys (point (2 ∷ []) n s) ≡ iterations.iterations raw n s
unfolding branch_map after_branch after_statement store variables unit_exponents
form_values n [] l late = absurd (omega (arith, l))
form_values n (x ∷ []) l late = absurd (omega (arith, l))
form_values n (x ∷ y ∷ []) l late = absurd (omega (arith, l))
form_values n (x ∷ y ∷ z ∷ w ∷ ws) l late = absurd (omega (arith, l))
form_values n (x ∷ y ∷ z ∷ []) l late = at n x y z ∙ sym (turned n x y z)

-- ---- whole
one_term : (e : List ℕ) → length e ≡ 7 → IsPolynomial ℚ grevlex 7 ((e, one) ∷ [])
unfolding Each Falls
one_term e l = record { nonzero = (ℚ_field.one-ne-zero, tt); arity = (l, tt); falls = (tt, tt) }

pub powers_is_form : IsClosedForm powers 1 powers_form
unfolding Each branch_map after_branch after_statement store variables unit_exponents fraction
    is_lowest reduce gcd
powers_is_form = record {
  base = record {
    values = values;
    all = λ x e ne. are_all x (subst (λ l. IsEigenvalue l x) images_are e);
    only = λ x i. subst (λ l. IsEigenvalue l x) (sym images_are) (is_value x i);
    is = base;
  };
  polynomials = (one_term _ refl, (one_term _ refl, (one_term _ refl, tt)));
  normal = (
    ((omega arith, tt, tt, (inr refl, tt)), tt),
    (
      ((omega arith, tt, tt, (inl refl, tt)), tt),
      (((omega arith, tt, tt, (inl refl, tt)), tt), tt),
    ),
  );
  form = record { arity = ((refl, tt), ((refl, tt), ((refl, tt), tt))); values = form_values };
  least = λ d h. omega arith;
}

-- ---- the journal
abbrev setting : Setting
setting = setting_of powers (powers_form ∷ []) None

abbrev pub powers_journal : List Entry
powers_journal =
    Begin Start ∷ Begin (Closed 0 1 1) ∷ Did (Cut 0) ∷ Begin (Round 1) ∷ Begin (Orbit 1 1)
    ∷ Did (Pair 1 4) ∷ Did Keep ∷ Did (Pair 2 4) ∷ Did Keep ∷ Did (Pair 0 3) ∷ Did Keep
    ∷ Did (Pair 2 5) ∷ Did Keep ∷ Did (Pair 1 6) ∷ Did (Cut 8) ∷ Did Zero ∷ Did (Pair 0 7)
    ∷ Did Keep ∷ Did (Pair 4 5) ∷ Did (Cut 1) ∷ Did Zero ∷ Did (Pair 3 7) ∷ Did (Cut 0)
    ∷ Did Zero ∷ Begin (Closed 1 1 1) ∷ Did (Cut 0) ∷ Did Zero ∷ Begin (Closed 1 1 2)
    ∷ Did (Cut 1) ∷ Did Zero ∷ []

abbrev pub powers_basis : List (Terms Fraction)
powers_basis = ((0 ∷ 0 ∷ 2 ∷ [], one) ∷ (0 ∷ 0 ∷ 0 ∷ [], minus) ∷ [])
    ∷ ((1 ∷ 1 ∷ 0 ∷ [], one) ∷ (0 ∷ 0 ∷ 0 ∷ [], minus) ∷ []) ∷ []

entries_are : (trace (moves setting) 30 fresh).0 ≡ powers_journal
unfolding on trace next block starting closing_from analysis.after_iterations analysis.after_branch
    analysis.after relation
    relations_to start_list start_polynomial in_order branch_map after_branch after_statement store
    value_of variables unit_exponents constant collect insert place scale_terms compare blocks
    grevlex
    elimination.next completion.next with_element with_elements s_polynomial next_reduction
    next_pair next_completion
    lead_of tail_of lead_number divides cut_by find_cut after_cut monic division.next with_term
    next_cut next_division all_free free_part retold coprime completion.degree mixes_degrees waits
    beside
    put_pair with_new covers skip_covered tidying.next without drop_from tail_or tail_from next_tail
    next_drop ahead put_by_lead by_lead less same plus lcm excess Algebra.times Algebra.shift
    Algebra.negate evaluate sum_over monomial_at power fraction Fraction.sum Fraction.product
    Fraction.opposite Fraction.inverse is_lowest reduce gcd
entries_are = refl

ends : next setting (trace (moves setting) 30 fresh).1 ≡ finished 1 powers_basis
unfolding on trace next block starting closing_from analysis.after_iterations analysis.after_branch
    analysis.after relation
    relations_to start_list start_polynomial in_order branch_map after_branch after_statement store
    value_of variables unit_exponents constant collect insert place scale_terms compare blocks
    grevlex
    elimination.next completion.next with_element with_elements s_polynomial next_reduction
    next_pair next_completion
    lead_of tail_of lead_number divides cut_by find_cut after_cut monic division.next with_term
    next_cut next_division all_free free_part retold coprime completion.degree mixes_degrees waits
    beside
    put_pair with_new covers skip_covered tidying.next without drop_from tail_or tail_from next_tail
    next_drop ahead put_by_lead by_lead less same plus lcm excess Algebra.times Algebra.shift
    Algebra.negate evaluate sum_over monomial_at power fraction Fraction.sum Fraction.product
    Fraction.opposite Fraction.inverse is_lowest reduce gcd
ends = refl

are_forms : AreForms powers (powers_form ∷ [])
are_forms = record { count = refl; each = λ b d l. go b d l }
  where
    go : (b : ℕ) (d : Form) → b < 1 → IsClosedForm powers (suc b) (get_or (powers_form ∷ []) b d)
    go zero d l = powers_is_form
    go (suc b) d l = absurd (omega (arith, l))

pub powers_finished : IsFinished powers powers_journal 1 powers_basis
powers_finished = record {
  state = (trace (moves setting) 30 fresh).1;
  follows = record {
    forms = powers_form ∷ [];
    are_forms = are_forms;
    run = subst (λ es. IsRun (moves setting) fresh es (trace (moves setting) 30 fresh).1)
        entries_are (run_of (moves setting) 30 fresh);
  };
  is = ends;
}
