-- A loop whose only eigenvalue is 1, whole: vars a, s, t; init a=0, s=1, t=1; branch { a=a+1; t=t+2; s=s+t; }
--   squares_form           its closed form: a + n, s + n t + n^2 + n, t + 2 n
--   squares_journal        its journal, which ends in round 1
--   squares_is_form, squares_are_forms     which it is
--   squares_finished       with squares_basis: a - t/2 + 1/2 and t^2 - 4 s + 2 t + 1
use Rattle.std.proofs.Common.{◌≡◌, inl, inr, ℕ, zero, suc, ◌<◌, ◌≤◌, pos, negsuc, List, [], ◌∷◌, length, get_or, refl, sym, ap, ap₂, subst, ◌∙◌, arith, None}
use Rattle.algebra.specs.Arithmetic.{power}
use Rattle.algebra.specs.Each.{Each}
use Rattle.algebra.specs.In.{In}
use Rattle.algebra.specs.Ring.{CommRing}
use Rattle.algebra.specs.Sum.{sum_over}
use Rattle.algebra.proofs.RingLaws.{zero-add, add_rotate}
use Rattle.algebra.proofs.RingSolver.{ring_rules, ring}
use Rattle.algebra.specs.Gcd.{gcd}
use Rattle.algebra.specs.Ratio.{is_lowest, reduce}
use Rattle.algebra.specs.Fraction as Fraction
use Rattle.algebra.specs.Fraction.{Fraction, fraction, over, whole, ℚ}
use Rattle.algebra.proofs.Fractions.{ℚ_ring, ℚ_field}
use Rattle.algebra.proofs.Wholes.{whole_injective, whole-suc}
use Rattle.polynomials.specs.Algebra as Algebra
use Rattle.polynomials.specs.Exponent.{same, plus, lcm, unit_exponents, over as less}
use Rattle.polynomials.specs.Order.{compare, grevlex, blocks}
use Rattle.polynomials.specs.Polynomial.{Falls}
use Rattle.polynomials.specs.Terms.{Terms, constant, variables, evaluate, monomial_at, retold}
use Rattle.machines.specs.Collect.{collect, insert, place, scale_terms}
use Rattle.machines.specs.Completion as completion
use Rattle.machines.specs.Elimination as elimination
use Rattle.machines.specs.Completion.{with_element, with_elements, s_polynomial, next_reduction, next_pair, next_completion}
use Rattle.machines.specs.Cut.{lead_of, tail_of, lead_number, divides, cut_by, find_cut, after_cut, monic}
use Rattle.machines.specs.Division as division
use Rattle.machines.specs.Division.{with_term, next_cut, next_division}
use Rattle.machines.specs.Elimination.{all_free, free_part}
use Rattle.machines.specs.Event.{Pair, Cut, Keep, Zero}
use Rattle.machines.specs.Journal.{Entry, Begin, Did, Start, Closed, Round, Orbit}
use Rattle.machines.specs.Pairs.{coprime, mixes_degrees, waits, beside, put_pair, with_new, covers, skip_covered}
use Rattle.machines.specs.Tidying as tidying
use Rattle.machines.specs.Tidying.{without, drop_from, tail_or, tail_from, next_tail, next_drop, ahead, put_by_lead, by_lead}
use Rattle.machines.specs.Run.{IsRun}
use Rattle.machines.proofs.Runs.{on, trace, run_of}
use Rattle.exponentials.specs.Base.{IsTheBase}
use Rattle.exponentials.specs.Keys.{excess}
use Rattle.solvable_maps.specs.Iterations as iterations
use Rattle.solvable_maps.specs.Iterations.{point, values_at}
use Rattle.loops.specs.Effect.{store, value_of, after_statement, after_branch}
use Rattle.loops.specs.Map.{branch_map}
use Rattle.loops.proofs.Examples.{squares}
use Rattle.loops.proofs.Maps.{branch_map_values}
use Rattle.rounds.specs.BranchMap.{map_of}
use Rattle.solvable_maps.specs.Classes.{IsEigenvalue}
use Rattle.rounds.specs.Analysis as analysis
use Rattle.rounds.specs.Analysis.{Setting, fresh, finished, next, moves, block, starting, closing_from}
use Rattle.rounds.specs.Form.{Form, IsClosedForm, relation, relations_to}
use Rattle.rounds.specs.Journal.{setting_of, AreForms, IsFinished}
use Rattle.rounds.specs.Start.{start_list, start_polynomial, in_order}
use Rattle.rounds.specs.Word.{branch_of}
use Rattle.rounds.proofs.Alone.{own, own_is_eigenvalue, eigenvalue_is_own}

abbrev one : Fraction
one = whole (pos 1)

abbrev two : Fraction
two = whole (pos 2)

abbrev pub squares_form : Form
squares_form = record {
  base = [];
  polys =
      ((1 ∷ 0 ∷ 0 ∷ 0 ∷ 0 ∷ [], one) ∷ (0 ∷ 0 ∷ 1 ∷ 0 ∷ 0 ∷ [], one) ∷ [])
      ∷ ((2 ∷ 0 ∷ 0 ∷ 0 ∷ 0 ∷ [], one) ∷ (1 ∷ 0 ∷ 0 ∷ 0 ∷ 1 ∷ [], one) ∷ (
        1 ∷ 0 ∷ 0 ∷ 0 ∷ 0 ∷ [],
        one,
      ) ∷ (0 ∷ 0 ∷ 0 ∷ 1 ∷ 0 ∷ [], one) ∷ [])
      ∷ ((1 ∷ 0 ∷ 0 ∷ 0 ∷ 0 ∷ [], two) ∷ (0 ∷ 0 ∷ 0 ∷ 0 ∷ 1 ∷ [], one) ∷ []) ∷ [];
  since = 0;
}

abbrev images : List (Terms Fraction)
images =
    ((1 ∷ 0 ∷ 0 ∷ [], one) ∷ (0 ∷ 0 ∷ 0 ∷ [], one) ∷ [])
    ∷ ((0 ∷ 1 ∷ 0 ∷ [], one) ∷ (0 ∷ 0 ∷ 1 ∷ [], one) ∷ (0 ∷ 0 ∷ 0 ∷ [], two) ∷ [])
    ∷ ((0 ∷ 0 ∷ 1 ∷ [], one) ∷ (0 ∷ 0 ∷ 0 ∷ [], two) ∷ []) ∷ []

images_are : map_of squares 1 ≡ images
unfolding map_of branch_map after_branch after_statement store value_of variables unit_exponents
    constant collect insert place compare grevlex Algebra.times Algebra.shift Algebra.negate plus
    fraction Fraction.sum Fraction.product Fraction.opposite Fraction.inverse is_lowest reduce gcd
images_are = refl

-- ---- the only eigenvalue
is_value : (x : Fraction) → In x (one ∷ []) → IsEigenvalue images x
unfolding Each Algebra.coefficient same sum_over fraction Fraction.sum Fraction.product is_lowest
    reduce gcd
is_value x i =
    elim i [
      | inl e
          ↦ subst (IsEigenvalue images) (sym e) (own_is_eigenvalue images (
            (refl, (refl, tt)),
            ((refl, (refl, (refl, tt))), ((refl, (refl, tt)), tt)),
          ) tt 0 (omega arith))
      | inr n
          ↦ absurd n
    ]

are_all : (x : Fraction) → IsEigenvalue images x → In x (one ∷ [])
unfolding Each Algebra.coefficient same sum_over fraction Fraction.sum Fraction.product is_lowest
    reduce gcd
are_all x e =
    let (i, l, is) = eigenvalue_is_own images (
      (refl, (refl, tt)),
      ((refl, (refl, (refl, tt))), ((refl, (refl, tt)), tt)),
    ) tt x e in
    inl (is ∙ go i l)
  where
    go : (i : ℕ) → i < 3 → own images i ≡ one
    go zero l = refl
    go (suc zero) l = refl
    go (suc (suc zero)) l = refl
    go (suc (suc (suc i))) l = absurd (omega (arith, l))

base : IsTheBase (1 ∷ 1 ∷ []) []
unfolding Each
base = record {
  coarsest = record {
    base = record {
      coprime = tt;
      products = (
        record { exponents = []; fits = tt; is = refl },
        (record { exponents = []; fits = tt; is = refl }, tt),
      );
    };
    coarsest = λ cs c. tt;
  };
  ascending = tt;
  divides = tt;
}

-- ---- the state after n iterations
module _ {A : Type 0} (R : CommRing A) where
  open R use {one as 𝟙, zero as 𝟘, add as ◌⊕◌, mul as ◌⊗◌}

  infixl 60 ◌⊕◌
  infixl 70 ◌⊗◌
  a_at : (n a : A) → 𝟙 ⊗ ((n ⊗ 𝟙) ⊗ (𝟙 ⊗ (𝟙 ⊗ (𝟙 ⊗ (𝟙 ⊗ 𝟙))))) ⊕
      (𝟙 ⊗ (𝟙 ⊗ (𝟙 ⊗ ((a ⊗ 𝟙) ⊗ (𝟙 ⊗ (𝟙 ⊗ 𝟙))))) ⊕ 𝟘) ≡ n ⊕ a
  a_at n a = ring R (n ∷ a ∷ []) (search ring_rules depth 40) refl

  s_at : (n s t : A) → 𝟙 ⊗ ((n ⊗ (n ⊗ 𝟙)) ⊗ (𝟙 ⊗ (𝟙 ⊗ (𝟙 ⊗ (𝟙 ⊗ 𝟙))))) ⊕
      (𝟙 ⊗ ((n ⊗ 𝟙) ⊗ (𝟙 ⊗ (𝟙 ⊗ (𝟙 ⊗ ((t ⊗ 𝟙) ⊗ 𝟙))))) ⊕ (𝟙 ⊗ ((n ⊗ 𝟙) ⊗ (𝟙 ⊗ (𝟙 ⊗ (𝟙 ⊗ (𝟙 ⊗ 𝟙)))))
      ⊕ (𝟙 ⊗ (𝟙 ⊗ (𝟙 ⊗ (𝟙 ⊗ ((s ⊗ 𝟙) ⊗ (𝟙 ⊗ 𝟙))))) ⊕ 𝟘)))
      ≡ n ⊗ n ⊕ n ⊗ t ⊕ n ⊕ s
  s_at n s t = ring R (n ∷ s ∷ t ∷ []) (search ring_rules depth 40) refl

  t_at : (k n t : A) → k ⊗ ((n ⊗ 𝟙) ⊗ (𝟙 ⊗ (𝟙 ⊗ (𝟙 ⊗ (𝟙 ⊗ 𝟙))))) ⊕
      (𝟙 ⊗ (𝟙 ⊗ (𝟙 ⊗ (𝟙 ⊗ (𝟙 ⊗ ((t ⊗ 𝟙) ⊗ 𝟙))))) ⊕ 𝟘) ≡ k ⊗ n ⊕ t
  t_at k n t = ring R (k ∷ n ∷ t ∷ []) (search ring_rules depth 40) refl

  s_first : (s t : A) → 𝟘 ⊗ 𝟘 ⊕ 𝟘 ⊗ t ⊕ 𝟘 ⊕ s ≡ s
  s_first s t = ring R (s ∷ t ∷ []) (search ring_rules depth 40) refl

  t_first : (k t : A) → k ⊗ 𝟘 ⊕ t ≡ t
  t_first k t = ring R (k ∷ t ∷ []) (search ring_rules depth 40) refl

  s_next : (k n s t : A) → k ≡ 𝟙 ⊕ 𝟙 → (n ⊗ n ⊕ n ⊗ t ⊕ n ⊕ s) ⊕ (k ⊗ n ⊕ t ⊕ k) ≡ (𝟙 ⊕ n) ⊗ (𝟙 ⊕ n)
      ⊕ (𝟙 ⊕ n) ⊗ t ⊕ (𝟙 ⊕ n) ⊕ s
  s_next k n s t e = ap (λ k. (n ⊗ n ⊕ n ⊗ t ⊕ n ⊕ s) ⊕ (k ⊗ n ⊕ t ⊕ k)) e
      ∙ ring R (n ∷ s ∷ t ∷ []) (search ring_rules depth 40) refl

  t_next : (k n t : A) → k ⊗ n ⊕ t ⊕ k ≡ k ⊗ (𝟙 ⊕ n) ⊕ t
  t_next k n t = ring R (k ∷ n ∷ t ∷ []) (search ring_rules depth 40) refl

two_is : two ≡ ℚ.add one one
unfolding fraction Fraction.sum is_lowest reduce gcd
two_is = refl

abbrev after : Fraction → Fraction → Fraction → Fraction → List Fraction
after n a s t = ℚ.add n a ∷ ℚ.add (ℚ.add (ℚ.add (ℚ.mul n n) (ℚ.mul n t)) n) s ∷ ℚ.add (ℚ.mul two n)
    t ∷ []

abbrev raw : List (Terms Fraction)
raw = branch_map squares (branch_of squares 1)

iteration : (a s t : Fraction) → values_at raw (a ∷ s ∷ t ∷ []) ≡ ℚ.add a one
    ∷ ℚ.add s (ℚ.add t two)
    ∷ ℚ.add t two ∷ []
unfolding after_branch after_statement store value_of
iteration a s t = branch_map_values squares (branch_of squares 1) (a ∷ s ∷ t ∷ []) refl

turned : (n : ℕ) (a s t : Fraction) → iterations.iterations raw n (a ∷ s ∷ t ∷ [])
    ≡ after (whole (pos n)) a s
    t
turned zero a s t =
    sym (ap₂ ◌∷◌ (zero-add ℚ_ring a) (ap₂ ◌∷◌ (s_first ℚ_ring s t)
    (ap (λ x. x ∷ []) (t_first ℚ_ring two t))))
turned (suc n) a s t =
    ap (values_at raw) (turned n a s t) ∙ iteration _ _ _
    ∙ ap₂ ◌∷◌ (add_rotate ℚ_ring (whole (pos n)) a one)
    (ap₂ ◌∷◌ (s_next ℚ_ring two (whole (pos n)) s t two_is)
    (ap (λ x. x ∷ []) (t_next ℚ_ring two (whole (pos n)) t)))
    ∙ ap (λ k. after k a s t) (sym (whole-suc n))

at : (n : ℕ) (a s t : Fraction) → values_at squares_form.polys (point [] n (a ∷ s ∷ t ∷ []))
    ≡ after (whole (pos n)) a s t
unfolding evaluate sum_over monomial_at power
at n a s t = ap₂ ◌∷◌ (a_at ℚ_ring (whole (pos n)) a) (ap₂ ◌∷◌ (s_at ℚ_ring (whole (pos n)) s t)
    (ap (λ x. x ∷ []) (t_at ℚ_ring two (whole (pos n)) t)))

form_values : (n : ℕ) (s : List Fraction) → length s ≡ length raw → 0 ≤ n
    → values_at squares_form.polys (point [] n s) ≡ iterations.iterations raw n s
unfolding branch_map after_branch after_statement store variables unit_exponents
form_values n [] l late = absurd (omega (arith, l))
form_values n (a ∷ []) l late = absurd (omega (arith, l))
form_values n (a ∷ s ∷ []) l late = absurd (omega (arith, l))
form_values n (a ∷ s ∷ t ∷ x ∷ xs) l late = absurd (omega (arith, l))
form_values n (a ∷ s ∷ t ∷ []) l late = at n a s t ∙ sym (turned n a s t)

-- ---- whole
one_some : one ≡ ℚ.zero → ⊥
one_some = ℚ_field.one-ne-zero

two_some : two ≡ ℚ.zero → ⊥
two_some e = let z : pos 2 ≡ pos 0 = whole_injective (pos 2) (pos 0) e in cc

pub squares_is_form : IsClosedForm squares 1 squares_form
unfolding Each Falls compare grevlex branch_map after_branch after_statement store variables
    unit_exponents fraction is_lowest gcd
squares_is_form = record {
  base = record {
    values = one ∷ [];
    all = λ x e ne. are_all x (subst (λ l. IsEigenvalue l x) images_are e);
    only = λ x i. subst (λ l. IsEigenvalue l x) (sym images_are) (is_value x i);
    is = base;
  };
  polynomials = (
    record {
      nonzero = (one_some, (one_some, tt));
      arity = (refl, (refl, tt));
      falls = ((refl, tt), (tt, tt));
    },
    (
      record {
        nonzero = (one_some, (one_some, (one_some, (one_some, tt))));
        arity = (refl, (refl, (refl, (refl, tt))));
        falls = ((refl, (refl, (refl, tt))), ((refl, (refl, tt)), ((refl, tt), (tt, tt))));
      },
      (
        record {
          nonzero = (two_some, (one_some, tt));
          arity = (refl, (refl, tt));
          falls = ((refl, tt), (tt, tt));
        },
        tt,
      ),
    ),
  );
  normal = (
    ((omega arith, tt, tt, tt), ((omega arith, tt, tt, tt), tt)),
    (
      (
        (omega arith, tt, tt, tt),
        ((omega arith, tt, tt, tt), ((omega arith, tt, tt, tt), ((omega arith, tt, tt, tt), tt))),
      ),
      (((omega arith, tt, tt, tt), ((omega arith, tt, tt, tt), tt)), tt),
    ),
  );
  form = record {
    arity = ((refl, (refl, tt)), ((refl, (refl, (refl, (refl, tt)))), ((refl, (refl, tt)), tt)));
    values = form_values;
  };
  least = λ d h. omega arith;
}

-- ---- the journal
abbrev setting : Setting
setting = setting_of squares (squares_form ∷ []) None

abbrev pub squares_journal : List Entry
squares_journal =
    Begin Start ∷ Begin (Closed 0 1 1) ∷ Did (Cut 0) ∷ Begin (Round 1)
    ∷ Begin (Orbit 1 1) ∷ Did (Pair 0 2) ∷ Did Keep ∷ Did (Pair 0 1) ∷ Did (Cut 0) ∷ Did (Cut 0)
    ∷ Did Keep
    ∷ Begin (Closed 1 1 1) ∷ Did (Cut 0) ∷ Did Zero ∷ Begin (Closed 1 1 2) ∷ Did (Cut 1) ∷ Did Zero
    ∷ []

abbrev pub squares_basis : List (Terms Fraction)
squares_basis =
    ((1 ∷ 0 ∷ 0 ∷ [], one) ∷ (0 ∷ 0 ∷ 1 ∷ [], over (negsuc 0) 2) ∷ (0 ∷ 0 ∷ 0 ∷ [], over (pos 1) 2)
    ∷ [])
    ∷ ((0 ∷ 0 ∷ 2 ∷ [], one) ∷ (0 ∷ 1 ∷ 0 ∷ [], whole (negsuc 3)) ∷ (0 ∷ 0 ∷ 1 ∷ [], two)
    ∷ (0 ∷ 0 ∷ 0 ∷ [], one) ∷ []) ∷ []

entries_are : (trace (moves setting) 17 fresh).0 ≡ squares_journal
unfolding on trace next block starting closing_from analysis.after_iterations analysis.after_branch
    analysis.after relation
    relations_to start_list start_polynomial in_order branch_map after_branch after_statement store
    value_of variables unit_exponents constant collect insert place scale_terms compare blocks
    grevlex
    elimination.next completion.next with_element with_elements s_polynomial next_reduction
    next_pair next_completion
    lead_of tail_of lead_number divides cut_by find_cut after_cut monic division.next with_term
    next_cut next_division all_free free_part retold coprime completion.degree mixes_degrees waits
    beside
    put_pair with_new covers skip_covered tidying.next without drop_from tail_or tail_from next_tail
    next_drop ahead put_by_lead by_lead less same plus lcm excess Algebra.times Algebra.shift
    Algebra.negate evaluate sum_over monomial_at power fraction Fraction.sum Fraction.product
    Fraction.opposite Fraction.inverse is_lowest reduce gcd
entries_are = refl

ends : next setting (trace (moves setting) 17 fresh).1 ≡ finished 1 squares_basis
unfolding on trace next block starting closing_from analysis.after_iterations analysis.after_branch
    analysis.after relation
    relations_to start_list start_polynomial in_order branch_map after_branch after_statement store
    value_of variables unit_exponents constant collect insert place scale_terms compare blocks
    grevlex
    elimination.next completion.next with_element with_elements s_polynomial next_reduction
    next_pair next_completion
    lead_of tail_of lead_number divides cut_by find_cut after_cut monic division.next with_term
    next_cut next_division all_free free_part retold coprime completion.degree mixes_degrees waits
    beside
    put_pair with_new covers skip_covered tidying.next without drop_from tail_or tail_from next_tail
    next_drop ahead put_by_lead by_lead less same plus lcm excess Algebra.times Algebra.shift
    Algebra.negate evaluate sum_over monomial_at power fraction Fraction.sum Fraction.product
    Fraction.opposite Fraction.inverse is_lowest reduce gcd
ends = refl

pub squares_are_forms : AreForms squares (squares_form ∷ [])
squares_are_forms = record { count = refl; each = λ b d l. go b d l }
  where
    go : (b : ℕ) (d : Form) → b < 1 → IsClosedForm squares (suc b) (get_or (squares_form ∷ []) b d)
    go zero d l = squares_is_form
    go (suc b) d l = absurd (omega (arith, l))

pub squares_finished : IsFinished squares squares_journal 1 squares_basis
squares_finished = record {
  state = (trace (moves setting) 17 fresh).1;
  follows = record {
    forms = squares_form ∷ [];
    are_forms = squares_are_forms;
    run = subst (λ es. IsRun (moves setting) fresh es (trace (moves setting) 17 fresh).1)
        entries_are (run_of (moves setting) 17 fresh);
  };
  is = ends;
}
