-- What is known at a node is an ideal that has what is provable, and rows tell its reduced list.
--   known_ideal             it is an ideal
--   provable_known          what is provable is known, where the bases have what is provable where the transitions come from
--   known_states, known_rests     the rows of its states and of its rests are 0 on what is known
--   known_by_rows           lists of what is known, with standard monomials whose rows are independent, are reduced for it
--   known_has, basis_has    how a basis comes to have what is provable
--   known_greatest          and where such lists are inductive they are reduced for what is provable
use Rattle.std.proofs.Common.{◌≡◌, ℕ, ◌+◌, ◌<◌, ◌≤◌, ℤ, pos, List, [], ◌∷◌, ◌++◌, length, sum, refl, sym, ap, ap₂, subst, ◌∙◌}
use Rattle.algebra.specs.Each.{Each}
use Rattle.algebra.specs.In.{In}
use Rattle.algebra.specs.Sum.{sum_over}
use Rattle.algebra.proofs.Each.{each_weaker}
use Rattle.algebra.proofs.In.{each_in, each_from}
use Rattle.algebra.proofs.RingLaws.{mul-zero}
use Rattle.algebra.specs.Fraction.{Fraction, ℚ, rationals}
use Rattle.algebra.proofs.Fractions.{ℚ_ring}
use Rattle.polynomials.specs.Order.{grevlex}
use Rattle.polynomials.specs.Terms.{Terms, coefficient, evaluate, times, value_at}
use Rattle.polynomials.specs.Polynomial.{Arity, AllArity}
use Rattle.polynomials.proofs.Arity.{arity-append, arity-times}
use Rattle.polynomials.proofs.Composition.{compose-append, same_compose, same_compose-times}
use Rattle.polynomials.proofs.Same.{Same-sym, AllSame-refl}
use Rattle.polynomials.proofs.ValueAt.{value_at_same, value_at-append, value_at-times}
use Rattle.ideals.specs.Members.{IsMember}
use Rattle.ideals.proofs.FractionMembers.{member_same, member_nil, member_append}
use Rattle.machines.specs.Basis.{IsBasisOf}
use Rattle.closures.specs.Closure.{IsIdeal}
use Rattle.closures.specs.Modulo.{IsIndependentModulo, IsTriangularFrom, IsCombinationModulo}
use Rattle.closures.specs.UpTo.{AreTidy, AreDistinct, HasStandard, IsReducedUpTo}
use Rattle.closures.proofs.Ideals.{member_times}
use Rattle.closures.proofs.Pivots.{pivots_independent}
use Rattle.closures.proofs.Samples.{none_by_rows}
use Rattle.closures.proofs.UpTo.{reduced_up_to}
use Rattle.flows.specs.Graph.{Graph, IsGraph, Reached}
use Rattle.flows.specs.Family.{Family, after, generators, IsAtMost, IsInductive, HasDegree, IsProvable}
use Rattle.flows.specs.Rows.{on, state_row, IsRest}
use Rattle.flows.specs.Known.{Test, IsTest, IsKnown, HasProvable, IsKnownRow}
use Rattle.flows.proofs.Members.{member_in, member_each, more_generators, after_member, generators_arity}
use Rattle.flows.proofs.Sound.{transition_is}
use Rattle.flows.proofs.Families.{after_arity, provable_sound}
use Rattle.flows.proofs.Greatest.{reduced_low, reduced_has}
use Rattle.flows.proofs.Rows.{rest_zero}

pub known_states : (G : Graph) (ss : List (List Fraction)) (ts : List Test) (s : List Fraction)
    → In s ss → (p : Terms Fraction) → IsKnown G ss ts p → on (state_row s) p ≡ ℚ.zero
unfolding on evaluate
known_states G ss ts s i p h = each_in (λ s. value_at ℚ p s ≡ ℚ.zero) ss s h.states i

module _ (G : Graph) (is : IsGraph G) where
  abbrev n : ℕ
  n = G.variables

  module _ (v : ℕ) (ss : List (List Fraction)) (ts : List Test) (are : Each (IsTest G v) ts) where
    abbrev Passes : Terms Fraction → Test → Type 0
    Passes p x = IsMember ℚ (x.transition.unknowns + n) x.basis (after n x.transition p)

    images_of : (x : Test) → IsTest G v x → AllArity (x.transition.unknowns + n) x.transition.images
    images_of x h = (transition_is G is x.transition h.is).images

    each_test : (P : Test → Type 0) → ((x : Test) → IsTest G v x → In x ts → P x) → Each P ts
    each_test P f = each_from ts (λ x i. f x (each_in (IsTest G v) ts x are i) i)

    pub known_ideal : IsIdeal n (IsKnown G ss ts)
    unfolding Each evaluate sum_over
    known_ideal = record {
      arity = λ p h. h.arity;
      same = λ p q a e h. record {
        arity = a;
        states = each_weaker (λ s. value_at ℚ p s ≡ ℚ.zero) (λ s. value_at ℚ q s ≡ ℚ.zero)
            (λ s z. sym (value_at_same ℚ_ring p q s e) ∙ z) ss h.states;
        tests = each_test (Passes q) (λ x k i.
            let m = x.transition.unknowns + n in
            member_same m x.basis (after n x.transition p) (after n x.transition q)
            (same_compose ℚ_ring n m q p x.transition.images x.transition.images a h.arity
            (images_of x k) (images_of x k) (Same-sym ℚ e) (AllSame-refl ℚ x.transition.images))
            (each_in (Passes p) ts x h.tests i));
      };
      zero = record {
        arity = tt;
        states = each_from ss (λ s i. refl);
        tests = each_test (Passes []) (λ x k i.
            member_nil (x.transition.unknowns + n) x.basis);
      };
      sum = λ p q h k. record {
        arity = arity-append n p q h.arity k.arity;
        states = each_from ss (λ s i.
            value_at-append ℚ_ring p q s
            ∙ ap₂ ℚ.add (each_in (λ s. value_at ℚ p s ≡ ℚ.zero) ss s h.states i)
            (each_in (λ s. value_at ℚ q s ≡ ℚ.zero) ss s k.states i)
            ∙ ℚ_ring.add-zero ℚ.zero);
        tests = each_test (Passes (p ++ q)) (λ x t i.
            let m = x.transition.unknowns + n in
            subst (IsMember ℚ m x.basis)
            (sym (compose-append ℚ m p q x.transition.images))
            (member_append m x.basis t.basis (after n x.transition p) (after n x.transition q)
            (after_arity G is x.transition t.is p) (after_arity G is x.transition t.is q)
            (each_in (Passes p) ts x h.tests i) (each_in (Passes q) ts x k.tests i)));
      };
      multiple = λ p q a h. record {
        arity = arity-times n ℚ p q a h.arity;
        states = each_from ss (λ s i.
            value_at-times ℚ_ring p q s
            ∙ ap (ℚ.mul (value_at ℚ p s))
            (each_in (λ s. value_at ℚ q s ≡ ℚ.zero) ss s h.states i)
            ∙ mul-zero ℚ_ring (value_at ℚ p s));
        tests = each_test (Passes (times ℚ p q)) (λ x t i.
            let m = x.transition.unknowns + n in
            member_same m x.basis (times ℚ (after n x.transition p) (after n x.transition q))
            (after n x.transition (times ℚ p q))
            (same_compose-times ℚ_ring n m p q x.transition.images a h.arity (images_of x t))
            (member_times m x.basis t.basis (after n x.transition p) (after n x.transition q)
            (after_arity G is x.transition t.is p) (after_arity G is x.transition t.is q)
            (each_in (Passes q) ts x h.tests i)));
      };
    }

    -- what is provable is known
    pub provable_known : (d : ℕ) → v < G.nodes → Each (Reached G v) ss
        → Each (HasProvable G d) ts → (p : Terms Fraction) → IsProvable G d v p
        → IsKnown G ss ts p
    provable_known d l reached has p h = record {
      arity = h.arity;
      states = each_weaker (Reached G v) (λ s. value_at ℚ p s ≡ ℚ.zero)
          (λ s r. (provable_sound G is d v l p h).zero s r) ss reached;
      tests = each_test (Passes p) (λ x t i.
          let u = x.transition in
          let m = u.unknowns + n in
          let ui = transition_is G is u t.is in
          let c = h.inductive in
          let ga = generators_arity n G.nodes u ui h.family (c.arities u.from ui.from_node) in
          member_each m (generators u h.family) x.basis (after n u p) t.basis
          (after_arity G is u t.is p)
          ((each_in (HasProvable G d) ts x has i).has h.family c h.degree)
          (after_member n G.nodes u ui (generators u h.family) (h.family u.to) p
          (c.arities u.to ui.to_node) ga h.arity (c.kept u t.is)
          (subst (λ w. IsMember ℚ n (h.family w) p) (sym t.to) h.member)));
    }

    -- ---- rows
    pub known_rests : (d : ℕ) (x : Test) → In x ts
        → IsBasisOf rationals grevlex (x.transition.unknowns + n) x.basis x.basis
        → (rest : List ℕ → Terms Fraction)
        → ((e : List ℕ) → length e ≡ n → sum e ≤ d
        → IsRest x.basis (x.transition.unknowns + n) (after n x.transition ((e, ℚ.one) ∷ []))
        (rest e))
        → (r : List ℕ) (p : Terms Fraction) → IsAtMost d p → IsKnown G ss ts p
        → on (λ e. coefficient ℚ (rest e) r) p ≡ ℚ.zero
    known_rests d x i basis rest rests r p low h =
        let t = each_in (IsTest G v) ts x are i in
        rest_zero G is d x.transition t.is x.basis x.basis t.basis basis rest rests r p h.arity low
        (each_in (Passes p) ts x h.tests i)

    pub known_by_rows : (d : ℕ) (gs : List (Terms Fraction)) → Each (IsKnown G ss ts) gs
        → AreTidy n d gs → (es : List (List ℕ)) → HasStandard n d gs es → AreDistinct es
        → Each (λ e. sum e ≤ d) es → (k : ℕ) → 2 ≤ k → (rows stored : List (List ℤ))
        → Each (IsKnownRow G d ss ts (pos k) es) rows → IsTriangularFrom (pos k) 0 stored
        → Each (IsCombinationModulo (pos k) rows) stored → length stored ≡ length es
        → IsReducedUpTo n d gs (IsKnown G ss ts)
    unfolding on
    known_by_rows d gs known tidy es standard distinct low k big rows stored h t i l =
        reduced_up_to n (IsKnown G ss ts) known_ideal d gs
        (λ g j. each_in (IsKnown G ss ts) gs g known j) tidy es standard
        (none_by_rows k big es distinct rows (λ row j. let s = at row j in s.of)
        (λ row j. let s = at row j in s.residues)
        (subst (λ n. IsIndependentModulo (pos k) n rows) l
        (pivots_independent (pos k) rows stored t i)) n (IsKnown G ss ts)
        (λ r terms q row j. let s = at row j in
        s.zero r (each_weaker (λ u. In u.0 es) (λ u. sum u.0 ≤ d)
        (λ u w. each_in (λ e. sum e ≤ d) es u.0 low w) r terms) q))
      where
        at : (row : List ℤ) → In row rows → IsKnownRow G d ss ts (pos k) es row
        at row j = each_in (IsKnownRow G d ss ts (pos k) es) rows row h j

  -- ---- at all nodes
  pub known_greatest : (d : ℕ) (ss : ℕ → List (List Fraction)) (ts : ℕ → List Test)
      → ((v : ℕ) → v < G.nodes → Each (IsTest G v) (ts v))
      → ((v : ℕ) → v < G.nodes → Each (Reached G v) (ss v))
      → ((v : ℕ) → v < G.nodes → Each (HasProvable G d) (ts v))
      → (B : Family) → IsInductive G B
      → ((v : ℕ) → v < G.nodes → IsReducedUpTo n d (B v) (IsKnown G (ss v) (ts v)))
      → (v : ℕ) → v < G.nodes → IsReducedUpTo n d (B v) (IsProvable G d v)
  known_greatest d ss ts tests reached has B b r v l = record {
    tidy = (r v l).tidy;
    members = λ g i. record {
      arity = ((r v l).tidy.polynomials g i).arity;
      family = B;
      inductive = b;
      degree = record { at_most = λ w k. reduced_low n d (B w) (IsKnown G (ss w) (ts w)) (r w k) };
      member = member_in n (B v) g (b.arities v l) i;
    };
    led = λ t p q low i. (r v l).led t p q low
        (provable_known v (ss v) (ts v) (tests v l) d l (reached v l) (has v l) (t ∷ p) i);
  }

  -- how a basis comes to have what is provable
  pub known_has : (d v : ℕ) (ss : List (List Fraction)) (ts : List Test)
      → Each (IsTest G v) ts → v < G.nodes → Each (Reached G v) ss → Each (HasProvable G d) ts
      → (gs : List (Terms Fraction)) → IsReducedUpTo n d gs (IsKnown G ss ts)
      → (C : Family) → IsInductive G C → HasDegree G d C → Each (IsMember ℚ n gs) (C v)
  known_has d v ss ts tests l reached has gs r C c low = each_from (C v) (λ p i.
      let a = each_in (Arity n) (C v) p (c.arities v l) i in
      reduced_has n d gs (IsKnown G ss ts) r (known_ideal v ss ts tests) p
      (each_in (IsAtMost d) (C v) p (low.at_most v l) i)
      (provable_known v ss ts tests d l reached has p (record {
        arity = a;
        family = C;
        inductive = c;
        degree = low;
        member = member_in n (C v) p (c.arities v l) i;
      })))

  pub basis_has : (d v : ℕ) (x : Test) → IsTest G v x → (B : Family)
      → AllArity n (B x.transition.from)
      → ((C : Family) → IsInductive G C → HasDegree G d C
      → Each (IsMember ℚ n (B x.transition.from)) (C x.transition.from))
      → Each (IsMember ℚ (x.transition.unknowns + n) x.basis) (generators x.transition B)
      → HasProvable G d x
  basis_has d v x t B b has each = record {
    has = λ C c low.
        let u = x.transition in
        let m = u.unknowns + n in
        let ui = transition_is G is u t.is in
        let ca = c.arities u.from ui.from_node in
        let ga = generators_arity n G.nodes u ui C ca in
        each_from (generators u C) (λ g i.
        let a = each_in (Arity m) (generators u C) g ga i in
        member_each m (generators u B) x.basis g t.basis a each
        (more_generators n G.nodes u ui C B ca b (has C c low) g a
        (member_in m (generators u C) g ga i)));
  }
