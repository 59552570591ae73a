-- The events of a completion (machines/specs/Completion), over plain variables.
--   cut_comes, zero_comes, keep_comes     with a current polynomial
--   cut_past, keep_past           where its cancellation or the division that makes it monic is past
--   pair_comes, none_comes                without one
--   s_polynomial_is, pair_weight          the S-polynomial and its weight, by the two elements
--   pair_past                             where it is past
--   generators_next, generators_none      the first state, by one generator
--   generator_zero, generator_some, generator_count     one generator
--   start_past                            where making one monic is past
--   degree_is                             the degree of a polynomial that has one
--   known                                 what is said of what is there
use Rattle.std.proofs.Common.{◌≡◌, ◌≢◌, ◌⊎◌, ℕ, zero, suc, ◌+◌, ◌<◌, ◌≤◌, List, [], ◌∷◌, ◌++◌, map, length, get_or, Option, Some, None, refl, sym, ap, ap₂, subst, ◌∙◌, arith}
use Rattle.std.specs.Option.{IfSome}
use Rattle.std.specs.List.{All}
use Rattle.std.specs.Prelude.{max, sum}
use Rattle.std.proofs.Math.Nat.{max-le, le-max_left}
use Rattle.std.proofs.lemmas.List.Elements.{All-head, All-tail}
use Rattle.polynomials.specs.Degree.{IsDegree}
use Rattle.std.specs.Prelude.{option_map}
use Rattle.std.proofs.lemmas.List.{length_push}
use Rattle.std.proofs.lemmas.Option.{slice_get-map, slice_get_read}
use Rattle.algebra.specs.FieldArithmetic.{FieldArithmetic}
use Rattle.algebra.specs.Scalars.{Scalars, field}
use Rattle.polynomials.specs.Exponent.{plus, over}
use Rattle.polynomials.specs.Order.{Rank}
use Rattle.polynomials.specs.Terms.{Terms, shift, negate}
use Rattle.polynomials.specs.Weight.{degrees, FitsMonomial, IsPastSum}
use Rattle.machines.specs.Collect.{collect}
use Rattle.machines.specs.Completion.{State, degree, leads, with_element, with_elements, s_polynomial, next_reduction, next_pair, next_completion, next}
use Rattle.machines.specs.Cut.{Cutting, lead_of, find_cut, after_cut, all_places, monic}
use Rattle.machines.specs.Event.{Pair, Cut, Keep, Zero}
use Rattle.machines.specs.Pairs.{multiple, sugar, skip_covered}
use Rattle.machines.specs.Past.{IsPastMonic, IsPastPair, IsPastReducing, IsPastReduction, IsPastTaking, IsPastActing, IsPastCompletion, IsPastStart}

module _ (S : Scalars) (O : Rank) (s : State S.Elem) where
  abbrev F : FieldArithmetic S.Elem
  F = field S

  -- ---- with a current polynomial
  module _ (p : Terms S.Elem) (is : s.current ≡ Some p) where
    comes : next F O s ≡ Some (next_reduction F O s p (find_cut F all_places s.basis p))
    unfolding next next_completion
    comes = ap (next_completion F O s) is

    pub cut_comes : (c : Cutting S.Elem) (q : Terms S.Elem) (m : ℕ)
        → find_cut F all_places s.basis p ≡ Some c → m ≡ c.place → q ≡ after_cut F O p c
        → next F O s ≡ Some (Cut m, record s { current = Some q })
    unfolding next_reduction
    cut_comes c q m e at left = comes ∙ ap (λ x. Some (next_reduction F O s p x)) e
        ∙ ap₂ (λ k x. Some (Cut k, record s { current = Some x })) (sym at) (sym left)

    pub zero_comes : p ≡ [] → next F O s ≡ Some (Zero, record s { current = None })
    unfolding next_reduction find_cut
    zero_comes e = comes
        ∙ ap (λ x. Some (next_reduction F O s x (find_cut F all_places s.basis x))) e

    keeping : (q : Terms S.Elem) → q ≢ [] → next_reduction F O s q None
        ≡ (Keep, with_element F O s (monic F q) s.pair_sugar)
    unfolding next_reduction
    keeping [] m = absurd (m refl)
    keeping (t ∷ q) m = refl

    -- whatever else is said to be current when the element is put in
    pub keep_comes : (v : Option (Terms S.Elem)) → find_cut F all_places s.basis p ≡ None → p ≢ []
        → next F O s ≡ Some (
          Keep,
          with_element F O (record s { current = v }) (monic F p) s.pair_sugar,
        )
    unfolding with_element
    keep_comes v e m = comes ∙ ap (λ x. Some (next_reduction F O s p x)) e ∙ ap Some (keeping p m)

    pub keep_past : find_cut F all_places s.basis p ≡ None → IsPastMonic S F p
        → IsPastCompletion S F s
    keep_past e h = subst (IsPastActing S F s.basis s.waiting) (sym is)
        (subst (IsPastReducing S F p) (sym e) h)

    pub cut_past : IsPastReduction S F s.basis p → IsPastCompletion S F s
    cut_past h = subst (IsPastActing S F s.basis s.waiting) (sym is)
        (subst (IsPastReducing S F p) (sym h.found) h.past)

  -- ---- without one
  module _ (ls : List (List ℕ)) (leads_are : ls ≡ map lead_of s.basis) (is : s.current ≡ None) where
    skipped : (w : List (ℕ × ℕ)) → skip_covered ls s.waiting ≡ w
        → skip_covered (leads s.basis) s.waiting ≡ w
    skipped w e = ap (λ x. skip_covered x s.waiting) (sym leads_are) ∙ e

    taken : (w : List (ℕ × ℕ)) → skip_covered ls s.waiting ≡ w → next F O s ≡ next_pair F O s w
    unfolding next next_completion
    taken w e = ap (next_completion F O s) is ∙ ap (next_pair F O s) (skipped w e)

    pub pair_comes : (a : ℕ × ℕ) (v : List (ℕ × ℕ)) (p : Terms S.Elem)
        → skip_covered ls s.waiting ≡ a ∷ v
        → p ≡ s_polynomial F O s.basis a → next F O s ≡ Some (
          Pair a.0 a.1,
          record s { waiting = v; current = Some p; pair_sugar = sugar ls s.sugars a },
        )
    unfolding next_pair
    pair_comes a v p e q = taken (a ∷ v) e
        ∙ ap₂ (λ x (ms : List (List ℕ)). Some (
          Pair a.0 a.1,
          record s { waiting = v; current = Some x; pair_sugar = sugar ms s.sugars a },
        )) (sym q) (sym leads_are)

    pub none_comes : skip_covered ls s.waiting ≡ [] → next F O s ≡ None
    unfolding next_pair
    none_comes e = taken [] e

    pub pair_past : (a : ℕ × ℕ) (v : List (ℕ × ℕ)) → skip_covered ls s.waiting ≡ a ∷ v
        → IsPastPair S F s.basis a → IsPastCompletion S F s
    pair_past a v e h = subst (IsPastActing S F s.basis s.waiting) (sym is)
        (subst (IsPastTaking S F s.basis) (sym (skipped (a ∷ v) e)) h)

  -- ---- the two elements of a pair
  module _ (a : ℕ × ℕ) (l : List ℕ) (f g : Terms S.Elem) (left : get_or s.basis a.0 [] ≡ f)
      (right : get_or s.basis a.1 [] ≡ g) (is : multiple (leads s.basis) a ≡ l) where
    pub s_polynomial_is : (p : Terms S.Elem)
        → p ≡ collect F O (shift S.arithmetic (over l (lead_of f)) S.one f ++ negate S.arithmetic
        (shift S.arithmetic (over l (lead_of g)) S.one g)) → p ≡ s_polynomial F O s.basis a
    unfolding s_polynomial
    s_polynomial_is p e = e
        ∙ (λ i. collect F O (shift S.arithmetic (over (sym is i) (lead_of (sym left i))) S.one
        (sym left i) ++ negate S.arithmetic
        (shift S.arithmetic (over (sym is i) (lead_of (sym right i))) S.one (sym right i))))

    abbrev Past : List ℕ → Terms S.Elem → Terms S.Elem → Type 0
    Past l f g = IsPastSum S f g ⊎ ¬ (FitsMonomial (plus (over l (lead_of f)) (degrees f)))
        ⊎ ¬ (FitsMonomial (plus (over l (lead_of g)) (degrees g)))

    pub pair_weight : Past l f g → IsPastPair S F s.basis a
    pair_weight h = subst (λ x. Past (multiple (leads s.basis) a) x (get_or s.basis a.1 []))
        (sym left) (subst (λ y. Past (multiple (leads s.basis) a) f y) (sym right)
        (subst (λ k. Past k f g) (sym is) h))

-- ---- the generators
module _ {A : Type 0} (F : FieldArithmetic A) (O : Rank) where
  pub generators_next : (gens : List (Terms A)) (g : Terms A) (rest : List (Terms A)) (s : State A)
      → gens ≡ g ∷ rest → with_elements F O s gens ≡ with_elements F O
      (with_elements F O s (g ∷ [])) rest
  unfolding with_elements
  generators_next gens g rest s e = ap (with_elements F O s) e ∙ go g
    where
      go : (g : Terms A) → with_elements F O s (g ∷ rest) ≡ with_elements F O
          (with_elements F O s (g ∷ [])) rest
      go [] = refl
      go (t ∷ p) = refl

  pub generators_none : (gens : List (Terms A)) (s : State A) → gens ≡ [] → with_elements F O s gens
      ≡ s
  unfolding with_elements
  generators_none gens s e = ap (with_elements F O s) e

  pub generator_zero : (g : Terms A) (s : State A) → g ≡ [] → s ≡ with_elements F O s (g ∷ [])
  unfolding with_elements
  generator_zero g s e = sym (ap (λ x. with_elements F O s (x ∷ [])) e)

  pub generator_some : (g m : Terms A) (s : State A) → g ≢ [] → m ≡ monic F g
      → with_element F O s m (degree g) ≡ with_elements F O s (g ∷ [])
  unfolding with_elements
  generator_some [] m s n e = absurd (n refl)
  generator_some (t ∷ p) m s n e = ap (λ x. with_element F O s x (degree (t ∷ p))) e

pub start_past : (S : Scalars) {X : Type 0} (terms : X → Terms S.Elem) (xs : List X) (k : ℕ) (x : X)
    → k < length xs → x ≡ get_or xs k x → IsPastMonic S (field S) (terms x)
    → IsPastStart S (field S) (map terms xs)
start_past S terms xs k x l e h = record {
  place = k;
  element = terms x;
  at = slice_get-map terms xs k ∙ ap (option_map terms) (slice_get_read xs _ k x refl l e);
  past = h;
}

pub known : {X : Type 0} (P : X → Type 0) (o : Option X) (x : X) → o ≡ Some x → IfSome o P → P x
known P o x e h = subst (λ (y : Option _). IfSome y P) e h

pub generator_count : {A : Type 0} (K : FieldArithmetic A) (O : Rank) (g : Terms A) (s t : State A)
    → t ≡ with_elements K O s (g ∷ []) → length t.basis ≤ length s.basis + 1
unfolding with_elements with_element
generator_count {A} K O [] s t e = let h = ap (λ (x : State A). length x.basis) e in
    omega (arith, h)
generator_count {A} K O (u ∷ p) s t e = let h = ap (λ (x : State A). length x.basis) e in let k =
    length_push s.basis (monic K (u ∷ p)) in omega (arith, h, k)

-- ---- the degree of a generator
degree_least : {A : Type 0} (d : ℕ) (p : Terms A) → All (λ (t : List ℕ × A). sum t.0 ≤ d) p
    → degree p ≤ d
unfolding degree
degree_least d [] h = omega arith
degree_least {A} d (t ∷ p) h = max-le (All-head (λ (u : List ℕ × A). sum u.0 ≤ d) t p h)
    (degree_least d p (All-tail (λ (u : List ℕ × A). sum u.0 ≤ d) t p h))

degree_reaches : {A : Type 0} (p : Terms A) (k : ℕ) (x : List ℕ × A) → k < length p
    → get_or p k x ≡ x → sum x.0 ≤ degree p
unfolding degree
degree_reaches [] k x l is = absurd (omega (arith, l))
degree_reaches {A} (t ∷ p) zero x l is =
    subst (λ (u : List ℕ × A). sum u.0 ≤ max (sum t.0) (degree p)) is
    (le-max_left (sum t.0) (degree p))
degree_reaches (t ∷ p) (suc k) x l is =
    let later : sum x.0 ≤ degree p = degree_reaches p k x (omega (arith, l)) is in
    let whole : sum x.0 ≤ max (sum t.0) (degree p) = omega (arith, later) in
    whole

pub degree_is : {A : Type 0} (d : ℕ) (p : Terms A) → IsDegree d p → d ≡ degree p
degree_is d p is =
    let most : degree p ≤ d = degree_least d p is.at_most in
    let least : sum is.reached.1.0 ≤ degree p = degree_reaches p is.reached.0 is.reached.1
    is.reached.2 is.reached.3 in
    let there : sum is.reached.1.0 ≡ d = is.reached.4 in
    omega (arith, most, least, there)
