-- The states that are seen at the points of a program are those that are reached at its nodes.
--   graph_is                 the graph of a program is one
--   seen_reached, reached_seen    what is seen is reached, and what is reached behind the start is seen
--   point_invariants         so the invariants are the same
--   sides_equal              two sides are equal where their difference is one
use Rattle.std.proofs.Common.{◌≡◌, ◌⊎◌, ◌↔◌, inl, inr, ℕ, suc, ◌+◌, ◌<◌, ◌≤◌, List, ◌++◌, map, length, refl, sym, ap, subst, ◌∙◌, arith}
use Rattle.algebra.specs.In.{In}
use Rattle.algebra.proofs.In.{in_either, map-in, in_map, each_from}
use Rattle.algebra.specs.Fraction.{Fraction, ℚ}
use Rattle.loops.specs.Program.{Expr}
use Rattle.algebra.proofs.Fractions.{ℚ_ring}
use Rattle.algebra.proofs.RingLaws.{eq_of_sub}
use Rattle.polynomials.specs.Terms.{Terms, constant, variables, lists, value_at}
use Rattle.polynomials.specs.Polynomial.{Arity}
use Rattle.polynomials.proofs.Arity.{arity-variables}
use Rattle.polynomials.proofs.ValueAt.{value_at-variables}
use Rattle.loops.specs.Run.{value}
use Rattle.loops.proofs.Maps.{arity_closed, value_at_carries}
use Rattle.flows.specs.Sides.{difference}
use Rattle.flows.specs.Graph.{Transition, IsTransition, IsGraph, Leads, Reached, start, further, Inv}
use Rattle.flows.specs.Steps.{Step, DoesAll}
use Rattle.flows.specs.Paths.{transition}
use Rattle.flows.specs.Code.{Code, done, step, branch, loop, assert, points, State, IsSeen, PointInv}
use Rattle.flows.specs.Chart.{Open, Edge, then_step, closed, at, exits, edges, all_edges, graph}
use Rattle.flows.proofs.Chart.{AllKept, stands_here, stands_at, first, second, goes_open, sees_at}
use Rattle.flows.proofs.Charted.{within, Fits, out, closing, either, into}
use Rattle.flows.proofs.Sound.{reached_state}
use Rattle.flows.proofs.Transitions.{steps_transition, leads_does, does_leads, to-side, side_in}

module _ {At : Type 0} where
  -- ---- nodes
  pub record IsBetween (k : ℕ) (e : Edge (Expr At)) : Type 0 where
    pub from_node : e.from < k
    pub to_node : e.to < k

  abbrev pub FromBelow : ℕ → List (Open (Expr At)) → Type 0
  FromBelow k os = (o : Open (Expr At)) → In o os → o.from < k

  from_at : (k v : ℕ) → v < k → FromBelow k (at v)
  from_at k v l o (inl e) = subst (λ (x : Open (Expr At)). x.from < k) (sym e) l
  from_at k v l o (inr n) = absurd n

  from_then : (k : ℕ) (g : Step (Expr At)) (os : List (Open (Expr At))) → FromBelow k os
      → FromBelow k (map (then_step g) os)
  from_then k g os h o j =
      let (p, i, e) = in_map (then_step g) os o j in
      subst (λ (x : Open (Expr At)). x.from < k) (sym e) (h p i)

  from_both : (k : ℕ) (os ps : List (Open (Expr At))) → FromBelow k os → FromBelow k ps
      → FromBelow k (os ++ ps)
  from_both k os ps h g o j = elim (in_either o os ps j) [ inl i ↦ h o i | inr i ↦ g o i ]

  exits_from : (k : ℕ) (c : Code (Expr At)) (i : ℕ) (os : List (Open (Expr At)))
      → i + points c ≤ k → FromBelow k os → FromBelow k (exits i c os)
  unfolding points exits
  exits_from k done i os l h = h
  exits_from k (step g c) i os l h = exits_from k c i (map (then_step g) os) l (from_then k g os h)
  exits_from k (branch a b c) i os l h =
      exits_from k c (i + points a + points b) (exits i a os ++ exits (i + points a) b os)
      (omega (arith, l))
      (from_both k (exits i a os) (exits (i + points a) b os)
      (exits_from k a i os (omega (arith, l)) h)
      (exits_from k b (i + points a) os (omega (arith, l)) h))
  exits_from k (loop a c) i os l h =
      exits_from k c (suc (i + points a)) (at i) (omega (arith, l))
      (from_at k i (omega (arith, l)))
  exits_from k (assert e f c) i os l h = exits_from k c (suc i) os (omega (arith, l)) h

  abbrev pub AllBetween : ℕ → List (Edge (Expr At)) → Type 0
  AllBetween k es = (e : Edge (Expr At)) → In e es → IsBetween k e

  between_closed : (k w : ℕ) (os : List (Open (Expr At))) → w < k → FromBelow k os
      → AllBetween k (map (closed w) os)
  between_closed k w os l h e j =
      let (o, i, same) = in_map (closed w) os e j in
      subst (IsBetween k) (sym same) (record { from_node = h o i; to_node = l })

  between_both : (k : ℕ) (xs ys : List (Edge (Expr At))) → AllBetween k xs → AllBetween k ys
      → AllBetween k (xs ++ ys)
  between_both k xs ys h g e j = elim (in_either e xs ys j) [ inl i ↦ h e i | inr i ↦ g e i ]

  edges_between : (k : ℕ) (c : Code (Expr At)) (i : ℕ) (os : List (Open (Expr At)))
      → i + points c ≤ k → FromBelow k os → AllBetween k (edges i c os)
  unfolding points edges
  edges_between k done i os l h = λ e j. absurd j
  edges_between k (step g c) i os l h =
      edges_between k c i (map (then_step g) os) l (from_then k g os h)
  edges_between k (branch a b c) i os l h =
      let j = i + points a in
      between_both k (edges i a os ++ edges j b os) _
      (between_both k (edges i a os) (edges j b os)
      (edges_between k a i os (omega (arith, l)) h)
      (edges_between k b j os (omega (arith, l)) h))
      (edges_between k c (j + points b) (exits i a os ++ exits j b os) (omega (arith, l))
      (from_both k (exits i a os) (exits j b os) (exits_from k a i os (omega (arith, l)) h)
      (exits_from k b j os (omega (arith, l)) h)))
  edges_between k (loop a c) i os l h =
      let n : i < k = omega (arith, l) in
      let ws = map (closed i) os in
      let xs = edges (suc i) a (at i) in
      let ys = map (closed i) (exits (suc i) a (at i)) in
      let la : suc i + points a ≤ k = omega (arith, l) in
      between_both k (ws ++ xs ++ ys) _
      (between_both k (ws ++ xs) ys
      (between_both k ws xs (between_closed k i os n h)
      (edges_between k a (suc i) (at i) la (from_at k i n)))
      (between_closed k i (exits (suc i) a (at i)) n
      (exits_from k a (suc i) (at i) la (from_at k i n))))
      (edges_between k c (suc (i + points a)) (at i) (omega (arith, l)) (from_at k i n))
  edges_between k (assert e f c) i os l h =
      between_both k (map (closed i) os) (edges (suc i) c os)
      (between_closed k i os (omega (arith, l)) h)
      (edges_between k c (suc i) os (omega (arith, l)) h)

  -- ---- of a whole program
  module _ (n : ℕ) (c : Code (Expr At)) where
    abbrev end : ℕ
    end = suc (points c)

    abbrev made : Edge (Expr At) → Transition
    made e = transition n e.from e.to e.steps

    all_between : AllBetween (suc end) (all_edges c)
    all_between =
        let l : 1 + points c ≤ suc (suc (points c)) = omega arith in
        let z : 0 < suc (suc (points c)) = omega arith in
        let e : suc (points c) < suc (suc (points c)) = omega arith in
        between_both (suc end) (edges 1 c (at 0)) (map (closed end) (exits 1 c (at 0)))
        (edges_between (suc end) c 1 (at 0) l (from_at (suc end) 0 z))
        (between_closed (suc end) end (exits 1 c (at 0)) e
        (exits_from (suc end) c 1 (at 0) l (from_at (suc end) 0 z)))

    pub graph_is : IsGraph (graph n c)
    graph_is = each_from (map made (all_edges c)) (λ t j.
        let (e, i, same) = in_map made (all_edges c) t j in
        let b = all_between e i in
        subst (IsTransition n (suc end)) (sym same)
        (steps_transition n e.from e.to e.steps (suc end) b.from_node b.to_node))

    reached_kept : AllKept (Reached (graph n c)) (all_edges c)
    reached_kept e j s z q d =
        further (made e) s z (map-in made (all_edges c) e j) q
        (does_leads n e.from e.to e.steps s z (reached_state (graph n c) graph_is e.from s q) d)

    pub seen_reached : (v : ℕ) (z : State) → IsSeen n c v z → Reached (graph n c) v z
    seen_reached v z h =
        let Q = Reached (graph n c) in
        let xs = edges 1 c (at 0) in
        let ys = map (closed end) (exits 1 c (at 0)) in
        let begin = stands_here Q 0 h.from (start h.from h.state) in
        elim h.sees [
          | inl s ↦ sees_at Q c 1 (at 0) (first Q xs ys reached_kept) h.from v z begin s
          | inr p ↦ subst (λ w. Q w z) (sym p.0)
              (stands_at Q (exits 1 c (at 0)) end (second Q xs ys reached_kept) z
              (goes_open Q c 1 (at 0) (first Q xs ys reached_kept) h.from z begin p.1))
        ]

    -- and the other way
    Seen : ℕ → State → Type 0
    Seen v z = ((v ≡ 0) × (length z ≡ n)) ⊎ IsSeen n c v z

    abbrev IsLong : State → Type 0
    IsLong s = length s ≡ n

    begins : Fits Seen c 1 (at 0) IsLong
    unfolding Seen DoesAll
    begins = record {
      opens = λ o j m s q d. elim j [
        | inl e ↦ (let at0 : o.from ≡ 0 = ap (λ (x : Open (Expr At)). x.from) e in
            let stays : s ≡ m = subst (λ (x : Open (Expr At)). DoesAll x.steps m s) e d in
            elim q [
              | inl p ↦ ap length stays ∙ p.1
              | inr h ↦ absurd (elim h.sees [
                | inl x ↦ (let w = within c 1 o.from h.from m x in let k = w.0 in
                    omega (arith, k, at0))
                | inr x ↦ (let k = x.0 in omega (arith, k, at0))
              ])
            ])
        | inr x ↦ absurd x
      ];
      to = λ s v z l x. inr (record { from = s; state = l; sees = inl x });
      back = λ v z q l u. elim q [
        | inl p ↦ absurd (let k = p.0 in omega (arith, k, l))
        | inr h ↦ elim h.sees [
          | inl x ↦ (h.from, h.state, x)
          | inr x ↦ absurd (let k = x.0 in omega (arith, k, u))
        ]
      ];
    }

    seen_kept : AllKept Seen (all_edges c)
    unfolding Seen
    seen_kept =
        either Seen (edges 1 c (at 0)) (map (closed end) (exits 1 c (at 0)))
        (into Seen c 1 (at 0) IsLong begins)
        (closing Seen end (exits 1 c (at 0)) (λ o j m z q d.
        let r = out Seen c 1 (at 0) IsLong begins o j m z q d in
        inr (record { from = r.before; state = r.there; sees = inr (refl, r.goes) })))

    reached_seen_or : (v : ℕ) (z : State) → Reached (graph n c) v z → Seen v z
    unfolding Seen
    reached_seen_or v z (start s l) = inl (refl, l)
    reached_seen_or v z (further t s y i r l) =
        let (e, j, same) = in_map made (all_edges c) t i in
        subst (λ (x : Transition). Seen x.to y) (sym same)
        (seen_kept e j s y
        (subst (λ (x : Transition). Seen x.from s) same (reached_seen_or t.from s r))
        (leads_does n e.from e.to e.steps s y
        (reached_state (graph n c) graph_is t.from s r)
        (subst (λ x. Leads x s y) same l)))

    pub reached_seen : (v : ℕ) (z : State) → 0 < v → Reached (graph n c) v z → IsSeen n c v z
    unfolding Seen
    reached_seen v z l r = elim (reached_seen_or v z r) [
      | inl p ↦ absurd (let k = p.0 in omega (arith, k, l))
      | inr h ↦ h
    ]

    pub point_invariants : (v : ℕ) → 0 < v → (p : Terms Fraction)
        → PointInv n c v p ↔ Inv (graph n c) v p
    point_invariants v l p = (
      λ i. record { arity = i.arity; zero = λ s r. i.zero s (reached_seen v s l r) },
      λ i. record { arity = i.arity; zero = λ s h. i.zero s (seen_reached v s h) },
    )

    -- ---- sides that are equal
    pub seen_state : (v : ℕ) → 0 < v → (z : State) → IsSeen n c v z → length z ≡ n
    seen_state v l z h = reached_state (graph n c) graph_is v z (seen_reached v z h)

    pub difference_arity : (e f : Expr At) → Arity n (difference n e f)
    unfolding difference
    difference_arity e f =
        side_in (lists ℚ n) (constant n) (Arity n) (arity_closed n) (variables ℚ n)
        (arity-variables n ℚ) e f

    difference_at : (e f : Expr At) (z : State) → length z ≡ n
        → value_at ℚ (difference n e f) z ≡ ℚ.add (value e z) (ℚ.neg (value f z))
    unfolding difference
    difference_at e f z l =
        to-side (lists ℚ n) ℚ (constant n) (λ c. c) (λ p. value_at ℚ p z) (value_at_carries n z)
        (variables ℚ n) e f
        ∙ ap (λ t. ℚ.add (value e t) (ℚ.neg (value f t))) (value_at-variables ℚ_ring n z l)

    pub sides_equal : (v : ℕ) → 0 < v → (e f : Expr At)
        → PointInv n c v (difference n e f)
        ↔ ((z : State) → IsSeen n c v z → value e z ≡ value f z)
    sides_equal v l e f = (
      λ i z h.
          eq_of_sub ℚ_ring (value e z) (value f z)
          (sym (difference_at e f z (seen_state v l z h)) ∙ i.zero z h),
      λ k. record {
        arity = difference_arity e f;
        zero = λ z h.
            difference_at e f z (seen_state v l z h)
            ∙ ap (λ x. ℚ.add x (ℚ.neg (value f z))) (k z h) ∙ ℚ_ring.add-neg (value f z);
      },
    )
