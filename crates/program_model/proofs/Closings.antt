-- Open paths that end at a node.
--   edges_length, edges_joined     transitions that are paths between nodes
--   closings-append                the paths in two parts
--   ClosedAll to at ts ps us       us are the transitions ts and behind them the open paths ps, which end at a node; there aren't too many;  closed_none, closed_more
--   closed_stops                   one too many
use Rattle.std.proofs.Common.{◌≡◌, ◌≤◌, ◌<◌, ℕ, suc, ◌+◌, List, [], ◌∷◌, ◌++◌, map, length, arith, refl, sym, ap, subst, ◌∙◌, append_assoc}
use Rattle.std.proofs.lemmas.List.{append-nil, map-append, length-append, length-map}
use Rattle.std.proofs.lemmas.List.Elements.{All-nil}
use Rattle.flows.specs.Steps as steps
use Rattle.flows.specs.Chart.{Edge, closed}
use Rattle.loop_model.specs.declared.map_error.MapError.TheVariants.{Limit}
use Rattle.program_model.specs.Events.{counts, IsPastLimit, AreFree, Stops}
use Rattle.program_model.specs.PathEvents.{E}
use Rattle.program_model.specs.Forming.{most_transitions, closings}
use Rattle.program_model.specs.Fronts.{IsEdge, AreEdges}
use Rattle.program_model.specs.UnderWay.{IsUnderWay, AreOpen}
use Rattle.program_model.specs.declared.path.Path.{Path}
use Rattle.program_model.specs.declared.graph.Transition.{Transition}
use Rattle.program_model.proofs.EventLaws.{free_append, stops_behind, count_free, count_stops}
use Rattle.program_model.proofs.Moving.{O, Cut, open_cut}

pub edges_length : (n : ℕ) (es : List (Edge E)) (ts : List Transition) → AreEdges n es ts
    → length es ≡ length ts
edges_length n [] [] h = refl
edges_length n [] (t ∷ ts) h = absurd h
edges_length n (e ∷ es) [] h = absurd h
edges_length n (e ∷ es) (t ∷ ts) h = ap suc (edges_length n es ts h.1)

pub edges_joined : (n : ℕ) (es fs : List (Edge E)) (ts us : List Transition) → AreEdges n es ts
    → AreEdges n fs us → AreEdges n (es ++ fs) (ts ++ us)
edges_joined n [] fs [] us h k = k
edges_joined n [] fs (t ∷ ts) us h k = absurd h
edges_joined n (e ∷ es) fs [] us h k = absurd h
edges_joined n (e ∷ es) fs (t ∷ ts) us h k = (h.0, edges_joined n es fs ts us h.1 k)

pub closings-append : (at t : ℕ) (os us : List O)
    → closings at t (os ++ us) ≡ closings at t os ++ closings at (t + length os) us
unfolding closings
closings-append at t [] us = ap (λ k. closings at k us) (let e : t ≡ t + 0 = omega arith in e)
closings-append at t (o ∷ os) us =
    let e : suc t + length os ≡ t + suc (length os) = omega arith in
    ap (λ es. counts at (suc t) most_transitions ∷ es) (closings-append at (suc t) os us
    ∙ ap (λ k. closings at (suc t) os ++ closings at k us) e)

module _ (to at : ℕ) where
  pub record ClosedAll (ts : List Transition) (ps : List Path) (us : List Transition)
      : Type 0 where
    pub edges : (n : ℕ) (es : List (Edge E)) (os : List O) → AreEdges n es ts → AreOpen n os ps
        → AreEdges n (es ++ map (closed to) os) us
    pub free : (n : ℕ) (es : List (Edge E)) (os : List O) → AreEdges n es ts → AreOpen n os ps
        → AreFree (closings at (length es) os)

  pub closed_none : (ts : List Transition) → ClosedAll ts [] ts
  unfolding closings
  closed_none ts = record { edges = edges_go; free = free_go }
    where
      edges_go : (n : ℕ) (es : List (Edge E)) (os : List O) → AreEdges n es ts → AreOpen n os []
          → AreEdges n (es ++ map (closed to) os) ts
      edges_go n es [] h k = subst (λ xs. AreEdges n xs ts) (sym (append-nil es)) h
      edges_go n es (o ∷ os) h k = absurd k

      free_go : (n : ℕ) (es : List (Edge E)) (os : List O) → AreEdges n es ts → AreOpen n os []
          → AreFree (closings at (length es) os)
      free_go n es [] h k = All-nil (λ e. ¬ (IsPastLimit e))
      free_go n es (o ∷ os) h k = absurd k

  module _ (ts : List Transition) (ps : List Path) (us : List Transition)
      (h : ClosedAll ts ps us) where
    -- how many transitions there are then
    count : (n : ℕ) (es : List (Edge E)) (os : List O) → AreEdges n es ts → AreOpen n os ps
        → length es + length os ≡ length us
    count n es os a b =
        let l = length-append es (map (closed to) os) in
        let m = length-map os (closed to) in
        let k = edges_length n (es ++ map (closed to) os) us (h.edges n es os a b) in
        omega (arith, l, m, k)

    one_closing : (t : ℕ) (o : O) → t < most_transitions → AreFree (closings at t (o ∷ []))
    unfolding closings
    one_closing t o l = count_free at (suc t) most_transitions (λ g. omega (arith, g, l))

    pub closed_more : (p : Path) (q : Transition) → length us < most_transitions
        → ((n u : ℕ) (cs : List (steps.Step E)) → IsUnderWay n u cs [] p
        → IsEdge n (record { from = u; to = to; steps = cs }) q)
        → ClosedAll ts (ps ++ p ∷ []) (us ++ q ∷ [])
    closed_more p q few f = record {
      edges = λ n es os a b. let c = open_cut n os ps (p ∷ []) b in
          edges_go n es os a c c.second refl c.is_second;
      free = λ n es os a b. let c = open_cut n os ps (p ∷ []) b in
          free_go n es os a c c.second refl c.is_second;
    }
      where
        edges_go : (n : ℕ) (es : List (Edge E)) (os : List O) → AreEdges n es ts
            → (c : Cut n os ps (p ∷ [])) (vs : List O) → c.second ≡ vs → AreOpen n vs (p ∷ [])
            → AreEdges n (es ++ map (closed to) os) (us ++ q ∷ [])
        edges_go n es os a c [] e k = absurd k
        edges_go n es os a c (o ∷ v ∷ vs) e k = absurd k.1
        edges_go n es os a c (o ∷ []) e k =
            let same : es ++ map (closed to) os
            ≡ (es ++ map (closed to) c.first) ++ closed to o ∷ [] =
            ap (λ xs. es ++ map (closed to) xs) (c.order ∙ ap (λ xs. c.first ++ xs) e)
            ∙ ap (λ xs. es ++ xs) (map-append (closed to) c.first (o ∷ []))
            ∙ sym (append_assoc es (map (closed to) c.first) (closed to o ∷ [])) in
            subst (λ xs. AreEdges n xs (us ++ q ∷ [])) (sym same)
            (edges_joined n (es ++ map (closed to) c.first) (closed to o ∷ []) us (q ∷ [])
            (h.edges n es c.first a c.is_first) (f n o.from o.steps k.0.way, tt))

        free_go : (n : ℕ) (es : List (Edge E)) (os : List O) → AreEdges n es ts
            → (c : Cut n os ps (p ∷ [])) (vs : List O) → c.second ≡ vs → AreOpen n vs (p ∷ [])
            → AreFree (closings at (length es) os)
        free_go n es os a c [] e k = absurd k
        free_go n es os a c (o ∷ v ∷ vs) e k = absurd k.1
        free_go n es os a c (o ∷ []) e k =
            let l = count n es c.first a c.is_first in
            subst AreFree
            (sym (ap (closings at (length es)) (c.order ∙ ap (λ xs. c.first ++ xs) e)
            ∙ closings-append at (length es) c.first (o ∷ [])))
            (free_append (closings at (length es) c.first)
            (closings at (length es + length c.first) (o ∷ []))
            (h.free n es c.first a c.is_first)
            (one_closing (length es + length c.first) o (omega (arith, l, few))))

    first_closing : (t : ℕ) (o : O) (os : List O) → most_transitions ≤ t
        → Stops (closings at t (o ∷ os)) (Limit at)
    unfolding closings
    first_closing t o os l =
        count_stops at (suc t) most_transitions (closings at (suc t) os) (omega (arith, l))

    pub closed_stops : (p : Path) (rest : List Path) → most_transitions ≤ length us
        → (n : ℕ) (es : List (Edge E)) (os : List O) → AreEdges n es ts
        → AreOpen n os (ps ++ p ∷ rest) → Stops (closings at (length es) os) (Limit at)
    closed_stops p rest many n es os a b =
        let c = open_cut n os ps (p ∷ rest) b in go c c.second refl c.is_second
      where
        go : (c : Cut n os ps (p ∷ rest)) (vs : List O) → c.second ≡ vs
            → AreOpen n vs (p ∷ rest) → Stops (closings at (length es) os) (Limit at)
        go c [] e k = absurd k
        go c (o ∷ vs) e k =
            let l = count n es c.first a c.is_first in
            subst (λ xs. Stops xs (Limit at))
            (sym (ap (closings at (length es)) (c.order ∙ ap (λ xs. c.first ++ xs) e)
            ∙ closings-append at (length es) c.first (o ∷ vs)))
            (stops_behind (closings at (length es) c.first)
            (closings at (length es + length c.first) (o ∷ vs)) (Limit at)
            (h.free n es c.first a c.is_first)
            (first_closing (length es + length c.first) o vs (omega (arith, l, many))))
