-- Forming behind an `if`.
--   branch_splits, branch_enters, branch_inside, branch_leaves, branch_outside, branch_opens     where it stops, part by part
--   branch_free, branch_front          and where it comes to
use Rattle.std.proofs.Common.{◌≡◌, ◌<◌, ℕ, suc, List, [], ◌∷◌, ◌++◌, map, length, arith, sym, ap, ap₂, subst, subst₂, ◌∙◌, append_assoc}
use Rattle.std.proofs.lemmas.List.{length-append}
use Rattle.flows.specs.Chart.{Edge}
use Rattle.loop_model.specs.declared.map_error.MapError.{MapError}
use Rattle.loop_model.specs.declared.map_error.MapError.TheVariants.{Limit}
use Rattle.program_model.specs.Program.{Guard, Mark, Statement, branch, Block}
use Rattle.program_model.specs.Events.{Event, counts, AreFree, Stops}
use Rattle.program_model.specs.PathEvents.{E}
use Rattle.program_model.specs.Forming.{most_split, most_open, marks_of, marks_in, exits_of, edges_of, exits_in, edges_in, entering, leaving, entering_events, leaving_events, statement_events, block_events}
use Rattle.program_model.specs.Points.{ArePoints}
use Rattle.program_model.specs.UnderWay.{AreOpen}
use Rattle.program_model.specs.Fronts.{IsFront, AreEdges}
use Rattle.program_model.specs.declared.front.Front.{Front}
use Rattle.program_model.specs.declared.path.Path.{Path}
use Rattle.program_model.proofs.EventLaws.{free_append, stops_front, stops_behind, count_free, count_stops}
use Rattle.program_model.proofs.Composed.{exits_in-branch, edges_in-branch, point_after}
use Rattle.program_model.proofs.Moving.{O, open_joined}

regrouped : (s a b c d e : List Event) → s ++ a ++ b ++ c ++ d ++ e ≡ s
    ++ (a ++ (b ++ (c ++ (d ++ e))))
regrouped s a b c d e =
    append_assoc (s ++ a ++ b ++ c) d e ∙ append_assoc (s ++ a ++ b) c (d ++ e)
    ∙ append_assoc (s ++ a) b (c ++ (d ++ e)) ∙ append_assoc s a (b ++ (c ++ (d ++ e)))

module _ (n at : ℕ) (g : Guard E) (a b : Block E) (ps : List (Mark E)) (es : List (Edge E))
    (os : List O) where
  abbrev s : Statement E
  s = branch at g a b

  abbrev i : ℕ
  i = suc (length ps)

  abbrev ins : List O
  ins = map (entering g) os

  abbrev outs : List O
  outs = map (leaving g) os

  -- behind the first block
  abbrev pub fs : List (Edge E)
  fs = es ++ edges_of (suc (length ps)) a (map (entering g) os)

  abbrev j : ℕ
  j = suc (length (ps ++ marks_of a))

  abbrev A : List Event
  A = entering_events n g os

  abbrev B : List Event
  B = block_events n (suc (length ps)) (length es) a (map (entering g) os)

  abbrev C : List Event
  C = leaving_events n g os

  abbrev D : List Event
  D = block_events n j (length fs) b (map (leaving g) os)

  abbrev S : List Event
  S = counts at (length os) most_split ∷ []

  abbrev pub both : List O
  both = exits_of (suc (length ps)) a (map (entering g) os)
      ++ exits_of (suc (length (ps ++ marks_of a))) b (map (leaving g) os)

  abbrev T : List Event
  T = counts at (length both) most_open ∷ []

  events : statement_events n (suc (length ps)) (length es) (branch at g a b) os
      ≡ S ++ (A ++ (B ++ (C ++ (D ++ T))))
  unfolding statement_events
  events =
      let p = point_after ps a in
      let c = length-append es (edges_of (suc (length ps)) a (map (entering g) os)) in
      ap₂ (λ k u. S ++ A ++ B ++ C ++ block_events n k u b (map (leaving g) os)
      ++ counts at (length (exits_of (suc (length ps)) a (map (entering g) os)
      ++ exits_of k b (map (leaving g) os))) most_open ∷ []) (sym p) (sym c)
      ∙ regrouped S A B C D T

  abbrev Total : MapError → Type 0
  Total x = Stops (statement_events n (suc (length ps)) (length es) (branch at g a b) os) x

  whole : (x : MapError) → Stops (S ++ (A ++ (B ++ (C ++ (D ++ T))))) x → Total x
  whole x h = subst (λ es. Stops es x) (sym events) h

  pub branch_splits : most_split < length os → Total (Limit at)
  branch_splits l = whole (Limit at) (count_stops at (length os) most_split _ l)

  module _ (few : ¬ (most_split < length os)) where
    s_free : AreFree S
    s_free = count_free at (length os) most_split few

    pub branch_enters : (x : MapError) → Stops A x → Total x
    branch_enters x h = whole x (stops_behind S _ x s_free (stops_front A _ x h))

    module _ (fa : AreFree A) where
      pub branch_inside : (x : MapError) → Stops B x → Total x
      branch_inside x h = whole x (stops_behind S _ x s_free (stops_behind A _ x fa
          (stops_front B _ x h)))

      module _ (fb : AreFree B) where
        pub branch_leaves : (x : MapError) → Stops C x → Total x
        branch_leaves x h = whole x (stops_behind S _ x s_free (stops_behind A _ x fa
            (stops_behind B _ x fb (stops_front C _ x h))))

        module _ (fc : AreFree C) where
          pub branch_outside : (x : MapError) → Stops D x → Total x
          branch_outside x h = whole x (stops_behind S _ x s_free (stops_behind A _ x fa
              (stops_behind B _ x fb (stops_behind C _ x fc (stops_front D T x h)))))

          module _ (fd : AreFree D) where
            pub branch_opens : most_open < length both → Total (Limit at)
            branch_opens l = whole (Limit at) (stops_behind S _ (Limit at) s_free
                (stops_behind A _ (Limit at) fa (stops_behind B _ (Limit at) fb
                (stops_behind C _ (Limit at) fc (stops_behind D T (Limit at) fd
                (count_stops at (length both) most_open [] l))))))

            pub branch_free : ¬ (most_open < length both)
                → AreFree (statement_events n (suc (length ps)) (length es) (branch at g a b) os)
            branch_free l = subst AreFree (sym events)
                (free_append S _ s_free (free_append A _ fa (free_append B _ fb
                (free_append C _ fc (free_append D T fd
                (count_free at (length both) most_open l))))))

  pub branch_front : (f : Front) (ts : List Path) (h : Front)
      → IsFront n ((ps ++ marks_of a) ++ marks_of b) (fs ++ edges_of j b (map (leaving g) os))
      (exits_of j b (map (leaving g) os)) f
      → AreOpen n (exits_of (suc (length ps)) a (map (entering g) os)) ts
      → h.points.items ≡ f.points.items → h.transitions.items ≡ f.transitions.items
      → h.paths.items ≡ ts ++ f.paths.items
      → IsFront n (ps ++ marks_in (branch at g a b))
      (es ++ edges_in (suc (length ps)) (branch at g a b) os)
      (exits_in (suc (length ps)) (branch at g a b) os) h
  unfolding marks_in
  branch_front f ts h k o p e q =
      let there = point_after ps a in
      record {
        points = subst₂ (ArePoints n) (append_assoc ps (marks_of a) (marks_of b)) (sym p) k.points;
        edges = subst₂ (λ xs ys. AreEdges n xs ys)
            (append_assoc es (edges_of i a ins) (edges_of j b outs)
            ∙ ap (λ xs. es ++ xs) (ap (λ k. edges_of i a ins ++ edges_of k b outs) there
            ∙ sym (edges_in-branch at i g a os b))) (sym e) k.edges;
        paths = subst₂ (λ xs ys. AreOpen n xs ys)
            (ap (λ k. exits_of i a ins ++ exits_of k b outs) there
            ∙ sym (exits_in-branch at i g a os b)) (sym q)
            (open_joined n (exits_of i a ins) (exits_of j b outs) ts f.paths.items o k.paths);
      }

  -- how many are open behind both blocks
  pub open_count : (ts us vs : List Path)
      → length (exits_of (suc (length ps)) a (map (entering g) os)) ≡ length ts
      → length (exits_of j b (map (leaving g) os)) ≡ length us → vs ≡ ts ++ us
      → length both ≡ length vs
  open_count ts us vs u v e =
      let l = length-append (exits_of (suc (length ps)) a (map (entering g) os))
      (exits_of j b (map (leaving g) os)) in
      let m = length-append ts us in
      let k = ap length e in
      omega (arith, u, v, l, m, k)
