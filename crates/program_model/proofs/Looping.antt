-- Forming behind a `while`.
--   loop_closes, loop_enters, loop_inside, loop_ends, loop_leaves     where it stops, part by part
--   loop_free, loop_front              and where it comes to
use Rattle.std.proofs.Common.{◌≡◌, ℕ, suc, ◌+◌, List, [], ◌∷◌, ◌++◌, map, length, arith, sym, ap, ap₂, subst, ◌∙◌, append_assoc}
use Rattle.std.proofs.lemmas.List.{length-append, length-map}
use Rattle.flows.specs.Chart as chart
use Rattle.flows.specs.Chart.{Edge, closed}
use Rattle.loop_model.specs.declared.map_error.MapError.{MapError}
use Rattle.program_model.specs.Program.{Guard, Mark, loop, Block}
use Rattle.program_model.specs.Events.{Event, AreFree, Stops}
use Rattle.program_model.specs.PathEvents.{E}
use Rattle.program_model.specs.Forming.{head_mark, marks_of, marks_in, exits_of, edges_of, exits_in, edges_in, entering, leaving, entering_events, leaving_events, closings, statement_events, block_events}
use Rattle.program_model.specs.Points.{ArePoints}
use Rattle.program_model.specs.UnderWay.{IsReady, IsUnderWay, AreOpen}
use Rattle.program_model.specs.Fronts.{IsFront, AreEdges}
use Rattle.program_model.specs.declared.front.Front.{Front}
use Rattle.program_model.specs.declared.path.Path.{Path}
use Rattle.program_model.specs.declared.graph.Point.{Point}
use Rattle.program_model.specs.declared.graph.Transition.{Transition}
use Rattle.program_model.proofs.Pointed.{points_length}
use Rattle.program_model.proofs.EventLaws.{free_append, stops_front, stops_behind}
use Rattle.program_model.proofs.Composed.{exits_in-loop, edges_in-loop}
use Rattle.program_model.proofs.Moving.{O}

regrouped : (a b c d e : List Event) → a ++ b ++ c ++ d ++ e ≡ a ++ (b ++ (c ++ (d ++ e)))
regrouped a b c d e =
    append_assoc (a ++ b ++ c) d e ∙ append_assoc (a ++ b) c (d ++ e)
    ∙ append_assoc a b (c ++ (d ++ e))

module _ (n at : ℕ) (g : Guard E) (a : Block E) (ps : List (Mark E)) (es : List (Edge E))
    (os : List O) where
  abbrev i : ℕ
  i = suc (length ps)

  abbrev here : List O
  here = chart.at (suc (length ps))

  abbrev ins : List O
  ins = map (entering g) (chart.at (suc (length ps)))

  -- at the head
  abbrev pub qs : List (Mark E)
  qs = ps ++ head_mark at ∷ []

  abbrev pub fs : List (Edge E)
  fs = es ++ map (closed (suc (length ps))) os

  abbrev j : ℕ
  j = suc (length (ps ++ head_mark at ∷ []))

  -- behind the body
  abbrev pub gs : List (Edge E)
  gs = fs ++ edges_of j a (map (entering g) (chart.at (suc (length ps))))

  abbrev pub us : List O
  us = exits_of j a (map (entering g) (chart.at (suc (length ps))))

  abbrev K : List Event
  K = closings at (length es) os

  abbrev A : List Event
  A = entering_events n g here

  abbrev B : List Event
  B = block_events n j (length fs) a ins

  abbrev L : List Event
  L = closings at (length gs) us

  abbrev C : List Event
  C = leaving_events n g here

  same_point : suc (length (ps ++ head_mark at ∷ [])) ≡ suc (suc (length ps))
  same_point = let l = length-append ps (head_mark at ∷ []) in omega (arith, l)

  same_count : length fs ≡ length es + length os
  same_count =
      let l = length-append es (map (closed (suc (length ps))) os) in
      let m = length-map os (closed (suc (length ps))) in
      omega (arith, l, m)

  abbrev parts : ℕ → ℕ → List Event
  parts k u = K ++ A ++ block_events n k u a ins
      ++ closings at (u + length (edges_of k a ins)) (exits_of k a ins) ++ C

  events : statement_events n (suc (length ps)) (length es) (loop at g a) os
      ≡ K ++ (A ++ (B ++ (L ++ C)))
  unfolding statement_events
  events =
      let c = length-append fs (edges_of j a ins) in
      ap₂ parts (sym same_point) (sym same_count)
      ∙ ap (λ u. K ++ A ++ B ++ closings at u us ++ C) (sym c)
      ∙ regrouped K A B L C

  abbrev Total : MapError → Type 0
  Total x = Stops (statement_events n (suc (length ps)) (length es) (loop at g a) os) x

  whole : (x : MapError) → Stops (K ++ (A ++ (B ++ (L ++ C)))) x → Total x
  whole x h = subst (λ es. Stops es x) (sym events) h

  pub loop_closes : (x : MapError) → Stops K x → Total x
  loop_closes x h = whole x (stops_front K _ x h)

  module _ (fk : AreFree K) where
    pub loop_enters : (x : MapError) → Stops A x → Total x
    loop_enters x h = whole x (stops_behind K _ x fk (stops_front A _ x h))

    module _ (fa : AreFree A) where
      pub loop_inside : (x : MapError) → Stops B x → Total x
      loop_inside x h = whole x (stops_behind K _ x fk (stops_behind A _ x fa
          (stops_front B _ x h)))

      module _ (fb : AreFree B) where
        pub loop_ends : (x : MapError) → Stops L x → Total x
        loop_ends x h = whole x (stops_behind K _ x fk (stops_behind A _ x fa
            (stops_behind B _ x fb (stops_front L C x h))))

        module _ (fl : AreFree L) where
          pub loop_leaves : (x : MapError) → Stops C x → Total x
          loop_leaves x h = whole x (stops_behind K _ x fk (stops_behind A _ x fa
              (stops_behind B _ x fb (stops_behind L C x fl h))))

          pub loop_free : AreFree C
              → AreFree (statement_events n (suc (length ps)) (length es) (loop at g a) os)
          loop_free fc = subst AreFree (sym events) (free_append K _ fk (free_append A _ fa
              (free_append B _ fb (free_append L C fl fc))))

  pub loop_front : (h : Front)
      → ArePoints n ((ps ++ head_mark at ∷ []) ++ marks_of a) h.points.items
      → AreEdges n (gs ++ map (closed (suc (length ps))) us) h.transitions.items
      → AreOpen n (map (leaving g) here) h.paths.items
      → IsFront n (ps ++ marks_in (loop at g a))
      (es ++ edges_in (suc (length ps)) (loop at g a) os)
      (exits_in (suc (length ps)) (loop at g a) os) h
  unfolding marks_in
  loop_front h p e o = record {
    points = subst (λ xs. ArePoints n xs h.points.items)
        (append_assoc ps (head_mark at ∷ []) (marks_of a)) p;
    edges = subst (λ xs. AreEdges n xs h.transitions.items)
        (ap (λ k. fs ++ edges_of k a ins ++ map (closed i) (exits_of k a ins)) same_point
        ∙ append_assoc fs (edges_of (suc i) a ins) (map (closed i) (exits_of (suc i) a ins))
        ∙ append_assoc es (map (closed i) os) _
        ∙ ap (λ xs. es ++ xs) (sym (append_assoc (map (closed i) os) (edges_of (suc i) a ins)
        (map (closed i) (exits_of (suc i) a ins))) ∙ sym (edges_in-loop at i g a os))) e;
    paths = subst (λ xs. AreOpen n xs h.paths.items) (sym (exits_in-loop at i g a os)) o;
  }

-- ---- at the head
pub head_is : (n : ℕ) (ps : List (Mark E)) (m : Mark E) (qs : List Point) (k : ℕ)
    → ArePoints n (ps ++ m ∷ []) qs → k ≡ length qs → k ≡ suc (length ps)
head_is n ps m qs k p e =
    let a = points_length n (ps ++ m ∷ []) qs p in
    let l = length-append ps (m ∷ []) in
    omega (arith, a, l, e)

pub here_open : (n k : ℕ) (ps : List (Mark E)) (p : Path) (qs : List Path) → k ≡ suc (length ps)
    → qs ≡ p ∷ [] → IsReady n p → IsUnderWay n k [] [] p
    → AreOpen n (chart.at (suc (length ps))) qs
here_open n k ps p qs e s r w =
    subst (AreOpen n (chart.at (suc (length ps)))) (sym s)
    (record { ready = r; way = subst (λ i. IsUnderWay n i [] [] p) e w }, tt)

pub edges_here : (n : ℕ) (es : List (Edge E)) (os : List O) (k : ℕ) (ps : List (Mark E))
    (ts : List Transition) → k ≡ suc (length ps) → AreEdges n (es ++ map (closed k) os) ts
    → AreEdges n (es ++ map (closed (suc (length ps))) os) ts
edges_here n es os k ps ts e h = subst (λ i. AreEdges n (es ++ map (closed i) os) ts) e h

pub head_front : (n : ℕ) (ps : List (Mark E)) (es : List (Edge E)) (os : List O) (at : ℕ)
    (f g : Front)
    (i : ℕ) (us : List O) → ArePoints n (ps ++ head_mark at ∷ []) g.points.items
    → AreEdges n (es ++ map (closed i) os) g.transitions.items → AreOpen n us g.paths.items
    → IsFront n (ps ++ head_mark at ∷ []) (es ++ map (closed i) os) us g
head_front n ps es os at f g i us p e o = record { points = p; edges = e; paths = o }
