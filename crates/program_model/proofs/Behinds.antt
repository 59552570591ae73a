-- How far forming has come behind a statement, and behind some.
--   BlockDone n f ss g       behind the statements ss from the front f is g, and no event passes a limit;  block_begun, block_next, block_stops, block_done
use Rattle.std.proofs.Common.{◌≡◌, ◌<◌, ◌≤◌, ℕ, suc, ◌+◌, List, [], ◌∷◌, ◌++◌, map, take, length, get_or, arith, refl, sym, ap, ap₂, subst, subst₂, ◌∙◌, append_assoc, All, Result}
use Rattle.std.proofs.lemmas.List.{append-nil, length-append, take_all}
use Rattle.std.proofs.lemmas.List.Elements.{All-nil}
use Rattle.flows.specs.Chart.{Edge}
use Rattle.loop_model.specs.declared.map_error.MapError.{MapError}
use Rattle.std.specs.List.{flat_map}
use Rattle.program_model.specs.Program.{Mark, Step, Statement, step, Block, empty, behind}
use Rattle.program_model.specs.declared.path.Path.{Path}
use Rattle.program_model.specs.StatementView.{statement_of, block_of}
use Rattle.program_model.specs.Events.{Event, IsPastLimit, AreFree, Stops, Makes}
use Rattle.program_model.specs.PathEvents.{E, step_events}
use Rattle.program_model.specs.Forming.{marks_of, marks_in, points_of, exits_of, edges_of, exits_in, edges_in, statement_events, block_events}
use Rattle.program_model.specs.Points.{ArePoints}
use Rattle.program_model.specs.UnderWay.{IsReady, AreOpen}
use Rattle.program_model.specs.Fronts.{IsFront, AreEdges}
use Rattle.program_model.specs.declared.front.Front.{Front}
use Rattle.program_model.specs.declared.statement.Statement as code
use Rattle.flows.specs.Chart as chart
use Rattle.program_model.specs.Code.{step_code, code_behind, code_before}
use Rattle.program_model.proofs.EventLaws.{free_append, stops_behind}
use Rattle.program_model.proofs.Composed.{exits_more, edges_more, length-marks_of}
use Rattle.program_model.proofs.Moving.{O}
use Rattle.program_model.proofs.StatementViews.{block_more, block_none, stops_later}

pub front_along : (n : ℕ) {ps qs : List (Mark E)} {es fs : List (Edge E)} {os us : List O}
    {g : Front}
    → ps ≡ qs → es ≡ fs → os ≡ us → IsFront n ps es os g → IsFront n qs fs us g
front_along n {g = g} e f o h = record {
  points = subst (λ xs. ArePoints n xs g.points.items) e h.points;
  edges = subst (λ xs. AreEdges n xs g.transitions.items) f h.edges;
  paths = subst (λ xs. AreOpen n xs g.paths.items) o h.paths;
}

module _ (n : ℕ) where
  abbrev Goes : Block E → List (Mark E) → List (Edge E) → List O → Front → Type 0
  Goes b ps es os g =
      IsFront n (ps ++ marks_of b) (es ++ edges_of (suc (length ps)) b os)
      (exits_of (suc (length ps)) b os) g
      × AreFree (block_events n (suc (length ps)) (length es) b os)

  pub record BlockDone (f : Front) (ss : List code.Statement) (g : Front) : Type 0 where
    pub ready : All (IsReady n) g.paths.items
    pub goes : (ps : List (Mark E)) (es : List (Edge E)) (os : List O) → IsFront n ps es os f
        → Goes (block_of ss) ps es os g

  none_done : (ps : List (Mark E)) (es : List (Edge E)) (os : List O) (f : Front)
      → IsFront n ps es os f
      → Goes empty ps es os f
  unfolding marks_of code_behind chart.exits chart.edges block_events
  none_done ps es os f h = (
    subst₂ (λ qs fs. IsFront n qs fs os f) (sym (append-nil ps)) (sym (append-nil es)) h,
    All-nil (λ e. ¬ (IsPastLimit e)),
  )

  pub block_begun : (f : Front) → All (IsReady n) f.paths.items → BlockDone f [] f
  block_begun f r = record {
    ready = r;
    goes = λ ps es os h. subst (λ b. Goes b ps es os f) (sym block_none) (none_done ps es os f h);
  }

  -- the statement s behind the block b
  module _ (b : Block E) (s : Statement E) (ps : List (Mark E)) (es : List (Edge E))
      (os : List O) where
    abbrev i : ℕ
    i = suc (length ps)

    abbrev qs : List (Mark E)
    qs = ps ++ marks_of b

    abbrev fs : List (Edge E)
    fs = es ++ edges_of (suc (length ps)) b os

    abbrev us : List O
    us = exits_of (suc (length ps)) b os

    next_point : suc (length (ps ++ marks_of b)) ≡ suc (length ps) + points_of b
    next_point =
        let l = length-append ps (marks_of b) in
        let m = length-marks_of b in
        omega (arith, l, m)

    next_count : length (es ++ edges_of (suc (length ps)) b os)
        ≡ length es + length (edges_of (suc (length ps)) b os)
    next_count = length-append es (edges_of (suc (length ps)) b os)

    next_events : block_events n i (length es) (behind b s) os
        ≡ block_events n i (length es) b os ++ statement_events n (suc (length qs)) (length fs) s us
    unfolding block_events
    next_events =
        ap₂ (λ j t. block_events n i (length es) b os ++ statement_events n j t s us)
        (sym next_point) (sym next_count)

    next_front : (g : Front) → IsFront n (qs ++ marks_in s)
        (fs ++ edges_in (suc (length qs)) s us) (exits_in (suc (length qs)) s us) g
        → IsFront n (ps ++ marks_of (behind b s)) (es ++ edges_of i (behind b s) os)
        (exits_of i (behind b s) os) g
    unfolding marks_of
    next_front g h =
        front_along n (append_assoc ps (marks_of b) (marks_in s))
        (append_assoc es (edges_of i b os) (edges_in (suc (length qs)) s us)
        ∙ ap (λ xs. es ++ xs) (ap (λ j. edges_of i b os ++ edges_in j s us) next_point
        ∙ sym (edges_more b s i os)))
        (ap (λ j. exits_in j s us) next_point ∙ sym (exits_more b s i os)) h

  module _ (f g : Front) (ss : List code.Statement) (k : ℕ) (s : code.Statement)
      (l : k < length ss) (is : s ≡ get_or ss k s) (h : BlockDone f (take k ss) g) where
    abbrev b : Block E
    b = block_of (take k ss)

    abbrev Here : Front → List (Mark E) → List (Edge E) → List O → Type 0
    Here t ps es os =
        IsFront n (ps ++ marks_in (statement_of s))
        (es ++ edges_in (suc (length ps)) (statement_of s) os)
        (exits_in (suc (length ps)) (statement_of s) os) t

    abbrev events : List (Mark E) → List (Edge E) → List O → List Event
    events ps es os = statement_events n (suc (length ps)) (length es) (statement_of s) os

    pub block_next : (t : Front) → All (IsReady n) t.paths.items
        → ((ps : List (Mark E)) (es : List (Edge E)) (os : List O) → IsFront n ps es os g
        → Here t ps es os × AreFree (events ps es os)) → BlockDone f (take (k + 1) ss) t
    block_next t r m = record {
      ready = r;
      goes = λ ps es os w.
          let v = h.goes ps es os w in
          let u = m (qs b (statement_of s) ps es os) (fs b (statement_of s) ps es os)
          (us b (statement_of s) ps es os) v.0 in
          subst (λ b. Goes b ps es os t) (sym (block_more ss k s l is)) (
            next_front b (statement_of s) ps es os t u.0,
            subst AreFree (sym (next_events b (statement_of s) ps es os))
                (free_append (block_events n (suc (length ps)) (length es) b os) _ v.1 u.1),
          );
    }

    pub block_stops : (x : MapError) → ((ps : List (Mark E)) (es : List (Edge E)) (os : List O)
        → IsFront n ps es os g → Stops (events ps es os) x)
        → (ps : List (Mark E)) (es : List (Edge E)) (os : List O) → IsFront n ps es os f
        → Stops (block_events n (suc (length ps)) (length es) (block_of ss) os) x
    block_stops x m ps es os w =
        let v = h.goes ps es os w in
        let u = m (qs b (statement_of s) ps es os) (fs b (statement_of s) ps es os)
        (us b (statement_of s) ps es os) v.0 in
        stops_later n (suc (length ps)) (length es) os x ss (k + 1)
        (subst (λ b. Stops (block_events n (suc (length ps)) (length es) b os) x)
        (sym (block_more ss k s l is))
        (subst (λ xs. Stops xs x) (sym (next_events b (statement_of s) ps es os))
        (stops_behind (block_events n (suc (length ps)) (length es) b os) _ x v.1 u)))

  pub block_done : (f g : Front) (ss ts : List code.Statement) (k : ℕ) → length ss ≤ k → ss ≡ ts
      → BlockDone f (take k ss) g → BlockDone f ts g
  block_done f g ss ts k l e h = subst (λ xs. BlockDone f xs g) (take_all k ss l ∙ e) h

-- ---- the same points and transitions, with other paths
pub with_paths : (n : ℕ) (ps : List (Mark E)) (es : List (Edge E)) (os us : List O) (f g : Front)
    → IsFront n ps es os f → AreOpen n us g.paths.items → g.points.items ≡ f.points.items
    → g.transitions.items ≡ f.transitions.items → IsFront n ps es us g
with_paths n ps es os us f g h o p e = record {
  points = subst (ArePoints n ps) (sym p) h.points;
  edges = subst (AreEdges n es) (sym e) h.edges;
  paths = o;
}

-- what is asked of a statement
abbrev pub Makes_behind : ℕ → Front → Statement E → Result Front MapError → Type 0
Makes_behind n f s r =
    (ps : List (Mark E)) (es : List (Edge E)) (os : List O) → IsFront n ps es os f
    → Makes (statement_events n (suc (length ps)) (length es) s os)
    (IsFront n (ps ++ marks_in s) (es ++ edges_in (suc (length ps)) s os)
    (exits_in (suc (length ps)) s os)) r

pub open_length : (n : ℕ) (os : List O) (ps : List Path) → AreOpen n os ps → length os ≡ length ps
open_length n [] [] h = refl
open_length n [] (p ∷ ps) h = absurd h
open_length n (o ∷ os) [] h = absurd h
open_length n (o ∷ os) (p ∷ ps) h = ap suc (open_length n os ps h.1)

-- ---- a step
module _ (n : ℕ) (c : Step E) (ps : List (Mark E)) (es : List (Edge E)) (os : List O) where
  pub step_events_are : statement_events n (suc (length ps)) (length es) (step c) os
      ≡ flat_map (λ (o : O). step_events n o.steps c) os
  unfolding statement_events
  step_events_are = refl

  pub step_front : (f g : Front) → IsFront n ps es os f
      → AreOpen n (map (chart.then_step (step_code c)) os) g.paths.items
      → g.points.items ≡ f.points.items → g.transitions.items ≡ f.transitions.items
      → IsFront n (ps ++ marks_in (step c)) (es ++ edges_in (suc (length ps)) (step c) os)
      (exits_in (suc (length ps)) (step c) os) g
  unfolding marks_in code_before chart.exits chart.edges
  step_front f g h o p e =
      front_along n (sym (append-nil ps)) (sym (append-nil es)) refl
      (with_paths n ps es os (map (chart.then_step (step_code c)) os) f g h o p e)

pub step_comes : (n : ℕ) (c : Step E) (s : Statement E) (ps : List (Mark E)) (es : List (Edge E))
    (os : List O) (f g : Front) → s ≡ step c → IsFront n ps es os f
    → AreOpen n (map (chart.then_step (step_code c)) os) g.paths.items
    → g.points.items ≡ f.points.items → g.transitions.items ≡ f.transitions.items
    → AreFree (flat_map (λ (o : O). step_events n o.steps c) os)
    → IsFront n (ps ++ marks_in s) (es ++ edges_in (suc (length ps)) s os)
    (exits_in (suc (length ps)) s os) g
    × AreFree (statement_events n (suc (length ps)) (length es) s os)
step_comes n c s ps es os f g e h o p t free =
    subst (λ s. IsFront n (ps ++ marks_in s) (es ++ edges_in (suc (length ps)) s os)
    (exits_in (suc (length ps)) s os) g
    × AreFree (statement_events n (suc (length ps)) (length es) s os)) (sym e) (
      step_front n c ps es os f g h o p t,
      subst AreFree (sym (step_events_are n c ps es os)) free,
    )
