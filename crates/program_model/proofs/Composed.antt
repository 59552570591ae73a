-- A statement, a block and a guard, with the code behind them.
--   exits_before, edges_before, points_before      a statement, and then the code c
--   exits_behind, edges_behind, points_behind      a block, and then c
--   exits_more, edges_more                         a block with one statement more
--   points_entered, exits_entered, edges_entered   past a guard: c where its comparisons are true
--   points_left, exits_left, edges_left            and where its one is false
--   length-marks_of, length-marks_in           there are as many marks as points
use Rattle.std.proofs.Common.{◌≡◌, Bool, true, false, ℕ, suc, ◌+◌, List, [], ◌∷◌, ◌++◌, map, length, arith, refl, sym, ap, ap₂, ◌∙◌, append_assoc}
use Rattle.std.proofs.lemmas.List.{append-nil, length-append}
use Rattle.flows.specs.Steps as steps
use Rattle.flows.specs.Code as code
use Rattle.flows.specs.Code.{Code, points}
use Rattle.flows.specs.Guards.{all_true, one_false, entered, left}
use Rattle.flows.specs.Chart as chart
use Rattle.flows.specs.Chart.{Edge, then_step, closed, exits, edges}
use Rattle.program_model.specs.Program.{Mark, Comparison, Guard, Statement, step, assert, branch, loop, Block, empty, behind}
use Rattle.program_model.specs.Code.{told, guard_code, step_code, code_behind, code_before, code_of}
use Rattle.program_model.specs.PathEvents.{E, asked, true_steps, false_steps}
use Rattle.program_model.specs.Forming.{marks_of, marks_in, points_of, exits_of, edges_of, exits_in, edges_in, entering, leaving}
use Rattle.program_model.proofs.Moving.{O}

-- ---- guards
abbrev more_steps : List (steps.Step E) → O → O
more_steps gs o = record { from = o.from; steps = o.steps ++ gs }

none_more : (os : List O) → map (more_steps []) os ≡ os
none_more [] = refl
none_more (o ∷ os) = ap₂ ◌∷◌ (ap (λ cs. record { from = o.from; steps = cs }) (append-nil o.steps))
    (none_more os)

one_more : (g : steps.Step E) (gs : List (steps.Step E)) (os : List O)
    → map (more_steps gs) (map (then_step g) os) ≡ map (more_steps (g ∷ gs)) os
one_more g gs [] = refl
one_more g gs (o ∷ os) =
    ap₂ ◌∷◌ (ap (λ cs. record { from = o.from; steps = cs }) (append_assoc o.steps (g ∷ []) gs))
    (one_more g gs os)

module _ (c : Code E) where
  points_true : (ks : List (Comparison E)) → points (all_true (map told ks) c) ≡ points c
  unfolding all_true points
  points_true [] = refl
  points_true (k ∷ ks) = points_true ks

  exits_true : (i : ℕ) (ks : List (Comparison E)) (os : List O)
      → exits i (all_true (map told ks) c) os ≡ exits i c (map (more_steps (true_steps ks)) os)
  unfolding all_true exits
  exits_true i [] os = ap (exits i c) (sym (none_more os))
  exits_true i (k ∷ ks) os = exits_true i ks (map (then_step (asked true k)) os)
      ∙ ap (exits i c) (one_more (asked true k) (true_steps ks) os)

  edges_true : (i : ℕ) (ks : List (Comparison E)) (os : List O)
      → edges i (all_true (map told ks) c) os ≡ edges i c (map (more_steps (true_steps ks)) os)
  unfolding all_true edges
  edges_true i [] os = ap (edges i c) (sym (none_more os))
  edges_true i (k ∷ ks) os = edges_true i ks (map (then_step (asked true k)) os)
      ∙ ap (edges i c) (one_more (asked true k) (true_steps ks) os)

  points_false : (b : Bool) (ks : List (Comparison E)) → points (one_false b (map told ks) c)
      ≡ points c
  unfolding one_false points
  points_false false ks = refl
  points_false true [] = refl
  points_false true (k ∷ []) = refl
  points_false true (k ∷ l ∷ ks) = refl

  exits_false : (i : ℕ) (b : Bool) (ks : List (Comparison E)) (os : List O)
      → exits i (one_false b (map told ks) c) os
      ≡ exits i c (map (more_steps (false_steps b ks)) os)
  unfolding one_false exits false_steps
  exits_false i false ks os = ap (exits i c) (sym (none_more os))
  exits_false i true [] os = ap (exits i c) (sym (none_more os))
  exits_false i true (k ∷ []) os = refl
  exits_false i true (k ∷ l ∷ ks) os = ap (exits i c) (sym (none_more os))

  edges_false : (i : ℕ) (b : Bool) (ks : List (Comparison E)) (os : List O)
      → edges i (one_false b (map told ks) c) os
      ≡ edges i c (map (more_steps (false_steps b ks)) os)
  unfolding one_false edges false_steps
  edges_false i false ks os = ap (edges i c) (sym (none_more os))
  edges_false i true [] os = ap (edges i c) (sym (none_more os))
  edges_false i true (k ∷ []) os = refl
  edges_false i true (k ∷ l ∷ ks) os = ap (edges i c) (sym (none_more os))

  module _ (g : Guard E) where
    pub points_entered : points (entered (guard_code g) c) ≡ points c
    points_entered = points_true g.says

    pub exits_entered : (i : ℕ) (os : List O)
        → exits i (entered (guard_code g) c) os ≡ exits i c (map (entering g) os)
    exits_entered i os = exits_true i g.says os

    pub edges_entered : (i : ℕ) (os : List O)
        → edges i (entered (guard_code g) c) os ≡ edges i c (map (entering g) os)
    edges_entered i os = edges_true i g.says os

    pub points_left : points (left (guard_code g) c) ≡ points c
    points_left = points_false g.alone g.says

    pub exits_left : (i : ℕ) (os : List O)
        → exits i (left (guard_code g) c) os ≡ exits i c (map (leaving g) os)
    exits_left i os = exits_false i g.alone g.says os

    pub edges_left : (i : ℕ) (os : List O)
        → edges i (left (guard_code g) c) os ≡ edges i c (map (leaving g) os)
    edges_left i os = edges_false i g.alone g.says os

-- ---- branches and loops, and then c
module _ (c : Code E) (i : ℕ) (os : List O) where
  module _ (a b : Code E) where
    abbrev out : List O
    out = exits i a os ++ exits (i + points a) b os

    exits_branch : exits i (code.branch a b c) os
        ≡ exits (i + points (code.branch a b code.done)) c (exits i (code.branch a b code.done) os)
    unfolding exits points
    exits_branch =
        let e : i + points a + points b ≡ i + (points a + points b + 0) = omega arith in
        ap (λ j. exits j c out) e

    edges_branch : edges i (code.branch a b c) os
        ≡ edges i (code.branch a b code.done) os
        ++ edges (i + points (code.branch a b code.done)) c (exits i (code.branch a b code.done) os)
    unfolding exits edges points
    edges_branch =
        let e : i + points a + points b ≡ i + (points a + points b + 0) = omega arith in
        ap₂ (λ es j. es ++ edges j c out)
        (sym (append-nil (edges i a os ++ edges (i + points a) b os))) e

  module _ (a : Code E) (g : Guard E) where
    abbrev there : ℕ
    there = suc (i + points a)

    abbrev before : List (Edge E)
    before = map (closed i) os ++ edges (suc i) a (chart.at i)
        ++ map (closed i) (exits (suc i) a (chart.at i))

    abbrev whole : Code E → Code E
    whole c = code.loop a (left (guard_code g) c)

    points_loop : i + points (whole code.done) ≡ suc (i + points a)
    unfolding points
    points_loop = let q = points_left code.done g in omega (arith, q)

    out_loop : exits there (left (guard_code g) code.done) (chart.at i)
        ≡ map (leaving g) (chart.at i)
    unfolding exits
    out_loop = exits_left code.done g there (chart.at i)

    none_loop : edges there (left (guard_code g) code.done) (chart.at i) ≡ []
    unfolding edges
    none_loop = edges_left code.done g there (chart.at i)

    exits_loop : exits i (whole c) os
        ≡ exits (i + points (whole code.done)) c (exits i (whole code.done) os)
    unfolding exits
    exits_loop = exits_left c g there (chart.at i)
        ∙ ap₂ (λ j us. exits j c us) (sym points_loop) (sym out_loop)

    edges_loop : edges i (whole c) os ≡ edges i (whole code.done) os
        ++ edges (i + points (whole code.done)) c (exits i (whole code.done) os)
    unfolding edges exits
    edges_loop =
        ap (λ es. before ++ es) (edges_left c g there (chart.at i)
        ∙ ap₂ (λ j us. edges j c us) (sym points_loop) (sym out_loop))
        ∙ ap (λ es. es ++ edges (i + points (whole code.done)) c (exits i (whole code.done) os))
        (sym (ap (λ es. before ++ es) none_loop ∙ append-nil before))

-- ---- a statement, and then c
abbrev pub points_in : Statement E → ℕ
points_in s = points (code_before s code.done)

module _ (c : Code E) where
  pub points_before : (s : Statement E) → points (code_before s c) ≡ points_in s + points c
  unfolding code_before points
  points_before (step g) = let p : points c ≡ 0 + points c = omega arith in p
  points_before (assert at k) = let p : suc (points c) ≡ suc 0 + points c = omega arith in p
  points_before (branch at g a b) = omega arith
  points_before (loop at g a) =
      let p = points_left c g in let q = points_left code.done g in omega (arith, p, q)

  pub exits_before : (s : Statement E) (i : ℕ) (os : List O) → exits i (code_before s c) os
      ≡ exits (i + points_in s) c (exits_in i s os)
  unfolding code_before exits points
  exits_before (step g) i os =
      let e : i ≡ i + 0 = omega arith in
      ap (λ j. exits j c (map (then_step (step_code g)) os)) e
  exits_before (assert at k) i os =
      let e : suc i ≡ i + suc 0 = omega arith in ap (λ j. exits j c os) e
  exits_before (branch at g a b) i os =
      exits_branch c i os (entered (guard_code g) (code_of a)) (left (guard_code g) (code_of b))
  exits_before (loop at g a) i os = exits_loop c i os (entered (guard_code g) (code_of a)) g

  pub edges_before : (s : Statement E) (i : ℕ) (os : List O) → edges i (code_before s c) os
      ≡ edges_in i s os ++ edges (i + points_in s) c (exits_in i s os)
  unfolding code_before exits edges points
  edges_before (step g) i os =
      let e : i ≡ i + 0 = omega arith in
      ap (λ j. edges j c (map (then_step (step_code g)) os)) e
  edges_before (assert at k) i os =
      let e : suc i ≡ i + suc 0 = omega arith in
      ap₂ (λ es j. es ++ edges j c os) (sym (append-nil (map (closed i) os))) e
  edges_before (branch at g a b) i os =
      edges_branch c i os (entered (guard_code g) (code_of a)) (left (guard_code g) (code_of b))
  edges_before (loop at g a) i os = edges_loop c i os (entered (guard_code g) (code_of a)) g

-- ---- a block, and then c
pub points_behind : (b : Block E) (c : Code E) → points (code_behind b c) ≡ points_of b + points c
unfolding code_behind points
points_behind empty c = let p : points c ≡ 0 + points c = omega arith in p
points_behind (behind b s) c =
    let p = points_behind b (code_before s c) in
    let q = points_behind b (code_before s code.done) in
    let r = points_before c s in
    omega (arith, p, q, r)

pub exits_behind : (b : Block E) (c : Code E) (i : ℕ) (os : List O) → exits i (code_behind b c) os
    ≡ exits (i + points_of b) c (exits_of i b os)
unfolding code_behind exits points
exits_behind empty c i os = let e : i ≡ i + 0 = omega arith in ap (λ j. exits j c os) e
exits_behind (behind b s) c i os =
    let q = points_behind b (code_before s code.done) in
    let e : i + points_of b + points_in s ≡ i + points_of (behind b s) = omega (arith, q) in
    exits_behind b (code_before s c) i os
    ∙ exits_before c s (i + points_of b) (exits_of i b os)
    ∙ ap₂ (λ j us. exits j c us) e (sym (exits_behind b (code_before s code.done) i os))

pub edges_behind : (b : Block E) (c : Code E) (i : ℕ) (os : List O) → edges i (code_behind b c) os
    ≡ edges_of i b os ++ edges (i + points_of b) c (exits_of i b os)
unfolding code_behind exits edges points
edges_behind empty c i os = let e : i ≡ i + 0 = omega arith in ap (λ j. edges j c os) e
edges_behind (behind b s) c i os =
    let q = points_behind b (code_before s code.done) in
    let e : i + points_of b + points_in s ≡ i + points_of (behind b s) = omega (arith, q) in
    let here = exits_of i b os in
    edges_behind b (code_before s c) i os
    ∙ ap (λ es. edges_of i b os ++ es) (edges_before c s (i + points_of b) here
    ∙ ap₂ (λ j us. edges_in (i + points_of b) s here ++ edges j c us) e
    (sym (exits_behind b (code_before s code.done) i os)))
    ∙ sym (append_assoc (edges_of i b os) (edges_in (i + points_of b) s here) _)
    ∙ ap (λ es. es ++ edges (i + points_of (behind b s)) c (exits_of i (behind b s) os))
    (sym (edges_behind b (code_before s code.done) i os))

-- ---- one statement more
module _ (b : Block E) (s : Statement E) (i : ℕ) (os : List O) where
  pub exits_more : exits_of i (behind b s) os ≡ exits_in (i + points_of b) s (exits_of i b os)
  unfolding code_behind
  exits_more = exits_behind b (code_before s code.done) i os

  pub edges_more : edges_of i (behind b s) os
      ≡ edges_of i b os ++ edges_in (i + points_of b) s (exits_of i b os)
  unfolding code_behind
  edges_more = edges_behind b (code_before s code.done) i os

-- ---- marks
mutual
  unfolding marks_of marks_in code_behind code_before points

  pub length-marks_of : (b : Block E) → length (marks_of b) ≡ points_of b
  length-marks_of empty = refl
  length-marks_of (behind b s) =
      length-append (marks_of b) (marks_in s)
      ∙ ap₂ ◌+◌ (length-marks_of b) (length-marks_in s)
      ∙ sym (points_behind b (code_before s code.done))

  pub length-marks_in : (s : Statement E) → length (marks_in s) ≡ points_in s
  length-marks_in (step c) = refl
  length-marks_in (assert at k) = refl
  length-marks_in (branch at g a b) =
      let l = length-append (marks_of a) (marks_of b) in
      let p = points_entered (code_of a) g in
      let q = points_left (code_of b) g in
      let x = length-marks_of a in
      let y = length-marks_of b in
      omega (arith, l, p, q, x, y)
  length-marks_in (loop at g a) =
      let p = points_entered (code_of a) g in
      let q = points_left code.done g in
      let x = length-marks_of a in
      omega (arith, p, q, x)

-- ---- what a statement's exits and paths are
module _ (at i : ℕ) (g : Guard E) (a : Block E) (os : List O) where
  module _ (b : Block E) where
    abbrev second : ℕ
    second = i + points_of a

    same_second : i + points (entered (guard_code g) (code_of a)) ≡ i + points_of a
    same_second = ap (λ k. i + k) (points_entered (code_of a) g)

    first_exits : exits i (entered (guard_code g) (code_of a)) os
        ≡ exits_of i a (map (entering g) os)
    first_exits = exits_entered (code_of a) g i os

    second_exits : exits (i + points (entered (guard_code g) (code_of a)))
        (left (guard_code g) (code_of b)) os ≡ exits_of second b (map (leaving g) os)
    second_exits = ap (λ j. exits j (left (guard_code g) (code_of b)) os) same_second
        ∙ exits_left (code_of b) g second os

    pub exits_in-branch : exits_in i (branch at g a b) os
        ≡ exits_of i a (map (entering g) os) ++ exits_of (i + points_of a) b (map (leaving g) os)
    unfolding code_before exits
    exits_in-branch = ap₂ ◌++◌ first_exits second_exits

    pub edges_in-branch : edges_in i (branch at g a b) os
        ≡ edges_of i a (map (entering g) os) ++ edges_of (i + points_of a) b (map (leaving g) os)
    unfolding code_before edges
    edges_in-branch =
        append-nil _ ∙ ap₂ ◌++◌ (edges_entered (code_of a) g i os)
        (ap (λ j. edges j (left (guard_code g) (code_of b)) os) same_second
        ∙ edges_left (code_of b) g second os)

  abbrev ins : List O
  ins = map (entering g) (chart.at i)

  abbrev inner : Code E
  inner = entered (guard_code g) (code_of a)

  pub exits_in-loop : exits_in i (loop at g a) os ≡ map (leaving g) (chart.at i)
  unfolding code_before exits
  exits_in-loop = exits_left code.done g _ (chart.at i)

  pub edges_in-loop : edges_in i (loop at g a) os
      ≡ map (closed i) os ++ edges_of (suc i) a ins ++ map (closed i) (exits_of (suc i) a ins)
  unfolding code_before edges
  edges_in-loop =
      ap (λ es. map (closed i) os ++ edges (suc i) inner (chart.at i)
      ++ map (closed i) (exits (suc i) inner (chart.at i)) ++ es)
      (none_loop code.done i os inner g)
      ∙ append-nil _
      ∙ ap₂ (λ es fs. map (closed i) os ++ es ++ fs)
      (edges_entered (code_of a) g (suc i) (chart.at i))
      (ap (map (closed i)) (exits_entered (code_of a) g (suc i) (chart.at i)))

-- ---- the next point behind a block
pub point_after : (ps : List (Mark E)) (b : Block E)
    → suc (length (ps ++ marks_of b)) ≡ suc (length ps) + points_of b
point_after ps b =
    let l = length-append ps (marks_of b) in
    let m = length-marks_of b in
    omega (arith, l, m)
