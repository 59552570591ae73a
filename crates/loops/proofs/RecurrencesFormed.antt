-- The loop of sequences is well formed.
--   program_formed
use Rattle.std.proofs.Common.{◌≡◌, ◌≢◌, ℕ, zero, suc, ◌+◌, ◌<◌, ◌≤◌, List, [], ◌∷◌, map, length, arith, refl, sym, ap, subst, ◌∙◌, All}
use Rattle.std.proofs.lemmas.List.{length-append}
use Rattle.std.proofs.lemmas.List.Elements.{All-nil, All-cons, All-weaker, All-append}
use Rattle.algebra.specs.Each.{Each}
use Rattle.loops.specs.Program.{Expr, variable, Equation}
use Rattle.loops.specs.WellFormed.{Uses, AreDistinct, IsStatement, local_places, SetsFirst, IsWellFormed}
use Rattle.loops.proofs.Locals.{sets_no_locals}
use Rattle.loops.proofs.Starts.{uses_weaker}
use Rattle.loops.specs.Sequences.{Sequence, order, size, AreFormed}
use Rattle.loops.specs.Turning.{names, all_given, equations, places, variables_from, iteration, step, program_of}
use Rattle.loops.proofs.Lists.{moved, length-places}
use Rattle.loops.proofs.Iterations.{length-variables}
use Rattle.loops.proofs.RecurrenceStarts.{length-names, length-given, each_given}

-- ---- places
places_within : (i r m : ℕ) → i + r ≤ m → All (λ k. k < m) (places i r)
unfolding places
places_within i zero m l = All-nil _
places_within i (suc r) m l =
    All-cons (λ k. k < m) i (places (suc i) r) (omega arith)
    (places_within (suc i) r m (omega arith))

places_above : (a i r : ℕ) → a < i → All (λ k. k ≢ a) (places i r)
unfolding places
places_above a i zero l = All-nil _
places_above a i (suc r) l =
    All-cons (λ k. k ≢ a) i (places (suc i) r) (λ e. omega arith)
    (places_above a (suc i) r (omega arith))

places_distinct : (i r : ℕ) → AreDistinct (places i r)
unfolding places AreDistinct
places_distinct i zero = tt
places_distinct i (suc r) = (places_above i (suc i) r (omega arith), places_distinct (suc i) r)

module _ {E : Type 0} where
  names_of_equations : (i : ℕ) (es : List E)
      → map (λ (e : Equation E). e.name) (equations i es) ≡ places i (length es)
  unfolding equations places
  names_of_equations i [] = refl
  names_of_equations i (e ∷ es) = ap (λ l. i ∷ l) (names_of_equations (suc i) es)

  all_equations : (P : E → Type 0) (i m : ℕ) (es : List E) → i + length es ≤ m → Each P es
      → All (λ (e : Equation E). (e.name < m) × P e.value) (equations i es)
  unfolding equations Each
  all_equations P i m [] l h = All-nil _
  all_equations P i m (e ∷ es) l h =
      All-cons (λ (e : Equation E). (e.name < m) × P e.value) (record { name = i; value = e })
      (equations (suc i) es) (omega arith, h.0) (all_equations P (suc i) m es (omega arith) h.1)

module _ {At : Type 0} where
  pub length-iteration : (i : ℕ) (qs : List (Sequence (Expr At))) → length (iteration i qs)
      ≡ size qs
  unfolding iteration size
  length-iteration i [] = refl
  length-iteration i (q ∷ qs) =
      let rest = iteration (i + order q) qs in
      let a = length-append (variables_from {At = At} (suc i) (length q.later)) (q.next ∷ rest) in
      let b = length-variables At (suc i) (length q.later) in
      let c = length-iteration (i + order q) qs in omega arith

  variables_within : (i r m : ℕ) → i + r ≤ m
      → All (Uses {At = At} (λ k. k < m)) (variables_from i r)
  unfolding variables_from Uses
  variables_within i zero m l = All-nil _
  variables_within i (suc r) m l =
      All-cons (Uses (λ k. k < m)) (variable i) (variables_from (suc i) r) (omega arith)
      (variables_within (suc i) r m (omega arith))

  iteration_within : (i m : ℕ) (qs : List (Sequence (Expr At))) → i + size qs ≤ m
      → Each (λ (q : Sequence (Expr At)). Uses (λ k. k < m) q.next) qs
      → All (Uses (λ k. k < m)) (iteration i qs)
  unfolding iteration size Each
  iteration_within i m [] l h = All-nil _
  iteration_within i m (q ∷ qs) l h =
      All-append (Uses (λ k. k < m)) (variables_from (suc i) (length q.later))
      (q.next ∷ iteration (i + order q) qs)
      (variables_within (suc i) (length q.later) m (omega arith))
      (All-cons (Uses (λ k. k < m)) q.next (iteration (i + order q) qs) h.0
      (iteration_within (i + order q) m qs (omega arith) h.1))

  some_size : (qs : List (Sequence (Expr At))) → 0 < length qs → 0 < size qs
  unfolding size
  some_size [] l = absurd (omega arith)
  some_size (q ∷ qs) l = omega arith

  pub program_formed : (qs : List (Sequence (Expr At))) → AreFormed qs
      → IsWellFormed (program_of qs)
  program_formed qs formed =
      let m = length (names qs) in
      let n : m ≡ size qs = length-names qs in
      let es = all_given qs in
      let g : length es ≡ size qs = length-given qs in
      let Free : ℕ → Type 0 =
      λ i. (i < m) × All (λ (f : Equation (Expr At)). i ≢ f.name) (equations 0 es) in
      let all : All (λ (e : Equation (Expr At)). (e.name < m) × Uses (λ i. ⊥) e.value)
      (equations 0 es) = all_equations (Uses (λ i. ⊥)) 0 m es (omega arith)
      (each_given (Uses (λ i. ⊥)) qs formed.values) in
      record {
        set_once = subst AreDistinct (sym (names_of_equations 0 es))
            (places_distinct 0 (length es));
        set = All-weaker (λ (e : Equation (Expr At)). (e.name < m) × Uses (λ i. ⊥) e.value)
            (λ (e : Equation (Expr At)). e.name < m) (λ e h. h.0) (equations 0 es) all;
        free = All-weaker (λ (e : Equation (Expr At)). (e.name < m) × Uses (λ i. ⊥) e.value)
            (λ (e : Equation (Expr At)). Uses Free e.value)
            (λ e h. uses_weaker (λ i. ⊥) Free (λ i x. absurd x) e.value h.1) (equations 0 es) all;
        some_branch = omega arith;
        statements = All-cons (All (IsStatement (m + 0))) (step qs ∷ []) [] statements_are
            (All-nil _);
        set_first = All-cons (SetsFirst (local_places m 0)) (step qs ∷ []) []
            (sets_no_locals (m + 0) m (step qs ∷ []) statements_are) (All-nil _);
      }
    where
      is : IsStatement (length (names qs) + 0) (step qs)
      is =
          let m = length (names qs) in
          let n : m ≡ size qs = length-names qs in
          let some = some_size qs formed.some in
          let p = length-places 0 (size qs) in
          record {
            some_target = omega arith;
            sizes = p ∙ sym (length-iteration 0 qs);
            targets = places_within 0 (size qs) (m + 0) (omega (arith, n));
            distinct = places_distinct 0 (size qs);
            values = iteration_within 0 (m + 0) qs (omega arith)
                (moved (λ k. Each (λ (q : Sequence (Expr At)). Uses (λ i. i < k) q.next) qs)
                (size qs) (m + 0) (omega (arith, n)) formed.nexts);
          }

      statements_are : All (IsStatement (length (names qs) + 0)) (step qs ∷ [])
      statements_are = All-cons (IsStatement (length (names qs) + 0)) (step qs) [] is (All-nil _)
