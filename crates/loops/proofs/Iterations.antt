-- An iteration of the loop goes from one window to the next.
--   turned        the values of an iteration at a window are the next window
--   after_letters     so the run with k letters, from the window at n, ends with that at n + k
--   letters           each run's letters are 1
use Rattle.std.proofs.Common.{◌≡◌, ℕ, zero, suc, ◌+◌, List, [], ◌∷◌, ◌++◌, map, length, replicate, get_or, arith, refl, sym, ap, ap₂, ◌∙◌, Option, Some, None, option_and_then}
use Rattle.std.proofs.lemmas.List.{append_assoc, length-append, map-append}
use Rattle.algebra.specs.Fraction.{Fraction, ℚ}
use Rattle.loops.specs.Program.{Expr, Statement}
use Rattle.loops.specs.Effect.{store, value_of, after_statement, after_branch}
use Rattle.loops.specs.Run.{value, effect, IsState, run_end, branch_at}
use Rattle.loops.proofs.Locals.{no_local_names}
use Rattle.loops.specs.Sequences.{Sequence, size}
use Rattle.loops.specs.Turning.{places, variables_from, iteration, step, program_of}
use Rattle.loops.specs.Solutions.{values, window, AreSatisfied, IsSolution}
use Rattle.loops.proofs.Lists.{at_place, more_before, length-more, store_places}
use Rattle.loops.proofs.Windows.{length-values, values_more, length-window}
use Rattle.loops.proofs.RecurrenceStarts.{length-names}

pub length-variables : (X : Type 0) (i r : ℕ) → length (variables_from {At = X} i r) ≡ r
unfolding variables_from
length-variables X i zero = refl
length-variables X i (suc r) = ap suc (length-variables X (suc i) r)

-- variables from a place on, at a state
variables_at : (X : Type 0) (before xs after : List Fraction) (i r : ℕ) → i ≡ length before
    → r ≡ length xs → map (λ (e : Expr X). value e (before ++ (xs ++ after)))
    (variables_from i r) ≡ xs
unfolding variables_from value_of
variables_at X before [] after i zero e h = refl
variables_at X before [] after i (suc r) e h = absurd (omega arith)
variables_at X before (x ∷ xs) after i zero e h = absurd (omega arith)
variables_at X before (x ∷ xs) after i (suc r) e h =
    ap₂ ◌∷◌ (ap (λ k. get_or (before ++ (x ∷ xs ++ after)) k ℚ.zero) e
    ∙ at_place before x (xs ++ after) ℚ.zero)
    (ap (λ s. map (λ (e : Expr X). value e s) (variables_from (suc i) r))
    (more_before before x (xs ++ after))
    ∙ variables_at X (before ++ x ∷ []) xs after (suc i) r (ap suc e ∙ sym (length-more before x))
    (omega arith))

module _ {At : Type 0} where
  pub turned_behind : (fs : ℕ → ℕ → Fraction) (w : ℕ → List Fraction) (n : ℕ)
      (before : List Fraction) (i : ℕ) → i ≡ length before → (qs : List (Sequence (Expr At)))
      → w n ≡ before ++ window fs n qs → AreSatisfied fs w qs
      → map (λ (e : Expr At). value e (w n)) (iteration i qs) ≡ window fs (suc n) qs
  unfolding iteration window AreSatisfied values
  turned_behind fs w n before i e [] h m = refl
  turned_behind fs w n before i e (q ∷ qs) h m =
      let r = length q.later in
      let rest = window (λ j. fs (suc j)) n qs in
      let vs = values (fs 0) (suc n) r in
      let at : List (Expr At) → List Fraction = map (λ (e : Expr At). value e (w n)) in
      let one : w n ≡ (before ++ fs 0 n ∷ []) ++ (vs ++ rest) = h
      ∙ more_before before (fs 0 n) (vs ++ rest) in
      let first : at (variables_from (suc i) r) ≡ vs =
      ap (λ s. map (λ (e : Expr At). value e s) (variables_from (suc i) r)) one
      ∙ variables_at At (before ++ fs 0 n ∷ []) vs rest (suc i) r (ap suc e
      ∙ sym (length-more before (fs 0 n))) (sym (length-values (fs 0) (suc n) r)) in
      let last : value q.next (w n) ≡ fs 0 (suc n + r) = sym (m.0.goes n)
      ∙ ap (fs 0) (omega arith) in
      let more : at (iteration (i + suc r) qs) ≡ window (λ j. fs (suc j)) (suc n) qs =
      turned_behind (λ j. fs (suc j)) w n (before ++ fs 0 n ∷ vs) (i + suc r)
      (ap (λ k. k + suc r) e
      ∙ ap (λ k. length before + suc k) (sym (length-values (fs 0) (suc n) r))
      ∙ sym (length-append before (fs 0 n ∷ vs)))
      qs (h ∙ sym (append_assoc before (fs 0 n ∷ vs) rest)) m.1 in
      map-append (λ (e : Expr At). value e (w n)) (variables_from (suc i) r)
      (q.next ∷ iteration (i + suc r) qs)
      ∙ ap₂ ◌++◌ first (ap₂ ◌∷◌ last more)
      ∙ more_before vs (fs 0 (suc n + r)) (window (λ j. fs (suc j)) (suc n) qs)
      ∙ ap (λ l. l ++ window (λ j. fs (suc j)) (suc n) qs) (sym (values_more (fs 0) (suc n) r))

  pub turned : (fs : ℕ → ℕ → Fraction) (qs : List (Sequence (Expr At))) → IsSolution qs fs → (n : ℕ)
      → map (λ (e : Expr At). value e (window fs n qs)) (iteration 0 qs) ≡ window fs (suc n) qs
  turned fs qs m n = turned_behind fs (λ k. window fs k qs) n [] 0 refl qs refl m

  stored : (qs : List (Sequence (Expr At))) (s : List Fraction)
      → after_branch ℚ (λ c. c) (step qs ∷ []) s ≡ store (places 0 (size qs))
      (map (λ (e : Expr At). value e s) (iteration 0 qs)) s
  unfolding after_branch after_statement
  stored qs s = refl

  effect_is : (qs : List (Sequence (Expr At))) (s : List Fraction) → IsState (program_of qs) s
      → effect (program_of qs) (step qs ∷ []) s ≡ store (places 0 (size qs))
      (map (λ (e : Expr At). value e s) (iteration 0 qs)) s
  effect_is qs s is = no_local_names (program_of qs) (step qs ∷ []) s refl is ∙ stored qs s

  pub effect_at : (fs : ℕ → ℕ → Fraction) (qs : List (Sequence (Expr At))) → IsSolution qs fs
      → (n : ℕ) → effect (program_of qs) (step qs ∷ []) (window fs n qs) ≡ window fs (suc n) qs
  effect_at fs qs m n = effect_is qs (window fs n qs)
      (length-window fs n qs ∙ sym (length-names qs))
      ∙ ap (λ xs. store (places 0 (size qs)) xs (window fs n qs)) (turned fs qs m n)
      ∙ store_places (size qs) (window fs (suc n) qs) (window fs n qs) (length-window fs (suc n) qs)
      (length-window fs n qs)

  pub run_end_more : (qs : List (Sequence (Expr At))) (word : List ℕ) (s : List Fraction)
      → run_end (program_of qs) (1 ∷ word) s ≡ run_end (program_of qs) word
      (effect (program_of qs) (step qs ∷ []) s)
  unfolding run_end branch_at
  run_end_more qs word s = refl

  pub run_end_none : (qs : List (Sequence (Expr At))) (s : List Fraction)
      → run_end (program_of qs) [] s ≡ Some s
  unfolding run_end
  run_end_none qs s = refl

  pub after_letters : (fs : ℕ → ℕ → Fraction) (qs : List (Sequence (Expr At))) → IsSolution qs fs
      → (k n : ℕ) → run_end (program_of qs) (replicate k 1) (window fs n qs) ≡ Some
      (window fs (n + k) qs)
  after_letters fs qs m zero n = run_end_none qs (window fs n qs)
      ∙ ap (λ j. Some (window fs j qs)) (omega arith)
  after_letters fs qs m (suc k) n =
      run_end_more qs (replicate k 1) (window fs n qs)
      ∙ ap (run_end (program_of qs) (replicate k 1)) (effect_at fs qs m n)
      ∙ after_letters fs qs m k (suc n) ∙ ap (λ j. Some (window fs j qs)) (omega arith)

  -- ---- the letters of a run
  a_letter : (qs : List (Sequence (Expr At))) (b : ℕ) (branch : List (Statement (Expr At)))
      → branch_at (program_of qs) b ≡ Some branch → (b ≡ 1) × (branch ≡ step qs ∷ [])
  unfolding branch_at
  a_letter qs zero branch h = absurd (cc)
  a_letter qs (suc zero) branch h = (refl, cc)
  a_letter qs (suc (suc b)) branch h = absurd (cc)

  pub letters : (qs : List (Sequence (Expr At))) (word : List ℕ) (s end : List Fraction)
      → run_end (program_of qs) word s ≡ Some end → word ≡ replicate (length word) 1
  unfolding run_end
  letters qs [] s end h = refl
  letters qs (b ∷ word) s end h =
      go (branch_at (program_of qs) b) refl h (λ t. letters qs word t end)
    where
      go : (o : Option (List (Statement (Expr At)))) → branch_at (program_of qs) b ≡ o
          → option_and_then (λ branch. run_end (program_of qs) word
          (effect (program_of qs) branch s)) o ≡ Some end
          → ((t : List Fraction) → run_end (program_of qs) word t ≡ Some end
          → word ≡ replicate (length word) 1) → b ∷ word ≡ replicate (length (b ∷ word)) 1
      go None e h ih = absurd (cc)
      go (Some branch) e h ih = ap₂ ◌∷◌ (a_letter qs b branch e).0
          (ih (effect (program_of qs) branch s) h)
