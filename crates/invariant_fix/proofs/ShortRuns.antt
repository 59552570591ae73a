-- Runs of the analysis on which no task is too long.
--   short_step, step_short     a step of one, and of the analysis
--   any_run                    they are runs of the analysis
--   each_short                 at no state on the way is the task too long
use Rattle.std.proofs.Common.{◌≡◌, Bool, true, false, cond, ltb, List, [], ◌∷◌, ◌++◌, Option, Some, None, refl, sym, subst, ◌∙◌}
use Rattle.std.proofs.lemmas.Bool.{lt-ltb, ltb-true}
use Rattle.machines.specs.Journal.{Entry}
use Rattle.machines.specs.Run.{IsRun}
use Rattle.machines.proofs.Runs.{run_unique}
use Rattle.rounds.specs.Analysis.{Setting, State, moves}
use Rattle.expansion.specs.Counts.{most_terms}
use Rattle.invariant_fix.specs.Long.{task_length, IsLong, short_moves}

module _ (A : Setting) where
  pub short_step : (s : State) → (IsLong A s → ⊥) → short_moves A s ≡ moves A s
  unfolding short_moves
  short_step s h = go (ltb most_terms (task_length A s)) refl
    where
      go : (b : Bool) → ltb most_terms (task_length A s) ≡ b → cond b None (moves A s) ≡ moves A s
      go true e = absurd (h (ltb-true most_terms (task_length A s) e))
      go false e = refl

  pub step_short : (s : State) (x : Entry × State) → short_moves A s ≡ Some x
      → (moves A s ≡ Some x) × (IsLong A s → ⊥)
  unfolding short_moves
  step_short s x h = go (ltb most_terms (task_length A s)) refl h
    where
      go : (b : Bool) → ltb most_terms (task_length A s) ≡ b → cond b None (moves A s) ≡ Some x
          → (moves A s ≡ Some x) × (IsLong A s → ⊥)
      go true e k = absurd (let z : ◌≡◌ {A = Option (Entry × State)} None (Some x) = k in
          let q : ⊥ = cc in q)
      go false e k = (
        k,
        λ l. (let z : true ≡ false = sym (lt-ltb most_terms (task_length A s) l) ∙ e in
            let q : ⊥ = cc in q),
      )

  pub any_run : (s t : State) (es : List Entry) → IsRun (short_moves A) s es t
      → IsRun (moves A) s es t
  unfolding IsRun
  any_run s t [] r = r
  any_run s t (e ∷ es) (u, n, r) = (u, (step_short s (e, u) n).0, any_run u t es r)

  pub each_short : (fs gs : List Entry) (s t u : State) → IsRun (short_moves A) s (fs ++ gs) t
      → (IsLong A t → ⊥) → IsRun (moves A) s fs u → IsLong A u → ⊥
  unfolding IsRun
  each_short [] [] s t u r h k l = h (subst (IsLong A) (sym k ∙ r) l)
  each_short [] (g ∷ gs) s t u (v, n, r) h k l =
      (step_short s (g, v) n).1 (subst (IsLong A) (sym k) l)
  each_short (f ∷ fs) gs s t u (v, n, r) h (x, m, k) l =
      let same = run_unique (moves A) s x v (f ∷ []) (x, m, refl)
      (v, (step_short s (f, v) n).0, refl) in
      each_short fs gs v t u r h (subst (λ y. IsRun (moves A) y fs u) same k) l
