-- Where no operation of the equation and of the maps passes a limit, each answer comes by its
-- cause.
--   map_limit_told     where one of the maps does
--   complete           one of the answers, by its cause
--   first_found, none_found, limit_told      where a word counters, where none does, where an image
--                      of a word that is reached passes a limit
--   cost_told          where the words up to one that is reached cost too much
use Rattle.std.proofs.Common.{◌≡◌, ℕ, List, length, ap, sym, subst, ◌∙◌, inl, inr, Ok, Some}
use Rattle.std.specs.Prelude.{◌⊎◌}
use Rattle.algebra.specs.Fraction.{Fraction}
use Rattle.polynomials.specs.Terms.{Terms}
use Rattle.loops.specs.Program.{Expr, Program}
use Rattle.poly_text.specs.Reasons.{limit, wide}
use Rattle.loop_model.specs.Operations.{IsLimit, IsWide}
use Rattle.loop_model.specs.Stops.{Stops}
use Rattle.loop_model.specs.declared.map_error.MapError.{MapError}
use Rattle.loop_model.specs.declared.map_error.MapError.TheVariants as map_error
use Rattle.loop_model.specs.Maps.{maps_operations, AreFree}
use Rattle.corollaries.specs.Word.{IsEarlier}
use Rattle.corollaries.specs.Counter.{IsFirstWord, NoneCounters}
use Rattle.corollaries.proofs.Order.{earlier_total}
use Rattle.counter_run.specs.Images.{image_operations, IsFreeWord}
use Rattle.counter_run.specs.Costs.{IsTooCostly}
use Rattle.counter_run.specs.Causes.{IsReached, IsLimitWord, IsCostlyWord}
use Rattle.counter_run.specs.Answers.{IfUnformed}
use Rattle.io_edge.specs.declared.answer.Status.TheVariants as status
use Rattle.io_edge.specs.Texts.{Answer}
use Rattle.io_edge.proofs.OfStatuses.{status_of, no_answer, some_answer}
use Rattle.command_parts.specs.FaultTexts.{loop_refusal}
use Rattle.command_parts.proofs.MapLimits.{limit_same, not_free}
use Rattle.command_parts.specs.Equations.{operations_of, polynomial_of, FormsFreely}
use Rattle.command_parts.specs.EquationReading.{stop_answer, IsUnformed}
use Rattle.command_parts.proofs.Refusals.{stopped_wide}
use Rattle.replay_commands.specs.CounterSeeking.{Answers, TellsRun, TellsNone, TellsLimit, TellsCost}
use Rattle.replay_commands.specs.CounterClauses.{IsWithin, AreWithin, IsWideSeeking, EndsSeeking}
use Rattle.replay_commands.specs.CounterTexts.{none_answer, limit_answer, cost_answer, map_answer}

module _ (l : Program (Expr ℕ)) (e : Expr ℕ) (n : ℕ) (a : Answer) (h : Answers l (Ok e) n a)
    (formed : FormsFreely l e) where
  abbrev p : Terms Fraction
  p = polynomial_of l e

  abbrev WideSaid : Type 0
  WideSaid = (a.status ≡ status.Wide) × IsWideSeeking l e n

  wide_unformed : IsUnformed l e a → WideSaid
  wide_unformed u = (stopped_wide l e a formed u, inl (go u.stop u.is u.says))
    where
      go : (x : MapError) → Stops (length l.names) (operations_of l e) x → stop_answer x ≡ Some a
          → (at : ℕ) × IsWide (length l.names) (operations_of l e) at
      go (map_error.Limit at) is says =
          absurd (not_free (length l.names) (operations_of l e) at is formed)
      go (map_error.Wide at) is says = (at, is)
      go map_error.Memory is says = absurd (no_answer a says)

  -- an operation of the maps passes a limit
  pub map_limit_told : (at : ℕ) → IsLimit (length l.names) (maps_operations l) at
      → (a ≡ loop_refusal (record { reason = limit; at = at })) ⊎ (a.status ≡ status.Wide)
  map_limit_told at first = go h
    where
      told : (x : MapError) → IfUnformed l p n x → map_answer x ≡ Some a
          → (a ≡ loop_refusal (record { reason = limit; at = at })) ⊎ (a.status ≡ status.Wide)
      told (map_error.Limit other) is says =
          inl (some_answer (loop_refusal (record { reason = limit; at = other })) a says
          ∙ ap (λ k. loop_refusal (record { reason = limit; at = k }))
          (limit_same (length l.names) (maps_operations l) other at is first))
      told (map_error.Wide other) is says =
          inr (status_of (some_answer (loop_refusal (record { reason = wide; at = other })) a says))
      told map_error.Memory is says = absurd is

      free : AreFree l → ⊥
      free maps = not_free (length l.names) (maps_operations l) at first maps

      go : Answers l (Ok e) n a
          → (a ≡ loop_refusal (record { reason = limit; at = at })) ⊎ (a.status ≡ status.Wide)
      go (inl u) = inr (wide_unformed u).0
      go (inr (f, inl t)) = absurd (free t.maps)
      go (inr (f, inr (inl t))) = absurd (free t.maps)
      go (inr (f, inr (inr (inl t)))) = told t.stop t.is t.says
      go (inr (f, inr (inr (inr (inl t))))) = absurd (free t.is.maps)
      go (inr (f, inr (inr (inr (inr (inl t)))))) = absurd (free t.is.maps)
      go (inr (f, inr (inr (inr (inr (inr t)))))) = absurd (free t.is.maps)

  -- none does
  module _ (maps : AreFree l) where
    wide_map : (x : MapError) → IfUnformed l p n x → map_answer x ≡ Some a → WideSaid
    wide_map (map_error.Limit at) is says =
        absurd (not_free (length l.names) (maps_operations l) at is maps)
    wide_map (map_error.Wide at) is says = (
      status_of (some_answer (loop_refusal (record { reason = wide; at = at })) a says),
      inr (inl (at, is)),
    )
    wide_map map_error.Memory is says = absurd is

    by_search : (Q : Type 0) → (WideSaid → Q) → (TellsRun l p n a → Q) → (TellsNone l p n a → Q)
        → (TellsLimit l p n a → Q) → (TellsCost l p n a → Q) → Q
    by_search Q of_wide run none limited costly = go h
      where
        go : Answers l (Ok e) n a → Q
        go (inl u) = of_wide (wide_unformed u)
        go (inr (f, inl t)) = run t
        go (inr (f, inr (inl t))) = none t
        go (inr (f, inr (inr (inl t)))) = of_wide (wide_map t.stop t.is t.says)
        go (inr (f, inr (inr (inr (inl t))))) = limited t
        go (inr (f, inr (inr (inr (inr (inl t)))))) = costly t
        go (inr (f, inr (inr (inr (inr (inr t)))))) =
            of_wide (status_of t.says, inr (inr (t.word, t.is)))

    pub complete : EndsSeeking a.status l e n
    complete =
        by_search (EndsSeeking a.status l e n) (λ w. inr (inr (inr (inl w))))
        (λ t. inl (status_of t.says, (t.word, t.is.first, t.is.short)))
        (λ t. inr (inl (status_of t.says, t.is.none)))
        (λ t. inr (inr (inl (status_of t.says, inl (t.word, t.is)))))
        (λ t. inr (inr (inl (status_of t.says, inr (t.word, t.is)))))

    limit_not_free : (w : List ℕ) → IsLimitWord l p w → IsFreeWord l p w → ⊥
    limit_not_free w is free = not_free (length l.names) (image_operations l p w) 0 is free

    pub first_found : (w : List ℕ) → IsFirstWord l p w → IsWithin l p w n
        → (a.status ≡ status.No) ⊎ (a.status ≡ status.Wide)
    first_found w first within =
        by_search ((a.status ≡ status.No) ⊎ (a.status ≡ status.Wide)) (λ x. inr x.0)
        (λ t. inl (status_of t.says)) (λ t. absurd (t.is.none w within.short first.counters))
        (λ t. absurd (limited t.word t.is.reached t.is.cause (earlier_total t.word w)))
        (λ t. absurd (costly t.word t.is.reached t.is.cause.1 (earlier_total t.word w)))
      where
        costly : (v : List ℕ) → IsReached l p n v → IsTooCostly l p n v
            → IsEarlier v w ⊎ ((v ≡ w) ⊎ IsEarlier w v) → ⊥
        costly v r is (inl earlier) = within.little v (inr earlier) is
        costly v r is (inr (inl same)) = within.little v (inl same) is
        costly v r is (inr (inr later)) = r.none w later first.counters

        limited : (v : List ℕ) → IsReached l p n v → IsLimitWord l p v
            → IsEarlier v w ⊎ ((v ≡ w) ⊎ IsEarlier w v) → ⊥
        limited v r is (inl earlier) = limit_not_free v is (within.free v r.letters (inr earlier))
        limited v r is (inr (inl same)) = limit_not_free v is (within.free v r.letters (inl same))
        limited v r is (inr (inr later)) = r.none w later first.counters

    pub none_found : NoneCounters l p n → AreWithin l p n
        → (a ≡ none_answer n) ⊎ (a.status ≡ status.Wide)
    none_found none within =
        by_search ((a ≡ none_answer n) ⊎ (a.status ≡ status.Wide)) (λ x. inr x.0)
        (λ t. absurd (none t.word t.is.short t.is.first.counters)) (λ t. inl t.says)
        (λ t. absurd (limit_not_free t.word t.is.cause
        (within.free t.word t.is.reached.letters t.is.reached.short)))
        (λ t. absurd (within.little t.word t.is.reached.short t.is.cause.1))

    pub limit_told : (w : List ℕ) → IsReached l p n w → IsLimitWord l p w
        → (a ≡ limit_answer w) ⊎ (a.status ≡ status.Wide)
    limit_told w r is =
        by_search ((a ≡ limit_answer w) ⊎ (a.status ≡ status.Wide)) (λ x. inr x.0)
        (λ t. absurd (run t (earlier_total w t.word)))
        (λ t. absurd (limit_not_free w is (t.is.free w r.letters r.short)))
        (λ t. inl (t.says
        ∙ ap limit_answer (same t.word t.is.reached t.is.cause (earlier_total t.word w))))
        (λ t. absurd (costly t.word t.is.reached t.is.cause (earlier_total t.word w)))
      where
        costly : (v : List ℕ) → IsReached l p n v → IsCostlyWord l p n v
            → IsEarlier v w ⊎ ((v ≡ w) ⊎ IsEarlier w v) → ⊥
        costly v s k (inl earlier) = r.little v earlier k.1
        costly v s k (inr (inl equal)) = limit_not_free w is (subst (IsFreeWord l p) equal k.0)
        costly v s k (inr (inr later)) = limit_not_free w is (s.free w r.letters later)

        run : (t : TellsRun l p n a) → IsEarlier w t.word ⊎ ((w ≡ t.word) ⊎ IsEarlier t.word w)
            → ⊥
        run t (inl earlier) = limit_not_free w is (t.is.free w r.letters (inr earlier))
        run t (inr (inl same)) = limit_not_free w is (t.is.free w r.letters (inl same))
        run t (inr (inr later)) = r.none t.word later t.is.first.counters

        same : (v : List ℕ) → IsReached l p n v → IsLimitWord l p v
            → IsEarlier v w ⊎ ((v ≡ w) ⊎ IsEarlier w v) → v ≡ w
        same v s k (inl earlier) = absurd (limit_not_free v k (r.free v s.letters earlier))
        same v s k (inr (inl equal)) = equal
        same v s k (inr (inr later)) = absurd (limit_not_free w is (s.free w r.letters later))

    pub cost_told : (w : List ℕ) → IsReached l p n w → IsCostlyWord l p n w
        → (a ≡ cost_answer w) ⊎ (a.status ≡ status.Wide)
    cost_told w r is =
        by_search ((a ≡ cost_answer w) ⊎ (a.status ≡ status.Wide)) (λ x. inr x.0)
        (λ t. absurd (run t (earlier_total w t.word))) (λ t. absurd (t.is.little w is.1))
        (λ t. absurd (limited t.word t.is.reached t.is.cause (earlier_total t.word w)))
        (λ t. inl (t.says
        ∙ ap cost_answer (same t.word t.is.reached t.is.cause (earlier_total t.word w))))
      where
        run : (t : TellsRun l p n a) → IsEarlier w t.word ⊎ ((w ≡ t.word) ⊎ IsEarlier t.word w)
            → ⊥
        run t (inl earlier) = t.is.little w (inr earlier) is.1
        run t (inr (inl same)) = t.is.little w (inl same) is.1
        run t (inr (inr later)) = r.none t.word later t.is.first.counters

        limited : (v : List ℕ) → IsReached l p n v → IsLimitWord l p v
            → IsEarlier v w ⊎ ((v ≡ w) ⊎ IsEarlier w v) → ⊥
        limited v s k (inl earlier) = limit_not_free v k (r.free v s.letters earlier)
        limited v s k (inr (inl equal)) =
            limit_not_free v k (subst (IsFreeWord l p) (sym equal) is.0)
        limited v s k (inr (inr later)) = s.little w later is.1

        same : (v : List ℕ) → IsReached l p n v → IsCostlyWord l p n v
            → IsEarlier v w ⊎ ((v ≡ w) ⊎ IsEarlier w v) → v ≡ w
        same v s k (inl earlier) = absurd (r.little v earlier k.1)
        same v s k (inr (inl equal)) = equal
        same v s k (inr (inr later)) = absurd (s.little w later is.1)
