-- Where no operation of the equation and of the maps passes a limit, each answer comes by its cause.
--   map_limit_told     where one of the maps does
--   complete           one of the answers, by its cause
--   enough_said        no exhausted budget where all ends within it
--   equation_limited   where an operation of the equation's polynomial passes a limit
use Rattle.std.proofs.Common.{◌≡◌, ◌≢◌, ℕ, length, inl, inr, Ok, Some}
use Rattle.std.specs.Prelude.{◌⊎◌}
use Rattle.algebra.specs.Fraction.{Fraction}
use Rattle.polynomials.specs.Terms.{Terms}
use Rattle.machines.specs.Journal.{Journal}
use Rattle.loops.specs.Program.{Expr, Program}
use Rattle.poly_text.specs.Reasons.{limit}
use Rattle.loop_model.specs.Operations.{IsLimit, IsWide}
use Rattle.loop_model.specs.Stops.{Stops}
use Rattle.loop_model.specs.declared.map_error.MapError.{MapError}
use Rattle.loop_model.specs.declared.map_error.MapError.TheVariants as map_error
use Rattle.loop_model.specs.Maps.{maps_operations, AreFree}
use Rattle.io_edge.specs.declared.answer.Status.TheVariants as status
use Rattle.io_edge.specs.Texts.{Answer}
use Rattle.io_edge.proofs.OfStatuses.{status_of, no_answer}
use Rattle.command_parts.specs.FaultTexts.{loop_refusal}
use Rattle.command_parts.proofs.MapLimits.{not_free}
use Rattle.command_parts.specs.Equations.{operations_of, polynomial_of, FormsFreely}
use Rattle.command_parts.specs.EquationReading.{equation_refusal, stop_answer, IsUnformed}
use Rattle.command_parts.proofs.Polynomials.{holds_invariant}
use Rattle.command_parts.proofs.Refusals.{unformed_refuses, stopped_limit, stopped_wide}
use Rattle.closing_commands.specs.declared.evidence.Evidence.{Evidence}
use Rattle.closing_commands.specs.Deciding.{Answers}
use Rattle.closing_commands.specs.DecideClauses.{HasWide, HasEnd, EndsAny}
use Rattle.closing_commands.proofs.MapsTold.{map_stopped, map_wide}
use Rattle.closing_commands.proofs.DecideBudgets.{enough_end}
use Rattle.closing_commands.proofs.DecideShown.{tells_yes, yes_invariant, yes_maps, exhausted_when_budget, not_invariant}

module _ (evidence : Evidence) (l : Program (Expr ℕ)) (e : Expr ℕ) (n : ℕ) (before m : Journal)
    (a : Answer) (h : Answers evidence l (Ok e) n before m a) where
  abbrev p : Terms Fraction
  p = polynomial_of l e

  module _ (formed : FormsFreely l e) where
    abbrev WideSaid : Type 0
    WideSaid = (a.status ≡ status.Wide) × HasWide l e evidence

    wide_unformed : IsUnformed l e a → WideSaid
    wide_unformed u = (stopped_wide l e a formed u, inl (go u.stop u.is u.says))
      where
        go : (x : MapError) → Stops (length l.names) (operations_of l e) x
            → stop_answer x ≡ Some a → (at : ℕ) × IsWide (length l.names) (operations_of l e) at
        go (map_error.Limit at) is says =
            absurd (not_free (length l.names) (operations_of l e) at is formed)
        go (map_error.Wide at) is says = (at, is)
        go map_error.Memory is says = absurd (no_answer a says)

    pub map_limit_told : (at : ℕ) → IsLimit (length l.names) (maps_operations l) at
        → (a ≡ loop_refusal (record { reason = limit; at = at })) ⊎ (a.status ≡ status.Wide)
    map_limit_told at first = go h
      where
        free : AreFree l → ⊥
        free maps = not_free (length l.names) (maps_operations l) at first maps

        go : Answers evidence l (Ok e) n before m a
            → (a ≡ loop_refusal (record { reason = limit; at = at })) ⊎ (a.status ≡ status.Wide)
        go (inl u) = inr (wide_unformed u.0).0
        go (inr (f, d)) = elim d.tells [
          | inl t ↦ absurd (free (yes_maps l p m evidence a t))
          | inr (inl t) ↦ absurd (free t.maps)
          | inr (inr (inl (inl t))) ↦ map_stopped l m a at first t
          | inr (inr (inl (inr (inl t)))) ↦ absurd (free t.maps)
          | inr (inr (inl (inr (inr (inl t))))) ↦ absurd (free t.maps)
          | inr (inr (inl (inr (inr (inr t))))) ↦ absurd (free t.maps)
          | inr (inr (inr t)) ↦ absurd (free t.maps)
        ]

    module _ (maps : AreFree l) where
      pub complete : EndsAny l e evidence a.status
      complete = go h
        where
          wide_end : WideSaid → EndsAny l e evidence a.status
          wide_end w = inr (inr (inl w))

          go : Answers evidence l (Ok e) n before m a → EndsAny l e evidence a.status
          go (inl u) = wide_end (wide_unformed u.0)
          go (inr (f, d)) = elim d.tells [
            | inl t ↦
                inl (inl (
                  tells_yes l p m evidence a t,
                  (holds_invariant l e).0 (yes_invariant l p m evidence a t),
                ))
            | inr (inl t) ↦
                inl (inr (status_of t.tells.says, λ k. not_invariant l e m t.word t.is k))
            | inr (inr (inl (inl t)))
                ↦ (let w = map_wide l m a maps t in wide_end (w.0, inr (inl w.1)))
            | inr (inr (inl (inr (inl t)))) ↦
                inr (inl (
                  status_of t.says,
                  record { entries = m.entries; word = t.word; is = t.is },
                ))
            | inr (inr (inl (inr (inr (inl t))))) ↦
                wide_end (
                  status_of t.says,
                  inr (inr (inl (record { journal = m; word = t.word; is = t.is }))),
                )
            | inr (inr (inl (inr (inr (inr t))))) ↦
                wide_end (
                  status_of t.says,
                  inr (inr (inr (record {
                    entries = m.entries;
                    branch = t.branch;
                    number = t.number;
                    is = t.is;
                  }))),
                )
            | inr (inr (inr t)) ↦ inr (inr (inr (inl (status_of t.says))))
          ]

  pub enough_said : HasEnd l (polynomial_of l e) evidence n → a.status ≢ status.Budget
  enough_said k is = go h
    where
      go : Answers evidence l (Ok e) n before m a → ⊥
      go (inl u) = (unformed_refuses l e a u.0).plain.budget_not is
      go (inr (f, d)) =
          enough_end l p evidence n m.entries k
          (exhausted_when_budget l p m evidence n a d is).out

  pub equation_limited : (at : ℕ) → IsLimit (length l.names) (operations_of l e) at
      → (a ≡ equation_refusal (record { reason = limit; at = at })) ⊎ (a.status ≡ status.Wide)
  equation_limited at first = go h
    where
      go : Answers evidence l (Ok e) n before m a
          → (a ≡ equation_refusal (record { reason = limit; at = at }))
          ⊎ (a.status ≡ status.Wide)
      go (inl u) = stopped_limit l e a at first u.0
      go (inr f) = absurd (not_free (length l.names) (operations_of l e) at first f.0)
