-- The map that stops, where an answer tells it.
--   map_stopped     where a map passes a limit
--   map_wide        where none does
use Rattle.std.proofs.Common.{◌≡◌, ◌⊎◌, ℕ, length, ap, ◌∙◌, inl, inr}
use Rattle.std.specs.Prelude.{Some}
use Rattle.machines.specs.Journal.{Journal}
use Rattle.loops.specs.Program.{Expr, Program}
use Rattle.poly_text.specs.Reasons.{limit, wide}
use Rattle.loop_model.specs.Operations.{IsLimit, IsWide}
use Rattle.loop_model.specs.Stops.{Stops}
use Rattle.loop_model.specs.declared.map_error.MapError.{MapError}
use Rattle.loop_model.specs.declared.map_error.MapError.TheVariants as map_error
use Rattle.loop_model.specs.Maps.{maps_operations, AreFree}
use Rattle.io_edge.specs.declared.answer.Status.TheVariants as status
use Rattle.io_edge.specs.Texts.{Answer}
use Rattle.io_edge.proofs.OfStatuses.{status_of, no_answer, some_answer}
use Rattle.command_parts.specs.FaultTexts.{loop_refusal}
use Rattle.command_parts.proofs.MapLimits.{limit_same, not_free}
use Rattle.replay_commands.specs.CounterTexts.{map_answer}
use Rattle.closing_commands.specs.ProvedLists.{TellsMap}

module _ (l : Program (Expr ℕ)) (m : Journal) (a : Answer) where
  pub map_stopped : (at : ℕ) → IsLimit (length l.names) (maps_operations l) at → TellsMap l m a
      → (a ≡ loop_refusal (record { reason = limit; at = at })) ⊎ (a.status ≡ status.Wide)
  map_stopped at first t = told t.stop t.is t.says
    where
      told : (x : MapError) → Stops (length l.names) (maps_operations l) x
          → map_answer x ≡ Some a
          → (a ≡ loop_refusal (record { reason = limit; at = at })) ⊎ (a.status ≡ status.Wide)
      told (map_error.Limit other) is says =
          inl (some_answer (loop_refusal (record { reason = limit; at = other })) a says
          ∙ ap (λ k. loop_refusal (record { reason = limit; at = k }))
          (limit_same (length l.names) (maps_operations l) other at is first))
      told (map_error.Wide other) is says =
          inr (status_of
          (some_answer (loop_refusal (record { reason = wide; at = other })) a says))
      told map_error.Memory is says = absurd (no_answer a says)

  pub map_wide : AreFree l → TellsMap l m a
      → (a.status ≡ status.Wide) × ((at : ℕ) × IsWide (length l.names) (maps_operations l) at)
  map_wide maps t = told t.stop t.is t.says
    where
      told : (x : MapError) → Stops (length l.names) (maps_operations l) x
          → map_answer x ≡ Some a
          → (a.status ≡ status.Wide) × ((at : ℕ) × IsWide (length l.names) (maps_operations l) at)
      told (map_error.Limit at) is says =
          absurd (not_free (length l.names) (maps_operations l) at is maps)
      told (map_error.Wide at) is says = (
        status_of (some_answer (loop_refusal (record { reason = wide; at = at })) a says),
        (at, is),
      )
      told map_error.Memory is says = absurd (no_answer a says)
