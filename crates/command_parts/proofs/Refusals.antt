-- Refusals of an equation, and the first operation of its polynomial that can't be done.
--   equation_refuses, unformed_refuses     their statuses
--   stopped_limit, stopped_wide            where an operation passes a limit, and where none does
use Rattle.std.proofs.Common.{◌≡◌, ℕ, length, ap, ◌∙◌, inl, inr}
use Rattle.std.specs.Prelude.{◌⊎◌, Some, codes}
use Rattle.loops.specs.Program.{Expr, Program}
use Rattle.poly_text.specs.Reasons.{Fault, limit, wide}
use Rattle.loop_model.specs.Operations.{IsLimit}
use Rattle.loop_model.specs.Stops.{Stops}
use Rattle.loop_model.specs.declared.map_error.MapError.{MapError}
use Rattle.loop_model.specs.declared.map_error.MapError.TheVariants as map_error
use Rattle.io_edge.specs.Texts.{Answer}
use Rattle.io_edge.specs.Settled.{IsRefusing}
use Rattle.io_edge.specs.declared.answer.Status.TheVariants as status
use Rattle.io_edge.proofs.OfStatuses.{status_of, no_answer, some_answer, refusing_fault, refusing_wide}
use Rattle.command_parts.proofs.LoopCourses.{text_refuses}
use Rattle.command_parts.proofs.MapLimits.{limit_same, not_free}
use Rattle.command_parts.specs.Equations.{operations_of, FormsFreely}
use Rattle.command_parts.specs.EquationReading.{equation_refusal, stop_answer, IsUnformed}

pub equation_refuses : (fault : Fault) (a : Answer) → a ≡ equation_refusal fault
    → IsRefusing a.status
equation_refuses = text_refuses (codes "equation: ")

module _ (l : Program (Expr ℕ)) (e : Expr ℕ) (a : Answer) where
  abbrev pub limit_at : ℕ → Answer
  limit_at at = equation_refusal (record { reason = limit; at = at })

  limit_told : (at : ℕ) → stop_answer (map_error.Limit at) ≡ Some a → a ≡ limit_at at
  limit_told at says = some_answer (limit_at at) a says

  wide_told : (at : ℕ) → stop_answer (map_error.Wide at) ≡ Some a → a.status ≡ status.Wide
  wide_told at says =
      status_of (some_answer (equation_refusal (record { reason = wide; at = at })) a says)

  stop_refuses : (x : MapError) → stop_answer x ≡ Some a → IsRefusing a.status
  stop_refuses (map_error.Limit at) says = refusing_fault a.status (status_of (limit_told at says))
  stop_refuses (map_error.Wide at) says = refusing_wide a.status (wide_told at says)
  stop_refuses map_error.Memory says = absurd (no_answer a says)

  pub unformed_refuses : IsUnformed l e a → IsRefusing a.status
  unformed_refuses h = stop_refuses h.stop h.says

  pub stopped_limit : (at : ℕ) → IsLimit (length l.names) (operations_of l e) at
      → IsUnformed l e a → (a ≡ limit_at at) ⊎ (a.status ≡ status.Wide)
  stopped_limit at first h = go h.stop h.is h.says
    where
      go : (x : MapError) → Stops (length l.names) (operations_of l e) x
          → stop_answer x ≡ Some a → (a ≡ limit_at at) ⊎ (a.status ≡ status.Wide)
      go (map_error.Limit other) is says =
          inl (limit_told other says
          ∙ ap limit_at (limit_same (length l.names) (operations_of l e) other at is first))
      go (map_error.Wide other) is says = inr (wide_told other says)
      go map_error.Memory is says = absurd (no_answer a says)

  pub stopped_wide : FormsFreely l e → IsUnformed l e a → a.status ≡ status.Wide
  stopped_wide free h = go h.stop h.is h.says
    where
      go : (x : MapError) → Stops (length l.names) (operations_of l e) x
          → stop_answer x ≡ Some a → a.status ≡ status.Wide
      go (map_error.Limit at) is says =
          absurd (not_free (length l.names) (operations_of l e) at is free)
      go (map_error.Wide at) is says = wide_told at says
      go map_error.Memory is says = absurd (no_answer a says)
