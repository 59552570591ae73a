-- Where no map passes a limit, each answer comes by its cause.
--   map_limit_told, many_told     where one does, and where there are too many monomials
--   complete                      one of the answers, by its cause
--   enough_said                   no exhausted budget where no search goes beyond it
use Rattle.std.proofs.Common.{◌≡◌, ◌≢◌, ◌⊎◌, ℕ, length, inl, inr}
use Rattle.machines.specs.Journal.{Journal}
use Rattle.loops.specs.Program.{Expr, Program}
use Rattle.poly_text.specs.Reasons.{limit}
use Rattle.loop_model.specs.Operations.{IsLimit}
use Rattle.loop_model.specs.Maps.{maps_operations, AreFree}
use Rattle.io_edge.specs.declared.answer.Status.TheVariants as status
use Rattle.io_edge.specs.Texts.{Answer}
use Rattle.io_edge.proofs.OfStatuses.{status_of}
use Rattle.command_parts.specs.FaultTexts.{loop_refusal}
use Rattle.command_parts.proofs.MapLimits.{not_free}
use Rattle.closing_commands.specs.declared.evidence.Evidence.{Evidence}
use Rattle.closing_commands.specs.Degrees.{HasMany, Searches}
use Rattle.closing_commands.specs.DegreeTexts.{degree_answer}
use Rattle.closing_commands.specs.DegreeClauses.{IsWithin, EndsUpTo}
use Rattle.closing_commands.proofs.MapsTold.{map_stopped, map_wide}
use Rattle.closing_commands.proofs.DegreeShown.{tells_yes, yes_maps, exhausted_when_budget}

module _ (evidence : Evidence) (l : Program (Expr ℕ)) (d n : ℕ) (m : Journal) (a : Answer)
    (s : Searches l d m evidence n a) where
  pub map_limit_told : (at : ℕ) → IsLimit (length l.names) (maps_operations l) at
      → (a ≡ loop_refusal (record { reason = limit; at = at })) ⊎ (a.status ≡ status.Wide)
  map_limit_told at first = elim s.tells [
    | inl t ↦ absurd (free (yes_maps l d m evidence a t))
    | inr (inl (inl t)) ↦ map_stopped l m a at first t
    | inr (inl (inr (inl t))) ↦ absurd (free t.maps)
    | inr (inl (inr (inr (inl t)))) ↦ absurd (free t.maps)
    | inr (inl (inr (inr (inr (inl t))))) ↦ absurd (free t.maps)
    | inr (inl (inr (inr (inr (inr (inl t)))))) ↦ absurd (free t.maps)
    | inr (inl (inr (inr (inr (inr (inr (inl t))))))) ↦ absurd (free t.maps)
    | inr (inl (inr (inr (inr (inr (inr (inr t))))))) ↦ absurd (free t.maps)
    | inr (inr t) ↦ absurd (free t.maps)
  ]
    where
      free : AreFree l → ⊥
      free maps = not_free (length l.names) (maps_operations l) at first maps

  module _ (maps : AreFree l) where
    pub many_told : HasMany l d → (a ≡ degree_answer d) ⊎ (a.status ≡ status.Wide)
    many_told many = elim (s.many many) [
      | inl same ↦ inl same
      | inr t ↦ inr (map_wide l m a maps t).0
    ]

    pub complete : EndsUpTo l d evidence a.status
    complete = elim s.tells [
      | inl t ↦ inl (tells_yes l d m evidence a t)
      | inr (inl (inl t)) ↦ (let w = map_wide l m a maps t in inr (inr (inl (w.0, inl w.1))))
      | inr (inl (inr (inl t))) ↦ inr (inl (status_of t.says, inl t.many))
      | inr (inl (inr (inr (inl t)))) ↦
          inr (inl (status_of t.says, inr (m.entries, t.word, t.is)))
      | inr (inl (inr (inr (inr (inl t))))) ↦
          inr (inr (inl (status_of t.says, inr (inl (m.entries, t.is)))))
      | inr (inl (inr (inr (inr (inr (inl t)))))) ↦
          inr (inr (inl (status_of t.says, inr (inr (inl (m.entries, t.lead, t.is))))))
      | inr (inl (inr (inr (inr (inr (inr (inl t))))))) ↦
          inr (inr (inl (status_of t.says, inr (inr (inr (inl (m.entries, t.word, t.is)))))))
      | inr (inl (inr (inr (inr (inr (inr (inr t))))))) ↦
          inr (inr (inl (
            status_of t.says,
            inr (inr (inr (inr (m.entries, t.branch, t.number, t.is)))),
          )))
      | inr (inr t) ↦ inr (inr (inr (inl (status_of t.says))))
    ]

  pub enough_said : IsWithin l d evidence n → a.status ≢ status.Budget
  enough_said within is =
      within.never m.entries (exhausted_when_budget l d m evidence n a s is).out
