-- How calls that analyse end.
--   or_found         with a basis, or a number that doesn't fit, or an exhausted budget
--   not_exhausted        no budget is exhausted where some finished journal is within it
use Rattle.std.proofs.Common.{◌≡◌, ℕ, List, sym, subst, ◌∙◌, Ok, inl, inr}
use Rattle.std.specs.Prelude.{◌⊎◌, None}
use Rattle.machines.specs.Journal.{Journal}
use Rattle.loops.specs.Program.{Expr, Program}
use Rattle.loop_text.specs.LoopReader.{loop_of}
use Rattle.rounds.specs.Journal.{IsOut}
use Rattle.rounds.proofs.Forms.{enough_budget}
use Rattle.io_edge.specs.declared.answer.Status.{Status}
use Rattle.io_edge.specs.declared.answer.Status.TheVariants as status
use Rattle.io_edge.specs.Course.{Course}
use Rattle.io_edge.specs.Outcome.{Call, IsCarriedOut}
use Rattle.io_edge.proofs.Outcomes.{Said, or_excused}
use Rattle.analysis_commands.specs.Completeness.{EndsFound}
use Rattle.analysis_commands.specs.Causes.{IsExhausted, IsWithinBudget}

abbrev pub IsFoundOr : Status → Type 0
IsFoundOr s = (s ≡ status.Yes) ⊎ ((s ≡ status.Wide) ⊎ (s ≡ status.Budget))

pub or_found : (course : Course) (call : Call) → IsCarriedOut course call
    → ((s : Said course call) → IsFoundOr s.answer.status) → EndsFound call.status
or_found course call f g = elim (or_excused course call f (λ s. go s (g s))) [
  | inl excused ↦ inr (inr (inr excused))
  | inr h ↦ h
]
  where
    go : (s : Said course call) → IsFoundOr s.answer.status → EndsFound call.status
    go s (inl says) = inl (s.same ∙ says)
    go s (inr (inl says)) = inr (inl (s.same ∙ says))
    go s (inr (inr says)) = inr (inr (inl (s.same ∙ says)))

pub not_exhausted : (text : List ℕ) (l : Program (Expr ℕ)) (budget : ℕ) (m : Journal)
    (said : List ℕ)
    → loop_of text ≡ Ok l → IsWithinBudget l budget → IsExhausted text budget m said → ⊥
not_exhausted text l budget m said is within exhausted =
    let same : exhausted.loop ≡ l =
    (let x : Ok exhausted.loop ≡ Ok l = sym exhausted.is_loop ∙ is in cc) in
    enough_budget l None within.entries m.entries within.rounds budget within.list within.finished
    within.few (subst (λ p. IsOut p None budget m.entries) same exhausted.out)
