use Rattle.std.proofs.Common.{◌≡◌, ℕ, List, refl, ◌∙◌}
use Rattle.std.specs.Prelude.{codes}
use Rattle.std.proofs.lemmas.Result.{IfOk-weaker}
use Rattle.loop_model.specs.declared.map_error.MapError.{MapError}
use Rattle.loop_model.specs.declared.map_error.MapError.TheVariants as map_error
use Rattle.invariant_fix.specs.declared.errors.AnalyseError.TheVariants as error
use Rattle.command_parts.specs.FaultTexts.{map_refusal}
use Rattle.analysis_commands.specs.RefusalTexts.{refusal_answer}
use Rattle.analysis_commands.proofs.refusals.answer_to_refusal.Goals as goal

map_told : (names : List (List ℕ)) (budget : ℕ) (e : MapError)
    → refusal_answer names budget (error.Map e) ≡ map_refusal (codes "loop: ") e
map_told names budget (map_error.Limit at) = refl
map_told names budget (map_error.Wide at) = refl
map_told names budget map_error.Memory = refl

pub returns-in-Map : goal.returns-in-Map
returns-in-Map c =
    rw c.in-Map.is
    (IfOk-weaker c.map_refusal.result _ _
    (λ a says. map_told c.args.names.now c.args.budget c.in-Map.stop ∙ says)
    c.map_refusal.ensures)
