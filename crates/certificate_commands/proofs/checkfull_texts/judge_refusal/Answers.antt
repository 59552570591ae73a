use Rattle.std.proofs.Common.{◌≡◌, refl, ◌∙◌}
use Rattle.std.specs.Prelude.{option_map, codes}
use Rattle.std.proofs.lemmas.Result.{IfOk-weaker}
use Rattle.loop_model.specs.declared.map_error.MapError.{MapError}
use Rattle.loop_model.specs.declared.map_error.MapError.TheVariants as map_error
use Rattle.cert_checker.specs.declared.full_error.FullError.TheVariants as full_error
use Rattle.command_parts.specs.FaultTexts.{map_refusal}
use Rattle.certificate_commands.specs.CheckfullTexts.{judgement_answer}
use Rattle.certificate_commands.specs.CheckfullViews.{judgement_of}
use Rattle.certificate_commands.proofs.checkfull_texts.judge_refusal.Goals as goal

map_judged : (e : MapError)
    → option_map judgement_answer (judgement_of (full_error.Map e))
    ≡ map_refusal (codes "loop: ") e
map_judged (map_error.Limit at) = refl
map_judged (map_error.Wide at) = refl
map_judged map_error.Memory = refl

pub returns-in-Map : goal.returns-in-Map
returns-in-Map c =
    rw c.in-Map.is
    (IfOk-weaker c.map_refusal.result _ _ (λ a says. map_judged c.in-Map.stop ∙ says)
    c.map_refusal.ensures)
