-- What `check` answers.
--   Judgement                what the checker says of a certificate: a verdict, or an operation of the maps that passes a limit or is too wide, or an identity that is too long or too wide
--   judgement_answer j       the answer to it
--   branch_number place      the number of the branch in it, where 0 is the start
use Rattle.std.specs.Prelude.{ℕ, ◌+◌, ◌++◌, codes, decimal}
use Rattle.loops.specs.Certificate.{Verdict, valid, start_fails, step_fails}
use Rattle.poly_text.specs.Reasons.{limit, wide}
use Rattle.cert_checker.specs.Places.{Place, at_start, in_branch}
use Rattle.io_edge.specs.declared.answer.Status.TheVariants as status
use Rattle.io_edge.specs.Texts.{Answer, answer}
use Rattle.command_parts.specs.FaultTexts.{loop_refusal}

-- branches and elements count from 0
pub data Judgement : Type 0 where
  verdict : Verdict → Judgement
  map_limit : ℕ → Judgement
  map_wide : ℕ → Judgement
  limit_identity : Place → ℕ → Judgement
  wide_identity : Place → ℕ → Judgement

abbrev pub branch_number : Place → ℕ
branch_number at_start = 0
branch_number (in_branch b) = b + 1

abbrev pub judgement_answer : Judgement → Answer
judgement_answer (verdict valid) = answer status.Yes (codes "valid")
judgement_answer (verdict (start_fails i)) =
    answer status.No (codes "start fails: element " ++ decimal (i + 1))
judgement_answer (verdict (step_fails b i)) =
    answer status.No
    (codes "step fails: branch " ++ decimal (b + 1) ++ codes ", element " ++ decimal (i + 1))
judgement_answer (map_limit at) = loop_refusal (record { reason = limit; at = at })
judgement_answer (map_wide at) = loop_refusal (record { reason = wide; at = at })
judgement_answer (limit_identity place i) =
    answer status.Fault
    (codes "limit: branch " ++ decimal (branch_number place) ++ codes ", element "
    ++ decimal (i + 1))
judgement_answer (wide_identity place i) =
    answer status.Wide
    (codes "wide: branch " ++ decimal (branch_number place) ++ codes ", element "
    ++ decimal (i + 1))
