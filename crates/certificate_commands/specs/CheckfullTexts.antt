-- What `checkfull` answers.
--   Judgement                what the judge says of a full certificate: that it is complete, or the first part that doesn't hold, by its path; or an operation of the
--                            maps that passes a limit or is too wide, or a part that is too long or too wide, by its path
--   judgement_answer j       the answer to it
use Rattle.std.specs.Prelude.{ℕ, List, ◌++◌, codes}
use Rattle.poly_text.specs.Reasons.{limit, wide}
use Rattle.io_edge.specs.declared.answer.Status.TheVariants as status
use Rattle.io_edge.specs.Texts.{Answer, answer}
use Rattle.command_parts.specs.FaultTexts.{loop_refusal}

pub data Judgement : Type 0 where
  complete : Judgement
  fails : List ℕ → Judgement
  map_limit : ℕ → Judgement
  map_wide : ℕ → Judgement
  limit_part : List ℕ → Judgement
  wide_part : List ℕ → Judgement

abbrev pub judgement_answer : Judgement → Answer
judgement_answer complete = answer status.Yes (codes "complete")
judgement_answer (fails path) = answer status.No (codes "fails: " ++ path)
judgement_answer (map_limit at) = loop_refusal (record { reason = limit; at = at })
judgement_answer (map_wide at) = loop_refusal (record { reason = wide; at = at })
judgement_answer (limit_part path) = answer status.Fault (codes "limit: " ++ path)
judgement_answer (wide_part path) = answer status.Wide (codes "wide: " ++ path)
