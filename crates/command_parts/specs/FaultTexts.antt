-- What is answered to the first fault of a text, to the first operation of its maps that can't be done, and to an exhausted budget.
--   reason_text, reason_status      its reason, as it is told, and the status
--   text_refusal part f             the answer, behind the name of the text;  loop_refusal f: of LOOP
--   exhausted_answer n              the answer to an exhausted budget of so many units
--   map_fault e                     the fault that such an operation is;  map_refusal part e: the answer to it; want of memory has none
use Rattle.std.specs.Prelude.{ℕ, List, ◌++◌, Option, Some, None, option_map, codes, decimal}
use Rattle.loop_model.specs.declared.map_error.MapError.{MapError}
use Rattle.loop_model.specs.declared.map_error.MapError.TheVariants as map_error
use Rattle.poly_text.specs.Reasons.{Reason, syntax, limit, wide, twice, unknown, init_uses, unset, divisor, Fault}
use Rattle.io_edge.specs.declared.answer.Status.{Status}
use Rattle.io_edge.specs.declared.answer.Status.TheVariants as status
use Rattle.io_edge.specs.Texts.{Answer, answer}

abbrev pub reason_text : Reason → List ℕ
reason_text syntax = codes "syntax"
reason_text limit = codes "limit"
reason_text wide = codes "wide"
reason_text twice = codes "twice"
reason_text unknown = codes "unknown"
reason_text init_uses = codes "init uses"
reason_text unset = codes "unset"
reason_text divisor = codes "divisor"

abbrev pub reason_status : Reason → Status
reason_status syntax = status.Fault
reason_status limit = status.Fault
reason_status wide = status.Wide
reason_status twice = status.Fault
reason_status unknown = status.Fault
reason_status init_uses = status.Fault
reason_status unset = status.Fault
reason_status divisor = status.Fault

abbrev pub text_refusal : List ℕ → Fault → Answer
text_refusal part f =
    answer (reason_status f.reason) (part ++ reason_text f.reason ++ codes " at " ++ decimal f.at)

abbrev pub loop_refusal : Fault → Answer
loop_refusal f = text_refusal (codes "loop: ") f

abbrev pub map_fault : MapError → Option Fault
map_fault (map_error.Limit at) = Some (record { reason = limit; at = at })
map_fault (map_error.Wide at) = Some (record { reason = wide; at = at })
map_fault map_error.Memory = None

abbrev pub map_refusal : List ℕ → MapError → Option Answer
map_refusal part e = option_map (text_refusal part) (map_fault e)

abbrev pub exhausted_answer : ℕ → Answer
exhausted_answer n = answer status.Budget (codes "budget: " ++ decimal n)
