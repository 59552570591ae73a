-- Refusals: what a command ends with before it has what it needs.
--   seen_refusal r     the answer, or none for want of memory
--   Refuses r o        the answer is this one, where there is one
use Rattle.std.specs.Prelude.{◌≡◌, Option, Some, None, IfSome}
use Rattle.io_edge.specs.declared.refusal.Refusal.{Refusal}
use Rattle.io_edge.specs.declared.refusal.Refusal.TheVariants as refusal
use Rattle.io_edge.specs.Texts.{Answer}
use Rattle.io_edge.specs.Views.{answer_view}

abbrev pub seen_refusal : Refusal → Option Answer
seen_refusal (refusal.Answer a) = Some (answer_view a)
seen_refusal refusal.Memory = None

abbrev pub Refuses : Refusal → Option Answer → Type 0
Refuses r o = IfSome (seen_refusal r) (λ a. o ≡ Some a)
