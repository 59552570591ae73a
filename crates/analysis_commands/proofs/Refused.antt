-- What a refused analysis is answered.
--   by_status                       the parts of an answer by its status
--   refusal_parts, refusal_kind     status and text of a refused analysis, and what it may be
--   Refused: at_fault, too_wide, exhausted      a fault, a number that doesn't fit, or an exhausted budget, where an analysis ran out of units
--   refused_settled, refused_not_no     its status is settled, and no no
use Rattle.std.proofs.Common.{◌≡◌, ◌≢◌, ℕ, List, refl, sym, ap}
use Rattle.std.specs.Prelude.{Option, Some, None, option_map}
use Rattle.loop_model.specs.declared.map_error.MapError.{MapError}
use Rattle.loop_model.specs.declared.map_error.MapError.TheVariants as map_error
use Rattle.closed_forms.specs.declared.errors.FormsError.{FormsError}
use Rattle.closed_forms.specs.declared.errors.FormsError.TheVariants as forms_error
use Rattle.invariant_fix.specs.declared.errors.AnalyseError.{AnalyseError}
use Rattle.invariant_fix.specs.declared.errors.AnalyseError.TheVariants as error
use Rattle.io_edge.specs.declared.answer.Status.{Status}
use Rattle.io_edge.specs.declared.answer.Status.TheVariants as status
use Rattle.analysis_commands.specs.Statuses.{map_status, forms_status, refusal_status}
use Rattle.io_edge.specs.Texts.{Answer, with_text}
use Rattle.analysis_commands.specs.RefusalTexts.{refusal_text, refusal_answer}
use Rattle.io_edge.specs.Settled.{IsSettled}
use Rattle.io_edge.proofs.OfStatuses.{status_of, text_of, some_status, refusing_fault, refusing_wide, settled_budget}

pub by_status : (s : Option Status) (text : List ℕ) (a : Answer)
    → option_map (λ t. with_text t text) s ≡ Some a → (s ≡ Some a.status) × (a.text ≡ text)
by_status None text a e = absurd (cc)
by_status (Some t) text a e =
    let is : Some (with_text t text) ≡ Some a = e in
    let same : with_text t text ≡ a = cc in
    (ap Some (status_of same), sym (text_of same))

pub refusal_parts : (names : List (List ℕ)) (budget : ℕ) (e : AnalyseError) (a : Answer)
    → refusal_answer names budget e ≡ Some a
    → (refusal_status e ≡ Some a.status) × (a.text ≡ refusal_text names budget e)
refusal_parts names budget e a is = by_status (refusal_status e) (refusal_text names budget e) a is

-- a refusal is a fault, a number that doesn't fit, or an exhausted budget, and then an analysis ran out
-- of units
pub data Refused (e : AnalyseError) (s : Status) : Type 0 where
  at_fault : s ≡ status.Fault → Refused e s
  too_wide : s ≡ status.Wide → Refused e s
  exhausted : s ≡ status.Budget → e ≡ error.Budget → Refused e s

map_kind : (e : MapError) (s : Status) → map_status e ≡ Some s → Refused (error.Map e) s
map_kind (map_error.Limit at) s is = at_fault (some_status _ s is)
map_kind (map_error.Wide at) s is = too_wide (some_status _ s is)
map_kind map_error.Memory s is = absurd (cc)

forms_kind : (b : ℕ) (e : FormsError) (s : Status) → forms_status e ≡ Some s
    → Refused (error.Branch b e) s
forms_kind b (forms_error.NotSolvable cycle) s is = at_fault (some_status _ s is)
forms_kind b (forms_error.Eigen class) s is = at_fault (some_status _ s is)
forms_kind b (forms_error.Range class sum) s is = at_fault (some_status _ s is)
forms_kind b (forms_error.WideSplit class candidate power row) s is = too_wide (some_status _ s is)
forms_kind b (forms_error.LimitForm variable) s is = at_fault (some_status _ s is)
forms_kind b (forms_error.WideForm variable) s is = too_wide (some_status _ s is)
forms_kind b forms_error.Memory s is = absurd (cc)

pub refusal_kind : (e : AnalyseError) (s : Status) → refusal_status e ≡ Some s → Refused e s
refusal_kind (error.Map e) s is = map_kind e s is
refusal_kind (error.Branch b e) s is = forms_kind b e s is
refusal_kind (error.Limit task) s is = at_fault (some_status _ s is)
refusal_kind (error.Wide task) s is = too_wide (some_status _ s is)
refusal_kind error.Budget s is = exhausted (some_status _ s is) refl
refusal_kind error.Memory s is = absurd (cc)

pub refused_settled : (e : AnalyseError) (s : Status) → Refused e s → IsSettled s
refused_settled e s (at_fault is) = (refusing_fault s is).plain.settled
refused_settled e s (too_wide is) = (refusing_wide s is).plain.settled
refused_settled e s (exhausted is same) = settled_budget s is

pub refused_not_no : (e : AnalyseError) (s : Status) → Refused e s → s ≢ status.No
refused_not_no e s (at_fault is) h = cc
refused_not_no e s (too_wide is) h = cc
refused_not_no e s (exhausted is same) h = cc
