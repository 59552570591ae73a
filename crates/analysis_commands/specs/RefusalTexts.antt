-- What a refused analysis answers, as texts. Rounds, branches, elements and iterations count from 1 in tasks and in texts, and from 0 in refusals.
--   name_of names i              the name at this place
--   names_at names is              the names at these places, joined by `, `; listed_behind: each behind one
--   cause_text names r           why a branch has no closed form;  forms_text names e: by an error, which may be want of memory
--   place_text task              where in an analysis
--   map_text e                   which operator of a map can't be done
--   refusal_text names budget e  why an analysis with this budget has no basis
--   member_text budget e         why the division of a polynomial with this budget has no end
--   refusal_answer names budget e     the answer to a refusal; to want of memory nothing is
--   branch_answer names b r     that to a loop whose branch b, which counts from 0, has no closed form, for this cause
use Rattle.std.specs.Prelude.{ℕ, ◌+◌, List, [], ◌++◌, get_or, Option, Some, None, option_map, codes, decimal}
use Rattle.std.specs.List.{flat_map, join_by}
use Rattle.std.specs.Fmt.{signed_decimal}
use Rattle.journal.specs.declared.Task.{Task}
use Rattle.journal.specs.declared.Task.TheVariants as task
use Rattle.divide.specs.declared.EngineError.{EngineError}
use Rattle.divide.specs.declared.EngineError.TheVariants as engine_error
use Rattle.loop_model.specs.declared.map_error.MapError.{MapError}
use Rattle.loop_model.specs.declared.map_error.MapError.TheVariants as map_error
use Rattle.closed_forms.specs.declared.errors.FormsError.{FormsError}
use Rattle.closed_forms.specs.Refusal.{Refusal, not_solvable, eigenvalues, range, wide_split, limit_form, wide_form, refusal_in}
use Rattle.invariant_fix.specs.declared.errors.AnalyseError.{AnalyseError}
use Rattle.invariant_fix.specs.declared.errors.AnalyseError.TheVariants as refusal
use Rattle.command_parts.specs.BasisTexts.{line}
use Rattle.analysis_commands.specs.Statuses.{cause_status, refusal_status}
use Rattle.io_edge.specs.Texts.{Answer, with_text, answer}

module _ (names : List (List ℕ)) where
  abbrev pub name_of : ℕ → List ℕ
  name_of i = get_or names i []

  abbrev pub names_at : List ℕ → List ℕ
  names_at is = join_by name_of (codes ", ") is

  abbrev pub listed_behind : List ℕ → List ℕ
  listed_behind is = flat_map (λ i. codes ", " ++ name_of i) is

  abbrev pub cause_text : Refusal → List ℕ
  cause_text (not_solvable cycle) = codes "not solvable: " ++ names_at cycle
  cause_text (eigenvalues class) = codes "eigenvalues: " ++ names_at class
  cause_text (range class sum) = codes "range: " ++ signed_decimal sum ++ codes ": "
      ++ names_at class
  cause_text (wide_split class candidate power row) =
      codes "wide in splitting: candidate " ++ signed_decimal candidate
      ++ codes ", power " ++ decimal power ++ codes ", row " ++ decimal row
      ++ codes ": " ++ names_at class
  cause_text (limit_form variable) = codes "limit in forms: " ++ name_of variable
  cause_text (wide_form variable) = codes "wide in forms: " ++ name_of variable

  abbrev pub cause_or_memory : Option Refusal → List ℕ
  cause_or_memory None = codes "memory"
  cause_or_memory (Some r) = cause_text r

  abbrev pub forms_text : FormsError → List ℕ
  forms_text e = cause_or_memory (refusal_in e)

abbrev pub place_text : Task → List ℕ
place_text task.Start = codes "start"
place_text (task.Closed round branch element) =
    codes "round " ++ decimal round ++ codes ", branch " ++ decimal branch
    ++ codes ", element " ++ decimal element ++ codes ", closing"
place_text (task.Round round) = codes "round " ++ decimal round
place_text (task.Iteration round branch iteration) =
    codes "round " ++ decimal round ++ codes ", branch " ++ decimal branch
    ++ codes ", turn " ++ decimal iteration
place_text (task.IterationMeet round branch iteration) =
    codes "round " ++ decimal round ++ codes ", branch " ++ decimal branch
    ++ codes ", turn " ++ decimal iteration ++ codes ", meet"
place_text (task.Orbit round branch) =
    codes "round " ++ decimal round ++ codes ", branch " ++ decimal branch ++ codes ", orbit"
place_text (task.Meet round branch) =
    codes "round " ++ decimal round ++ codes ", branch " ++ decimal branch ++ codes ", meet"
place_text task.Member = codes "member"
place_text (task.Image number) = codes "image " ++ decimal number
place_text (task.Extend number) = codes "image " ++ decimal number ++ codes ", extension"
place_text (task.Sample number) = codes "sample " ++ decimal number

abbrev pub map_text : MapError → List ℕ
map_text (map_error.Limit at) = codes "loop: limit at " ++ decimal at
map_text (map_error.Wide at) = codes "loop: wide at " ++ decimal at
map_text map_error.Memory = codes "memory"

abbrev pub refusal_text : List (List ℕ) → ℕ → AnalyseError → List ℕ
refusal_text names budget (refusal.Map e) = line (map_text e)
refusal_text names budget (refusal.Branch b e) =
    line (codes "branch " ++ decimal (b + 1) ++ codes ": " ++ forms_text names e)
refusal_text names budget (refusal.Limit task) = line (codes "limit: " ++ place_text task)
refusal_text names budget (refusal.Wide task) = line (codes "wide: " ++ place_text task)
refusal_text names budget refusal.Budget = line (codes "budget: " ++ decimal budget)
refusal_text names budget refusal.Memory = line (codes "memory")

abbrev pub member_text : ℕ → EngineError → List ℕ
member_text budget engine_error.Wide = line (codes "wide: member")
member_text budget engine_error.Budget = line (codes "budget: " ++ decimal budget)
member_text budget engine_error.Memory = line (codes "memory")

abbrev pub refusal_answer : List (List ℕ) → ℕ → AnalyseError → Option Answer
refusal_answer names budget e =
    option_map (λ s. with_text s (refusal_text names budget e)) (refusal_status e)

abbrev pub branch_answer : List (List ℕ) → ℕ → Refusal → Answer
branch_answer names b r =
    answer (cause_status r)
    (codes "branch " ++ decimal (b + 1) ++ codes ": " ++ cause_text names r)
