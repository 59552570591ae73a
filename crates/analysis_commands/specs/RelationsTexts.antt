-- What is answered to sequences.
--   sequences_refusal f      the first fault of their text, or of the maps of their loop
--   found_answer names gs    the relations of sequences with these names, an equation a line
--   map_answer e             an operation of a map that can't be done; to want of memory nothing is
--   wide_answer              the elimination doesn't fit
--   relations_refusal names budget e     why there are none, where these are the names of the loop's variables; to want of memory nothing is
use Rattle.std.specs.Prelude.{ℕ, List, Option, Some, None, codes}
use Rattle.algebra.specs.Fraction.{Fraction}
use Rattle.polynomials.specs.Terms.{Terms}
use Rattle.poly_text.specs.Reasons.{Fault}
use Rattle.loop_model.specs.declared.map_error.MapError.{MapError}
use Rattle.invariant_fix.specs.declared.errors.AnalyseError.TheVariants as analysis
use Rattle.invariant_fix.specs.declared.relations_error.RelationsError.{RelationsError}
use Rattle.invariant_fix.specs.declared.relations_error.RelationsError.TheVariants as error
use Rattle.command_parts.specs.BasisTexts.{basis_text}
use Rattle.analysis_commands.specs.RefusalTexts.{refusal_answer}
use Rattle.io_edge.specs.declared.answer.Status.TheVariants as status
use Rattle.io_edge.specs.Texts.{Answer, with_text, answer}
use Rattle.command_parts.specs.FaultTexts.{text_refusal, map_refusal}

abbrev pub sequences_refusal : Fault → Answer
sequences_refusal f = text_refusal (codes "sequences: ") f

abbrev pub found_answer : List (List ℕ) → List (Terms Fraction) → Answer
found_answer names gs = with_text status.Yes (basis_text names gs)

abbrev pub map_answer : MapError → Option Answer
map_answer e = map_refusal (codes "sequences: ") e

abbrev pub wide_answer : Answer
wide_answer = answer status.Wide (codes "wide: relations")

abbrev pub relations_refusal : List (List ℕ) → ℕ → RelationsError → Option Answer
relations_refusal names budget (error.Analysis (analysis.Map e)) = map_answer e
relations_refusal names budget (error.Analysis (analysis.Branch b e)) =
    refusal_answer names budget (analysis.Branch b e)
relations_refusal names budget (error.Analysis (analysis.Limit task)) =
    refusal_answer names budget (analysis.Limit task)
relations_refusal names budget (error.Analysis (analysis.Wide task)) =
    refusal_answer names budget (analysis.Wide task)
relations_refusal names budget (error.Analysis analysis.Budget) =
    refusal_answer names budget analysis.Budget
relations_refusal names budget (error.Analysis analysis.Memory) = None
relations_refusal names budget error.Wide = Some wide_answer
relations_refusal names budget error.Budget = refusal_answer names budget analysis.Budget
relations_refusal names budget error.Memory = None
