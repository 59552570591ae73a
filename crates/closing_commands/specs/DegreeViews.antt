-- The values of `basis` and `cert` up to a degree as the definitions see them.
--   view request             what is asked for
--   search_answer names n d e     what is answered, with the budget n, to a search up to the degree d that stopped; want of memory has none
--   IsFound l d n m f        f is what the search up to the degree d of the loop l has found, where the meter with the budget n has the journal m
--   HasLeadOver m e           the lead that the refusal e tells has m exponents
use Rattle.std.specs.Prelude.{◌≡◌, ℕ, List, length, Option, Some, None, string_bytes}
use Rattle.machines.specs.Journal.{Journal}
use Rattle.loops.specs.Inv.{Inv}
use Rattle.loops.specs.Program.{Expr, Program}
use Rattle.poly.specs.Seen.{terms_each}
use Rattle.closures.specs.UpTo.{IsReducedUpTo}
use Rattle.closing.specs.Found.{FindsFirst, FitsFinding}
use Rattle.closing.specs.declared.whole_search.Finding.{Finding}
use Rattle.closing.specs.declared.search_error.SearchError.{SearchError}
use Rattle.closing.specs.declared.search_error.SearchError.TheVariants as error
use Rattle.io_edge.specs.Texts.{Answer}
use Rattle.replay_commands.specs.CounterTexts.{limit_answer, wide_answer}
use Rattle.closing_commands.specs.declared.degree_arguments.Request as made
use Rattle.command_parts.specs.FaultTexts.{exhausted_answer}
use Rattle.closing_commands.specs.DegreeTexts.{degree_answer, sample_answer, element_answer}
use Rattle.closing_commands.specs.Degrees.{HasMany}
use Rattle.closing_commands.specs.DegreeArguments.{Request}

abbrev pub view : made.Request → Request
view request = record {
  evidence = request.evidence;
  budget = request.budget.units;
  degree = request.degree;
  file = string_bytes request.file.now;
}

abbrev pub search_answer : List (List ℕ) → ℕ → ℕ → SearchError → Option Answer
search_answer names n d error.Degree = Some (degree_answer d)
search_answer names n d error.Sample = Some sample_answer
search_answer names n d (error.Element lead) = Some (element_answer names lead)
search_answer names n d (error.Limit word) = Some (limit_answer word.items)
search_answer names n d (error.Wide word) = Some (wide_answer word.items)
search_answer names n d error.Budget = Some (exhausted_answer n)
search_answer names n d error.Memory = None

abbrev pub HasLeadOver : ℕ → SearchError → Type 0
HasLeadOver m error.Degree = Unit {0}
HasLeadOver m error.Sample = Unit {0}
HasLeadOver m (error.Element lead) = length lead ≡ m
HasLeadOver m (error.Limit word) = Unit {0}
HasLeadOver m (error.Wide word) = Unit {0}
HasLeadOver m error.Budget = Unit {0}
HasLeadOver m error.Memory = Unit {0}

pub record IsFound (l : Program (Expr ℕ)) (d n : ℕ) (m : Journal) (f : Finding) : Type 0 where
  pub limit : m.limit ≡ n
  pub finds : FindsFirst l d m.entries f
  pub fits : FitsFinding (length l.names) m f
  pub reduced : IsReducedUpTo (length l.names) d (terms_each f.elements.items) (Inv l)
  pub few : HasMany l d → ⊥
