-- What follows the closing of the elements, as the code has it.
--   IsOn s                     the search goes on
--   IfClosed program d j r     the search has found what there is, behind the entries of the journal j; or it goes on; or the cause of a refusal
--   refusal_of e               a closing's refusal as the search's
use Rattle.std.specs.Prelude.{ℕ, length, Result, Ok, Err}
use Rattle.machines.specs.Journal.{Journal}
use Rattle.loops.specs.Inv.{Inv}
use Rattle.loops.specs.Program.{Expr, Program}
use Rattle.poly.specs.Seen.{terms_each}
use Rattle.closures.specs.UpTo.{IsReducedUpTo}
use Rattle.closing.specs.declared.error.ClosingError.{ClosingError}
use Rattle.closing.specs.declared.error.ClosingError.TheVariants as closing_error
use Rattle.closing.specs.SearchCauses.{AreBegun}
use Rattle.closing.specs.Found.{FindsFirst, FitsFinding, IfSearchStops}
use Rattle.closing.specs.Sampling.{IsSampled}
use Rattle.closing.specs.declared.search_error.SearchError.{SearchError}
use Rattle.closing.specs.declared.search_error.SearchError.TheVariants as error
use Rattle.closing.specs.declared.whole_search.Sequel.{Sequel}
use Rattle.closing.specs.declared.whole_search.Sequel.TheVariants as sequel

abbrev pub IsOn : Sequel → Type 0
IsOn (sequel.Found f) = ⊥
IsOn (sequel.On s) = Unit {0}

module _ (program : Program (Expr ℕ)) (d : ℕ) where
  abbrev pub IfClosed : Journal → Result Sequel SearchError → Type 0
  IfClosed j (Ok (sequel.Found f)) =
      FindsFirst program d j.entries f
      × FitsFinding (length program.names) j f
      × IsReducedUpTo (length program.names) d (terms_each f.elements.items) (Inv program)
  IfClosed j (Ok (sequel.On s)) = IsSampled program d j.entries s
  IfClosed j (Err e) = AreBegun program d j.entries × IfSearchStops program d j.limit j.entries e

abbrev pub refusal_of : ClosingError → SearchError
refusal_of (closing_error.Limit word) = error.Limit word
refusal_of (closing_error.Wide word) = error.Wide word
refusal_of closing_error.Budget = error.Budget
refusal_of closing_error.Memory = error.Memory
