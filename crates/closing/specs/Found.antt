-- What a call of the search gives.
--   FindsFirst program d j f      what the search has found ends it, behind the entries of the journal j
--   FitsFinding m j f             its lists are over m variables; the closure has as few elements as the closing has units, the elements are as few as monomials may be, and the closing's meter allows what is left in j
--   IsPartOf before part after    the entries `after` are `before` and a beginning of the part
--   IfSearchStops program d limit es e     the cause of the refusal e
use Rattle.std.specs.Prelude.{◌≡◌, ◌⊎◌, ℕ, ◌+◌, ◌<◌, ◌≤◌, ◌++◌, List, length}
use Rattle.machines.specs.Journal.{Journal, Entry, units_of}
use Rattle.loops.specs.Program.{Expr, Program}
use Rattle.poly.specs.Seen.{terms_each}
use Rattle.ideal_ops.specs.Calls.{AreOver}
use Rattle.closures.specs.Follows.{IsPastTask}
use Rattle.closing.specs.Causes.{IsLimitAt, IsWideAt}
use Rattle.closing.specs.SearchCauses.{Finds, AreBegun, IsOut, StopsAtWord, IsNoSample, HasNoElement}
use Rattle.residue_rows.specs.Limits.{most_monomials}
use Rattle.closing.specs.Search.{monomials}
use Rattle.closing.specs.declared.search_error.SearchError.{SearchError}
use Rattle.closing.specs.declared.search_error.SearchError.TheVariants as error
use Rattle.closing.specs.declared.whole_search.Finding.{Finding}

pub record FitsFinding (m : ℕ) (j : Journal) (f : Finding) : Type 0 where
  pub elements : AreOver m f.elements.items
  pub closure : AreOver m f.closure.items
  pub few : length f.elements.items ≤ most_monomials
  pub few_closed : length f.closure.items ≤ units_of f.closing.entries
  pub rest : units_of j.entries + f.closing.limit ≡ j.limit

pub record IsPartOf (before part after : List Entry) : Type 0 where
  pub taken : List Entry
  pub more : List Entry
  pub part_is : part ≡ taken ++ more
  pub after_is : after ≡ before ++ taken

module _ (program : Program (Expr ℕ)) (d : ℕ) where
  abbrev pub FindsFirst : List Entry → Finding → Type 0
  FindsFirst before f =
      Finds program d before f.closing.entries (terms_each f.elements.items)
      (terms_each f.closure.items)

  abbrev pub IfSearchStops : ℕ → List Entry → SearchError → Type 0
  IfSearchStops limit es error.Degree = most_monomials < length (monomials program d)
  IfSearchStops limit es error.Sample = IsNoSample program d es
  IfSearchStops limit es (error.Element lead) = HasNoElement program d es lead
  IfSearchStops limit es (error.Limit word) =
      StopsAtWord program d es word.items (λ gs behind x. IsLimitAt program gs behind x)
  IfSearchStops limit es (error.Wide word) =
      StopsAtWord program d es word.items
      (λ gs behind x. IsWideAt program gs behind x ⊎ IsPastTask program gs behind x)
  IfSearchStops limit es error.Budget = IsOut program d es limit
  IfSearchStops limit es error.Memory = AreBegun program d es
