-- Where a sampling stands, as the code has it.
--   IsAt program d ps s        behind the parts ps the sampling s has their rows in echelon form, the monomials, and the counts
--   IsSampled program d es s   the entries es are those of some parts, behind which it is
--   IsEnough program d es s    and no sample is taken next
--   IsUnfinished program d es s  or another is
--   IfSampled, IfEnough program d limit es r     so is a sampling; or the cause of a refusal
--   HasMore program d ps row s   behind the parts, and the row, which counts
--   IfRefuted program d ps w o     what adding the row of a run with the word w that counters the elements makes of it: it counts, or it doesn't
use Rattle.std.specs.Prelude.{◌≡◌, ◌⊎◌, ◌≤◌, ℕ, ℤ, pos, List, [], ◌∷◌, ◌++◌, length, Option, Some, None, Result, Ok, Err}
use Rattle.machines.specs.Journal.{Entry}
use Rattle.loops.specs.Program.{Expr, Program}
use Rattle.residue_rows.specs.Modulus.{modulus}
use Rattle.residue_rows.specs.EchelonForm.{IsEchelonOf}
use Rattle.closing.specs.Found.{IfSearchStops}
use Rattle.residue_rows.specs.Draws.{after_draws}
use Rattle.residue_rows.specs.Limits.{most_monomials}
use Rattle.closing.specs.Maps.{AreMapsModulo}
use Rattle.closing.specs.Search.{Part, samples_of, idle_of, rows_of, entries_of, GoesOn, monomials, state_of, IsRow, Counts, IsSearch}
use Rattle.closing.specs.declared.search_error.SearchError.{SearchError}
use Rattle.closing.specs.declared.sampling.Sampling.{Sampling}
use Rattle.closures.specs.Modulo.{IsCombinationModulo}
use Rattle.closing.specs.SearchCauses.{AreBegun, HasNoInverse}

module _ (program : Program (Expr ℕ)) (d : ℕ) where
  pub record IsAt (ps : List Part) (s : Sampling) : Type 0 where
    pub search : IsSearch program d ps
    pub listed : s.monomials.items ≡ monomials program d
    pub few : length (monomials program d) ≤ most_monomials
    pub maps : AreMapsModulo program s.maps
    pub draws : s.draws.number ≡ state_of program ps
    pub width : s.echelon.width ≡ length (monomials program d)
    pub echelon : IsEchelonOf (pos modulus) s.echelon.width (rows_of ps) s.echelon.rows
    pub counted : s.counted ≡ length (rows_of ps)
    pub taken : s.taken ≡ samples_of ps
    pub idle : s.idle ≡ idle_of ps

  pub record IsSampled (es : List Entry) (s : Sampling) : Type 0 where
    pub parts : List Part
    pub at : IsAt parts s
    pub entries : es ≡ entries_of parts

  pub record IsEnough (es : List Entry) (s : Sampling) : Type 0 where
    pub parts : List Part
    pub at : IsAt parts s
    pub entries : es ≡ entries_of parts
    pub enough : ¬ (GoesOn (length (monomials program d)) parts)

  pub record IsUnfinished (es : List Entry) (s : Sampling) : Type 0 where
    pub parts : List Part
    pub at : IsAt parts s
    pub entries : es ≡ entries_of parts
    pub goes_on : GoesOn (length (monomials program d)) parts

  abbrev pub IfSampled : ℕ → List Entry → Result Sampling SearchError → Type 0
  IfSampled limit es (Ok s) = IsSampled es s
  IfSampled limit es (Err e) = AreBegun program d es × IfSearchStops program d limit es e

  abbrev pub IfEnough : ℕ → List Entry → Result Sampling SearchError → Type 0
  IfEnough limit es (Ok s) = IsEnough es s
  IfEnough limit es (Err e) = AreBegun program d es × IfSearchStops program d limit es e

  pub record HasMore (ps : List Part) (row : List ℤ) (s : Sampling) : Type 0 where
    pub listed : s.monomials.items ≡ monomials program d
    pub few : length (monomials program d) ≤ most_monomials
    pub maps : AreMapsModulo program s.maps
    pub width : s.echelon.width ≡ length (monomials program d)
    pub echelon : IsEchelonOf (pos modulus) s.echelon.width (rows_of ps ++ row ∷ [])
        s.echelon.rows
    pub counted : s.counted ≡ length (rows_of ps ++ row ∷ [])
    pub taken : s.taken ≡ samples_of ps

  pub record IsRefuted (ps : List Part) (word : List ℕ) (s : Sampling) : Type 0 where
    pub row : List ℤ
    pub is_row : IsRow program d ps word row
    pub counts : Counts program d ps row
    pub more : HasMore ps row s
    pub idle : s.idle ≡ 0
    pub draws : s.draws.number ≡ after_draws (state_of program ps) (length program.names)

  pub record IsUnrefuted (ps : List Part) (word : List ℕ) : Type 0 where
    pub row : List ℤ
    pub is_row : IsRow program d ps word row
    pub none : IsCombinationModulo (pos modulus) (rows_of ps) row
        ⊎ HasNoInverse (length (monomials program d)) (rows_of ps) row

  abbrev pub IfRefuted : List Part → List ℕ → Option Sampling → Type 0
  IfRefuted ps word (Some s) = IsRefuted ps word s
  IfRefuted ps word None = IsUnrefuted ps word
