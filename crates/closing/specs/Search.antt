-- The search for the invariants of a loop up to a degree: samples are taken until enough of them don't count, what the rows that count leave is closed, and where a word counters that, the row of a run with it counts, too.
--   most_idle          so many samples in a row that don't count are enough
--   Part               a part of a search: a sample whose row counts, one whose row doesn't, or the closing of a list that ends with a word that counters it, and the row of a run with this word
--   samples_of ps      how many samples were taken; the latest part stands first
--   idle_of ps         how many of the last of them, in a row, didn't count
--   rows_of ps         the rows that count, in their order
--   entries_of ps      the entries of the journal
--   GoesOn n ps        another sample is taken, where there are n monomials
--   AreElements m d es rows gs     gs are the elements that an echelon form of the rows tells, of the values of the monomials es: each is that of a column, they are tidy up to the degree, and the monomials that no lead of gs divides are those of the columns where its rows lead
--   state_of program ps       the state of the random numbers behind the parts: each sample draws one for each variable, and one for each letter of its word, of which there are as many as samples before it; and so does the run with a word that counters, which draws no letters
--   numbers_of, word_of       the numbers and the letters of the next sample
--   IsSearch program d ps     they are the parts of the search of a loop up to the degree d
use Rattle.std.specs.Prelude.{ℕ, suc, ◌<◌, ℤ, pos, List, [], ◌∷◌, ◌++◌, length}
use Rattle.algebra.specs.Fraction.{Fraction}
use Rattle.polynomials.specs.Terms.{Terms}
use Rattle.machines.specs.Journal.{Entry, Begin, Sample}
use Rattle.loops.specs.Program.{Expr, Program}
use Rattle.closures.specs.Closing.{Candidate, countered}
use Rattle.closures.specs.Ends.{ComesNext}
use Rattle.closures.specs.Modulo.{IsCombinationModulo}
use Rattle.residue_rows.specs.Draws.{draws_from, after_draws}
use Rattle.closing.specs.Samples.{IsRowOf, letters}
use Rattle.residue_rows.specs.Modulus.{modulus}
use Rattle.closures.specs.Monomials.{monomials_up_to}
use Rattle.residue_rows.specs.EchelonForm.{Led, IsEchelonOf}
use Rattle.algebra.specs.Each.{Each}
use Rattle.residue_rows.specs.ElementParts.{IsElementOf}
use Rattle.residue_rows.specs.Elements.{standard_in}
use Rattle.closures.specs.UpTo.{AreTidy, HasStandard}

abbrev pub most_idle : ℕ
most_idle = 16

pub data Part : Type 0 where
  counted : List ℤ → Part
  idle : List ℤ → Part
  refuted : (gs : List (Terms Fraction)) → List Entry → Candidate → Terms Fraction → List ℤ → Part

unfoldable pub samples_of : List Part → ℕ
samples_of [] = 0
samples_of (counted row ∷ ps) = suc (samples_of ps)
samples_of (idle row ∷ ps) = suc (samples_of ps)
samples_of (refuted gs es x q row ∷ ps) = samples_of ps

unfoldable pub idle_of : List Part → ℕ
idle_of [] = 0
idle_of (counted row ∷ ps) = 0
idle_of (idle row ∷ ps) = suc (idle_of ps)
idle_of (refuted gs es x q row ∷ ps) = 0

unfoldable pub rows_of : List Part → List (List ℤ)
rows_of [] = []
rows_of (counted row ∷ ps) = rows_of ps ++ row ∷ []
rows_of (idle row ∷ ps) = rows_of ps
rows_of (refuted gs es x q row ∷ ps) = rows_of ps ++ row ∷ []

unfoldable pub entries_of : List Part → List Entry
entries_of [] = []
entries_of (counted row ∷ ps) = entries_of ps ++ Begin (Sample (samples_of ps)) ∷ []
entries_of (idle row ∷ ps) = entries_of ps ++ Begin (Sample (samples_of ps)) ∷ []
entries_of (refuted gs es x q row ∷ ps) = entries_of ps ++ es

abbrev pub GoesOn : ℕ → List Part → Type 0
GoesOn n ps = (idle_of ps < most_idle) × (length (rows_of ps) < n)

module _ (program : Program (Expr ℕ)) where
  unfoldable pub state_of : List Part → ℕ
  state_of [] = 0
  state_of (counted row ∷ ps) =
      after_draws (after_draws (state_of ps) (length program.names)) (samples_of ps)
  state_of (idle row ∷ ps) =
      after_draws (after_draws (state_of ps) (length program.names)) (samples_of ps)
  state_of (refuted gs es x q row ∷ ps) = after_draws (state_of ps) (length program.names)

  abbrev pub numbers_of : List Part → List ℕ
  numbers_of ps = draws_from (state_of ps) (length program.names)

  abbrev pub word_of : List Part → List ℕ
  word_of ps = letters (length program.branches)
      (draws_from (after_draws (state_of ps) (length program.names)) (samples_of ps))

pub record AreElements (m d : ℕ) (es : List (List ℕ)) (rows : List (List ℤ))
    (gs : List (Terms Fraction)) : Type 0 where
  pub form : List Led
  pub echelon : IsEchelonOf (pos modulus) (length es) rows form
  pub tidy : AreTidy m d gs
  pub standard : HasStandard m d gs (standard_in es form)
  pub told : Each (IsElementOf (pos modulus) es form (length es)) gs

module _ (program : Program (Expr ℕ)) (d : ℕ) where
  abbrev pub monomials : List (List ℕ)
  monomials = monomials_up_to (length program.names) d

  abbrev pub IsRow : List Part → List ℕ → List ℤ → Type 0
  IsRow ps word row = IsRowOf program (pos modulus) monomials (numbers_of program ps) word row

  abbrev pub Counts : List Part → List ℤ → Type 0
  Counts ps row = ¬ (IsCombinationModulo (pos modulus) (rows_of ps) row)

  abbrev pub HasLeft : List Part → List (Terms Fraction) → Type 0
  HasLeft ps gs = AreElements (length program.names) d monomials (rows_of ps) gs

  unfoldable pub IsSearch : List Part → Type 0
  IsSearch [] = Unit {0}
  IsSearch (counted row ∷ ps) =
      IsSearch ps × GoesOn (length monomials) ps × IsRow ps (word_of program ps) row
      × Counts ps row
  IsSearch (idle row ∷ ps) =
      IsSearch ps × GoesOn (length monomials) ps × IsRow ps (word_of program ps) row
      × IsCombinationModulo (pos modulus) (rows_of ps) row
  IsSearch (refuted gs es x q row ∷ ps) =
      IsSearch ps × ¬ (GoesOn (length monomials) ps) × HasLeft ps gs
      × ComesNext program gs es (countered x q) × IsRow ps x.word row × Counts ps row
