-- What a search ends with, and by what it stops.
--   HasNoInverse n rows row        what an echelon form of the rows, n wide, leaves of the row begins with a number that has no inverse
--   IsClosing program d before ps gs      enough samples were taken, with these parts, `before` are the entries of them, and gs are the elements that their rows leave, which are closed next
--   Finds program d before behind gs hs   and the entries behind are those of the closing of gs, which has ended with the list hs
--   IsBehind program d ps es       behind the entries of the parts there is nothing, the beginning of a sample, or the closing so far
--   AreBegun program d es          the entries are the beginning of those of a search
--   IsOutOfSamples program d n es  as many of the entries are units as n, and a sample comes next
--   IsOutOfImages program d n es   so, and what comes next in the closing is a unit
--   IsOut                          one of the two
--   StopsAtWord program d es w C   the entries lead into the closing, and of the candidate with the word w the cause C holds
--   HasNoPivot program d es        in the row of the sample that comes last what isn't a combination of the rows before has no inverse for its first number
--   HasNoNews program d es         the row of the run with the word that counters the list, in a closing that has ended so, is a combination of the rows before, or has no such inverse
--   IsNoSample program d es        one of these, or a coefficient of a map has no residue
--   HasNoElement program d es e    enough samples were taken, e is the first that leads an element by an echelon form of their rows of which a number has no fraction with numerator and denominator of at most 2^62; and no polynomial with the lead e, of standard monomials besides, is an invariant with numbers whose numerators and denominators are at most 2^62
use Rattle.std.specs.Prelude.{◌≡◌, ◌⊎◌, ℕ, ◌+◌, ◌<◌, ℤ, pos, List, [], ◌∷◌, ◌++◌, length, get_or}
use Rattle.algebra.specs.Fraction.{Fraction, ℚ}
use Rattle.polynomials.specs.Order.{grevlex}
use Rattle.polynomials.specs.Polynomial.{IsPolynomial}
use Rattle.polynomials.specs.Terms.{Terms}
use Rattle.machines.specs.Journal.{Entry, Begin, Sample, units_of}
use Rattle.loops.specs.Inv.{Inv}
use Rattle.loops.specs.Program.{Expr, Program}
use Rattle.closures.specs.Closing.{Candidate, closed, countered}
use Rattle.closures.specs.Ends.{ComesNext}
use Rattle.closures.specs.Follows as closing
use Rattle.closures.specs.Modulo.{IsCombinationModulo}
use Rattle.closing.specs.Progress as progress
use Rattle.residue_rows.specs.Modulus.{modulus}
use Rattle.residue_rows.specs.EchelonForm.{Led, IsEchelonOf, IsStuck}
use Rattle.closing.specs.Modulo.{HasNoMapsModulo}
use Rattle.residue_rows.specs.ElementParts.{LeadsElement, IsFirstUntold}
use Rattle.residue_rows.specs.Elements.{IsCandidate}
use Rattle.closing.specs.Search.{Part, samples_of, rows_of, entries_of, GoesOn, monomials, word_of, IsRow, HasLeft, IsSearch}

pub record HasNoInverse (n : ℕ) (rows : List (List ℤ)) (row : List ℤ) : Type 0 where
  pub form : List Led
  pub echelon : IsEchelonOf (pos modulus) n rows form
  pub stuck : IsStuck (pos modulus) (record { width = n; rows = form }) row

module _ (program : Program (Expr ℕ)) (d : ℕ) where
  pub record IsClosing (before : List Entry) (ps : List Part) (gs : List (Terms Fraction)) : Type
      0 where
    pub search : IsSearch program d ps
    pub enough : ¬ (GoesOn (length (monomials program d)) ps)
    pub left : HasLeft program d ps gs
    pub entries : before ≡ entries_of ps

  pub record Finds (before behind : List Entry) (gs hs : List (Terms Fraction)) : Type 0 where
    pub parts : List Part
    pub closing : IsClosing before parts gs
    pub closed : ComesNext program gs behind (closed hs)

  abbrev pub IsBehind : List Part → List Entry → Type 0
  IsBehind ps behind =
      (behind ≡ [])
      ⊎ ((GoesOn (length (monomials program d)) ps
      × (behind ≡ Begin (Sample (samples_of ps)) ∷ []))
      ⊎ ((gs : List (Terms Fraction)) × IsClosing (entries_of ps) ps gs
      × progress.IsGoing program gs behind))

  module _ (es : List Entry) where
    -- in the closing
    pub record IsInClosing (C : List Entry → List (Terms Fraction) → List Entry → Type 0) : Type
        0 where
      pub before : List Entry
      pub parts : List Part
      pub elements : List (Terms Fraction)
      pub closing : IsClosing before parts elements
      pub behind : List Entry
      pub order : es ≡ before ++ behind
      pub cause : C before elements behind

    pub record AreBegun : Type 0 where
      pub parts : List Part
      pub search : IsSearch program d parts
      pub behind : List Entry
      pub follows : IsBehind parts behind
      pub more : List Entry
      pub order : es ++ more ≡ entries_of parts ++ behind

    pub record IsOutOfSamples (n : ℕ) : Type 0 where
      pub parts : List Part
      pub search : IsSearch program d parts
      pub goes_on : GoesOn (length (monomials program d)) parts
      pub entries : es ≡ entries_of parts
      pub exhausted : units_of es ≡ n

    abbrev pub IsOutOfImages : ℕ → Type 0
    IsOutOfImages n = IsInClosing (λ before gs behind.
        (k : ℕ) × closing.IsOut program gs k behind × (units_of before + k ≡ n))

    abbrev pub IsOut : ℕ → Type 0
    IsOut n = IsOutOfSamples n ⊎ IsOutOfImages n

    abbrev pub StopsAtWord : List ℕ
        → (List (Terms Fraction) → List Entry → Candidate → Type 0) → Type 0
    StopsAtWord w C = IsInClosing (λ before gs behind. progress.StopsAt program gs w (C gs behind))

    pub record HasNoPivot : Type 0 where
      pub parts : List Part
      pub search : IsSearch program d parts
      pub goes_on : GoesOn (length (monomials program d)) parts
      pub entries : es ≡ entries_of parts ++ Begin (Sample (samples_of parts)) ∷ []
      pub row : List ℤ
      pub is_row : IsRow program d parts (word_of program parts) row
      pub none : HasNoInverse (length (monomials program d)) (rows_of parts) row

    pub record HasNoNews : Type 0 where
      pub before : List Entry
      pub parts : List Part
      pub elements : List (Terms Fraction)
      pub closing : IsClosing before parts elements
      pub behind : List Entry
      pub order : es ≡ before ++ behind
      pub candidate : Candidate
      pub image : Terms Fraction
      pub countered : ComesNext program elements behind (countered candidate image)
      pub row : List ℤ
      pub is_row : IsRow program d parts candidate.word row
      pub none : IsCombinationModulo (pos modulus) (rows_of parts) row
          ⊎ HasNoInverse (length (monomials program d)) (rows_of parts) row

    abbrev pub IsNoSample : Type 0
    IsNoSample = HasNoMapsModulo program (pos modulus) ⊎ (HasNoPivot ⊎ HasNoNews)

    pub record HasNoElement (e : List ℕ) : Type 0 where
      pub parts : List Part
      pub search : IsSearch program d parts
      pub enough : ¬ (GoesOn (length (monomials program d)) parts)
      pub entries : es ≡ entries_of parts
      pub form : List Led
      pub echelon : IsEchelonOf (pos modulus) (length (monomials program d)) (rows_of parts) form
      pub column : ℕ
      pub within : column < length (monomials program d)
      pub is : e ≡ get_or (monomials program d) column []
      pub leads : LeadsElement (pos modulus) (monomials program d) form column
      pub untold : IsFirstUntold (pos modulus) (monomials program d) form column
      pub arity : length e ≡ length program.names
      pub none : (p : Terms Fraction) → IsPolynomial ℚ grevlex (length program.names) p
          → IsCandidate (pos modulus) (monomials program d) form column p → ¬ (Inv program p)
