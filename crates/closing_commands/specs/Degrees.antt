-- How the search for the invariants of a loop l up to a degree d ends. The journal m is that of the search, with the closing that ends it, and of the divisions behind it by which its list is proved closed, where a certificate is asked for.
--   HasFound evidence l d es gs hs   the entries lead to the end of the search, with the list gs and the reduced basis hs of its closure, and of the divisions behind it
--   IsOutOf evidence l d es n        as many of them are units as the budget n, and what comes next is a unit
--   IsWideTest evidence l d es b i   what comes next in the division of the element i with the branch b may not fit
--   IsOnTheWay l d es evidence     they are a beginning of those of a search, and of these divisions
--   HasMany l d                    the loop has too many monomials of degree at most d
--   TellsList l d m a              the search has ended with the part up to the degree d of the reduced basis of all invariants, and a tells it
--   TellsCertificate l d m a       so, and a tells a certificate that lists it first
--   Tells evidence l d m a         the one or the other
--   IsLimitWord, IsWideWord l d es w     a composition of the candidate of w in a closing passes a limit; or it, or what comes next in its task, may not fit
--   TellsDegree, TellsLimit        a tells too many monomials, or such a word
--   TellsSample, TellsElement      a tells a sample that tells nothing, or the lead of an element of which a number is too wide
--   TellsWide, TellsTest           a tells such a word, or such a division
--   TellsStop evidence l d m a     one of these, or the first operation of the loop's maps that can't be done
--   TellsExhausted evidence l d m n a  the budget n is exhausted, and a tells it
--   Searches evidence l d m n a    one of all, where the meter was opened with the budget n; too many monomials are told, unless a map can't be formed
--   HasSearched evidence l d m n   the meter was opened so, and the entries follow
use Rattle.std.specs.Prelude.{◌≡◌, ◌⊎◌, ◌<◌, ℕ, ◌+◌, List, ◌++◌, length}
use Rattle.algebra.specs.Fraction.{Fraction}
use Rattle.polynomials.specs.Terms.{Terms}
use Rattle.machines.specs.Journal.{Journal, Entry, units_of}
use Rattle.loops.specs.Inv.{Inv}
use Rattle.loops.specs.Program.{Expr, Program}
use Rattle.loop_model.specs.Maps.{AreFree}
use Rattle.closures.specs.Ends.{IsClosure}
use Rattle.closures.specs.Follows.{IsPastTask}
use Rattle.closures.specs.UpTo.{IsReducedUpTo}
use Rattle.closing.specs.Causes.{IsLimitAt, IsWideAt}
use Rattle.closing.specs.SearchCauses as search
use Rattle.closing.specs.SearchCauses.{IsClosing, Finds, IsInClosing, IsOut, StopsAtWord, IsNoSample, HasNoElement}
use Rattle.residue_rows.specs.Limits.{most_monomials}
use Rattle.closing.specs.Search.{Part, monomials}
use Rattle.io_edge.specs.declared.answer.Status.TheVariants as status
use Rattle.io_edge.specs.Texts.{Answer}
use Rattle.command_parts.specs.ReadBack.{IsReadBack}
use Rattle.replay_commands.specs.CounterTexts.{limit_answer, wide_answer}
use Rattle.closing_commands.specs.declared.evidence.Evidence.{Evidence}
use Rattle.closing_commands.specs.declared.evidence.Evidence.TheVariants as kinds
use Rattle.command_parts.specs.FaultTexts.{exhausted_answer}
use Rattle.closing_commands.specs.ProvedTexts.{wide_test_answer}
use Rattle.closing_commands.specs.ProvedLists.{AreProved, AreBegun, AreExhausted, IsPastTest, ShowsProof, TellsMap}
use Rattle.closing_commands.specs.DegreeTexts.{basis_answer, degree_answer, sample_answer, element_answer}

-- ---- where the entries lead
module _ (l : Program (Expr ℕ)) (d : ℕ) (es : List Entry) where
  module _ (gs hs : List (Terms Fraction)) where
    pub record AreFound : Type 0 where
      pub before : List Entry
      pub behind : List Entry
      pub order : es ≡ before ++ behind
      pub finds : Finds l d before behind gs hs

    pub record AreFoundProved : Type 0 where
      pub before : List Entry
      pub parts : List Part
      pub closing : IsClosing l d before parts gs
      pub behind : List Entry
      pub order : es ≡ before ++ behind
      pub proved : AreProved l gs behind hs

  abbrev pub HasFound : Evidence → List (Terms Fraction) → List (Terms Fraction) → Type 0
  HasFound kinds.Basis gs hs = AreFound gs hs
  HasFound kinds.Certificate gs hs = AreFoundProved gs hs

  -- in the divisions behind the closing
  abbrev pub IsProving : (List Entry → List (Terms Fraction) → List Entry → List (Terms Fraction)
      → Type 0) → Type 0
  IsProving C = IsInClosing l d es
      (λ before gs behind. (hs : List (Terms Fraction)) × C before gs behind hs)

  abbrev pub IsOutOf : Evidence → ℕ → Type 0
  IsOutOf kinds.Basis n = IsOut l d es n
  IsOutOf kinds.Certificate n =
      IsOut l d es n
      ⊎ IsProving (λ before gs behind hs.
      (k : ℕ) × AreExhausted l gs behind hs k × (units_of before + k ≡ n))

  abbrev pub IsWideTest : Evidence → ℕ → ℕ → Type 0
  IsWideTest kinds.Basis b i = ⊥
  IsWideTest kinds.Certificate b i =
      IsProving (λ before gs behind hs. IsPastTest l gs behind hs b i)

  abbrev pub IsLimitWord : List ℕ → Type 0
  IsLimitWord w = StopsAtWord l d es w (λ gs behind x. IsLimitAt l gs behind x)

  abbrev pub IsWideWord : List ℕ → Type 0
  IsWideWord w = StopsAtWord l d es w
      (λ gs behind x. IsWideAt l gs behind x ⊎ IsPastTask l gs behind x)

-- the entries are a beginning
abbrev pub IsOnTheWay : Program (Expr ℕ) → ℕ → List Entry → Evidence → Type 0
IsOnTheWay l d es kinds.Basis = search.AreBegun l d es
IsOnTheWay l d es kinds.Certificate =
    search.AreBegun l d es
    ⊎ ((more : List Entry)
    × IsProving l d (es ++ more) (λ before gs behind hs. AreBegun l gs behind hs))

abbrev pub HasMany : Program (Expr ℕ) → ℕ → Type 0
HasMany l d = most_monomials < length (monomials l d)

-- ---- what is told
module _ (l : Program (Expr ℕ)) (d : ℕ) (m : Journal) where
  pub record TellsList (a : Answer) : Type 0 where
    pub maps : AreFree l
    pub list : List (Terms Fraction)
    pub closure : List (Terms Fraction)
    pub ends : HasFound l d m.entries kinds.Basis list closure
    pub reduced : IsReducedUpTo (length l.names) d list (Inv l)
    pub reads_back : IsReadBack l.names list
    pub says : a ≡ basis_answer l.names list

  pub record TellsCertificate (a : Answer) : Type 0 where
    pub maps : AreFree l
    pub list : List (Terms Fraction)
    pub closure : List (Terms Fraction)
    pub ends : HasFound l d m.entries kinds.Certificate list closure
    pub reduced : IsReducedUpTo (length l.names) d list (Inv l)
    pub is_closure : IsClosure l list closure
    pub shows : ShowsProof l list closure a.text
    pub yes : a.status ≡ status.Yes

  abbrev pub Tells : Evidence → Answer → Type 0
  Tells kinds.Basis a = TellsList a
  Tells kinds.Certificate a = TellsCertificate a

  pub record TellsDegree (a : Answer) : Type 0 where
    pub maps : AreFree l
    pub many : HasMany l d
    pub says : a ≡ degree_answer d

  pub record TellsLimit (a : Answer) : Type 0 where
    pub maps : AreFree l
    pub word : List ℕ
    pub is : IsLimitWord l d m.entries word
    pub says : a ≡ limit_answer word

  pub record TellsSample (a : Answer) : Type 0 where
    pub maps : AreFree l
    pub is : IsNoSample l d m.entries
    pub says : a ≡ sample_answer

  pub record TellsElement (a : Answer) : Type 0 where
    pub maps : AreFree l
    pub lead : List ℕ
    pub is : HasNoElement l d m.entries lead
    pub says : a ≡ element_answer l.names lead

  pub record TellsWide (a : Answer) : Type 0 where
    pub maps : AreFree l
    pub word : List ℕ
    pub is : IsWideWord l d m.entries word
    pub says : a ≡ wide_answer word

  module _ (evidence : Evidence) where
    pub record TellsTest (a : Answer) : Type 0 where
      pub maps : AreFree l
      pub branch : ℕ
      pub number : ℕ
      pub is : IsWideTest l d m.entries evidence branch number
      pub says : a ≡ wide_test_answer branch number

    abbrev pub TellsStop : Answer → Type 0
    TellsStop a =
        TellsMap l m a
        ⊎ (TellsDegree a
        ⊎ (TellsLimit a ⊎ (TellsSample a ⊎ (TellsElement a ⊎ (TellsWide a ⊎ TellsTest a)))))

    pub record TellsExhausted (n : ℕ) (a : Answer) : Type 0 where
      pub maps : AreFree l
      pub out : IsOutOf l d m.entries evidence n
      pub says : a ≡ exhausted_answer n

    pub record Searches (n : ℕ) (a : Answer) : Type 0 where
      pub limit : m.limit ≡ n
      pub tells : Tells evidence a ⊎ (TellsStop a ⊎ TellsExhausted n a)
      pub many : HasMany l d → (a ≡ degree_answer d) ⊎ TellsMap l m a

    pub record HasSearched (n : ℕ) : Type 0 where
      pub limit : m.limit ≡ n
      pub going : IsOnTheWay l d m.entries evidence
