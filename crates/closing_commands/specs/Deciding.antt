-- How the question ends whether a polynomial p is zero at the end of every run of a loop l, whatever its branches. The journal m is that of the closing of p, and of the divisions behind it by which its list is proved closed, where a certificate is asked for.
--   HasClosed evidence l p es gs     the entries lead to the end of the closing, with the list gs, and of the divisions behind it
--   HasCountered l p es w            they lead to its end with the word w, the first that counters p
--   IsOnTheWay evidence l p es       they follow it, or these divisions
--   IsOutOf evidence l p n es        as many of them are units as the budget n, and what comes next is a unit
--   IsWideTest evidence l p es b i   what comes next in the division of the element i with the branch b may not fit
--   Tells evidence l p m a     it has ended with a list, the reduced basis of the closure of p, and a tells it, or the certificate of it; p is an invariant
--   TellsRun l p m a           it has ended with the first word that counters p, and a tells the run with it from its first start
--   IsWideWord l p w           a number on the way to this start, or of this run, may not fit
--   TellsCounter l p w a       one of the two is told
--   TellsLimit l p m a         a tells the word of the candidate of which a composition passes a limit
--   IsWideAtWord l p m w       of the candidate of w a composition, or what comes next in its task, may not fit; or w is the first word that counters p, and a number of its run may not fit
--   TellsWide, TellsWideTest   a tells such a word, or such a division
--   TellsStop evidence l p m a     one of these three, or the first operation of the loop's maps that can't be done
--   TellsExhausted evidence l p n m a  the budget n is exhausted, and a tells it
--   Decides evidence l p n m a     one of all, where the meter was opened with the budget n
--   HasAsked evidence l p n m  the meter was opened so, and the entries follow
--   Answers evidence l reading n before m a     a answers by what the equation is; where it has no polynomial the meter is as it was before
--   Leaves evidence l reading n m     where it has one, the meter was opened for it
use Rattle.std.specs.Prelude.{◌≡◌, ◌⊎◌, ℕ, List, [], ◌∷◌, Result, Ok, Err}
use Rattle.algebra.specs.Fraction.{Fraction}
use Rattle.polynomials.specs.Terms.{Terms}
use Rattle.machines.specs.Journal.{Journal, Entry}
use Rattle.loops.specs.Inv.{Inv}
use Rattle.loops.specs.Program.{Expr, Program}
use Rattle.poly_text.specs.Reasons.{Fault}
use Rattle.loop_model.specs.Maps.{AreFree}
use Rattle.corollaries.specs.Counter.{IsFirstWord}
use Rattle.counter_run.specs.Answers.{IsRunFrom}
use Rattle.counter_run.specs.Causes.{IsWideStart, IsWideRun}
use Rattle.closures.specs.Closing.{Candidate, closed, countered}
use Rattle.closures.specs.Ends.{ComesNext, IsClosure}
use Rattle.closures.specs.Follows.{IsOut, IsPastTask}
use Rattle.closing.specs.Causes.{IsLimitAt, IsWideAt}
use Rattle.closing.specs.Progress.{IsGoing, StopsAt}
use Rattle.io_edge.specs.Texts.{Answer}
use Rattle.command_parts.specs.Equations.{polynomial_of, FormsFreely}
use Rattle.command_parts.specs.EquationReading.{equation_refusal, IsUnformed}
use Rattle.command_parts.specs.ReadBack.{IsReadBack}
use Rattle.replay_commands.specs.CounterTexts.{limit_answer, wide_answer}
use Rattle.closing_commands.specs.declared.evidence.Evidence.{Evidence}
use Rattle.closing_commands.specs.declared.evidence.Evidence.TheVariants as kinds
use Rattle.command_parts.specs.FaultTexts.{exhausted_answer}
use Rattle.closing_commands.specs.ProvedTexts.{wide_test_answer}
use Rattle.closing_commands.specs.ProvedLists.{AreProved, AreBegun, AreExhausted, IsPastTest, TellsMap, TellsProof}
use Rattle.closing_commands.specs.DecideTexts.{closure_answer, no_answer}

-- ---- where the entries lead
module _ (l : Program (Expr ℕ)) (p : Terms Fraction) (es : List Entry) where
  abbrev pub HasClosed : Evidence → List (Terms Fraction) → Type 0
  HasClosed kinds.Basis gs = ComesNext l (p ∷ []) es (closed gs)
  HasClosed kinds.Certificate gs = AreProved l (p ∷ []) es gs

  abbrev pub IsOnTheWay : Evidence → Type 0
  IsOnTheWay kinds.Basis = IsGoing l (p ∷ []) es
  IsOnTheWay kinds.Certificate =
      IsGoing l (p ∷ []) es ⊎ ((gs : List (Terms Fraction)) × AreBegun l (p ∷ []) es gs)

  abbrev pub IsOutOf : Evidence → ℕ → Type 0
  IsOutOf kinds.Basis n = IsOut l (p ∷ []) n es
  IsOutOf kinds.Certificate n =
      IsOut l (p ∷ []) n es ⊎ ((gs : List (Terms Fraction)) × AreExhausted l (p ∷ []) es gs n)

  abbrev pub IsWideTest : Evidence → ℕ → ℕ → Type 0
  IsWideTest kinds.Basis b i = ⊥
  IsWideTest kinds.Certificate b i = (gs : List (Terms Fraction)) × IsPastTest l (p ∷ []) es gs b i

  pub record HasCountered (w : List ℕ) : Type 0 where
    pub candidate : Candidate
    pub image : Terms Fraction
    pub ends : ComesNext l (p ∷ []) es (countered candidate image)
    pub is_word : candidate.word ≡ w
    pub first : IsFirstWord l p w

-- ---- the run of a word
module _ (l : Program (Expr ℕ)) (p : Terms Fraction) (w : List ℕ) where
  pub record TellsStates (a : Answer) : Type 0 where
    pub states : List (List Fraction)
    pub value : Fraction
    pub run : IsRunFrom l p w states value
    pub says : a ≡ no_answer l.names w states value

  abbrev pub IsWideWord : Type 0
  IsWideWord = IsWideStart l p w ⊎ IsWideRun l p w

  abbrev pub TellsCounter : Answer → Type 0
  TellsCounter a = TellsStates a ⊎ (IsWideWord × (a ≡ wide_answer w))

-- ---- what is told
module _ (l : Program (Expr ℕ)) (p : Terms Fraction) (m : Journal) where
  pub record TellsClosure (a : Answer) : Type 0 where
    pub maps : AreFree l
    pub list : List (Terms Fraction)
    pub ends : HasClosed l p m.entries kinds.Basis list
    pub closure : IsClosure l (p ∷ []) list
    pub invariant : Inv l p
    pub reads_back : IsReadBack l.names list
    pub says : a ≡ closure_answer l.names list

  pub record TellsCertificate (a : Answer) : Type 0 where
    pub maps : AreFree l
    pub list : List (Terms Fraction)
    pub closure : IsClosure l (p ∷ []) list
    pub invariant : Inv l p
    pub proof : TellsProof l (p ∷ []) list m a

  abbrev pub Tells : Evidence → Answer → Type 0
  Tells kinds.Basis a = TellsClosure a
  Tells kinds.Certificate a = TellsCertificate a

  pub record TellsRun (a : Answer) : Type 0 where
    pub maps : AreFree l
    pub word : List ℕ
    pub is : HasCountered l p m.entries word
    pub tells : TellsStates l p word a

  pub record TellsLimit (a : Answer) : Type 0 where
    pub maps : AreFree l
    pub word : List ℕ
    pub is : StopsAt l (p ∷ []) word (IsLimitAt l (p ∷ []) m.entries)
    pub says : a ≡ limit_answer word

  abbrev pub IsWideAtWord : List ℕ → Type 0
  IsWideAtWord w =
      StopsAt l (p ∷ []) w
      (λ x. IsWideAt l (p ∷ []) m.entries x ⊎ IsPastTask l (p ∷ []) m.entries x)
      ⊎ (HasCountered l p m.entries w × IsWideWord l p w)

  pub record TellsWide (a : Answer) : Type 0 where
    pub maps : AreFree l
    pub word : List ℕ
    pub is : IsWideAtWord word
    pub says : a ≡ wide_answer word

  module _ (evidence : Evidence) where
    pub record TellsWideTest (a : Answer) : Type 0 where
      pub maps : AreFree l
      pub branch : ℕ
      pub number : ℕ
      pub is : IsWideTest l p m.entries evidence branch number
      pub says : a ≡ wide_test_answer branch number

    abbrev pub TellsStop : Answer → Type 0
    TellsStop a = TellsMap l m a ⊎ (TellsLimit a ⊎ (TellsWide a ⊎ TellsWideTest a))

    pub record TellsExhausted (n : ℕ) (a : Answer) : Type 0 where
      pub maps : AreFree l
      pub out : IsOutOf l p m.entries evidence n
      pub says : a ≡ exhausted_answer n

    pub record Decides (n : ℕ) (a : Answer) : Type 0 where
      pub limit : m.limit ≡ n
      pub tells : Tells evidence a ⊎ (TellsRun a ⊎ (TellsStop a ⊎ TellsExhausted n a))

    pub record HasAsked (n : ℕ) : Type 0 where
      pub limit : m.limit ≡ n
      pub going : IsOnTheWay l p m.entries evidence

-- ---- by what the equation is
module _ (evidence : Evidence) (l : Program (Expr ℕ)) where
  abbrev pub Answers : Result (Expr ℕ) Fault → ℕ → Journal → Journal → Answer → Type 0
  Answers (Err fault) n before m a = (a ≡ equation_refusal fault) × (m ≡ before)
  Answers (Ok e) n before m a =
      (IsUnformed l e a × (m ≡ before))
      ⊎ (FormsFreely l e × Decides l (polynomial_of l e) m evidence n a)

  abbrev pub Leaves : Result (Expr ℕ) Fault → ℕ → Journal → Type 0
  Leaves (Err fault) n m = ⊥
  Leaves (Ok e) n m = FormsFreely l e × HasAsked l (polynomial_of l e) m evidence n
