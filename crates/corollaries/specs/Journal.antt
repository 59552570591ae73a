-- The journal of relations: a finished analysis of a loop, and behind it, without a task, the elimination of the variables that are not shown from its basis, in the order that has them first.
--   IsPastOrdering m is gs       the weight of putting one of the gs in order is past
--   ordered_elimination m is gs     the elimination from the list that the gs are once they are in order
--   elimination_from m is gs     the elimination from the basis gs of a loop with m variables, as a machine, with the making of that list;  list_of m is s: its list in the state s
--   IsBehind program es P        the entries of a finished analysis, which ended with a basis, are such that P holds of them and of the basis; es are what they have become
--   IsEnded program is es hs     the entries es are those of a finished analysis, and behind it those of the elimination, which has ended with the list hs
--   IsOut program is limit es    they are a beginning of such entries, have as many units as the limit, and what comes next is a unit
--   IsStopped program is es      they are those of a finished analysis, and the weight of making the list that the elimination begins with is past; or behind it, and that of its next event is
--   HasFollowed program is es    they are a beginning of such entries
use Rattle.std.specs.Prelude.{◌≡◌, ◌⊎◌, ℕ, List, [], length, None}
use Rattle.std.specs.List.{Any}
use Rattle.algebra.specs.Fraction.{Fraction, fractions}
use Rattle.polynomials.specs.Terms.{Terms}
use Rattle.polynomials.specs.Order.{grevlex}
use Rattle.polynomials.specs.Weight.{IsPastComposition}
use Rattle.machines.specs.Journal.{Entry}
use Rattle.machines.specs.Elimination as elimination
use Rattle.machines.specs.Elimination.{free_part}
use Rattle.machines.specs.Machine.{Machine}
use Rattle.machines.specs.Machines as machines
use Rattle.machines.specs.Work.{WorkFrom, WorkToEnd, IsExhausted, PastAfter}
use Rattle.loops.specs.Program.{Expr, Program}
use Rattle.rounds.specs.Analysis as analysis
use Rattle.rounds.specs.Journal as analysis_journal
use Rattle.rounds.specs.Journal.{IsFinished}
use Rattle.corollaries.specs.Order.{hidden, images, block_order, starting}

module _ (m : ℕ) (is : List ℕ) where
  abbrev pub IsPastOrdering : List (Terms Fraction) → Type 0
  IsPastOrdering gs = Any (λ g. IsPastComposition fractions g (images m is)) gs

  abbrev pub ordered_elimination : List (Terms Fraction) → Machine (elimination.State Fraction)
  ordered_elimination gs =
      machines.elimination fractions (block_order m is) grevlex (free_part (length (hidden m is)))
      (starting m is gs)

  abbrev pub elimination_from : List (Terms Fraction) → Machine (elimination.State Fraction)
  elimination_from gs = record {
    start = (ordered_elimination gs).start;
    next = (ordered_elimination gs).next;
    IsPastNext = (ordered_elimination gs).IsPastNext;
    IsPastStart = IsPastOrdering gs ⊎ (ordered_elimination gs).IsPastStart;
  }

  abbrev pub list_of : elimination.State Fraction → List (Terms Fraction)
  list_of s = elimination.list_of grevlex (free_part (length (hidden m is))) s

  -- behind the entries fs of an analysis that has ended with the basis gs
  pub record IsEliminated (fs es : List Entry) (gs hs : List (Terms Fraction)) : Type 0 where
    pub last : elimination.State Fraction
    pub finished : WorkToEnd (elimination_from gs).next (elimination_from gs).start fs es last
    pub list : hs ≡ list_of last

  abbrev pub IsPastBehind : (fs es : List Entry) (gs : List (Terms Fraction)) → Type 0
  IsPastBehind fs es gs =
      PastAfter (elimination_from gs).next (elimination_from gs).IsPastNext
      (elimination_from gs).start fs es
      ⊎ ((es ≡ fs) × (elimination_from gs).IsPastStart)

  abbrev pub IsExhaustedBehind : ℕ → (fs es : List Entry) (gs : List (Terms Fraction)) → Type 0
  IsExhaustedBehind limit fs es gs =
      IsExhausted (elimination_from gs).next (elimination_from gs).start limit fs es

  abbrev pub HasWorkedBehind : (fs es : List Entry) (gs : List (Terms Fraction)) → Type 0
  HasWorkedBehind fs es gs = WorkFrom (elimination_from gs).next (elimination_from gs).start fs es

module _ {At : Type 0} (program : Program (Expr At)) (is : List ℕ) where
  pub record IsBehind (P : List Entry → List (Terms Fraction) → Type 0) : Type 0 where
    pub analysed : List Entry
    pub rounds : ℕ
    pub basis : List (Terms Fraction)
    pub finished : IsFinished program analysed rounds basis
    pub behind : P analysed basis

  abbrev pub IsEnded : List Entry → List (Terms Fraction) → Type 0
  IsEnded es hs = IsBehind (λ fs gs. IsEliminated (length program.names) is fs es gs hs)

  abbrev pub IsOut : ℕ → List Entry → Type 0
  IsOut limit es =
      analysis_journal.IsOut program None limit es
      ⊎ IsBehind (λ fs gs. IsExhaustedBehind (length program.names) is limit fs es gs)

  abbrev pub IsStopped : List Entry → Type 0
  IsStopped es = IsBehind (λ fs gs. IsPastBehind (length program.names) is fs es gs)

  pub record IsFollowing (es : List Entry) : Type 0 where
    pub state : analysis.State
    pub follows : analysis_journal.Follows program None es state

  abbrev pub HasFollowed : List Entry → Type 0
  HasFollowed es =
      (es ≡ [])
      ⊎ (IsFollowing es
      ⊎ IsBehind (λ fs gs. HasWorkedBehind (length program.names) is fs es gs))
