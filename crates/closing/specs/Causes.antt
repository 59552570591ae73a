-- By what a closing stops.
--   HasRest program P es n gs kept x waiting r     the entries follow the closing to the end of the division of x, with the rest r, which isn't 0
--   IsJoined program P es x         on the way of the entries the list was completed with the candidate x, of which something was left; AreJoined: with each of some
--   IsComposed program P es x os    they follow it to before the beginning of the candidate x, and the os are the operations by which it is composed: of a candidate with which the list was completed, with the map of a branch
--   IsStarting program P es x os    they follow it to the end of the division of x, and the os are those by which its rest, which isn't 0, is composed with the start's map
--   IsComposing                     one of the two
--   IsLimitAt, IsWideAt             one of the operations passes a limit; or is past, and none before it passes a limit
use Rattle.std.specs.Prelude.{◌≡◌, ◌≢◌, ◌⊎◌, ℕ, List, [], ◌++◌, length}
use Rattle.algebra.specs.Each.{Each}
use Rattle.algebra.specs.Fraction.{Fraction, rationals}
use Rattle.polynomials.specs.Terms.{Terms}
use Rattle.polynomials.specs.Order.{grevlex}
use Rattle.machines.specs.Division as division
use Rattle.machines.specs.Elimination as elimination
use Rattle.machines.specs.Journal.{Entry}
use Rattle.machines.specs.Run.{HasEnded}
use Rattle.loops.specs.Program.{Expr, Program}
use Rattle.loop_model.specs.Operations.{Operation, IsLimit, IsWide}
use Rattle.closures.specs.Closing.{Candidate, dividing, extending, turned, begin_image}
use Rattle.closures.specs.Ends.{ComesNext}
use Rattle.closures.specs.Follows.{Follows}
use Rattle.closing.specs.Compositions.{iteration_operations, start_operations}

module _ (program : Program (Expr ℕ)) (P : List (Terms Fraction)) (es : List Entry) where
  pub record HasRest (number : ℕ) (list : List (Terms Fraction)) (kept : List Candidate)
      (x : Candidate) (waiting : List Candidate) (rest : Terms Fraction) : Type 0 where
    pub last : division.State Fraction
    pub follows : Follows program P es (dividing number list kept x waiting last)
    pub ended : HasEnded (division.next rationals grevlex list) last
    pub is : division.remainder last ≡ rest
    pub some : rest ≢ []

  pub record IsJoined (x : Candidate) : Type 0 where
    pub before : List Entry
    pub behind : List Entry
    pub order : es ≡ before ++ behind
    pub number : ℕ
    pub list : List (Terms Fraction)
    pub kept : List Candidate
    pub waiting : List Candidate
    pub state : elimination.State Fraction
    pub follows : Follows program P before (extending number list kept x waiting state)

  abbrev pub AreJoined : List Candidate → Type 0
  AreJoined xs = Each IsJoined xs

  module _ (x : Candidate) (os : List Operation) where
    pub record IsComposed : Type 0 where
      pub number : ℕ
      pub list : List (Terms Fraction)
      pub kept : List Candidate
      pub waiting : List Candidate
      pub comes : ComesNext program P es (begin_image program number list kept x waiting)
      pub letter : ℕ
      pub from : Candidate
      pub joined : IsJoined from
      pub is : x ≡ turned program letter from
      pub operations : os ≡ iteration_operations program letter from.polynomial

    pub record IsStarting : Type 0 where
      pub number : ℕ
      pub list : List (Terms Fraction)
      pub kept : List Candidate
      pub waiting : List Candidate
      pub rest : Terms Fraction
      pub has : HasRest number list kept x waiting rest
      pub operations : os ≡ start_operations program rest

    abbrev pub IsComposing : Type 0
    IsComposing = IsComposed ⊎ IsStarting

  module _ (x : Candidate) where
    pub record IsLimitAt : Type 0 where
      pub operations : List Operation
      pub composing : IsComposing x operations
      pub limit : IsLimit (length program.names) operations 0

    pub record IsWideAt : Type 0 where
      pub operations : List Operation
      pub composing : IsComposing x operations
      pub wide : IsWide (length program.names) operations 0
