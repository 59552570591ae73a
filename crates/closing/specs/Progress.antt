-- Where a closing stands, as the code has it.
--   candidate_of P x, candidates_of P xs     candidates, each of the polynomial of P at its place
--   Grows es fs          the entries fs are the es and more
--   Awaits program P es p waiting     the entries lead to between two tasks: with the number, the list and what was kept of the level that p has, with which it was completed, and with what waits of the level
--   Reaches program P es p x waiting  so, and the candidate x comes next
--   AreIn m xs           the candidates xs have m variables
--   Fits m units p       the list has polynomials of m variables that aren't 0, as few as the units, and so has what was kept; and the number is at most the units
--   IsOn s               the closing goes on
--   FitsSequel m units t  so it is where the closing goes on
--   FitsVerdict m units v     the list has polynomials of m variables, as few as the units; or the image has as many
--   IsGoing program P es              the entries follow the closing
--   IfStops program P limit es e      the cause of the refusal e
--   Takes program P waiting limit es r     where the closing goes on: to what waits, or to its end with a candidate; or it stops so
--   Closes program P es v             it ends with a closed list, or with a candidate
use Rattle.std.specs.Prelude.{◌≡◌, ◌≢◌, ◌⊎◌, ℕ, ◌≤◌, List, [], ◌++◌, map, get_or, length, Result, Ok, Err}
use Rattle.std.specs.List.{All}
use Rattle.algebra.specs.Fraction.{Fraction}
use Rattle.polynomials.specs.Terms.{Terms}
use Rattle.machines.specs.Journal.{Entry}
use Rattle.loops.specs.Program.{Expr, Program}
use Rattle.poly.specs.Seen.{terms_in, terms_each}
use Rattle.ideal_ops.specs.Calls.{AreOver}
use Rattle.closures.specs.Closing as seen
use Rattle.closures.specs.Closing.{State, closed, countered, begin_image, from_waiting}
use Rattle.closures.specs.Ends.{ComesNext}
use Rattle.closures.specs.Follows.{Follows, IsOut, IsPastTask}
use Rattle.closing.specs.Causes.{AreJoined, IsLimitAt, IsWideAt}
use Rattle.closing.specs.declared.candidates.Candidate.{Candidate}
use Rattle.closing.specs.declared.error.ClosingError.{ClosingError}
use Rattle.closing.specs.declared.error.ClosingError.TheVariants.{Limit, Wide, Budget, Memory}
use Rattle.closing.specs.declared.levels.Verdict.{Verdict}
use Rattle.closing.specs.declared.levels.Verdict.TheVariants as verdict
use Rattle.closing.specs.declared.joining.Progress.{Progress}
use Rattle.closing.specs.declared.joining.Sequel.{Sequel}
use Rattle.closing.specs.declared.joining.Sequel.TheVariants as sequel

abbrev pub candidate_of : List (Terms Fraction) → Candidate → seen.Candidate
candidate_of P x = record {
  of = get_or P x.of [];
  word = x.word.items;
  polynomial = terms_in x.polynomial;
}

abbrev pub candidates_of : List (Terms Fraction) → List Candidate → List seen.Candidate
candidates_of P xs = map (candidate_of P) xs

abbrev pub AreIn : ℕ → List Candidate → Type 0
AreIn m xs = All (λ x. x.polynomial.arity ≡ m) xs

pub record Fits (m units : ℕ) (p : Progress) : Type 0 where
  pub arity : AreOver m p.list.items
  pub nonzero : All (λ g. terms_in g ≢ []) p.list.items
  pub few : length p.list.items ≤ units
  pub number : p.number ≤ units
  pub kept : AreIn m p.kept.items

abbrev pub Grows : List Entry → List Entry → Type 0
Grows es fs = (more : List Entry) × (fs ≡ es ++ more)

abbrev pub IsOn : Sequel → Type 0
IsOn (sequel.On p) = Unit {0}
IsOn (sequel.Counter c) = ⊥

abbrev pub FitsSequel : ℕ → ℕ → Sequel → Type 0
FitsSequel m units (sequel.On p) = Fits m units p
FitsSequel m units (sequel.Counter c) = c.image.arity ≡ m

abbrev pub FitsVerdict : ℕ → ℕ → Verdict → Type 0
FitsVerdict m units (verdict.Basis gs) = AreOver m gs.items × (length gs.items ≤ units)
FitsVerdict m units (verdict.Counter c) = c.image.arity ≡ m

module _ (program : Program (Expr ℕ)) (P : List (Terms Fraction)) where
  pub record Awaits (es : List Entry) (p : Progress) (waiting : List seen.Candidate) : Type
      0 where
    pub comes : ComesNext program P es
        (from_waiting program p.number (terms_each p.list.items) (candidates_of P p.kept.items)
        waiting)
    pub joined : AreJoined program P es (candidates_of P p.kept.items)

  pub record Reaches (es : List Entry) (p : Progress) (x : seen.Candidate)
      (waiting : List seen.Candidate) : Type 0 where
    pub comes : ComesNext program P es
        (begin_image program p.number (terms_each p.list.items) (candidates_of P p.kept.items) x
        waiting)
    pub joined : AreJoined program P es (candidates_of P p.kept.items)

  pub record IsGoing (es : List Entry) : Type 0 where
    pub state : State
    pub follows : Follows program P es state

  pub record StopsAt (word : List ℕ) (C : seen.Candidate → Type 0) : Type 0 where
    pub candidate : seen.Candidate
    pub is_word : candidate.word ≡ word
    pub cause : C candidate

  abbrev pub IfStops : ℕ → List Entry → ClosingError → Type 0
  IfStops limit es (Limit word) = StopsAt word.items (IsLimitAt program P es)
  IfStops limit es (Wide word) =
      StopsAt word.items (λ x. IsWideAt program P es x ⊎ IsPastTask program P es x)
  IfStops limit es Budget = IsOut program P limit es
  IfStops limit es Memory = IsGoing es

  abbrev pub Takes : List seen.Candidate → ℕ → List Entry → Result Sequel ClosingError → Type 0
  Takes waiting limit es (Ok (sequel.On p)) = Awaits es p waiting
  Takes waiting limit es (Ok (sequel.Counter c)) =
      ComesNext program P es (countered (candidate_of P c.candidate) (terms_in c.image))
  Takes waiting limit es (Err e) = IfStops limit es e

  abbrev pub Closes : List Entry → Verdict → Type 0
  Closes es (verdict.Basis gs) = ComesNext program P es (closed (terms_each gs.items))
  Closes es (verdict.Counter c) =
      ComesNext program P es (countered (candidate_of P c.candidate) (terms_in c.image))
