-- Journals of closings.
--   Follows program P es s            the entries es are those of the closing of P so far, which lead to the state s
--   IsOut program P limit es          they follow it, have as many units as the limit, and what comes next is a unit
--   IsPastState program s             the weight of the next event is past: of the division that is under way, or of the completion and the tidying
--   IsPastTask program P es x         the entries follow it, and lead to a task of the candidate x in which what comes next is past, or in which making an element monic at its beginning is
use Rattle.std.specs.Prelude.{◌≡◌, ◌⊎◌, ℕ, true, List, [], ◌∷◌, ◌++◌}
use Rattle.algebra.specs.Fraction.{Fraction, rationals, fractions}
use Rattle.polynomials.specs.Terms.{Terms}
use Rattle.polynomials.specs.Order.{grevlex}
use Rattle.machines.specs.Journal.{Entry, counts, units_of}
use Rattle.machines.specs.Past as past
use Rattle.machines.specs.Run.{IsRun}
use Rattle.loops.specs.Program.{Expr, Program}
use Rattle.closures.specs.Closing.{State, fresh, dividing, extending, goes, Candidate, begin_extended, next, moves}

module _ {At : Type 0} (program : Program (Expr At)) (P : List (Terms Fraction)) where
  pub record Follows (es : List Entry) (s : State) : Type 0 where
    pub run : IsRun (moves program P) fresh es s

  pub record IsOut (limit : ℕ) (es : List Entry) : Type 0 where
    pub state : State
    pub follows : Follows es state
    pub entry : Entry
    pub following : State
    pub comes : next program P state ≡ goes entry following
    pub unit : counts entry ≡ true
    pub exhausted : units_of es ≡ limit

  abbrev pub IsPastAt : Candidate → State → Type 0
  IsPastAt y fresh = ⊥
  IsPastAt y (dividing n gs kept x waiting s) =
      (x ≡ y) × past.IsPastDivision fractions rationals gs s
  IsPastAt y (extending n gs kept x waiting s) =
      (x ≡ y) × (past.IsPastElimination fractions rationals grevlex grevlex (λ hs. hs) s
      ⊎ ((s ≡ begin_extended gs x.polynomial)
      × past.IsPastStart fractions rationals (gs ++ x.polynomial ∷ [])))

  pub record IsPastTask (es : List Entry) (x : Candidate) : Type 0 where
    pub state : State
    pub follows : Follows es state
    pub past : IsPastAt x state
