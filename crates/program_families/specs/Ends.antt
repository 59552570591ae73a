-- What a task's parts end with.
--   kept_or b x               the end with all rests 0, or x
--   after_check n j c         what comes next behind a check: the end, or the rests of the monomials
--   IsCheck m c               its basis, if it has one, is a list over m variables without 0, and short enough to divide by
--   end_of e                  the end of a task
--   IsDividing n j gs at      the states at d are those of the task in a division by the gs
--   Divides .. at limit es r  the entries lead to such a state: where the division has ended, with this rest; where what comes next is past; or out of units
-- Want of memory is free.
use Rattle.std.specs.Prelude.{◌≡◌, ◌≤◌, ℕ, length, Bool, true, false, List, [], Option, Some, Result, Ok, Err}
use Rattle.algebra.specs.Fraction.{Fraction, rationals, fractions}
use Rattle.polynomials.specs.Order.{grevlex}
use Rattle.polynomials.specs.Terms.{Terms}
use Rattle.machines.specs.Division as division
use Rattle.machines.specs.Event.{Event}
use Rattle.machines.specs.Journal as journal
use Rattle.machines.specs.Past as past
use Rattle.machines.specs.Run.{HasEnded}
use Rattle.divide.specs.Limits.{list_limit}
use Rattle.divide.specs.declared.EngineError.{EngineError}
use Rattle.divide.specs.declared.EngineError.TheVariants as engine
use Rattle.poly.specs.Seen.{terms_in, terms_each}
use Rattle.ideal_ops.specs.Eliminating.{AreKept}
use Rattle.loop_model.specs.FracPoly.{FracPoly}
use Rattle.flows.specs.Entries.{Did}
use Rattle.flows.specs.Tasks.{State, Next, goes, kept, rested, Job, from_rests, next}
use Rattle.program_families.specs.Following.{Follows}
use Rattle.program_families.specs.Causes.{IsOut}
use Rattle.program_families.specs.Views.{rests_of}
use Rattle.program_families.specs.declared.task.Check.{Check}
use Rattle.program_families.specs.declared.task.Check.TheVariants as check
use Rattle.program_families.specs.declared.task.TaskEnd.{TaskEnd}
use Rattle.program_families.specs.declared.task.TaskEnd.TheVariants as task_end

abbrev pub kept_or : Next → Bool → Next
kept_or x true = kept
kept_or x false = x

abbrev pub after_check : ℕ → Job → Check → Next
after_check n j check.Kept = kept
after_check n j (check.Basis gs) = from_rests n j (terms_each gs.items) [] j.monomials

abbrev pub IsCheck : ℕ → Check → Type 0
IsCheck m check.Kept = Unit {0}
IsCheck m (check.Basis gs) = AreKept m gs.items × (length gs.items ≤ list_limit)

abbrev pub end_of : TaskEnd → Next
end_of task_end.Kept = kept
end_of (task_end.Rests basis rests) = rested (terms_each basis.items) (rests_of rests.items)

module _ (n : ℕ) (j : Job) (basis : List (Terms Fraction)) (at : division.State Fraction → State)
  where
    abbrev pub next_division : division.State Fraction → Option (Event × division.State Fraction)
    next_division d = division.next rationals grevlex basis d

    pub record IsDividing : Type 0 where
      pub goes : (d u : division.State Fraction) (e : Event) → next_division d ≡ Some (e, u)
          → next n j (at d) ≡ goes (Did e) (at u)

    module _ (start es : List journal.Entry) where
      pub record HasRest (rest : Terms Fraction) : Type 0 where
        pub last : division.State Fraction
        pub follows : Follows n j start es (at last)
        pub ended : HasEnded next_division last
        pub is : rest ≡ division.remainder last

      pub record IsPastDivision : Type 0 where
        pub last : division.State Fraction
        pub follows : Follows n j start es (at last)
        pub past : past.IsPastDivision fractions rationals basis last

    abbrev pub Divides : List journal.Entry → ℕ → List journal.Entry → Result FracPoly EngineError
        → Type 0
    Divides start limit es (Ok rest) = HasRest start es (terms_in rest)
    Divides start limit es (Err engine.Wide) = IsPastDivision start es
    Divides start limit es (Err engine.Budget) = IsOut n j start es limit
    Divides start limit es (Err engine.Memory) = Unit {0}
