-- Membership among the invariants that a list is the basis of, by division.
--   asks before            the entries before, and the beginning of the task
--   HasAsked gs p before after         the entries after are those before; or also the beginning of the task, and the events of a division of p by the gs
--   Answers gs p before after a        the division has ended: with nothing left, a is yes with its cofactors; else a is no
--   IsWideAsking gs p before after     the next cancellation is past
--   IsAskingOutOfUnits gs p before after     the next event is a unit, and the units equal the limit
--   SaysYes a              a is yes
--   HasCofactorsOver m a   where a is yes, its cofactors have m variables
--   HasSum gs p a          where a is yes, the combination of its cofactors with the gs is p
--   HasAnswered program p k gs es     the es follow the program to the end of its analysis, with round k and the list gs, and to the end of the division of p
use Rattle.std.specs.Prelude.{◌≡◌, ◌⊎◌, ⊤, ℕ, List, ◌∷◌, [], ◌++◌, is_some, true, Option, None}
use Rattle.algebra.specs.Fraction.{Fraction, ℚ, fractions, rationals}
use Rattle.polynomials.specs.Order.{grevlex}
use Rattle.polynomials.specs.Terms.{Terms, Same, combination}
use Rattle.machines.specs.Division as division
use Rattle.machines.specs.Event.{Event}
use Rattle.machines.specs.Journal as journal
use Rattle.machines.specs.Journal.{Entry, Journal}
use Rattle.machines.specs.Past.{IsPastDivision}
use Rattle.machines.specs.Work.{WorkFrom, WorkToEnd, IsExhausted, PastAfter}
use Rattle.loops.specs.Program.{Expr, Program}
use Rattle.rounds.specs.Journal.{IsAnswered}
use Rattle.poly.specs.Seen.{terms_each}
use Rattle.ideal_ops.specs.Calls.{AreOver}
use Rattle.invariant_fix.specs.declared.membership.Membership.{Membership}
use Rattle.invariant_fix.specs.declared.membership.Membership.TheVariants.{Yes, No}

abbrev pub asks : List Entry → List Entry
asks before = before ++ journal.Begin journal.Member ∷ []

abbrev pub SaysYes : Membership → Type 0
SaysYes (Yes qs) = ⊤
SaysYes No = ⊥

module _ (gs : List (Terms Fraction)) (p : Terms Fraction) where
  abbrev step : division.State Fraction → Option (Event × division.State Fraction)
  step s = division.next rationals grevlex gs s

  abbrev first : division.State Fraction
  first = division.initial_state gs p

  abbrev pub HasAsked : Journal → Journal → Type 0
  HasAsked before after =
      (after.entries ≡ before.entries) ⊎ WorkFrom step first (asks before.entries) after.entries

  abbrev pub Tells : division.State Fraction → Membership → Type 0
  Tells s (Yes qs) = (s.current ≡ None) × (terms_each qs.items ≡ s.cofactors)
  Tells s No = is_some s.current ≡ true

  pub record Answers (before after : Journal) (a : Membership) : Type 0 where
    pub last : division.State Fraction
    pub finished : WorkToEnd step first (asks before.entries) after.entries last
    pub tells : Tells last a

  abbrev pub IsWideAsking : Journal → Journal → Type 0
  IsWideAsking before after =
      PastAfter step (IsPastDivision fractions rationals gs) first
      (asks before.entries) after.entries

  abbrev pub IsAskingOutOfUnits : Journal → Journal → Type 0
  IsAskingOutOfUnits before after =
      IsExhausted step first after.limit (asks before.entries) after.entries

abbrev pub HasCofactorsOver : ℕ → Membership → Type 0
HasCofactorsOver m (Yes qs) = AreOver m qs.items
HasCofactorsOver m No = ⊤

abbrev pub HasSum : List (Terms Fraction) → Terms Fraction → Membership → Type 0
HasSum gs p (Yes qs) = Same ℚ p (combination ℚ (terms_each qs.items) gs)
HasSum gs p No = ⊤

pub record HasAnswered (program : Program (Expr ℕ)) (p : Terms Fraction) (k : ℕ)
    (gs : List (Terms Fraction)) (es : List Entry) (a : Membership) : Type 0 where
  pub last : division.State Fraction
  pub answered : IsAnswered program p es k gs last
  pub tells : Tells gs p last a
