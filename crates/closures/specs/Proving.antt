-- The divisions behind a closing that prove its list closed: of the elements of a certificate, one after another, as a machine.
--   Test               an element, by its number, and a branch; both count from 1
--   task_of t, iteration_of program t     its task, and the element composed with the branch's map
--   tests_of b i bs    the tests of the elements bs, from the number i on, with the branch b
--   tests_from b n bs  those with n branches, from b on
--   tests program bs   all
--   State              between two tests, where these wait; in the division of one
--   next program gs s  what comes next, by the list gs
--   FollowsProof program P gs bs es s     the entries are those of the closing of P, which ends with gs, and then lead to s
--   AwaitsTests program P gs bs es w      so, and the tests w come next
--   IsOutProof program P gs bs limit es   so, as many of the entries are units as the limit, and a unit comes next
--   IsPastProof program P gs bs es t      so, and in the division of the test what comes next is past, or making its start is
use Rattle.std.specs.Prelude.{◌≡◌, ◌⊎◌, ℕ, zero, suc, true, List, [], ◌∷◌, ◌++◌, map, length, Option, Some, None}
use Rattle.algebra.specs.Fraction.{Fraction, rationals, fractions}
use Rattle.polynomials.specs.Terms.{Terms}
use Rattle.polynomials.specs.Order.{grevlex}
use Rattle.polynomials.specs.Weight.{IsPastComposition}
use Rattle.machines.specs.Collect.{collect}
use Rattle.machines.specs.Division as division
use Rattle.machines.specs.Event.{Event}
use Rattle.machines.specs.Journal.{Entry, Task, Closed, Begin, Did, counts, units_of}
use Rattle.machines.specs.Past as past
use Rattle.machines.specs.Run.{IsRun}
use Rattle.loops.specs.Map.{branch_map}
use Rattle.loops.specs.Program.{Expr, Program}
use Rattle.rounds.specs.Word.{branch_of, after_iteration}
use Rattle.closures.specs.Closing.{closed}
use Rattle.closures.specs.Ends.{ComesNext}

pub record Test : Type 0 where
  pub branch : ℕ
  pub number : ℕ
  pub element : Terms Fraction

pub data State : Type 0 where
  testing : List Test → State
  dividing : Test → List Test → division.State Fraction → State

abbrev pub task_of : Test → Task
task_of t = Closed 0 t.branch t.number

unfoldable pub tests_of : ℕ → ℕ → List (Terms Fraction) → List Test
tests_of b i [] = []
tests_of b i (p ∷ bs) = record { branch = b; number = i; element = p } ∷ tests_of b (suc i) bs

unfoldable pub tests_from : ℕ → ℕ → List (Terms Fraction) → List Test
tests_from b zero bs = []
tests_from b (suc n) bs = tests_of b 1 bs ++ tests_from (suc b) n bs

module _ {At : Type 0} (program : Program (Expr At)) where
  abbrev pub tests : List (Terms Fraction) → List Test
  tests bs = tests_from 1 (length program.branches) bs

  abbrev pub iteration_of : Test → Terms Fraction
  iteration_of t = collect rationals grevlex (after_iteration program t.branch t.element)

  -- the images of the variables under the branch's map, as they are composed with
  abbrev pub images_of : Test → List (Terms Fraction)
  images_of t = map (collect rationals grevlex) (branch_map program (branch_of program t.branch))

  module _ (gs : List (Terms Fraction)) where
    unfoldable pub begin : List Test → Option (Entry × State)
    begin [] = None
    begin (t ∷ w) =
        Some (Begin (task_of t), dividing t w (division.initial_state gs (iteration_of t)))

    unfoldable pub divided : Test → List Test → division.State Fraction
        → Option (Event × division.State Fraction) → Option (Entry × State)
    divided t w s None = begin w
    divided t w s (Some (e, u)) = Some (Did e, dividing t w u)

    unfoldable pub next : State → Option (Entry × State)
    next (testing w) = begin w
    next (dividing t w s) = divided t w s (division.next rationals grevlex gs s)

  module _ (P gs bs : List (Terms Fraction)) where
    pub record FollowsProof (es : List Entry) (s : State) : Type 0 where
      pub before : List Entry
      pub closes : ComesNext program P before (closed gs)
      pub behind : List Entry
      pub order : es ≡ before ++ behind
      pub run : IsRun (next gs) (testing (tests bs)) behind s

    pub record AwaitsTests (es : List Entry) (w : List Test) : Type 0 where
      pub state : State
      pub follows : FollowsProof es state
      pub is : next gs state ≡ begin gs w

    pub record IsOutProof (limit : ℕ) (es : List Entry) : Type 0 where
      pub state : State
      pub follows : FollowsProof es state
      pub entry : Entry
      pub following : State
      pub comes : next gs state ≡ Some (entry, following)
      pub unit : counts entry ≡ true
      pub exhausted : units_of es ≡ limit

    pub record IsPastProof (es : List Entry) (t : Test) : Type 0 where
      pub waiting : List Test
      pub state : division.State Fraction
      pub follows : FollowsProof es (dividing t waiting state)
      pub past : past.IsPastDivision fractions rationals gs state
          ⊎ ((state ≡ division.initial_state gs (iteration_of t))
          × IsPastComposition fractions t.element (images_of t))
