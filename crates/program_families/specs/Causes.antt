-- By what a task stops.
--   IsOut limit es          the entries follow the task, have as many units as the limit, and a unit comes next
--   IsPastIdeal es          they lead into the completion, where what comes next is past, or making a generator monic is
--   IsFormingImage es e os  they lead to before the division of the image of the element e, which the operations os form
--   IsFormingRest es m os   they lead to before the division for the monomial m, of what the operations os form
--   IsPastImage es e, IsPastRest es m     they lead into that division, where what comes next is past
--   IfStops limit es e      the cause of the refusal e
--   Takes next limit es r   behind the entries comes what next says of the answer; or the cause of a refusal
-- Want of memory is free.
use Rattle.std.specs.Prelude.{◌≡◌, ◌⊎◌, ℕ, ◌+◌, true, List, ◌∷◌, Result, Ok, Err}
use Rattle.algebra.specs.Fraction.{Fraction, rationals, fractions}
use Rattle.polynomials.specs.Order.{grevlex}
use Rattle.polynomials.specs.Terms.{Terms}
use Rattle.machines.specs.Division as division
use Rattle.machines.specs.Elimination as elimination
use Rattle.machines.specs.Journal as journal
use Rattle.machines.specs.Past as past
use Rattle.loop_model.specs.Operations.{Operation, IsLimit, IsWide}
use Rattle.flows.specs.Entries.{Entry}
use Rattle.flows.specs.Family.{generators}
use Rattle.flows.specs.Tasks.{Rests, State, completing, imaging, resting, Next, goes, Job, lesser, from_images, from_rests, next}
use Rattle.program_families.specs.Following.{noted, Follows, ComesNext}
use Rattle.program_families.specs.Operations.{image_operations, times_operations}
use Rattle.program_families.specs.declared.error.TaskError.{TaskError}
use Rattle.program_families.specs.declared.error.TaskError.TheVariants.{WideIdeal, LimitImage, WideImage, LimitRest, WideRest, Budget, Memory}

module _ (n : ℕ) (j : Job) where
  abbrev pub width : ℕ
  width = (let t = j.transition in t.unknowns + n)

  abbrev pub job_generators : List (Terms Fraction)
  job_generators = generators j.transition (λ v. j.source)

  module _ (start es : List journal.Entry) where
    pub record IsOut (limit : ℕ) : Type 0 where
      pub state : State
      pub follows : Follows n j start es state
      pub entry : Entry
      pub following : State
      pub comes : next n j state ≡ goes entry following
      pub unit : journal.counts (noted entry) ≡ true
      pub exhausted : journal.units_of es ≡ limit

    pub record IsPastIdeal : Type 0 where
      pub state : elimination.State Fraction
      pub follows : Follows n j start es (completing state)
      pub past : past.IsPastElimination fractions rationals grevlex grevlex (λ gs. gs) state
          ⊎ ((state ≡ elimination.initial_state rationals grevlex job_generators)
          × past.IsPastStart fractions rationals job_generators)

    pub record IsFormingImage (e : ℕ) (os : List Operation) : Type 0 where
      pub basis : List (Terms Fraction)
      pub element : Terms Fraction
      pub waiting : List (Terms Fraction)
      pub comes : ComesNext n j start es (from_images n j basis e (element ∷ waiting))
      pub operations : os ≡ image_operations n j.transition element

    pub record IsPastImage (e : ℕ) : Type 0 where
      pub basis : List (Terms Fraction)
      pub waiting : List (Terms Fraction)
      pub state : division.State Fraction
      pub follows : Follows n j start es (imaging basis e waiting state)
      pub past : past.IsPastDivision fractions rationals basis state

    pub record IsFormingRest (m : List ℕ) (os : List Operation) : Type 0 where
      pub basis : List (Terms Fraction)
      pub rests : Rests
      pub waiting : List (List ℕ)
      pub comes : ComesNext n j start es (from_rests n j basis rests (m ∷ waiting))
      pub operations : os ≡ times_operations j.transition rests (lesser m)

    pub record IsPastRest (m : List ℕ) : Type 0 where
      pub basis : List (Terms Fraction)
      pub rests : Rests
      pub waiting : List (List ℕ)
      pub state : division.State Fraction
      pub follows : Follows n j start es (resting basis rests m waiting state)
      pub past : past.IsPastDivision fractions rationals basis state

    abbrev pub IfStops : ℕ → TaskError → Type 0
    IfStops limit WideIdeal = IsPastIdeal
    IfStops limit (LimitImage e) = (os : List Operation) × IsFormingImage e os × IsLimit width os 0
    IfStops limit (WideImage e) =
        ((os : List Operation) × IsFormingImage e os × IsWide width os 0) ⊎ IsPastImage e
    IfStops limit (LimitRest m) = (os : List Operation) × IsFormingRest m os × IsLimit width os 0
    IfStops limit (WideRest m) =
        ((os : List Operation) × IsFormingRest m os × IsWide width os 0) ⊎ IsPastRest m
    IfStops limit Budget = IsOut limit
    IfStops limit Memory = Unit {0}

  abbrev pub Takes : {A : Type 0} → (A → Next) → List journal.Entry → ℕ → List journal.Entry
      → Result A TaskError → Type 0
  Takes x start limit es (Ok a) = ComesNext n j start es (x a)
  Takes x start limit es (Err e) = IfStops start es limit e
