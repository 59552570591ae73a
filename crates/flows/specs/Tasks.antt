-- The task of a transition, as a machine: the source's list and the zeros are completed and tidied; the images of the target's elements are divided, up to the first rest that isn't 0; and where there is one, or no list at the target, the rests of the monomials are taken.
--   Rests               monomials and their rests so far, the latest first
--   rest_in rs e        the rest of the monomial e
--   lesser e            e with one less of its first variable, and the variable's place; none for the monomial 1
--   product t n rs e    what is divided for the monomial e: 1, or the rest of the lesser one times the variable's image
--   State               before it begins, and in each of its parts
--   Next                what comes next: an entry, or the end: all rests are 0, or the basis and the rests of all monomials
--   Job                 the transition and its place, the source's list, the target's list if it has one, and the monomials
--   next n j s, moves n j s     what comes next; the entry, if one does, and the state after it
use Rattle.std.specs.Prelude.{ℕ, zero, suc, ◌+◌, cond, List, [], ◌∷◌, get_or, Option, Some, None}
use Rattle.algebra.specs.Fraction.{Fraction, ℚ, rationals}
use Rattle.polynomials.specs.Exponent.{same}
use Rattle.polynomials.specs.Terms.{Terms, constant, times}
use Rattle.polynomials.specs.Order.{grevlex}
use Rattle.machines.specs.Event.{Event}
use Rattle.machines.specs.Collect.{collect}
use Rattle.machines.specs.Division as division
use Rattle.machines.specs.Elimination as elimination
use Rattle.closures.specs.Closing.{next_extended, extended_list}
use Rattle.flows.specs.Graph.{Transition}
use Rattle.flows.specs.Family.{after, generators}
use Rattle.flows.specs.Entries.{Entry, Begin, Did, Ideal, Image, Rest}

abbrev pub Rests : Type 0
Rests = List (List ℕ × Terms Fraction)

unfoldable pub rest_in : Rests → List ℕ → Terms Fraction
rest_in [] e = []
rest_in (r ∷ rs) e = cond (same r.0 e) r.1 (rest_in rs e)

abbrev pub in_second : Option (List ℕ × ℕ) → Option (List ℕ × ℕ)
in_second None = None
in_second (Some (e, k)) = Some (0 ∷ e, suc k)

unfoldable pub lesser : List ℕ → Option (List ℕ × ℕ)
lesser [] = None
lesser (zero ∷ e) = in_second (lesser e)
lesser (suc a ∷ e) = Some (a ∷ e, 0)

pub data State : Type 0 where
  fresh : State
  completing : elimination.State Fraction → State
  imaging : (basis : List (Terms Fraction)) (e : ℕ) (waiting : List (Terms Fraction))
      → division.State Fraction → State
  resting : (basis : List (Terms Fraction)) → Rests → (m : List ℕ) (waiting : List (List ℕ))
      → division.State Fraction → State

pub data Next : Type 0 where
  goes : Entry → State → Next
  kept : Next
  rested : List (Terms Fraction) → Rests → Next

pub record Job : Type 0 where
  pub place : ℕ
  pub transition : Transition
  pub source : List (Terms Fraction)
  pub target : Option (List (Terms Fraction))
  pub monomials : List (List ℕ)

module _ (n : ℕ) (j : Job) where
  abbrev pub image_of : Terms Fraction → Terms Fraction
  image_of p = collect rationals grevlex (after n j.transition p)

  abbrev pub times_image : Rests → Option (List ℕ × ℕ) → Terms Fraction
  times_image rs None =
      collect rationals grevlex (constant (let t = j.transition in t.unknowns + n) ℚ.one)
  times_image rs (Some (e, k)) =
      collect rationals grevlex
      (times ℚ (rest_in rs e) (get_or (let t = j.transition in t.images) k []))

  abbrev pub product : Rests → List ℕ → Terms Fraction
  product rs e = times_image rs (lesser e)

  unfoldable pub from_rests : List (Terms Fraction) → Rests → List (List ℕ) → Next
  from_rests basis rs [] = rested basis rs
  from_rests basis rs (m ∷ ms) =
      goes (Begin (Rest j.place m))
      (resting basis rs m ms (division.initial_state basis (product rs m)))

  unfoldable pub from_images : List (Terms Fraction) → ℕ → List (Terms Fraction) → Next
  from_images basis e [] = kept
  from_images basis e (p ∷ ps) =
      goes (Begin (Image j.place e))
      (imaging basis e ps (division.initial_state basis (image_of p)))

  unfoldable pub by_target : List (Terms Fraction) → Option (List (Terms Fraction)) → Next
  by_target basis None = from_rests basis [] j.monomials
  by_target basis (Some hs) = from_images basis 0 hs

  unfoldable pub by_rest : List (Terms Fraction) → ℕ → List (Terms Fraction) → Terms Fraction
      → Next
  by_rest basis e ps [] = from_images basis (suc e) ps
  by_rest basis e ps (t ∷ r) = from_rests basis [] j.monomials

  abbrev pub begin_ideal : Next
  begin_ideal =
      goes (Begin (Ideal j.place))
      (completing (elimination.initial_state rationals grevlex
      (generators j.transition (λ v. j.source))))

  -- an empty list needs no ideal
  unfoldable pub from_fresh : Option (List (Terms Fraction)) → Next
  from_fresh (Some []) = kept
  from_fresh (Some (p ∷ ps)) = begin_ideal
  from_fresh None = begin_ideal

  unfoldable pub completed : elimination.State Fraction
      → Option (Event × elimination.State Fraction) → Next
  completed s None = by_target (extended_list s) j.target
  completed s (Some (e, u)) = goes (Did e) (completing u)

  unfoldable pub imaged : List (Terms Fraction) → ℕ → List (Terms Fraction)
      → division.State Fraction → Option (Event × division.State Fraction) → Next
  imaged basis e ps s None = by_rest basis e ps (division.remainder s)
  imaged basis e ps s (Some (x, u)) = goes (Did x) (imaging basis e ps u)

  unfoldable pub taken : List (Terms Fraction) → Rests → List ℕ → List (List ℕ)
      → division.State Fraction → Option (Event × division.State Fraction) → Next
  taken basis rs m ms s None = from_rests basis ((m, division.remainder s) ∷ rs) ms
  taken basis rs m ms s (Some (x, u)) = goes (Did x) (resting basis rs m ms u)

  unfoldable pub next : State → Next
  next fresh = from_fresh j.target
  next (completing s) = completed s (next_extended s)
  next (imaging basis e ps s) = imaged basis e ps s (division.next rationals grevlex basis s)
  next (resting basis rs m ms s) = taken basis rs m ms s (division.next rationals grevlex basis s)

  abbrev pub move_of : Next → Option (Entry × State)
  move_of (goes e s) = Some (e, s)
  move_of kept = None
  move_of (rested basis rs) = None

  abbrev pub moves : State → Option (Entry × State)
  moves s = move_of (next s)
