-- The search of the greatest family, as a machine: states are offered to nodes until enough runs bring none that counts; then the transitions are gone through until of each all rests are 0.
--   State                 what each node keeps; which transitions, by their places, are done; how many runs were made; how many of the last, before the transitions and behind them, brought no row that counted
--   first_state           node 0 has the empty list, and the others have nothing
--   Part                  a run begins; a state is offered to a node, and its row counts; a node's listing is made; a transition is done; rows of its rests count; none of them does, where the target has no list; where it is finished, a run begins, and the row of a state counts without those of rests
--   after_part G s part      the state after a part
--   IsBasisFor G t gs basis     a Gröbner basis, in whose ideal the list gs is, with the unknowns of t in front, and the zeros of t
--   IsNextTransition G s i t    t is the first transition, at the place i, that isn't done and whose source has a list
--   IsPart G d q s part   what the part takes
--   IsSearch G d q parts  the parts, the latest first, are those of a search;  state_of G parts: its state
--   IsFinished G s        each transition is done, and each node has a list
--   HasEnded G s          and enough runs more were made, or no node has tests
--   IsCompleteAt G d q s v       the rows of states alone tell the list at v
--   list_at s v           the list of a node
use Rattle.std.specs.Prelude.{◌≡◌, ◌≢◌, ℕ, suc, ◌+◌, ◌<◌, ℤ, pos, Bool, true, false, ◌||◌, cond, eqb, List, [], ◌∷◌, ◌++◌, map, slice_get, Option, Some, None}
use Rattle.algebra.specs.Each.{Each}
use Rattle.algebra.specs.Fraction.{Fraction, ℚ, rationals}
use Rattle.polynomials.specs.Order.{grevlex}
use Rattle.polynomials.specs.Polynomial.{AllArity}
use Rattle.polynomials.specs.Terms.{Terms}
use Rattle.ideals.specs.Members.{IsMember}
use Rattle.machines.specs.Basis.{IsBasisOf}
use Rattle.closures.specs.Modulo.{AreResidues, IsCombinationModulo}
use Rattle.closures.specs.Monomials.{monomials_up_to}
use Rattle.flows.specs.Graph.{Transition, Graph}
use Rattle.flows.specs.Family.{Family, after, generators}
use Rattle.flows.specs.Known.{Test}
use Rattle.flows.specs.Kept.{Listing, unlisted, listed, untold, Node, IsRowOfRests, IsExact}
use Rattle.flows.specs.Rows.{state_row}
use Rattle.flows.specs.Runs.{Offer, IsOffer, offered}
use Rattle.flows.specs.Told.{HasResidues, IsToldBy}

abbrev pub most_idle : ℕ
most_idle = 16

pub record State : Type 0 where
  pub nodes : ℕ → Node
  pub done : ℕ → Bool
  pub runs : ℕ
  pub idle : ℕ
  pub idle_again : ℕ

abbrev pub empty : Listing → Node
empty l = record { states = []; tests = []; rows = []; alone = []; listing = l }

abbrev pub first_state : State
first_state = record {
  nodes = λ v. empty (cond (eqb v 0) (listed []) unlisted);
  done = λ i. false;
  runs = 0;
  idle = 0;
  idle_again = 0;
}

pub data Part : Type 0 where
  begins : Part
  offers : (v : ℕ) → Offer → List ℤ → Part
  lists : (v : ℕ) → Listing → Part
  keeps : (i : ℕ) → Transition → Part
  rests : (i : ℕ) → Test → List (List ℤ) → Part
  lacks : (i : ℕ) → Test → Part
  begins_again : Part
  adds : (v : ℕ) → Offer → List ℤ → Part

-- ---- what a part makes of a state
abbrev pub with_node : ℕ → Node → (ℕ → Node) → ℕ → Node
with_node v x nodes w = cond (eqb w v) x (nodes w)

abbrev pub with_done : ℕ → (ℕ → Bool) → ℕ → Bool
with_done i done j = cond (eqb j i) true (done j)

abbrev pub joins : ℕ → Option Transition → Bool
joins v None = false
joins v (Some t) = eqb t.from v || eqb t.to v

abbrev pub with_state : List Fraction → List ℤ → Node → Node
with_state z row x = record {
  states = x.states ++ z ∷ [];
  tests = x.tests;
  rows = x.rows ++ row ∷ [];
  alone = x.alone ++ row ∷ [];
  listing = unlisted;
}

abbrev pub with_alone : List ℤ → Node → Node
with_alone row x = record {
  states = x.states;
  tests = x.tests;
  rows = x.rows;
  alone = x.alone ++ row ∷ [];
  listing = x.listing;
}

abbrev pub with_test : Test → List (List ℤ) → Node → Node
with_test y rows x = record {
  states = x.states;
  tests = x.tests ++ y ∷ [];
  rows = x.rows ++ rows;
  alone = x.alone;
  listing = unlisted;
}

abbrev pub with_listing : Listing → Node → Node
with_listing l x = record {
  states = x.states;
  tests = x.tests;
  rows = x.rows;
  alone = x.alone;
  listing = l;
}

abbrev pub elements : Listing → List (Terms Fraction)
elements unlisted = []
elements (listed gs) = gs
elements (untold e) = []

abbrev pub list_at : State → Family
list_at s v = elements (let x = s.nodes v in x.listing)

module _ (G : Graph) where
  -- what was done at a node isn't any more
  abbrev pub less_done : ℕ → (ℕ → Bool) → ℕ → Bool
  less_done v done i = cond (joins v (slice_get G.transitions i)) false (done i)

  unfoldable pub after_part : State → Part → State
  after_part s begins = record {
    nodes = s.nodes;
    done = s.done;
    runs = suc s.runs;
    idle = suc s.idle;
    idle_again = s.idle_again;
  }
  after_part s (offers v o row) = record {
    nodes = with_node v (with_state (offered o) row (s.nodes v)) s.nodes;
    done = less_done v s.done;
    runs = s.runs;
    idle = 0;
    idle_again = s.idle_again;
  }
  after_part s (lists v l) = record {
    nodes = with_node v (with_listing l (s.nodes v)) s.nodes;
    done = s.done;
    runs = s.runs;
    idle = s.idle;
    idle_again = s.idle_again;
  }
  after_part s (keeps i t) = record {
    nodes = s.nodes;
    done = with_done i s.done;
    runs = s.runs;
    idle = s.idle;
    idle_again = s.idle_again;
  }
  after_part s (rests i y rows) = record {
    nodes = with_node y.transition.to (with_test y rows (s.nodes y.transition.to)) s.nodes;
    done = less_done y.transition.to s.done;
    runs = s.runs;
    idle = s.idle;
    idle_again = s.idle_again;
  }
  after_part s (lacks i y) = record {
    nodes = s.nodes;
    done = with_done i s.done;
    runs = s.runs;
    idle = s.idle;
    idle_again = s.idle_again;
  }
  after_part s begins_again = record {
    nodes = s.nodes;
    done = s.done;
    runs = suc s.runs;
    idle = s.idle;
    idle_again = suc s.idle_again;
  }
  after_part s (adds v o row) = record {
    nodes = with_node v (with_alone row (s.nodes v)) s.nodes;
    done = s.done;
    runs = s.runs;
    idle = s.idle;
    idle_again = 0;
  }

  unfoldable pub state_of : List Part → State
  state_of [] = first_state
  state_of (part ∷ parts) = after_part (state_of parts) part

  pub record IsBasisFor (t : Transition) (gs basis : List (Terms Fraction)) : Type 0 where
    pub arity : AllArity (t.unknowns + G.variables) basis
    pub is : IsBasisOf rationals grevlex (t.unknowns + G.variables) basis basis
    pub has : Each (IsMember ℚ (t.unknowns + G.variables) basis) (generators t (λ v. gs))

  -- ---- what comes next
  pub record IsOpen (s : State) (i : ℕ) (t : Transition) : Type 0 where
    pub at : slice_get G.transitions i ≡ Some t
    pub undone : s.done i ≡ false
    pub list : List (Terms Fraction)
    pub source : (let x = s.nodes t.from in x.listing) ≡ listed list

  pub record IsNextTransition (s : State) (i : ℕ) (t : Transition) : Type 0 where
    pub enough : s.idle ≡ most_idle
    pub is : IsOpen s i t
    pub first : (j : ℕ) → j < i → (u : Transition) → ¬ (IsOpen s j u)

  pub record IsFinished (s : State) : Type 0 where
    pub enough : s.idle ≡ most_idle
    pub done : (i : ℕ) (t : Transition) → slice_get G.transitions i ≡ Some t → s.done i ≡ true
    pub lists : (v : ℕ) → v < G.nodes → (let x = s.nodes v in x.listing) ≡ listed (list_at s v)

  -- runs behind the transitions
  pub record IsNextAgain (s : State) : Type 0 where
    pub finished : IsFinished s
    pub goes_on : s.idle_again < most_idle
    pub node : ℕ
    pub within : node < G.nodes
    pub some : (let x = s.nodes node in x.tests) ≢ []

  pub record HasEnded (s : State) : Type 0 where
    pub finished : IsFinished s
    pub none : ¬ (IsNextAgain s)

module _ (G : Graph) (d q : ℕ) where
  abbrev pub monomials : List (List ℕ)
  monomials = monomials_up_to G.variables d

  -- each row is no combination of those before
  unfoldable pub Count : List (List ℤ) → List (List ℤ) → Type 0
  Count before [] = Unit {0}
  Count before (row ∷ rows) =
      ¬ (IsCombinationModulo (pos q) before row) × Count (before ++ row ∷ []) rows

  pub record OffersState (s : State) (v : ℕ) (o : Offer) (row : List ℤ) : Type 0 where
    pub some : 0 < v
    pub within : v < G.nodes
    pub offer : IsOffer G v o
    pub none : (let x = s.nodes v in x.tests) ≡ []
    pub residues : AreResidues (pos q) (map (state_row (offered o)) monomials) row
    pub counts : Count (let x = s.nodes v in x.rows) (row ∷ [])

  pub record MakesListing (s : State) (v : ℕ) (l : Listing) : Type 0 where
    pub some : 0 < v
    pub within : v < G.nodes
    pub before : (let x = s.nodes v in x.listing) ≡ unlisted
    pub told : (gs : List (Terms Fraction)) → l ≡ listed gs
        → IsToldBy G.variables d q monomials (let x = s.nodes v in x.rows) gs

  pub record AddsState (s : State) (v : ℕ) (o : Offer) (row : List ℤ) : Type 0 where
    pub finished : IsFinished G s
    pub some : 0 < v
    pub within : v < G.nodes
    pub offer : IsOffer G v o
    pub tests : (let x = s.nodes v in x.tests) ≢ []
    pub residues : AreResidues (pos q) (map (state_row (offered o)) monomials) row
    pub counts : Count (let x = s.nodes v in x.alone) (row ∷ [])

  abbrev pub IsCompleteAt : State → ℕ → Type 0
  IsCompleteAt s v = IsToldBy G.variables d q monomials (let x = s.nodes v in x.alone) (list_at s v)

  -- the rests of the target's elements are 0
  pub record KeepsTarget (s : State) (i : ℕ) (t : Transition) : Type 0 where
    pub next : IsNextTransition G s i t
    pub target : (let x = s.nodes t.to in x.listing) ≡ listed (list_at s t.to)
    pub kept : Each (λ p. IsMember ℚ (t.unknowns + G.variables) (generators t (list_at s))
        (after G.variables t p)) (list_at s t.to)

  -- the rests of the monomials, by a basis for the source's list
  pub record TakesRests (s : State) (i : ℕ) (y : Test) : Type 0 where
    pub next : IsNextTransition G s i y.transition
    pub why : ¬ (KeepsTarget s i y.transition)
    pub some : 0 < y.transition.to
    pub basis : IsBasisFor G y.transition (list_at s y.transition.from) y.basis
    pub exact : IsExact G d (s.nodes y.transition.from) (list_at s y.transition.from)

  pub record CountsRests (s : State) (i : ℕ) (y : Test) (rows : List (List ℤ)) : Type 0 where
    pub takes : TakesRests s i y
    pub are : Each (HasResidues (IsRowOfRests G d y) (pos q) monomials) rows
    pub count : Count (let x = s.nodes y.transition.to in x.rows) rows
    pub new : rows ≢ []

  pub record LacksRests (s : State) (i : ℕ) (y : Test) : Type 0 where
    pub takes : TakesRests s i y
    pub lead : List ℕ
    pub target : (let x = s.nodes y.transition.to in x.listing) ≡ untold lead
    pub none : (row : List ℤ) → HasResidues (IsRowOfRests G d y) (pos q) monomials row
        → IsCombinationModulo (pos q) (let x = s.nodes y.transition.to in x.rows) row

  unfoldable pub IsPart : State → Part → Type 0
  IsPart s begins = s.idle < most_idle
  IsPart s (offers v o row) = OffersState s v o row
  IsPart s (lists v l) = MakesListing s v l
  IsPart s (keeps i t) = KeepsTarget s i t
  IsPart s (rests i y rows) = CountsRests s i y rows
  IsPart s (lacks i y) = LacksRests s i y
  IsPart s begins_again = IsNextAgain G s
  IsPart s (adds v o row) = AddsState s v o row

  unfoldable pub IsSearch : List Part → Type 0
  IsSearch [] = Unit {0}
  IsSearch (part ∷ parts) = IsSearch parts × IsPart (state_of G parts) part
