-- The divisions that prove a closed list, as the code makes them, and the certificate that they give.
--   certificate_of d                  the certificate of the elements and the cofactors of d
--   IsSquare m n rows, FitsProof m d  n lists of n polynomials in m variables; those of d are so
--   program_by p, list_by p, closure_by p     the program of a proof in work, its list, and the closed list
--   FitsElements m closure e          the list of e and the closure are of polynomials in m variables, and the closure stands in the list, at the places of e
--   IsInWork p                        those of the proof in work p are so
--   test_at letter place bs           the test of the element of bs at this place, counted from 0
--   proving_division gs p Past        the division of p by the gs, as a machine whose start is made by a composition, which is past where Past
--   iteration_test g images gs             that of g with the images for its variables
--   IsRow, AreRows                    the row of an element, by its place, and those of all
--   PastTest, FollowsTests            in the division of the element with the branch, both told by their numbers, what comes next is past, or making its start is; the entries follow some of the divisions
--   IfStopped program P gs bs limit es e     the cause of the refusal e, by the list bs: one of these, or as many of the entries are units as the limit, and what comes next is one
--   Passes program P gs bs w limit es r      the entries lead to where the tests w come next; or it stops so
--   HasProof program P gs es d        the list of d is P and those of gs that aren't in it, the entries follow the closing of P, which ends with gs, through all its divisions, and the cofactors are theirs
--   IsStopped program P gs limit es e      so, by the certificate's list: the entries follow the closing of P, which ends with gs, and some of its divisions, up to the refusal e
--   IfUnproved program P gs limit es e     the cause of the refusal e
use Rattle.std.specs.Prelude.{◌≡◌, ◌≢◌, ◌⊎◌, ◌<◌, ℕ, suc, List, [], get_or, length, map, Result, Ok, Err}
use Rattle.std.specs.List.{All}
use Rattle.std.specs.Global.{Vec}
use Rattle.algebra.specs.Fraction.{Fraction, ℚ, rationals, fractions}
use Rattle.polynomials.specs.Order.{grevlex}
use Rattle.polynomials.specs.Terms.{Terms, compose}
use Rattle.polynomials.specs.Weight.{IsPastComposition}
use Rattle.machines.specs.Collect.{collect}
use Rattle.machines.specs.Division as division
use Rattle.machines.specs.Journal.{Entry}
use Rattle.machines.specs.Machine.{Machine}
use Rattle.machines.specs.Past as past
use Rattle.machines.specs.Reduced.{Ascends}
use Rattle.loops.specs.Certificate.{Certificate}
use Rattle.loops.specs.Program.{Expr, Program}
use Rattle.poly.specs.Seen.{terms_in, terms_each}
use Rattle.divide.specs.Limits.{list_limit}
use Rattle.loop_model.specs.FracPoly.{FracPoly}
use Rattle.ideal_ops.specs.Calls.{AreOver}
use Rattle.closures.specs.Certified.{StandAt, IsListOf, IsRowOf, IsProofBy}
use Rattle.closures.specs.Closing.{closed}
use Rattle.closures.specs.Ends.{ComesNext}
use Rattle.closures.specs.Proving.{Test, State, AwaitsTests, FollowsProof, IsOutProof, IsPastProof}
use Rattle.closing.specs.declared.listing.Elements.{Elements}
use Rattle.closing.specs.LoopMaps.{program_in, arity_in}
use Rattle.closing.specs.declared.proving.ClosureProof.{ClosureProof}
use Rattle.closing.specs.declared.proving.ProofInWork.{ProofInWork}
use Rattle.closing.specs.declared.proving.ProvingError.{ProvingError}
use Rattle.closing.specs.declared.proving.ProvingError.TheVariants.{Wide, Budget, Memory}

abbrev pub seen_rows : List (Vec FracPoly) → List (List (Terms Fraction))
seen_rows rows = map (λ (row : Vec FracPoly). terms_each row.items) rows

abbrev pub certificate_of : ClosureProof → Certificate
certificate_of d = record {
  basis = terms_each d.list.items;
  steps = map (λ (rows : Vec (Vec FracPoly)). seen_rows rows.items) d.steps.items;
}

pub record IsSquare (m n : ℕ) (rows : List (Vec FracPoly)) : Type 0 where
  pub height : length rows ≡ n
  pub widths : All (λ (row : Vec FracPoly). length row.items ≡ n) rows
  pub arities : All (λ (row : Vec FracPoly). AreOver m row.items) rows

pub record FitsProof (m : ℕ) (d : ClosureProof) : Type 0 where
  pub arity : AreOver m d.list.items
  pub squares : All (λ (rows : Vec (Vec FracPoly)). IsSquare m (length d.list.items) rows.items)
      d.steps.items

pub record FitsElements (m : ℕ) (closure : List FracPoly) (e : Elements) : Type 0 where
  pub over : AreOver m e.list.items
  pub many : length e.list.items < list_limit
  pub closure_over : AreOver m closure
  pub nonzero : All (λ g. terms_in g ≢ []) closure
  pub few : length closure < list_limit
  pub ascends : Ascends grevlex (terms_each closure)
  pub count : length e.places.items ≡ length closure
  pub stand : StandAt (terms_each e.list.items) (terms_each closure) e.places.items

abbrev pub program_by : ProofInWork → Program (Expr ℕ)
program_by p = program_in p.loop_maps.now

abbrev pub list_by : ProofInWork → List (Terms Fraction)
list_by p = terms_each p.elements.list.items

abbrev pub closure_by : ProofInWork → List (Terms Fraction)
closure_by p = terms_each p.closure.now

abbrev pub IsInWork : ProofInWork → Type 0
IsInWork p = FitsElements (arity_in p.loop_maps.now) p.closure.now p.elements

abbrev pub test_at : ℕ → ℕ → List FracPoly → Test
test_at letter place bs = record {
  branch = letter;
  number = suc place;
  element = get_or (terms_each bs) place [];
}

abbrev pub proving_division : List (Terms Fraction) → Terms Fraction → Type 0
    → Machine (division.State Fraction)
proving_division gs p Past = record {
  start = division.initial_state gs p;
  next = division.next rationals grevlex gs;
  IsPastNext = past.IsPastDivision fractions rationals gs;
  IsPastStart = Past;
}

abbrev pub iteration_test : FracPoly → List FracPoly → List FracPoly
    → Machine (division.State Fraction)
iteration_test g images gs =
    proving_division (terms_each gs)
    (collect rationals grevlex (compose ℚ g.arity (terms_in g) (terms_each images)))
    (IsPastComposition fractions (terms_in g) (terms_each images))

module _ (program : Program (Expr ℕ)) (closure : List FracPoly) (e : Elements) (letter : ℕ) where
  abbrev pub IsRow : ℕ → List FracPoly → Type 0
  IsRow place row =
      IsRowOf program (terms_each closure) e.places.items (length (terms_each e.list.items)) letter
      (get_or (terms_each e.list.items) place []) (terms_each row)

  pub record AreRows (rows : List (List (Terms Fraction))) : Type 0 where
    pub count : length rows ≡ length e.list.items
    pub each : (i : ℕ) → i < length rows
        → IsRowOf program (terms_each closure) e.places.items (length (terms_each e.list.items))
        letter (get_or (terms_each e.list.items) i []) (get_or rows i [])

module _ (program : Program (Expr ℕ)) (P gs bs : List (Terms Fraction)) where
  pub record PastTest (es : List Entry) (branch number : ℕ) : Type 0 where
    pub test : Test
    pub is_branch : test.branch ≡ branch
    pub is_number : test.number ≡ number
    pub past : IsPastProof program P gs bs es test

  pub record FollowsTests (es : List Entry) : Type 0 where
    pub state : State
    pub follows : FollowsProof program P gs bs es state

  abbrev pub IfStopped : ℕ → List Entry → ProvingError → Type 0
  IfStopped limit es (Wide branch element) = PastTest es branch element
  IfStopped limit es Budget = IsOutProof program P gs bs limit es
  IfStopped limit es Memory = FollowsTests es

  abbrev pub Passes : {A : Type 0} → List Test → ℕ → List Entry → Result A ProvingError → Type 0
  Passes w limit es (Ok a) = AwaitsTests program P gs bs es w
  Passes w limit es (Err e) = IfStopped limit es e

module _ (program : Program (Expr ℕ)) (P gs : List (Terms Fraction)) where
  pub record HasProof (es : List Entry) (d : ClosureProof) : Type 0 where
    pub list : IsListOf P gs (terms_each d.list.items)
    pub ends : AwaitsTests program P gs (terms_each d.list.items) es []
    pub count : length d.steps.items ≡ length program.branches
    pub places : List ℕ
    pub proof : IsProofBy program gs places (certificate_of d)

  pub record IsStopped (limit : ℕ) (es : List Entry) (e : ProvingError) : Type 0 where
    pub list : List (Terms Fraction)
    pub is : IsListOf P gs list
    pub stopped : IfStopped program P gs list limit es e

  abbrev pub IfUnproved : ℕ → List Entry → ProvingError → Type 0
  IfUnproved limit es (Wide branch element) = IsStopped limit es (Wide branch element)
  IfUnproved limit es Budget = IsStopped limit es Budget
  IfUnproved limit es Memory = ComesNext program P es (closed gs) ⊎ IsStopped limit es Memory
