-- What the analysis of a chain gives, loop by loop.
--   empty_journal limit                      the journal with which a loop, or the analysis behind its code, begins
--   code_operations program code      the operations by which the map of the code is formed; none where there is no code
--   operations_at c j                 those of the code before the loop at the place j, and then those of the loop's maps
--   IsFormed c j                      no operation of these passes a limit, and each branch of the loop has a closed form
--   Reaches c budget j                the loops before the place j are analysed, each within the budget
--   InLoop c budget m j P             the journal m is that of the loop at the place j, whose analysis began with what is given to it, with the units that are left for it; P holds of these
--   InCode c budget m j P             it is that of the code before this loop, with the budget; P holds of the list that the loops before have ended with
--   copies_to c j                     how many copies of variables the codes before the loops up to the place j have
--   AreBases c budget n bases         so many loops are formed and analysed, each within the budget, and these are their lists
--   IsLast c budget n m bases         m is the journal of the last of them
--   HasWorked c budget m j            the entries of m are none, or follow the loop at the place j, or are a beginning of those of the code before it
--   IsRefusedAt c budget m j e        what the refusal e tells of the loop at the place j, and of the journal m
--   IsRefusedIn c budget m r          what the refusal r tells of the chain and of the journal m; the loops before are formed and analysed
use Rattle.std.specs.Prelude.{◌≡◌, ◌⊎◌, ℕ, zero, suc, ◌+◌, ◌*◌, ◌<◌, ◌≤◌, List, [], ◌∷◌, ◌++◌, length, get_or, Option, None, ⊤}
use Rattle.std.specs.Global.{Vec}
use Rattle.algebra.specs.Fraction.{Fraction}
use Rattle.polynomials.specs.Terms.{Terms}
use Rattle.machines.specs.Journal.{Journal}
use Rattle.loops.specs.Program.{Expr, Program, Statement}
use Rattle.poly.specs.Seen.{terms_each}
use Rattle.loop_model.specs.FracPoly.{FracPoly}
use Rattle.loop_model.specs.Operations.{Operation, IsFree}
use Rattle.ideal_ops.specs.Calls.{AreOver}
use Rattle.journal.specs.View as view
use Rattle.rounds.specs.Journal.{IsFinishedBy, IsOutFrom}
use Rattle.corollaries.specs.Between.{IsExhaustedLeading, IsPastLeading, HasMapped}
use Rattle.loops.specs.Chain.{Chain, code_at, loop_at}
use Rattle.corollaries.specs.Analysed.{Analysed, GivenTo}
use Rattle.corollaries.specs.CodeBetween.{copies}
use Rattle.loop_model.specs.Maps.{branch_operations, maps_operations}
use Rattle.invariant_fix.specs.Refusals.{AllHaveForms, IfUnformedBy, HasLongFrom, HasStoppedFrom, HasFollowedFrom}
use Rattle.invariant_fix.specs.declared.errors.AnalyseError.TheVariants as error
use Rattle.invariant_fix.specs.declared.refused.LoopError.{LoopError}
use Rattle.invariant_fix.specs.declared.refused.LoopError.TheVariants.{Analysis, Between}
use Rattle.invariant_fix.specs.declared.refused.Refused.{Refused}

abbrev pub empty_journal : ℕ → Journal
empty_journal limit = record { limit = limit; entries = [] }

abbrev pub code_operations : Program (Expr ℕ) → List (Statement (Expr ℕ)) → List Operation
code_operations program [] = []
code_operations program (a ∷ code) = branch_operations program (a ∷ code)

module _ (c : Chain (Expr ℕ)) where
  abbrev pub operations_at : ℕ → List Operation
  operations_at j = code_operations c.first (code_at c j) ++ maps_operations (loop_at c j)

  abbrev pub IsFormed : ℕ → Type 0
  IsFormed j = IsFree (length c.first.names) (operations_at j) × AllHaveForms (loop_at c j)

  abbrev pub Reaches : ℕ → ℕ → Type 0
  Reaches budget zero = ⊤
  Reaches budget (suc j) = (gs : List (Terms Fraction)) × Analysed c budget j gs

  module _ (budget : ℕ) (m : Journal) (j : ℕ) where
    pub record InLoop (P : ℕ → Option (List (Terms Fraction)) → Type 0) : Type 0 where
      pub left : ℕ
      pub given : Option (List (Terms Fraction))
      pub known : GivenTo c budget j left given
      pub limit : m.limit ≡ left
      pub so : P left given

    pub record InCode (P : List (Terms Fraction) → Type 0) : Type 0 where
      pub place : ℕ
      pub is : j ≡ suc place
      pub list : List (Terms Fraction)
      pub analysed : Analysed c budget place list
      pub limit : m.limit ≡ budget
      pub so : P list

    abbrev pub HasWorked : Type 0
    HasWorked =
        InLoop (λ left given. HasFollowedFrom (loop_at c j) given m.entries)
        ⊎ InCode (λ gs. (m.entries ≡ []) ⊎ HasMapped c.first (code_at c j) gs m.entries)

    abbrev pub IsRefusedAt : LoopError → Type 0
    IsRefusedAt (Analysis (error.Map e)) =
        (m ≡ empty_journal budget) × IfUnformedBy (loop_at c j) (operations_at j) (error.Map e)
    IsRefusedAt (Analysis (error.Branch b e)) =
        (m ≡ empty_journal budget) × IfUnformedBy (loop_at c j) (operations_at j) (error.Branch b e)
    IsRefusedAt (Analysis (error.Limit task)) =
        IsFormed j
        × InLoop (λ left given. HasLongFrom (loop_at c j) given (view.task_of task) m.entries)
    IsRefusedAt (Analysis (error.Wide task)) =
        IsFormed j
        × InLoop (λ left given. HasStoppedFrom (loop_at c j) given (view.task_of task) m.entries)
    IsRefusedAt (Analysis error.Budget) =
        IsFormed j
        × (InLoop (λ left given. IsOutFrom (loop_at c j) given None left m.entries)
        ⊎ InCode (λ gs. IsExhaustedLeading c.first (code_at c j) gs budget m.entries))
    IsRefusedAt (Analysis error.Memory) = HasWorked
    IsRefusedAt Between =
        IsFormed j × InCode (λ gs. IsPastLeading c.first (code_at c j) gs m.entries)

unfoldable pub copies_to : Chain (Expr ℕ) → ℕ → ℕ
copies_to c zero = 0
copies_to c (suc j) = copies_to c j + copies (length c.first.names) (code_at c (suc j))

module _ (c : Chain (Expr ℕ)) (budget : ℕ) where
  pub record AreBases (n : ℕ) (bases : List (Vec FracPoly)) : Type 0 where
    pub count : length bases ≡ n
    pub formed : (j : ℕ) → j < n → IsFormed c j
    pub analysed : (j : ℕ) (d : Vec FracPoly) → j < n
        → Analysed c budget j (terms_each (get_or bases j d).items)
    pub over : (j : ℕ) (d : Vec FracPoly) → j < n
        → AreOver (length c.first.names) (get_or bases j d).items
    pub few : (j : ℕ) (d : Vec FracPoly) → j < n
        → length (get_or bases j d).items
        ≤ length c.first.names + copies_to c j + suc j * budget

  pub record IsLast (n : ℕ) (m : Journal) (bases : List (Vec FracPoly)) : Type 0 where
    pub place : ℕ
    pub is : n ≡ suc place
    pub rounds : ℕ
    pub done : (d : Vec FracPoly) → InLoop c budget m place (λ left given.
        IsFinishedBy (loop_at c place) given m.entries rounds
        (terms_each (get_or bases place d).items))

  pub record IsRefusedIn (m : Journal) (r : Refused) : Type 0 where
    pub within : r.place ≤ length c.further
    pub before : (j : ℕ) → j < r.place → IsFormed c j
    pub reached : Reaches c budget r.place
    pub refused : IsRefusedAt c budget m r.place r.error
