-- The task between two loops, where code stands: from what is known before the code comes what is known behind it. The copies are eliminated from the list of
-- the code, completed in the order that has them first; what is free of them is tidied. Where there is no code there is no such task.
--   code_order m code             the order of monomials with the copies first
--   starting program code gs      the list of the code, its elements with like terms collected in this order
--   value_at_code program code y  the code's polynomial for the variable y, with like terms collected
--   IsPastMaking program code gs  the weight of a composition or of a difference that makes an element of it is past
--   between program code gs       the elimination, as a machine, with the making of that list;  list_of m code s: its list in the state s
--   Leads program code gs es ks   the entries es are those of the elimination from the basis gs, which has ended with the list ks
--   IsMapped program code gs es ks   where there is code this is so; without code there are no entries, and ks is gs
--   IsExhaustedLeading program code gs limit es   there is code, the entries es are a beginning of that, have as many units as the limit, and what comes next is a unit
--   IsPastLeading program code gs es      there is code, and the weight of making its list is past; or the es are a beginning of that, and the weight of what comes next is
--   HasMapped program code gs es     the es are a beginning of that, or none
use Rattle.std.specs.Prelude.{◌≡◌, ◌⊎◌, ◌+◌, ℕ, List, [], ◌∷◌, map, get_or, length}
use Rattle.std.specs.List.{Any}
use Rattle.algebra.specs.Fraction.{Fraction, fractions, rationals}
use Rattle.polynomials.specs.Order.{Rank, grevlex, blocks}
use Rattle.polynomials.specs.Terms.{Terms}
use Rattle.polynomials.specs.Weight.{IsPastComposition, IsPastSum}
use Rattle.machines.specs.Collect.{collect}
use Rattle.machines.specs.Elimination as elimination
use Rattle.machines.specs.Elimination.{free_part}
use Rattle.machines.specs.Journal.{Entry}
use Rattle.machines.specs.Machine.{Machine}
use Rattle.machines.specs.Machines as machines
use Rattle.machines.specs.Work.{WorkFrom, WorkToEnd, IsExhausted, PastAfter}
use Rattle.loops.specs.Map.{branch_map}
use Rattle.loops.specs.Program.{Expr, Program, Statement}
use Rattle.corollaries.specs.CodeBetween.{variable_of, assigned_variables, copies, was, of_what_was, code_list}

module _ {E : Type 0} (m : ℕ) (code : List (Statement E)) where
  abbrev pub code_order : Rank
  code_order = blocks (copies m code) grevlex grevlex

  abbrev pub list_of : elimination.State Fraction → List (Terms Fraction)
  list_of s = elimination.list_of grevlex (free_part (copies m code)) s

module _ {At : Type 0} (program : Program (Expr At)) (code : List (Statement (Expr At))) where
  abbrev pub starting : List (Terms Fraction) → List (Terms Fraction)
  starting gs =
      map (collect rationals (code_order (length program.names) code)) (code_list program code gs)

  abbrev pub value_at_code : ℕ → Terms Fraction
  value_at_code y = collect rationals grevlex (get_or (branch_map program code) y [])

  abbrev pub IsPastDifference : ℕ → Type 0
  IsPastDifference y =
      let m = length program.names in
      IsPastComposition fractions (value_at_code y) (was m code)
      ⊎ IsPastSum fractions (variable_of (copies m code + m) (copies m code + y))
      (collect rationals grevlex (of_what_was program code (value_at_code y)))

  abbrev pub IsPastMaking : List (Terms Fraction) → Type 0
  IsPastMaking gs =
      Any (λ g. IsPastComposition fractions g (was (length program.names) code)) gs
      ⊎ Any IsPastDifference (assigned_variables (length program.names) code)

  abbrev pub code_elimination : List (Terms Fraction) → Machine (elimination.State Fraction)
  code_elimination gs =
      machines.elimination fractions (code_order (length program.names) code) grevlex
      (free_part (copies (length program.names) code)) (starting gs)

  abbrev pub between : List (Terms Fraction) → Machine (elimination.State Fraction)
  between gs = record {
    start = (code_elimination gs).start;
    next = (code_elimination gs).next;
    IsPastNext = (code_elimination gs).IsPastNext;
    IsPastStart = IsPastMaking gs ⊎ (code_elimination gs).IsPastStart;
  }

  pub record Leads (gs : List (Terms Fraction)) (es : List Entry)
      (ks : List (Terms Fraction)) : Type 0 where
    pub last : elimination.State Fraction
    pub finished : WorkToEnd (between gs).next (between gs).start [] es last
    pub list : ks ≡ list_of (length program.names) code last

module _ {At : Type 0} (program : Program (Expr At)) where
  abbrev pub IsMapped : List (Statement (Expr At)) → List (Terms Fraction) → List Entry
      → List (Terms Fraction) → Type 0
  IsMapped [] gs es ks = (es ≡ []) × (ks ≡ gs)
  IsMapped (a ∷ code) gs es ks = Leads program (a ∷ code) gs es ks

  abbrev pub IsExhaustedLeading : List (Statement (Expr At)) → List (Terms Fraction) → ℕ
      → List Entry
      → Type 0
  IsExhaustedLeading [] gs limit es = ⊥
  IsExhaustedLeading (a ∷ code) gs limit es =
      let M = between program (a ∷ code) gs in IsExhausted M.next M.start limit [] es

  abbrev pub IsPastLeading : List (Statement (Expr At)) → List (Terms Fraction) → List Entry
      → Type 0
  IsPastLeading [] gs es = ⊥
  IsPastLeading (a ∷ code) gs es =
      let M = between program (a ∷ code) gs in
      PastAfter M.next M.IsPastNext M.start [] es ⊎ ((es ≡ []) × M.IsPastStart)

  abbrev pub HasMapped : List (Statement (Expr At)) → List (Terms Fraction) → List Entry → Type 0
  HasMapped [] gs es = ⊥
  HasMapped (a ∷ code) gs es =
      let M = between program (a ∷ code) gs in WorkFrom M.next M.start [] es
