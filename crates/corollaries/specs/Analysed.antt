-- The analysis of a chain, loop by loop: each further loop's begins with what the code before it makes of the list that the one before ended with.
--   Analysed c budget j gs     the loops of c up to the place j have finished journals, each within the budget with that of the code before it, and the last one's list is gs
--   GivenTo c budget j left given   what is given to the analysis of the loop at the place j: nothing to the first, and to each further one what the code before it made of the list that those before have ended with; so many units of the budget are left
--   IsBasisOfChain c gs        gs is the reduced basis of the chain's invariants
use Rattle.std.specs.Prelude.{◌≡◌, ℕ, suc, ◌+◌, ◌≤◌, ◌<◌, List, length, Option, Some, None}
use Rattle.algebra.specs.Fraction.{Fraction, rationals}
use Rattle.polynomials.specs.Order.{grevlex}
use Rattle.polynomials.specs.Terms.{Terms}
use Rattle.machines.specs.Journal.{Entry, units_of}
use Rattle.machines.specs.Reduced.{IsReducedFor}
use Rattle.loops.specs.Program.{Expr}
use Rattle.rounds.specs.Journal.{IsFinished, IsFinishedFrom}
use Rattle.corollaries.specs.Between.{IsMapped}
use Rattle.loops.specs.Chain.{Chain, code_at, loop_at, ChainInv}

module _ {At : Type 0} (c : Chain (Expr At)) where
  pub data Analysed (budget : ℕ) : ℕ → List (Terms Fraction) → Type 0 where
    first : (es : List Entry) (k : ℕ) (gs : List (Terms Fraction)) → IsFinished c.first es k gs
        → units_of es ≤ budget → Analysed budget 0 gs
    further : (j : ℕ) (gs : List (Terms Fraction)) (fs : List Entry) (ks : List (Terms Fraction))
        (es : List Entry) (k : ℕ) (hs : List (Terms Fraction)) → Analysed budget j gs
        → j < length c.further → IsMapped c.first (code_at c (suc j)) gs fs ks
        → IsFinishedFrom (loop_at c (suc j)) ks es k hs → units_of fs + units_of es ≤ budget
        → Analysed budget (suc j) hs

  pub data GivenTo (budget : ℕ) : ℕ → ℕ → Option (List (Terms Fraction)) → Type 0 where
    at_first : GivenTo budget 0 budget None
    behind : (j : ℕ) (gs : List (Terms Fraction)) (fs : List Entry) (ks : List (Terms Fraction))
        (left : ℕ) → Analysed budget j gs → IsMapped c.first (code_at c (suc j)) gs fs ks
        → units_of fs + left ≡ budget → GivenTo budget (suc j) left (Some ks)

  abbrev pub IsBasisOfChain : List (Terms Fraction) → Type 0
  IsBasisOfChain gs = IsReducedFor rationals grevlex (length c.first.names) gs (ChainInv c)
