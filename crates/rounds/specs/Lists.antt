-- The lists that an analysis has given so far, at each of its states, by the polynomials that they are the reduced bases of. What these
-- are is told by P along the words of a set, and by Q along all words: from the starts the polynomials that are zero at the ends of runs,
-- from a list those that stay in its ideal. `since` is for each branch, by its number from 0, the number of iterations from which on its closed form is the state.
--   IsBasisOf program P gs           gs is the reduced basis of the polynomials for which P holds
--   AreAll k                         what P says of level k, Q says of all
--   HasPassed k gs b i               the elements of gs before the place i are, after an iteration of branch b, those of level k, and so are all after a
--                                    iteration of a branch before b; branches and places count from 0
--   IsRoundAfter k gs                the round k follows one with the list gs, whose level hasn't only those of all words yet
--   IsListOf k R gs hs               so, and hs is a list of that round: of the level before and then iterations of which R holds
--   AreOfWork w                      that is so of the lists that the work w is of: the list so far after the branches before, and some iterations of this one; that of
--                                    the iterations taken one by one, and of one more; and an orbit's
--   AreGiven s                       so of the lists in the state s; in a closing test the tests before it have passed, and behind the last test all have
--   AreInvariants program since s    so from the starts: bases of invariants
--   AreKept program firsts since s   so from a list that is given: bases of what the loop keeps of its ideal
use Rattle.std.specs.Prelude.{◌≡◌, ◌⊎◌, ℕ, suc, pred, ◌<◌, List, [], get_or, length, ⊤}
use Rattle.algebra.specs.Fraction.{Fraction, ℚ, rationals}
use Rattle.polynomials.specs.Terms.{Terms}
use Rattle.polynomials.specs.Polynomial.{Arity}
use Rattle.polynomials.specs.Order.{grevlex}
use Rattle.ideals.specs.Members.{IsMember}
use Rattle.machines.specs.Reduced.{IsReducedFor}
use Rattle.loops.specs.Program.{Expr, Program}
use Rattle.loops.specs.Inv.{Inv}
use Rattle.rounds.specs.Word.{AtMost, Ending, Iterations, LaterIterations, FirstIterations, Stays, after_iteration}
use Rattle.rounds.specs.Level.{IsZeroAfter}
use Rattle.rounds.specs.Kept.{IsKept}
use Rattle.rounds.specs.Analysis.{Work, starts, iteration, iteration_meet, orbit, meet, State, fresh, working, closing, turning, asking}

abbrev pub IsBasisOf : {At : Type 0} → Program (Expr At) → (Terms Fraction → Type 0)
    → List (Terms Fraction) → Type 0
IsBasisOf program P gs = IsReducedFor rationals grevlex (length program.names) gs P

module _ {At : Type 0} (program : Program (Expr At)) (P : (List ℕ → Type 0) → Terms Fraction
    → Type 0) (Q : Terms Fraction → Type 0) (since : ℕ → ℕ) where
  abbrev pub AreAll : ℕ → Type 0
  AreAll k = (p : Terms Fraction) → Arity (length program.names) p → P (AtMost k) p → Q p

  pub record HasPassed (k : ℕ) (gs : List (Terms Fraction)) (b i : ℕ) : Type 0 where
    pub passed : (c j : ℕ) → (c < b) ⊎ ((c ≡ b) × (j < i)) → j < length gs
        → P (AtMost k) (after_iteration program (suc c) (get_or gs j []))

  pub record IsRoundAfter (k : ℕ) (gs : List (Terms Fraction)) : Type 0 where
    pub before : ℕ
    pub number : k ≡ suc before
    pub basis : IsBasisOf program (P (AtMost before)) gs
    pub more : ¬ (AreAll before)

  pub record IsListOf (k : ℕ) (R : ℕ → ℕ → Type 0) (gs hs : List (Terms Fraction)) : Type 0 where
    pub round : IsRoundAfter k gs
    pub basis : IsBasisOf program (P (Ending round.before R)) hs

  abbrev pub AreOfWork : Work → Type 0
  AreOfWork starts = ⊤
  AreOfWork (iteration k b n gs ks hs) =
      IsListOf k (FirstIterations b n) gs hs × IsListOf k (Iterations (suc b) n) gs ks
  AreOfWork (iteration_meet k b n gs hs ks) =
      IsListOf k (FirstIterations b n) gs hs × IsListOf k (Iterations (suc b) (suc n)) gs ks
  AreOfWork (orbit k b gs hs) = IsListOf k (FirstIterations b (pred (since b))) gs hs
  AreOfWork (meet k b gs hs ks) =
      IsListOf k (FirstIterations b (pred (since b))) gs hs
      × IsListOf k (LaterIterations (suc b) (since b)) gs ks

  abbrev pub AreGiven : State → Type 0
  AreGiven fresh = ⊤
  AreGiven (working w s) = AreOfWork w
  AreGiven (closing k b i gs s) = IsBasisOf program (P (AtMost k)) gs × HasPassed k gs b i
  AreGiven (turning k gs) = IsRoundAfter k gs
  AreGiven (asking k gs s) = IsBasisOf program (P (AtMost k)) gs × IsBasisOf program Q gs

abbrev pub AreInvariants : {At : Type 0} → Program (Expr At) → (ℕ → ℕ) → State → Type 0
AreInvariants program since s = AreGiven program (IsZeroAfter program) (Inv program) since s

abbrev pub AreKept : {At : Type 0} → Program (Expr At) → List (Terms Fraction) → (ℕ → ℕ) → State
    → Type 0
AreKept program firsts since s =
    AreGiven program (Stays program (IsMember ℚ (length program.names) firsts))
    (IsKept program firsts) since s
