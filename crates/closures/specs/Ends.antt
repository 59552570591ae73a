-- Journals of closings, and what a closing ends with.
--   ComesNext program P es step       the entries es are those of the closing of P so far, and this comes next
--   IsListAt program P gs x           gs is a reduced basis of members of the closure that are 0 at the starts; its ideal has all that becomes of P in words before that of the candidate x, and what x differs by from what it comes from
--   HoldsAt program P s               that is so of the list of the state s, in whose division its candidate is
--   IsClosure program P gs            gs is the reduced basis of the closure of P, and each of gs, composed with the start map, is 0
--   IsFirstCounter program P x q      q is what the candidate's polynomial of P becomes in its word and at the starts; it isn't 0, and no earlier word counters one of P
use Rattle.std.specs.Prelude.{◌≡◌, ◌≢◌, ℕ, List, [], ◌++◌, length, ⊤}
use Rattle.std.specs.List.{All}
use Rattle.algebra.specs.Each.{Each}
use Rattle.algebra.specs.In.{In}
use Rattle.algebra.specs.Fraction.{Fraction, ℚ, rationals}
use Rattle.polynomials.specs.Terms.{Terms, Same, negate}
use Rattle.polynomials.specs.Order.{grevlex}
use Rattle.polynomials.specs.Polynomial.{IsPolynomial}
use Rattle.ideals.specs.Members.{IsMember}
use Rattle.machines.specs.Journal.{Entry}
use Rattle.machines.specs.Reduced.{IsReducedFor}
use Rattle.machines.specs.Run.{IsRun}
use Rattle.loops.specs.Program.{Expr, Program}
use Rattle.rounds.specs.Word.{IsLetter, after_word}
use Rattle.corollaries.specs.Word.{IsEarlier}
use Rattle.corollaries.specs.Counter.{Counters}
use Rattle.corollaries.specs.Image.{image}
use Rattle.closures.specs.Closure.{InClosure, GeneratesClosure, IsZeroFromStart}
use Rattle.closures.specs.Closing.{State, fresh, dividing, extending, Step, Candidate, next, moves}

module _ {At : Type 0} (program : Program (Expr At)) (P : List (Terms Fraction)) where
  pub record ComesNext (es : List Entry) (step : Step) : Type 0 where
    pub state : State
    pub run : IsRun (moves program P) fresh es state
    pub is : next program P state ≡ step

  pub record IsListAt (gs : List (Terms Fraction)) (x : Candidate) : Type 0 where
    pub reduced : IsReducedFor rationals grevlex (length program.names) gs
        (IsMember ℚ (length program.names) gs)
    pub in_closure : Each (InClosure program P) gs
    pub from_start : Each (IsZeroFromStart program) gs
    pub earlier : (p : Terms Fraction) → In p P → (v : List ℕ) → All (IsLetter program) v
        → IsEarlier v x.word → IsMember ℚ (length program.names) gs (after_word program v p)
    pub differs : IsMember ℚ (length program.names) gs
        (x.polynomial ++ negate ℚ (after_word program x.word x.of))

  abbrev pub HoldsAt : State → Type 0
  HoldsAt fresh = ⊤
  HoldsAt (dividing n gs kept x waiting s) = IsListAt gs x
  HoldsAt (extending n gs kept x waiting s) = Each (IsZeroFromStart program) gs

  pub record IsClosure (gs : List (Terms Fraction)) : Type 0 where
    pub reduced : IsReducedFor rationals grevlex (length program.names) gs (InClosure program P)
    pub generates : GeneratesClosure program P gs
    pub from_start : Each (IsZeroFromStart program) gs

  pub record IsFirstCounter (x : Candidate) (q : Terms Fraction) : Type 0 where
    pub given : In x.of P
    pub letters : All (IsLetter program) x.word
    pub is : Same ℚ q (image program x.of x.word)
    pub polynomial : IsPolynomial ℚ grevlex (length program.names) q
    pub nonzero : q ≢ []
    pub none : (p : Terms Fraction) → In p P → (v : List ℕ) → IsEarlier v x.word
        → ¬ (Counters program p v)
