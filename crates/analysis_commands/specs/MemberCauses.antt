-- Where the answers to `member` come, over the bytes of LOOP and EQUATION.
--   IsAsking text equation                 the bytes are a loop and an equation over its names
--   IsEquationFault text equation a        they are a loop, and a tells the first fault of the
--                                          equation
--   IsEquationStop text equation a         they are a loop and an equation, and a tells the first
--                                          operation of its polynomial that passes a limit, or one
--                                          that is too wide
--   IsUndecided text equation budget m a   so, and a tells why the analysis and the division that
--                                          left m have no answer
--   HasDecided text equation budget m      so, the journal m, with this budget, is that of the
--                                          finished analysis of the loop, after as few rounds as
--                                          have all its invariants, and of the division of the
--                                          equation's polynomial by the basis
--   HasAffirmed text equation budget m     so, and the division ended with nothing left
--   HasDenied text equation budget m       so, and it ended with something left
--   IsExhaustedAsking text equation budget m said     they are a loop whose maps are free and whose
--                                           branches have closed forms, and an equation; the
--                                           entries of m follow the analysis and the division, as
--                                           many of them are units as the budget, what comes next
--                                           is a unit, and the budget is said
--   IsAsked text equation budget m         they are a loop and an equation, no operation by which
--                                          its polynomial is formed passes a limit, and m was
--                                          opened with this budget for the analysis and the
--                                          division
--   NeverStops l e                         no operation of the equation's polynomial passes a
--                                          limit or is past
--   NeverPast l p                          no state of the analysis of l, and of the division of p
--                                          behind it, is past
use Rattle.std.specs.Prelude.{◌≡◌, ℕ, List, ◌++◌, length, Some, None, is_some, true, Ok, Err, codes, decimal}
use Rattle.algebra.specs.Fraction.{Fraction}
use Rattle.polynomials.specs.Terms.{Terms}
use Rattle.machines.specs.Journal.{Journal, Entry}
use Rattle.loops.specs.Program.{Expr, Program}
use Rattle.loop_model.specs.Operations.{IsWide}
use Rattle.loop_model.specs.Maps.{AreFree}
use Rattle.loop_text.specs.LoopReader.{loop_of}
use Rattle.rounds.specs.Analysis.{State}
use Rattle.rounds.specs.Journal.{setting_of, Follows, IsOut}
use Rattle.rounds.specs.Past.{IsPast}
use Rattle.poly_text.specs.Reasons.{Fault}
use Rattle.invariant_fix.specs.Refusals.{AllHaveForms}
use Rattle.io_edge.specs.Texts.{Answer, line}
use Rattle.command_parts.specs.Equations.{equation_in, operations_of, polynomial_of, FormsFreely}
use Rattle.analysis_commands.specs.MemberCourse.{HasAskedFor}
use Rattle.analysis_commands.specs.Questions.{Asks, Divides}
use Rattle.command_parts.specs.EquationReading.{IsUnformed, equation_refusal}

pub record IsEquationFault (text equation : List ℕ) (a : Answer) : Type 0 where
  pub loop : Program (Expr ℕ)
  pub is_loop : loop_of text ≡ Ok loop
  pub fault : Fault
  pub is : equation_in loop.names equation ≡ Err fault
  pub says : a ≡ equation_refusal fault

pub record IsAsking (text equation : List ℕ) : Type 0 where
  pub loop : Program (Expr ℕ)
  pub is_loop : loop_of text ≡ Ok loop
  pub difference : Expr ℕ
  pub is_equation : equation_in loop.names equation ≡ Ok difference

-- the polynomial that is asked for
abbrev pub asked_polynomial : {text equation : List ℕ} → IsAsking text equation → Terms Fraction
asked_polynomial asking = polynomial_of asking.loop asking.difference

module _ (text equation : List ℕ) where
  pub record IsEquationStop (a : Answer) : Type 0 where
    pub asking : IsAsking text equation
    pub unformed : IsUnformed asking.loop asking.difference a

  module _ (budget : ℕ) (m : Journal) where
    pub record IsUndecided (a : Answer) : Type 0 where
      pub asking : IsAsking text equation
      pub asks : Asks asking.loop (asked_polynomial asking) budget m a

    pub record HasDecided : Type 0 where
      pub asking : IsAsking text equation
      pub limit : m.limit ≡ budget
      pub list : List (Terms Fraction)
      pub divides : Divides asking.loop (asked_polynomial asking) m list

    pub record HasAffirmed : Type 0 where
      pub decided : HasDecided
      pub gone : decided.divides.last.current ≡ None

    pub record HasDenied : Type 0 where
      pub decided : HasDecided
      pub left : is_some decided.divides.last.current ≡ true

    pub record IsExhaustedAsking (said : List ℕ) : Type 0 where
      pub asking : IsAsking text equation
      pub free : AreFree asking.loop
      pub forms : AllHaveForms asking.loop
      pub limit : m.limit ≡ budget
      pub out : IsOut asking.loop (Some (asked_polynomial asking)) budget m.entries
      pub says : said ≡ line (codes "budget: " ++ decimal budget)

    pub record IsAsked : Type 0 where
      pub asking : IsAsking text equation
      pub asked : HasAskedFor asking.loop asking.difference budget m

module _ (l : Program (Expr ℕ)) where
  pub record NeverStops (e : Expr ℕ) : Type 0 where
    pub free : FormsFreely l e
    pub narrow : (at : ℕ) → IsWide (length l.names) (operations_of l e) at → ⊥

  abbrev pub NeverPast : Terms Fraction → Type 0
  NeverPast p = (es : List Entry) (s : State) (f : Follows l (Some p) es s)
      → IsPast (setting_of l f.forms (Some p)) s → ⊥
