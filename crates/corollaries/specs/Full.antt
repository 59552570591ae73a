-- Full certificates: a certificate, and with it what shows that its polynomials generate all invariants. Branches, elements and rounds count from 0.
--   BranchStages           what a round has of a branch: its orbit, and, but for the first branch, the intersection with what the branches before gave
--   WrittenForm            a base and a polynomial for each variable, which are a form that is the state from 0 on
--   FullCertificate        the certificate; a form for each branch; `start_out`, of which the polynomials of init are made, with their cofactors; the rounds
--   certificate c          its first part
--   as_form f        it as a form
--   form_of c b            the form of branch b
--   Kind; stage_of c r b kind     the stages of round r and branch b
--   so_far c r b           the list so far after branch b
--   before program c r     the list before round r: `start_out`, or the last list of the round before
--   front_of c b kind      how many variables the stage eliminates
--   starting program c r b kind   the list that the stage begins with
--   IsFullOver program c   the polynomials of c have the variables that they should have
use Rattle.std.specs.Prelude.{ℕ, zero, suc, pred, List, [], get_or, length, Option, Some, None}
use Rattle.algebra.specs.Each.{Each}
use Rattle.algebra.specs.Fraction.{Fraction, ℚ, rationals}
use Rattle.polynomials.specs.Terms.{Terms}
use Rattle.polynomials.specs.Order.{grevlex}
use Rattle.polynomials.specs.Polynomial.{AllArity, IsPolynomial}
use Rattle.solvable_maps.specs.Iterations.{width}
use Rattle.machines.specs.Elimination.{blend}
use Rattle.loops.specs.Program.{Expr, Program}
use Rattle.loops.specs.Certificate.{Certificate, AreOver}
use Rattle.rounds.specs.Form.{Form, front, orbit_list}
use Rattle.corollaries.specs.Stage.{Stage, no_stage, block_order, IsStageOver}

pub record BranchStages : Type 0 where
  pub orbit_stage : Stage
  pub meet_stage : Option Stage

pub record WrittenForm : Type 0 where
  pub base : List ℕ
  pub polys : List (Terms Fraction)

pub record FullCertificate : Type 0 where
  pub basis : List (Terms Fraction)
  pub steps : List (List (List (Terms Fraction)))
  pub forms : List WrittenForm
  pub start_out : List (Terms Fraction)
  pub start_links : List (List (Terms Fraction))
  pub rounds : List (List BranchStages)

pub data Kind : Type 0 where
  orbit meet : Kind

abbrev pub certificate : FullCertificate → Certificate
certificate c = record { basis = c.basis; steps = c.steps }

abbrev pub as_form : WrittenForm → Form
as_form f = record { base = f.base; polys = f.polys; since = 0 }

abbrev pub form_of : FullCertificate → ℕ → Form
form_of c b = as_form (get_or c.forms b (record { base = []; polys = [] }))

-- ---- the stages
abbrev pub of_option : Option Stage → Stage
of_option None = no_stage
of_option (Some s) = s

abbrev pub of_kind : BranchStages → Kind → Stage
of_kind s orbit = s.orbit_stage
of_kind s meet = of_option s.meet_stage

abbrev pub stage_of : FullCertificate → ℕ → ℕ → Kind → Stage
stage_of c r b kind =
    of_kind
    (get_or (get_or c.rounds r []) b (record { orbit_stage = no_stage; meet_stage = None })) kind

unfoldable pub so_far : FullCertificate → ℕ → ℕ → List (Terms Fraction)
so_far c r zero = (stage_of c r 0 orbit).out
so_far c r (suc b) = (stage_of c r (suc b) meet).out

abbrev pub front_of : FullCertificate → ℕ → Kind → ℕ
front_of c b orbit = front (length (form_of c b).base)
front_of c b meet = 1

module _ {At : Type 0} (program : Program (Expr At)) (c : FullCertificate) where
  unfoldable pub before : ℕ → List (Terms Fraction)
  before zero = c.start_out
  before (suc r) = so_far c r (pred (length program.branches))

  abbrev pub starting : ℕ → ℕ → Kind → List (Terms Fraction)
  starting r b orbit = orbit_list (form_of c b) (length program.names) (before r)
  starting r b meet =
      blend rationals (block_order 1) (so_far c r (pred b)) (stage_of c r b orbit).out

  pub record IsFullOver : Type 0 where
    pub basis : AreOver (length program.names) (certificate c)
    pub forms : (b : ℕ)
        → AllArity (width (length (form_of c b).base) (length program.names)) (form_of c b).polys
    pub start_out : Each (IsPolynomial ℚ grevlex (length program.names)) c.start_out
    pub start_links : Each (AllArity (length program.names)) c.start_links
    pub stages : (r b : ℕ) (kind : Kind)
        → IsStageOver (front_of c b kind) (length program.names) (stage_of c r b kind)
