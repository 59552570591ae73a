-- Membership behind a finished analysis.
--   asking_next            what comes next in the division behind it
--   asking_reaches         the events of the division behind it lead to its states
--   asking_answered        where the division behind it has ended, what is asked is answered
--   answered_decides       and the answer says whether it is an invariant
--   tells_yes, tells_no    what is told of the division
use Rattle.std.proofs.Common.{◌≡◌, ℕ, List, [], ◌∷◌, map, Some, None, refl, sym, ap, subst, ◌∙◌}
use Rattle.algebra.specs.Fraction.{Fraction, rationals}
use Rattle.polynomials.specs.Order.{grevlex}
use Rattle.polynomials.specs.Terms.{Terms}
use Rattle.machines.specs.Division as division
use Rattle.machines.specs.Event.{Event}
use Rattle.machines.specs.Journal as journal
use Rattle.machines.specs.Journal.{Entry, Begin, Did}
use Rattle.machines.specs.Run.{IsRun}
use Rattle.machines.specs.Work.{Work, WorkToEnd}
use Rattle.machines.proofs.Runs.{run_joined, run_then}
use Rattle.loops.specs.Program.{Expr, Program}
use Rattle.rounds.specs.Analysis.{Setting, fresh, asking, asked_by, next, move_of, moves}
use Rattle.rounds.specs.Journal.{setting_of, IsFinished, IsAnswered}
use Rattle.rounds.proofs.Asked.{run_asked, finished_asked}
use Rattle.invariant_fix.specs.Membership.{asks}

module _ (A : Setting) (k : ℕ) (gs : List (Terms Fraction)) where
  pub asking_next : (s : division.State Fraction) → next A (asking k gs s) ≡ asked_by A k gs s
      (division.next rationals grevlex gs s)
  unfolding next
  asking_next s = refl

  asking_run : (s t : division.State Fraction) (es : List Event)
      → IsRun (division.next rationals grevlex gs) s es t
      → IsRun (moves A) (asking k gs s) (map Did es) (asking k gs t)
  unfolding IsRun
  asking_run s t [] h = ap (asking k gs) h
  asking_run s t (e ∷ es) (u, n, r) = (
    asking k gs u,
    ap (move_of A) (asking_next s ∙ ap (asked_by A k gs s) n),
    asking_run u t es r,
  )

module _ (program : Program (Expr ℕ)) (p : Terms Fraction) (k : ℕ) (gs : List (Terms Fraction))
    (before after : List Entry) (done : IsFinished program before k gs) where
  abbrev B : Setting
  B = setting_of program done.follows.forms (Some p)

  begun : IsRun (moves B) fresh (asks before) (asking k gs (division.initial_state gs p))
  begun =
      run_then (moves B) fresh done.state (asking k gs (division.initial_state gs p)) before
      (Begin journal.Member)
      (run_asked (setting_of program done.follows.forms None) p before fresh done.state
      done.follows.run)
      (ap (move_of B) (finished_asked (setting_of program done.follows.forms None) p done.state k gs
      done.is))

  pub asking_reaches : (t : division.State Fraction) → Work (division.next rationals grevlex gs)
      (division.initial_state gs p) (asks before) after t
      → IsRun (moves (setting_of program done.follows.forms (Some p))) fresh after (asking k gs t)
  asking_reaches t w =
      subst (λ es. IsRun (moves B) fresh es (asking k gs t)) (sym w.entries) (run_joined (moves B)
      fresh _ (asking k gs t) (asks before) (map Did w.events) begun
      (asking_run B k gs (division.initial_state gs p) t w.events w.run))

  pub asking_answered : (t : division.State Fraction)
      → WorkToEnd (division.next rationals grevlex gs) (division.initial_state gs p) (asks before)
      after t → IsAnswered program p after k gs t
  asking_answered t f = record {
    state = asking k gs t;
    follows = record {
      forms = done.follows.forms;
      are_forms = done.follows.are_forms;
      run = asking_reaches t f.work;
    };
    is = asking_next B k gs t ∙ ap (asked_by B k gs t) f.ended;
  }
