-- Journals of an analysis with a question behind it.
--   follows_asked        what follows a loop follows it where something is asked
--   out_asked            so does what is out of units
--   asking_stopped, asking_out     the division behind a finished analysis: its next cancellation
--                                  is past; or its units are exhausted
--   asking_worked        what it leaves follows the loop
--   enough_asked         where an answered journal has at most as many units as the limit, none is
--                        out of it
use Rattle.std.proofs.Common.{◌≡◌, inl, inr, ℕ, ◌≤◌, List, arith, refl, sym, ap, subst, ◌∙◌, Option, Some, None}
use Rattle.algebra.specs.Fraction.{Fraction, rationals, fractions}
use Rattle.polynomials.specs.Order.{grevlex}
use Rattle.polynomials.specs.Terms.{Terms}
use Rattle.machines.specs.Division as division
use Rattle.machines.specs.Event.{Event}
use Rattle.machines.specs.Journal.{Entry, Did, Journal, units_of}
use Rattle.machines.specs.Past.{IsPastDivision}
use Rattle.machines.specs.Run.{IsRun}
use Rattle.machines.specs.Work.{Work, IsExhausted, PastAfter}
use Rattle.loops.specs.Program.{Expr, Program}
use Rattle.rounds.specs.Analysis.{State, fresh, asking, goes, asked_by, next, move_of, moves}
use Rattle.rounds.specs.Journal.{setting_of, Follows, IsFinished, IsAnswered, IsOut}
use Rattle.rounds.proofs.Asked.{goes_on, next_asked, run_asked}
use Rattle.rounds.proofs.Forms.{forms_are_one}
use Rattle.rounds.proofs.Prefixes.{exhausted_is_more}
use Rattle.invariant_fix.specs.Membership.{asks, HasAsked as HasWorked}
use Rattle.invariant_fix.proofs.Asking.{asking_next, asking_reaches}
use Rattle.analysis_commands.specs.Questions.{IsStoppedAsking, IsFollowingAsked}

module _ (l : Program (Expr ℕ)) (p : Terms Fraction) where
  pub follows_asked : (es : List Entry) (s : State) → Follows l None es s → Follows l (Some p) es s
  follows_asked es s f = record {
    forms = f.forms;
    are_forms = f.are_forms;
    run = run_asked (setting_of l f.forms None) p es fresh s f.run;
  }

  pub out_asked : (n : ℕ) (es : List Entry) → IsOut l None n es → IsOut l (Some p) n es
  unfolding follows_asked
  out_asked n es out =
      let c = out.comes in
      let S = setting_of l c.follows.forms None in
      record {
        entry = out.entry;
        state = out.state;
        comes = record {
          state = c.state;
          follows = follows_asked es c.state c.follows;
          is = next_asked S p c.state ∙ ap (goes_on S p) c.is;
        };
        unit = out.unit;
        exhausted = out.exhausted;
      }

  -- ---- the division behind a finished analysis
  module _ (k : ℕ) (gs : List (Terms Fraction)) (before after : Journal)
      (done : IsFinished l before.entries k gs) where
    abbrev step : division.State Fraction → Option (Event × division.State Fraction)
    step d = division.next rationals grevlex gs d

    abbrev first : division.State Fraction
    first = division.initial_state gs p

    abbrev Works : division.State Fraction → Type 0
    Works t = Work step first (asks before.entries) after.entries t

    abbrev follows_division : (t : division.State Fraction) → Works t
        → Follows l (Some p) after.entries (asking k gs t)
    follows_division t w = record {
      forms = done.follows.forms;
      are_forms = done.follows.are_forms;
      run = asking_reaches l p k gs before.entries after.entries done t w;
    }

    abbrev IsPastBehind : Type 0
    IsPastBehind =
        PastAfter step (IsPastDivision fractions rationals gs) first (asks before.entries)
        after.entries

    pub asking_stopped : IsPastBehind → IsStoppedAsking l p after
    asking_stopped h = record {
      state = asking k gs h.at;
      follows = follows_division h.at h.work;
      is_task = refl;
      past = inr h.past;
    }

    pub asking_out : IsExhausted step first after.limit (asks before.entries) after.entries
        → IsOut l (Some p) after.limit after.entries
    asking_out h =
        let S = setting_of l done.follows.forms (Some p) in
        record {
          entry = Did h.event;
          state = asking k gs h.following;
          comes = record {
            state = asking k gs h.at;
            follows = follows_division h.at h.work;
            is = asking_next S k gs h.at ∙ ap (asked_by S k gs h.at) h.comes;
          };
          unit = h.unit;
          exhausted = h.exhausted;
        }

    pub asking_worked : HasWorked gs p before after → IsFollowingAsked l p after
    asking_worked (inl same) = record {
      state = done.state;
      follows = subst (λ es. Follows l (Some p) es done.state) (sym same)
          (follows_asked before.entries done.state done.follows);
    }
    asking_worked (inr w) = record {
      state = asking k gs w.at;
      follows = follows_division w.at w.work;
    }

  -- ---- units
  pub enough_asked : (es fs : List Entry) (k n : ℕ) (gs : List (Terms Fraction))
      (d : division.State Fraction) → IsAnswered l p es k gs d → units_of es ≤ n
      → IsOut l (Some p) n fs → ⊥
  enough_asked es fs k n gs d done few out =
      let c = out.comes in
      let same : c.follows.forms ≡ done.follows.forms =
      forms_are_one l _ _ c.follows.are_forms done.follows.are_forms in
      let S = setting_of l done.follows.forms (Some p) in
      let run =
      subst (λ forms. IsRun (moves (setting_of l forms (Some p))) fresh fs c.state) same
      c.follows.run in
      let next_is =
      subst (λ forms. next (setting_of l forms (Some p)) c.state ≡ goes out.entry out.state)
      same c.is in
      let less =
      exhausted_is_more S es fs done.state c.state out.state out.entry done.follows.run
      (ap (move_of S) done.is) run (ap (move_of S) next_is) out.unit in
      let exhausted = out.exhausted in
      omega (arith, less, few, exhausted)
