-- A trace of a program, by its setting.
--   as_written                the forms, where each branch begins at 0
--   begins                    with no entries the start comes
--   finished, going           a trace that has ended, and one that goes on, of each program of which the setting is
--   lost, followed, refused   what a refusal tells of it
use Rattle.std.proofs.Common.{◌≡◌, inr, ℕ, List, [], ◌∷◌, map, None, Result, IfErr, refl, sym, ap, ap₂, subst, All}
use Rattle.std.specs.Result.{IsErrAnd}
use Rattle.std.proofs.lemmas.List.Elements.{All-head, All-tail}
use Rattle.std.proofs.lemmas.Simd.{map-map}
use Rattle.machines.specs.Journal as journal
use Rattle.machines.specs.Journal.{Entry, Begin, Journal}
use Rattle.machines.specs.Run.{IsRun}
use Rattle.loops.specs.Program.{Expr, Program}
use Rattle.loops.specs.WellFormed.{IsWellFormed}
use Rattle.rounds.specs.Analysis as analysis
use Rattle.rounds.specs.Analysis.{starts, starting}
use Rattle.rounds.specs.Form.{Form}
use Rattle.rounds.specs.Journal.{setting_of, AreForms}
use Rattle.coprime_base.specs.Sizes.{sizes}
use Rattle.closed_forms.specs.Values.{bodies_of}
use Rattle.corollaries.specs.Full.{WrittenForm, as_form}
use Rattle.corollaries.specs.Coming.{IsGoing, Comes}
use Rattle.corollaries.specs.Followed.{Follows}
use Rattle.corollaries.specs.Rounds.{behind}
use Rattle.corollaries.specs.Trace as trace
use Rattle.corollaries.specs.Trace.{State, fresh, no_results, Step, goes, start_of, next, moves}
use Rattle.task_lists.specs.View.{form_in, start_in, round_in}
use Rattle.invariant_fix.specs.Setting.{form_of, FitsSetting, IsSettingOf, HoldsOf}
use Rattle.invariant_fix.specs.declared.branches.Branch.{Branch}
use Rattle.invariant_fix.specs.declared.setting.Setting.{Setting}
use Rattle.invariant_fix.specs.declared.errors.AnalyseError.{AnalyseError}
use Rattle.invariant_fix.specs.declared.errors.AnalyseError.TheVariants as error
use Rattle.invariant_fix.proofs.Following.{are_forms}
use Rattle.full_trace.specs.Late.{BeginsAtZero}
use Rattle.full_trace.specs.Tasks.{written_of, IsSettingIn, Along, Stops}
use Rattle.full_trace.specs.Traced.{HasFollowed, IsTraceOf, IsStopped}
use Rattle.full_trace.specs.declared.found.Trace.{Trace}
use Rattle.full_trace.proofs.RowsMade.{passed}

pub begins : (A : analysis.Setting) (R : ℕ) (es : List Entry) → es ≡ []
    → Comes A R es (goes (Begin journal.Start) (start_of A no_results starts))
unfolding next IsRun
begins A R es e = record {
  state = fresh;
  run = subst (λ l. IsRun (moves A R) fresh l fresh) (sym e) refl;
  is = refl;
}

-- ---- forms of branches that begin at 0, as they are written
form_is : (c : Branch) → BeginsAtZero c → as_form (written_of c.form) ≡ form_of c.form
form_is c at_zero = ap (λ (n : ℕ). let f : Form = record {
  base = sizes c.form.base.items;
  polys = bodies_of c.form.polys.items;
  since = n;
} in f) (sym at_zero)

pub as_written : (cs : List Branch) → All BeginsAtZero cs
    → map as_form (map (λ (c : Branch). written_of c.form) cs)
    ≡ map (λ (c : Branch). form_of c.form) cs
as_written [] a = refl
as_written (c ∷ cs) a = ap₂ ◌∷◌ (form_is c (All-head BeginsAtZero c cs a))
    (as_written cs (All-tail BeginsAtZero c cs a))

module _ {program : Program (Expr ℕ)} (w : IsWellFormed program) (s : Setting)
    (fits : FitsSetting s) (is : IsSettingOf program s)
    (at_zero : All BeginsAtZero s.branches.items) (R : ℕ) where
  abbrev forms_of : List WrittenForm
  forms_of = map (λ (c : Branch). written_of c.form) s.branches.items

  abbrev setting_here : analysis.Setting
  setting_here = setting_of program
      (map as_form (map (λ (c : Branch). written_of c.form) s.branches.items)) None

  setting_in : IsSettingIn s setting_here
  unfolding starting
  setting_in = record {
    arity = sym is.arity;
    starts = sym is.starts;
    forms = map-map as_form (λ (c : Branch). written_of c.form) s.branches.items;
  }

  follows_here : {es : List Entry} {t : State} → IsRun (moves setting_here R) fresh es t
      → Follows program R es t
  follows_here r = record {
    forms = forms_of;
    are_forms = subst (AreForms program) (sym (as_written s.branches.items at_zero))
        (are_forms program w s fits is);
    run = r;
  }

  finished_here : (es : List Entry) (t : Trace)
      → map form_in t.forms.items ≡ map (λ (c : Branch). written_of c.form) s.branches.items
      → Comes setting_here R es (trace.finished (behind (start_in t.start).0 (start_in t.start).1
      (map round_in t.rounds.items))) → IsTraceOf program R es t
  unfolding follows_here
  finished_here es t same c = record {
    given = behind (start_in t.start).0 (start_in t.start).1 (map round_in t.rounds.items);
    finished = record { state = c.state; follows = follows_here c.run; is = c.is };
    forms = same;
    start = refl;
    rounds_are = refl;
  }

  going_here : {es : List Entry} → IsGoing setting_here R es → HasFollowed program R es
  going_here {es = es} g = inr (record { state = g.state; follows = follows_here g.run })

  followed_here : (after : Journal) (e : AnalyseError) → Stops setting_here R after e
      → HasFollowed program R after.entries
  followed_here after (error.Map e) h = absurd h
  followed_here after (error.Branch b e) h = absurd h
  followed_here after (error.Limit task) h = absurd h
  followed_here after (error.Wide task) h = inr (record {
    state = h.state;
    follows = follows_here h.run;
  })
  followed_here after error.Budget h = inr (record {
    state = h.comes.state;
    follows = follows_here h.comes.run;
  })
  followed_here after error.Memory h = going_here h

  stopped_here : (after : Journal) (e : AnalyseError) → Stops setting_here R after e
      → IsStopped program R after e
  unfolding follows_here
  stopped_here after (error.Map e) h = absurd h
  stopped_here after (error.Branch b e) h = absurd h
  stopped_here after (error.Limit task) h = absurd h
  stopped_here after (error.Wide task) h = record {
    state = h.state;
    follows = follows_here h.run;
    in_task = h.in_task;
    past = h.past;
  }
  stopped_here after error.Budget h = record {
    entry = h.entry;
    state = h.following;
    comes = record {
      state = h.comes.state;
      follows = follows_here h.comes.run;
      is = h.comes.is;
    };
    unit = h.unit;
    exhausted = h.exhausted;
  }
  stopped_here after error.Memory h = going_here h

-- ---- from the start on, of each program of which the setting is
module _ (s : Setting) (fits : FitsSetting s) (at_zero : All BeginsAtZero s.branches.items) (R : ℕ)
    (old : List Entry) (none : old ≡ []) where
  abbrev pub FromStart : (analysis.Setting → Type 0) → Type 0
  FromStart P = Along s (λ A. Comes A R old (goes (Begin journal.Start)
      (start_of A no_results starts)) → P A)

  from_start : (P : analysis.Setting → Type 0) → FromStart P → (program : Program (Expr ℕ))
      → (w : IsWellFormed program) (is : IsSettingOf program s)
      → P (setting_here w s fits is at_zero R)
  from_start P h program w is = h (setting_here w s fits is at_zero R)
      (setting_in w s fits is at_zero R) (begins (setting_here w s fits is at_zero R) R old none)

  pub finished : (es : List Entry) (t : Trace)
      → map form_in t.forms.items ≡ map (λ (c : Branch). written_of c.form) s.branches.items
      → FromStart (λ A. Comes A R es (trace.finished (behind (start_in t.start).0
      (start_in t.start).1 (map round_in t.rounds.items))))
      → HoldsOf s (λ program. IsTraceOf program R es t)
  finished es t same h = λ program w is. finished_here w s fits is at_zero R es t same
      (from_start (λ A. Comes A R es (trace.finished (behind (start_in t.start).0
      (start_in t.start).1 (map round_in t.rounds.items)))) h program w is)

  pub going : (es : List Entry) (step : analysis.Setting → Step)
      → FromStart (λ A. Comes A R es (step A)) → HoldsOf s (λ program. HasFollowed program R es)
  going es step h = λ program w is.
      (let c = from_start (λ A. Comes A R es (step A)) h program w is in
      going_here w s fits is at_zero R (record { state = c.state; run = c.run }))

  -- where memory is wanting behind it
  pub lost : (after : Journal) (step : analysis.Setting → Step)
      → FromStart (λ A. Comes A R after.entries (step A)) → {X : Type 0}
      (r : Result X AnalyseError) → IsErrAnd r (λ y. y ≡ error.Memory)
      → HoldsOf s (λ program. IfErr r (IsStopped program R after))
  lost after step h r same = λ program w is.
      passed (IsStopped program R after) r error.Memory same
      (going after.entries step h program w is)

  module _ (after : Journal) (e : AnalyseError) (h : FromStart (λ A. Stops A R after e)) where
    pub followed : HoldsOf s (λ program. HasFollowed program R after.entries)
    followed = λ program w is. followed_here w s fits is at_zero R after e
        (from_start (λ A. Stops A R after e) h program w is)

    pub refused : {X : Type 0} (r : Result X AnalyseError) → IsErrAnd r (λ y. y ≡ e)
        → HoldsOf s (λ program. IfErr r (IsStopped program R after))
    refused r same = λ program w is. passed (IsStopped program R after) r e same
        (stopped_here w s fits is at_zero R after e
        (from_start (λ A. Stops A R after e) h program w is))
