use Rattle.std.proofs.Common.{◌≡◌, inl, ℕ, List, length, arith, sym, ap, subst, ◌∙◌}
use Rattle.std.proofs.lemmas.Bool.{eqb-true}
use Rattle.std.proofs.lemmas.List.{nil_from_length}
use Rattle.loops.specs.Program.{Expr, Program}
use Rattle.machines.specs.Machine.{Outcome, Ran, done, stopped, too_wide, out_of_units}
use Rattle.poly.specs.Seen.{terms_each}
use Rattle.loop_model.specs.FracPoly.{FracPoly}
use Rattle.rounds.specs.Journal.{IsFinished}
use Rattle.loop_model.specs.View.{program_of}
use Rattle.loop_model.proofs.Formed.{formed}
use Rattle.invariant_fix.specs.Refusals as analysis
use Rattle.corollaries.specs.Journal.{IsEnded, HasFollowed, elimination_from}
use Rattle.divide.specs.Outcomes.{refusal_of}
use Rattle.divide.specs.declared.EngineError.{EngineError}
use Rattle.invariant_fix.specs.Ordering.{IsListOf}
use Rattle.std.specs.Global.{Vec}
use Rattle.divide.specs.declared.EngineError.TheVariants.{Wide, Budget}
use Rattle.corollaries.proofs.Ended.{ended_basis}
use Rattle.invariant_fix.proofs.Joining.{ended_with_nothing, followed, ended_by, wide_by, exhausted_by, worked_by}
use Rattle.invariant_fix.proofs.shown_relations.relations.Goals.{After-eliminated}
use Rattle.invariant_fix.proofs.shown_relations.relations.Goals as goal

pub returns-in-Err-Budget-clause-refused : goal.returns-in-Err-Budget-clause-refused
returns-in-Err-Budget-clause-refused c =
    let program = program_of c.args.lp.now in
    let r = subst (analysis.IsRefused program c.args.meter.now c.analyse.new.meter)
    c.in-Err-Budget.field-0-is c.in-Err-Budget.ensures.refused in
    (r.0, r.1, inl r.2)

-- where the basis is empty
nothing_left : (c : goal.After-drop-analysis-then-is_empty) → IsEnded (program_of c.args.lp.now)
    c.args.shown.now c.analyse.new.meter.entries (terms_each c.new.result.items)
nothing_left c =
    let program = program_of c.args.lp.now in
    let es = c.analyse.new.meter.entries in
    let e = eqb-true _ 0 (sym c.if-is_empty.ensures) in
    let ok = c.in-Ok.analysis.basis.ok in
    let none = nil_from_length c.in-Ok.analysis.basis.items (omega (arith, e, ok)) in
    subst (λ l. IsEnded program c.args.shown.now es (terms_each l)) (sym c.new.ensures.items)
    (ended_with_nothing program _ es (subst (λ l. IsFinished program es c.in-Ok.analysis.rounds
    (terms_each l)) none c.in-Ok.ensures.closed.finished))

pub returns-then-is_empty-clause-ended : goal.returns-then-is_empty-clause-ended
returns-then-is_empty-clause-ended c = nothing_left c

pub returns-then-is_empty-clause-basis : goal.returns-then-is_empty-clause-basis
returns-then-is_empty-clause-basis c = ended_basis _ _ _ _ (nothing_left c) (formed c.args.lp.now)

pub returns-then-is_empty-clause-follows : goal.returns-then-is_empty-clause-follows
returns-then-is_empty-clause-follows c = followed _ _ c.in-Ok.ensures.follows

-- the elimination from the basis
module _ (c : After-eliminated) where
  abbrev program : Program (Expr ℕ)
  program = program_of c.args.lp.now

  abbrev gs : List FracPoly
  gs = c.in-Ok.analysis.basis.items

  vars : c.len-vars.result ≡ length program.names
  vars = c.len-vars.ensures.len ∙ ap length c.names.ensures.names

  -- as code has it, and as the loop has it
  abbrev Ends : ℕ → List FracPoly → Outcome (Vec FracPoly) → Type 0
  Ends m ks o = Ran (elimination_from m c.args.shown.now (terms_each ks))
      (IsListOf m c.args.shown.now) c.analyse.new.meter c.eliminated.new.meter o

  ends : (o : Outcome (Vec FracPoly)) → Ends c.len-vars.result c.deref.result.now o
      → Ends (length program.names) gs o
  ends o h = subst (λ m. Ends m gs o) vars
      (subst (λ ks. Ends c.len-vars.result ks o) c.deref.ensures.value h)

  stops : {e : EngineError} (f : EngineError) → e ≡ f
      → Ends c.len-vars.result c.deref.result.now (stopped (refusal_of e))
      → Ends (length program.names) gs (stopped (refusal_of f))
  stops f is h = ends (stopped (refusal_of f))
      (subst (λ x. Ends c.len-vars.result c.deref.result.now (stopped (refusal_of x))) is h)

  worked : (o : Outcome (Vec FracPoly)) → Ends (length program.names) gs o
      → HasFollowed program c.args.shown.now c.eliminated.new.meter.entries
  worked =
      worked_by program _ c.analyse.new.meter c.eliminated.new.meter gs
      c.in-Ok.ensures.closed.finished

  ended : (hs : Vec FracPoly) → Ends c.len-vars.result c.deref.result.now (done hs)
      → IsEnded program c.args.shown.now c.eliminated.new.meter.entries (terms_each hs.items)
  ended hs h =
      ended_by program _ c.analyse.new.meter c.eliminated.new.meter gs
      c.in-Ok.ensures.closed.finished hs (ends (done hs) h)

pub returns-in-Ok-eliminated-clause-ended : goal.returns-in-Ok-eliminated-clause-ended
returns-in-Ok-eliminated-clause-ended c =
    ended (goal.at.returns-in-Ok-eliminated-clause-ended c).After-eliminated
    c.in-Ok-eliminated.basis c.in-Ok-eliminated.ensures.ran

pub returns-in-Ok-eliminated-clause-basis : goal.returns-in-Ok-eliminated-clause-basis
returns-in-Ok-eliminated-clause-basis c =
    ended_basis _ _ _ _ (ended (goal.at.returns-in-Ok-eliminated-clause-basis c).After-eliminated
    c.in-Ok-eliminated.basis c.in-Ok-eliminated.ensures.ran) (formed c.args.lp.now)

pub returns-in-Ok-eliminated-clause-follows : goal.returns-in-Ok-eliminated-clause-follows
returns-in-Ok-eliminated-clause-follows c =
    let at = (goal.at.returns-in-Ok-eliminated-clause-follows c).After-eliminated in
    let hs = c.in-Ok-eliminated.basis in
    worked at (done hs) (ends at (done hs) c.in-Ok-eliminated.ensures.ran)

pub returns-in-Err-Wide-clause-follows : goal.returns-in-Err-Wide-clause-follows
returns-in-Err-Wide-clause-follows c =
    let at = (goal.at.returns-in-Err-Wide-clause-follows c).After-eliminated in
    worked at (stopped too_wide) (stops at Wide c.in-Err-Wide.field-0-is c.in-Err-Wide.ensures.ran)

pub returns-in-Err-Wide-clause-refused : goal.returns-in-Err-Wide-clause-refused
returns-in-Err-Wide-clause-refused c =
    let at = (goal.at.returns-in-Err-Wide-clause-refused c).After-eliminated in (
      c.in-Ok.ensures.free,
      c.in-Ok.ensures.forms,
      wide_by _ _ c.analyse.new.meter c.eliminated.new.meter (gs at) c.in-Ok.ensures.closed.finished
          (stops at Wide c.in-Err-Wide.field-0-is c.in-Err-Wide.ensures.ran),
    )

pub returns-in-Err-Budget-eliminated-clause-follows :
    goal.returns-in-Err-Budget-eliminated-clause-follows
returns-in-Err-Budget-eliminated-clause-follows c =
    let at = (goal.at.returns-in-Err-Budget-eliminated-clause-follows c).After-eliminated in
    let e = c.in-Err-Budget-eliminated in
    worked at (stopped out_of_units) (stops at Budget e.field-0-is e.ensures.ran)

pub returns-in-Err-Budget-eliminated-clause-refused :
    goal.returns-in-Err-Budget-eliminated-clause-refused
returns-in-Err-Budget-eliminated-clause-refused c =
    let at = (goal.at.returns-in-Err-Budget-eliminated-clause-refused c).After-eliminated in
    let e = c.in-Err-Budget-eliminated in (
      c.in-Ok.ensures.free,
      c.in-Ok.ensures.forms,
      exhausted_by _ _ c.analyse.new.meter c.eliminated.new.meter (gs at)
          c.in-Ok.ensures.closed.finished (stops at Budget e.field-0-is e.ensures.ran),
    )

pub returns-in-Err-Budget-clause-follows : goal.returns-in-Err-Budget-clause-follows
returns-in-Err-Budget-clause-follows c = followed _ _ c.in-Err-Budget.ensures.follows

pub returns-in-Err-Memory-clause-follows : goal.returns-in-Err-Memory-clause-follows
returns-in-Err-Memory-clause-follows c = followed _ _ c.in-Err-Memory.ensures.follows

pub returns-in-Err-Memory-clause-refused : goal.returns-in-Err-Memory-clause-refused
returns-in-Err-Memory-clause-refused c = followed _ _ c.in-Err-Memory.ensures.follows

pub returns-in-Err-clause-follows : goal.returns-in-Err-clause-follows
returns-in-Err-clause-follows c = followed _ _ c.in-Err.ensures.follows
