-- What `full` makes of an analysis and a trace.
--   IsFoundBy l budget a        a is what the analysis of l, within the budget, has found
--   IsMadeOf a t c              c has the parts of the analysis a and of the trace t
--   IsToldAs names cert a       a has the text of this certificate, which is read as its document
use Rattle.std.specs.Prelude.{◌≡◌, ◌≤◌, ℕ, List, All, length, Some}
use Rattle.machines.specs.Journal.{Entry, units_of}
use Rattle.loops.specs.Certificate.{IsValid}
use Rattle.loops.specs.Program.{Expr, Program}
use Rattle.poly.specs.Seen.{terms_each}
use Rattle.loop_model.specs.Maps.{AreFree}
use Rattle.ideal_ops.specs.Calls.{AreOver}
use Rattle.invariant_fix.specs.Answers.{certificate_of, IsClosedBy, IsLeastLevel}
use Rattle.invariant_fix.specs.Closing.{IsSquare}
use Rattle.invariant_fix.specs.Refusals.{AllHaveForms}
use Rattle.invariant_fix.specs.declared.found.Analysis.{Analysis}
use Rattle.cert_form.specs.Form.{document}
use Rattle.task_lists.specs.View.{full_of}
use Rattle.task_lists.specs.declared.parts.FullCert.{FullCert}
use Rattle.full_cert.specs.Narrow.{IsFullNarrow}
use Rattle.full_cert.specs.Written.{full_data}
use Rattle.full_trace.specs.declared.found.Trace.{Trace}
use Rattle.io_edge.specs.Texts.{Answer}
use Rattle.analysis_commands.specs.Headline.{IsBasisOf}
use Rattle.certificate_commands.specs.FullTexts.{certificate_answer}

pub record IsFoundBy (l : Program (Expr ℕ)) (budget : ℕ) (a : Analysis) : Type 0 where
  pub free : AreFree l
  pub forms : AllHaveForms l
  pub entries : List Entry
  pub closed : IsClosedBy l a entries
  pub few : units_of entries ≤ budget
  pub least : IsLeastLevel l a.rounds
  pub is_basis : IsBasisOf l (terms_each a.basis.items)
  pub valid : IsValid l (certificate_of a)
  pub over : AreOver (length l.names) a.basis.items
  pub squares : All (λ rows. IsSquare (length l.names) (length a.basis.items) rows.items)
      a.steps.items

pub record IsMadeOf (a : Analysis) (t : Trace) (c : FullCert) : Type 0 where
  pub basis : c.basis ≡ a.basis
  pub steps : c.steps ≡ a.steps
  pub forms : c.forms ≡ t.forms
  pub start : c.start ≡ t.start
  pub rounds : c.rounds ≡ t.rounds

pub record IsToldAs (names : List (List ℕ)) (cert : FullCert) (a : Answer) : Type 0 where
  pub says : a ≡ certificate_answer names (full_of cert)
  pub narrow : IsFullNarrow (full_of cert)
  pub reads : document a.text ≡ Some (full_data names (full_of cert))
