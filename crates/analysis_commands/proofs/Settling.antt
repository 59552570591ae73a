-- Which statuses the answers to analyses have.
--   analyses_settled     none of the arguments, of memory or of the outside;  analyses_not_no: nor no
use Rattle.std.proofs.Common.{◌≡◌, ◌≢◌, ℕ, sym, ◌∙◌}
use Rattle.std.specs.Prelude.{Some}
use Rattle.machines.specs.Journal.{Journal}
use Rattle.loops.specs.Certificate.{Certificate}
use Rattle.loops.specs.Program.{Expr, Program}
use Rattle.io_edge.specs.declared.answer.Status.TheVariants as status
use Rattle.io_edge.specs.Texts.{Answer}
use Rattle.io_edge.specs.Settled.{IsSettled}
use Rattle.io_edge.proofs.OfStatuses.{status_of, some_answer, settled_yes}
use Rattle.analysis_commands.specs.declared.kind.Kind.{Kind}
use Rattle.analysis_commands.specs.Texts.{found_answer}
use Rattle.analysis_commands.specs.Analyses.{Ending, found, refused, answer_of, Analyses}
use Rattle.analysis_commands.proofs.Refused.{refusal_parts, refusal_kind, refused_settled, refused_not_no}

module _ (kind : Kind) (l : Program (Expr ℕ)) (budget : ℕ) (a : Answer) where
  found_status : (c : Certificate) → answer_of kind l.names budget (found c) ≡ Some a
      → a.status ≡ status.Yes
  found_status c is = status_of (some_answer (found_answer kind l.names c) a is)

  settled : (e : Ending) → answer_of kind l.names budget e ≡ Some a → IsSettled a.status
  settled (found c) is = settled_yes a.status (found_status c is)
  settled (refused e) is =
      refused_settled e a.status (refusal_kind e a.status (refusal_parts l.names budget e a is).0)

  not_no : (e : Ending) → answer_of kind l.names budget e ≡ Some a → a.status ≢ status.No
  not_no (found c) is h = let x : status.Yes ≡ status.No = sym (found_status c is) ∙ h in
      let z : ⊥ = cc in z
  not_no (refused e) is h =
      refused_not_no e a.status (refusal_kind e a.status (refusal_parts l.names budget e a is).0) h

  pub analyses_settled : (m : Journal) → Analyses kind l budget m a → IsSettled a.status
  analyses_settled m h = settled h.ending h.says

  pub analyses_not_no : (m : Journal) → Analyses kind l budget m a → a.status ≢ status.No
  analyses_not_no m h = not_no h.ending h.says
