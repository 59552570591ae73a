-- What `full` said, `checkfull` calls complete.
--   called_complete     but for numbers that don't fit there and the excuses
use Rattle.std.proofs.Common.{◌≡◌, ℕ, List, sym, subst, ◌∙◌, Ok, inl, inr}
use Rattle.std.specs.Prelude.{◌⊎◌, Some}
use Rattle.machines.specs.Journal.{Journal}
use Rattle.loops.specs.Program.{Expr, Program}
use Rattle.loop_model.specs.Maps.{AreFree}
use Rattle.corollaries.specs.Full.{FullCertificate}
use Rattle.corollaries.specs.Parts.{AllHold}
use Rattle.io_edge.specs.declared.answer.Status.{Status}
use Rattle.io_edge.specs.declared.answer.Status.TheVariants as status
use Rattle.io_edge.specs.Outcome.{Call}
use Rattle.io_edge.specs.Clauses.{IsExcused}
use Rattle.certificate_commands.specs.CertificateArguments.{Request}
use Rattle.certificate_commands.specs.CertificateAsking.{Decides}
use Rattle.certificate_commands.specs.CheckfullClauses.{ChecksFull}
use Rattle.certificate_commands.specs.CheckfullJudging.{IsShort}
use Rattle.certificate_commands.specs.FullHeadline.{ShowsFull}
use Rattle.certificate_commands.specs.FullCauses.{HasFinished}

abbrev EndsComplete : Status → Type 0
EndsComplete s = (s ≡ status.Yes) ⊎ ((s ≡ status.Wide) ⊎ IsExcused s)

decided_complete : (s : Status) (l : Program (Expr ℕ)) (c : FullCertificate) → AllHold l c
    → Decides AllHold s l c → EndsComplete s
decided_complete s l c holds (inl said) = inl said.0
decided_complete s l c holds (inr (inl said)) = absurd (said.1 holds)
decided_complete s l c holds (inr (inr rest)) = inr rest

pub called_complete : (text said : List ℕ) (budget : ℕ) (m : Journal)
    (shows : ShowsFull text said) → HasFinished text budget m
    → IsShort shows.loop shows.certificate → (request : Request) (call : Call)
    → ChecksFull request call
    → call.files.before.told request.file ≡ Some text
    → call.files.before.told request.certificate ≡ Some said → EndsComplete call.status
called_complete text said budget m shows done short request call checks loop_told certificate_told =
    let l = shows.loop in
    let same : done.loop ≡ l =
    (let x : Ok done.loop ≡ Ok l = sym done.is_loop ∙ shows.is_loop in cc) in
    let free : AreFree l = subst (λ p. AreFree p) same done.free in
    decided_complete call.status l shows.certificate shows.holds
    (checks.decided l shows.certificate (record {
      loop = record { text = text; is_told = loop_told; reads = shows.is_loop };
      certificate = said;
      is_told = certificate_told;
      reads = shows.reads_back;
    }) free short)
