-- What `cert`, `prove` and `cert` up to a degree said, `check` calls valid.
--   called_valid     but for numbers that don't fit there and the excuses;  proof_called_valid: so a proof of a closed list
use Rattle.std.proofs.Common.{◌≡◌, ℕ, ◌≤◌, List, length, sym, subst, ◌∙◌, Ok, inl, inr}
use Rattle.std.specs.Prelude.{◌⊎◌, Some}
use Rattle.algebra.specs.Fraction.{Fraction}
use Rattle.polynomials.specs.Terms.{Terms}
use Rattle.machines.specs.Journal.{Journal}
use Rattle.loops.specs.Certificate.{Certificate, IsValid}
use Rattle.loops.specs.Program.{Expr, Program}
use Rattle.loop_model.specs.Maps.{AreFree}
use Rattle.loop_text.specs.LoopReader.{loop_of}
use Rattle.cert_form.specs.Form.{most_elements}
use Rattle.cert_form.proofs.Over.{certificate_over}
use Rattle.io_edge.specs.declared.answer.Status.{Status}
use Rattle.io_edge.specs.declared.answer.Status.TheVariants as status
use Rattle.io_edge.specs.Outcome.{Call}
use Rattle.io_edge.specs.Clauses.{IsExcused}
use Rattle.analysis_commands.specs.declared.kind.Kind.TheVariants as kinds
use Rattle.analysis_commands.specs.Headline.{ShowsAnalysis}
use Rattle.analysis_commands.specs.Causes.{HasFinished}
use Rattle.analysis_commands.proofs.PrintedCertificates.{printed_valid, valid_again}
use Rattle.closing_commands.specs.ProvedLists.{ShowsProof}
use Rattle.certificate_commands.specs.CertificateArguments.{Request}
use Rattle.certificate_commands.specs.CertificateAsking.{Decides}
use Rattle.certificate_commands.specs.CheckClauses.{Checks}
use Rattle.certificate_commands.specs.CheckJudging.{IsShort, certificate_in}

abbrev EndsValid : Status → Type 0
EndsValid s = (s ≡ status.Yes) ⊎ ((s ≡ status.Wide) ⊎ IsExcused s)

decided_valid : (s : Status) (l : Program (Expr ℕ)) (c : Certificate) → IsValid l c
    → Decides IsValid s l c → EndsValid s
decided_valid s l c valid (inl said) = inl said.0
decided_valid s l c valid (inr (inl said)) = absurd (said.1 valid)
decided_valid s l c valid (inr (inr rest)) = inr rest

pub called_valid : (text said : List ℕ) (budget : ℕ) (m : Journal)
    (shows : ShowsAnalysis kinds.Certificate text said) → HasFinished text budget m
    → length shows.certificate.basis ≤ most_elements
    → ((listed : Certificate) → certificate_in shows.loop said ≡ Ok listed
    → IsShort shows.loop listed) → (request : Request) (call : Call)
    → Checks request call → call.files.before.told request.file ≡ Some text
    → call.files.before.told request.certificate ≡ Some said → EndsValid call.status
called_valid text said budget m shows done few short request call checks loop_told
    certificate_told =
    let l = shows.loop in
    let read = printed_valid text said shows few in
    let same : done.loop ≡ l =
    (let x : Ok done.loop ≡ Ok l = sym done.is_loop ∙ shows.is_loop in cc) in
    let free : AreFree l = subst (λ p. AreFree p) same done.free in
    decided_valid call.status l read.0 read.2
    (checks.decided l read.0 (record {
      loop = record { text = text; is_told = loop_told; reads = shows.is_loop };
      certificate = said;
      is_told = certificate_told;
      reads = read.1;
    }) free (short read.0 read.1))

-- a proof that was shown
module _ (text said : List ℕ) (l : Program (Expr ℕ)) (is_loop : loop_of text ≡ Ok l)
    (P gs : List (Terms Fraction)) (shows : ShowsProof l P gs said)
    (few : length shows.certificate.basis ≤ most_elements)
    (short : (listed : Certificate) → certificate_in l said ≡ Ok listed → IsShort l listed)
    (request : Request) (call : Call) (checks : Checks request call)
    (loop_told : call.files.before.told request.file ≡ Some text)
    (certificate_told : call.files.before.told request.certificate ≡ Some said) where
  shown_valid : AreFree l → EndsValid call.status
  shown_valid free =
      let read = shows.reads_back few in
      let valid = valid_again l shows.certificate read.raw shows.proof.arities
      (certificate_over l.names (length l.branches) said read.raw read.is) read.same
      shows.identities in
      decided_valid call.status l read.raw valid
      (checks.decided l read.raw (record {
        loop = record { text = text; is_told = loop_told; reads = is_loop };
        certificate = said;
        is_told = certificate_told;
        reads = read.is;
      }) free (short read.raw read.is))

  pub proof_called_valid : (k : Program (Expr ℕ)) → loop_of text ≡ Ok k → AreFree k
      → EndsValid call.status
  proof_called_valid k is free =
      let same : k ≡ l = (let x : Ok k ≡ Ok l = sym is ∙ is_loop in cc) in
      shown_valid (subst (λ p. AreFree p) same free)
