use Rattle.std.proofs.Common.{◌≡◌, Ok, string_bytes, subst, sym}
use Rattle.std.proofs.lemmas.Result.{IfOk-weaker, IfErr-weaker}
use Rattle.loop_model.specs.View.{program_of}
use Rattle.cert_form.proofs.ReadingBack.{memory_alone}
use Rattle.full_cert.specs.Form.{full_in}
use Rattle.task_lists.specs.View.{full_of}
use Rattle.full_cert.proofs.Counted.{same_ok}
use Rattle.full_cert.proofs.TextBack.{text_back, without_blanks}
use Rattle.full_cert.proofs.laws.written_full_certificates_are_read.Goals as goal
use Rattle.full_cert.proofs.laws.written_full_certificates_are_read.Goals.{After-read_full}

reads_back : (c : After-read_full) → full_in (program_of c.args.lp.now) c.as_bytes.result.now
    ≡ Ok (full_of c.args.cert.now)
reads_back c =
    subst (λ b. full_in (program_of c.args.lp.now) b ≡ Ok (full_of c.args.cert.now))
    (sym c.as_bytes.ensures.value) (text_back c.args.lp.now c.args.cert.now c.requires.images
    c.requires.counted c.names.result.now c.names.ensures.names c.in_ok-text.ensures.narrow
    (string_bytes c.in_ok-text.text)
    (without_blanks (string_bytes c.in_ok-text.text) _ c.in_ok-text.ensures.read))

pub returns-clause-same : goal.returns-clause-same
returns-clause-same c = IfOk-weaker c.read_full.result _ _
    (λ d read. same_ok read (reads_back (goal.at-returns-clause-same c).After-read_full))
    c.read_full.ensures.ok

pub returns-clause-memory : goal.returns-clause-memory
returns-clause-memory c = IfErr-weaker c.read_full.result _ _
    (λ e. memory_alone e (reads_back (goal.at-returns-clause-memory c).After-read_full))
    c.read_full.ensures.fault
