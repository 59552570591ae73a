-- What the checker says of a certificate that was read.
--   is_read           the certificate that was read is one of the loop;  judged_said: a judgement of it answers `check`
--   refused_said      a refusal of the checker answers `check`
use Rattle.std.proofs.Common.{◌≡◌, ℕ, List, length, sym, subst}
use Rattle.std.specs.Prelude.{Some, option_map}
use Rattle.loops.specs.Certificate.{Certificate, IsOver}
use Rattle.loops.specs.Program.{Expr, Program}
use Rattle.loop_model.specs.declared.map_error.MapError.TheVariants as map_error
use Rattle.cert_form.specs.Form.{cert_in, ReadsAs}
use Rattle.cert_form.specs.Cert.{IsComplete}
use Rattle.cert_checker.specs.Views.{place_view}
use Rattle.cert_checker.specs.Wide.{IfCheckRefused}
use Rattle.cert_checker.specs.declared.error.CheckError.{CheckError}
use Rattle.cert_checker.specs.declared.error.CheckError.TheVariants as check_error
use Rattle.io_edge.specs.Texts.{Answer}
use Rattle.certificate_commands.specs.CheckTexts.{Judgement, map_limit, map_wide, limit_identity, wide_identity, judgement_answer}
use Rattle.certificate_commands.specs.CheckViews.{judgement_of}
use Rattle.certificate_commands.specs.CertificateAsking.{AnswersCertificate}
use Rattle.certificate_commands.specs.CheckJudging.{IsJudgement, Judges, certificate_in}

-- the bytes of CERT were read as this certificate of the loop
pub record IsRead (l : Program (Expr ℕ)) (bytes : List ℕ) (kept : Certificate) : Type 0 where
  reads : ReadsAs (cert_in l.names (length l.branches) bytes) kept
  complete : IsComplete (length l.names) (length l.branches) kept
  over : IsOver l kept

pub is_read : (l : Program (Expr ℕ)) (names : List (List ℕ)) (n : ℕ) (bytes : List ℕ)
    (kept : Certificate) → names ≡ l.names → n ≡ length l.branches
    → ReadsAs (cert_in names n bytes) kept → IsComplete (length names) n kept → IsOver l kept
    → IsRead l bytes kept
is_read l names n bytes kept e f reads complete over = record {
  reads = subst (λ k. ReadsAs (cert_in l.names k bytes) kept) f
      (subst (λ ns. ReadsAs (cert_in ns n bytes) kept) e reads);
  complete = subst (λ k. IsComplete (length l.names) k kept) f
      (subst (λ ns. IsComplete (length ns) n kept) e complete);
  over = over;
}

pub judged_said : (l : Program (Expr ℕ)) (bytes : List ℕ) (kept : Certificate) (a : Answer)
    (j : Judgement) → IsRead l bytes kept → IsJudgement l kept j → a ≡ judgement_answer j
    → AnswersCertificate Judges l (certificate_in l bytes) a
judged_said l bytes kept a j read is says =
    subst (λ r. AnswersCertificate Judges l r a) (sym read.reads.is)
    (record {
      kept = kept;
      complete = read.complete;
      over = read.over;
      same = read.reads.same;
      judgement = j;
      is = is;
      says = says;
    })

module _ (l : Program (Expr ℕ)) (bytes : List ℕ) (kept : Certificate) (a : Answer)
    (read : IsRead l bytes kept) where
  pub refused_said : (e : CheckError) → IfCheckRefused l kept e
      → option_map judgement_answer (judgement_of e) ≡ Some a
      → AnswersCertificate Judges l (certificate_in l bytes) a
  refused_said (check_error.Map (map_error.Limit at)) cause says =
      judged_said l bytes kept a (map_limit at) read cause (cc)
  refused_said (check_error.Map (map_error.Wide at)) cause says =
      judged_said l bytes kept a (map_wide at) read cause (cc)
  refused_said (check_error.Map map_error.Memory) cause says = absurd (cc)
  refused_said (check_error.Limit place i) cause says =
      judged_said l bytes kept a (limit_identity (place_view place) i) read cause (cc)
  refused_said (check_error.Wide place i) cause says =
      judged_said l bytes kept a (wide_identity (place_view place) i) read cause (cc)
  refused_said check_error.Memory cause says = absurd (cc)
