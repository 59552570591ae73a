use Rattle.std.proofs.Common.{refl, inl, subst, string_bytes, List, ℕ}
use Rattle.std.proofs.lemmas.Result.{IfOk-weaker}
use Rattle.io_edge.specs.Change.{◌⟶◌}
use Rattle.io_edge.specs.Texts.{Answer}
use Rattle.io_edge.specs.Views.{answer_view}
use Rattle.io_edge.proofs.Going.{replied, at_end, reads_on, stops_at, refused, read_told}
use Rattle.io_edge.proofs.Readings.{refused_says, reading_says}
use Rattle.checkproof_command.specs.Arguments.{certificate_at}
use Rattle.checkproof_command.specs.Sources.{source_of, program_refusal}
use Rattle.checkproof_command.specs.Judging.{Judges}
use Rattle.checkproof_command.specs.Views.{source_view}
use Rattle.checkproof_command.proofs.command.answer_to.Goals as goal

pub returns-in-Err : goal.returns-in-Err
returns-in-Err g c m = refused_says source_of program_refusal _ _ _ _ m c.in-Err.refusal
    c.into_answer.result c.in-Err.ensures.read c.into_answer.ensures

pub returns-in-Ok-read_file : goal.returns-in-Ok-read_file
returns-in-Ok-read_file g c m =
    let s = source_view c.in-Ok.source in
    let P : List ℕ → Answer → Type 0 = λ bytes a. Judges s bytes a in
    reading_says source_of program_refusal _ _ _ _ _ s (m ⟶ m) _ c.in-Ok.ensures.read
    (reads_on (certificate_at (string_bytes c.args.request.certificate.now)) _
    c.in-Ok-read_file.bytes.items _ _ _ (m ⟶ m) _
    (read_told _ _ _ _ _ c.in-Ok.ensures.told c.in-Ok-read_file.ensures.read)
    (at_end _ _ _ m m _ refl refl (inl refl)
    (replied c.judge.result _ (IfOk-weaker c.judge.result _ _
    (λ a h. subst (λ b. P b (answer_view a)) c.deref.ensures.value h) c.judge.ensures))))

pub returns : goal.returns
returns g c m =
    let s = source_view c.in-Ok.source in
    let unread = c.in-Err-read_file.ensures.read in
    reading_says source_of program_refusal _ _ _ _ _ s (m ⟶ m) _ c.in-Ok.ensures.read
    (stops_at _ (certificate_at (string_bytes c.args.request.certificate.now)) _ unread.0 m _
    (read_told _ _ _ _ _ c.in-Ok.ensures.told unread.1)
    (refused c.in-Err-read_file.refusal c.into_answer-in-Err-read_file.result _ unread.2
    c.into_answer-in-Err-read_file.ensures))
