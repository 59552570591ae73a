use Rattle.grammars.proofs.Offsets.{symbols-marks_at, bare-marks_at, moved_text}
use Rattle.grammars.proofs.laws.faults_look_at_no_offset.Goals as goal

pub returns : goal.returns
returns c _ = λ L gs s text ts e. (
  moved_text L gs s text ts e,
  symbols-marks_at ts text.marks e,
  bare-marks_at ts text.marks e,
)
