use Rattle.loop_text.proofs.FamilyTexts.{texts_read}
use Rattle.loop_text.proofs.family_laws.texts_are_loops.Goals as goal

pub returns : goal.returns
returns c = λ number few. texts_read number few
