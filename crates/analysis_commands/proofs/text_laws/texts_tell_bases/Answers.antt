use Rattle.analysis_commands.proofs.BasisTexts.{same_bases}
use Rattle.analysis_commands.proofs.text_laws.texts_tell_bases.Goals as goal

pub returns : goal.returns
returns c = λ names gs hs pg ph rg rh e. same_bases names rg.are_names gs hs pg ph rg.each rh.each e
