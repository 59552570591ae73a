use Rattle.corollaries.proofs.CodeBetween.{code_leads_on}
use Rattle.corollaries.proofs.chain_laws.code_leads_on_what_is_known.Goals as goal

pub returns : goal.returns
returns c s = λ program code gs ks ga e. code_leads_on program code gs ga ks e
