use Rattle.loop_text.proofs.FirstReads.{nothing_made}
use Rattle.loop_text.proofs.sequence_firsts.Firsts.empty.Goals as goal

pub returns-clause-made : goal.returns-clause-made
returns-clause-made c =
    nothing_made _ c.empty.ensures c.empty-2.ensures c.new.ensures.items c.new-2.ensures.items
