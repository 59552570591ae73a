use Rattle.std.proofs.Common.{sum, refl, ap₂, ◌∙◌}
use Rattle.monos.specs.Lanes.{lanes}
use Rattle.monos.proofs.ShortMonos.{lcm_is, is_short}
use Rattle.monos.proofs.short_mono.ShortMono.lcm.Goals as goal

pub invariant_of-result : goal.invariant_of-result
invariant_of-result c = (lcm_is _ _ _ _ c.self.invariant c.self.view_is c.args.other.now _ _
    c.requires
    c.word_of_lcm-word.ensures.small c.word_of_lcm-word.ensures.word
    (c.degree_in.ensures.degree ∙ ap₂ (λ r k. sum (lanes r k c.word_of_lcm-word.result))
    c.room_of.ensures.room c.from-count.ensures)).0

pub returns-clause-lcm : goal.returns-clause-lcm
returns-clause-lcm c = (lcm_is _ _ _ _ c.self.invariant c.self.view_is c.args.other.now _ _
    c.requires
    c.word_of_lcm-word.ensures.small c.word_of_lcm-word.ensures.word
    (c.degree_in.ensures.degree ∙ ap₂ (λ r k. sum (lanes r k c.word_of_lcm-word.result))
    c.room_of.ensures.room c.from-count.ensures)).1

pub returns-clause-short : goal.returns-clause-short
returns-clause-short c = is_short _ _ _ _ (lcm_is _ _ _ _ c.self.invariant c.self.view_is
    c.args.other.now _ _ c.requires
    c.word_of_lcm-word.ensures.small c.word_of_lcm-word.ensures.word
    (c.degree_in.ensures.degree ∙ ap₂ (λ r k. sum (lanes r k c.word_of_lcm-word.result))
    c.room_of.ensures.room c.from-count.ensures)).0 refl
