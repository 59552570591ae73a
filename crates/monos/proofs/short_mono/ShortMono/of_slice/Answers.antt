use Rattle.std.proofs.Common.{rules, refl, ap, subst, ◌∙◌, length, arith}
use Rattle.monos.specs.Lanes.{AreSmall, word}
use Rattle.monos.proofs.ShortWords.{room_fits}
use Rattle.monos.proofs.ShortMonos.{of_list}
use Rattle.monos.proofs.short_mono.ShortMono.of_slice.Goals as goal

pub word_of-requires-clause-fits : goal.word_of-requires-clause-fits
word_of-requires-clause-fits c = rw c.room_of-room.ensures.room
    (room_fits (length c.args.exponents.now) (omega (arith, c.if-exponents-gt16.false)))

pub invariant_of-result : goal.invariant_of-result
invariant_of-result c =
    let small : AreSmall c.room_of-room.result c.args.exponents.now = search rules in
    (of_list _ _ _ c.args.exponents.now refl (omega (arith, c.if-exponents-gt16.false))
    (subst (λ r. AreSmall r c.args.exponents.now) c.room_of-room.ensures.room small)
    c.sum_of.ensures
    (c.word_of.ensures ∙ ap (λ r. word r c.args.exponents.now) c.room_of-room.ensures.room)).0

pub returns-clause-some : goal.returns-clause-some
returns-clause-some c =
    let small : AreSmall c.room_of-room.result c.args.exponents.now = search rules in
    (of_list _ _ _ c.args.exponents.now refl (omega (arith, c.if-exponents-gt16.false))
    (subst (λ r. AreSmall r c.args.exponents.now) c.room_of-room.ensures.room small)
    c.sum_of.ensures
    (c.word_of.ensures ∙ ap (λ r. word r c.args.exponents.now) c.room_of-room.ensures.room)).1
