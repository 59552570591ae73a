use Rattle.std.proofs.Common.{reverse, sym, ap₂, ◌∙◌, arith, nat_cmp}
use Rattle.std.specs.Cmp.Lexicographic.{slice_cmp}
use Rattle.std.proofs.lemmas.List.{take_all}
use Rattle.monos.proofs.ShortWords.{block_fits}
use Rattle.monos.proofs.ShortMonos.{count_is, bits_are, first_lasts}
use Rattle.monos.proofs.short_mono.ShortMono.compare_first_from_last.Goals as goal

pub returns-then-first-from : goal.returns-then-first-from
returns-then-first-from c =
    let count = count_is _ _ _ _ c.self.invariant c.self.view_is in
    c.compare_from_last.ensures
    ∙ ap₂ (λ x y. slice_cmp nat_cmp (reverse x) (reverse y))
    (sym (take_all c.args.first c.args.other.now
    (omega (arith, count, c.requires.arity, c.if-first-from.true, c.from.ensures))))
    (sym (take_all c.args.first c.args.self.now
    (omega (arith, count, c.if-first-from.true, c.from.ensures))))

pub lowest_bits-requires : goal.lowest_bits-requires
lowest_bits-requires c = block_fits c.self.inside.arity c.args.first c.room_of.result
    c.self.invariant.few
    (omega (arith, c.if-first-from.false, c.from.ensures)) c.room_of.ensures.room

pub lowest_bits-requires-2 : goal.lowest_bits-requires-2
lowest_bits-requires-2 c = block_fits c.self.inside.arity c.args.first c.room_of.result
    c.self.invariant.few
    (omega (arith, c.if-first-from.false, c.from.ensures)) c.room_of.ensures.room

pub returns : goal.returns
returns c =
    let is = first_lasts _ _ _ _ _ _ _ _ c.self.invariant c.other.invariant c.self.view_is
    c.other.view_is c.requires.arity c.args.first
    (omega (arith, c.if-first-from.false, c.from.ensures)) _
    (bits_are _ c.args.first _ c.room_of.ensures.room)
    c.lowest_bits-2.result c.lowest_bits.result
    c.lowest_bits-2.ensures c.lowest_bits.ensures in
    cc
