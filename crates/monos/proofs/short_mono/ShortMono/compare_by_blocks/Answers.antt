use Rattle.std.proofs.Common.{sym, ◌∙◌, arith}
use Rattle.monos.proofs.Words.{compare_all}
use Rattle.monos.proofs.ShortWords.{block_fits}
use Rattle.monos.proofs.ShortMonos.{count_is, bits_are, first_same, first_apart}
use Rattle.monos.proofs.short_mono.ShortMono.compare_by_blocks.Goals as goal

pub returns-then-first-from : goal.returns-then-first-from
returns-then-first-from c =
    let count = count_is _ _ _ _ c.self.invariant c.self.view_is in
    c.compare.ensures ∙ sym (compare_all c.args.first c.args.self.now c.args.other.now c.requires
    (omega (arith, count, c.if-first-from.true, c.from.ensures)))

pub lowest_bits-left-requires : goal.lowest_bits-left-requires
lowest_bits-left-requires c = block_fits c.self.inside.arity c.args.first c.room_of-room.result
    c.self.invariant.few
    (omega (arith, c.if-first-from.false, c.from.ensures)) c.room_of-room.ensures.room

pub lowest_bits-right-requires : goal.lowest_bits-right-requires
lowest_bits-right-requires c = block_fits c.self.inside.arity c.args.first c.room_of-room.result
    c.self.invariant.few
    (omega (arith, c.if-first-from.false, c.from.ensures)) c.room_of-room.ensures.room

pub returns-then-left-right : goal.returns-then-left-right
returns-then-left-right c = c.compare-then-left-right.ensures
    ∙ first_same _ _ _ _ _ _ _ _ c.self.invariant c.other.invariant c.self.view_is c.other.view_is
    c.requires c.args.first (omega (arith, c.if-first-from.false, c.from.ensures)) _
    (bits_are _ c.args.first _ c.room_of-room.ensures.room)
    (sym c.lowest_bits-left.ensures ∙ c.if-left-right.true ∙ c.lowest_bits-right.ensures)

pub returns : goal.returns
returns c =
    let e = first_apart _ _ _ _ _ _ _ _ c.self.invariant c.other.invariant c.self.view_is
    c.other.view_is c.requires c.args.first (omega (
      arith,
      c.if-first-from.false,
      c.from.ensures,
    )) _
    (bits_are _ c.args.first _ c.room_of-room.ensures.room)
    c.room_of-room.result c.lowest_bits-left.result c.lowest_bits-right.result
    c.degree_in.result c.degree_in-2.result
    c.room_of-room.ensures.room c.lowest_bits-left.ensures c.lowest_bits-right.ensures
    c.if-left-right.false
    c.degree_in.ensures.degree c.degree_in-2.ensures.degree in
    cc
