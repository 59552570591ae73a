use Rattle.std.proofs.Common.{suc, arith}
use Rattle.program_model.specs.PathEvents.{most_unknowns, unknown_at}
use Rattle.program_model.proofs.EventLaws.{count_stops}
use Rattle.program_model.proofs.Inverting.{unknown_is, invert_stops, invert_free}
use Rattle.program_model.proofs.inverse.invert.Goals as goal

pub returns-then-index-ge-MOST_UNKNOWNS : goal.returns-then-index-ge-MOST_UNKNOWNS
returns-then-index-ge-MOST_UNKNOWNS c h k =
    let l = c.if-index-ge-MOST_UNKNOWNS.true in
    count_stops c.args.at (suc c.args.index) most_unknowns _ (omega (arith, l))

pub returns-in_err-zero : goal.returns-in_err-zero
returns-in_err-zero c h k =
    let l = c.if-index-ge-MOST_UNKNOWNS.false in
    let u = unknown_is c.arity.result c.args.of.now.arity c.args.index _ _ c.arity.ensures.arity
    c.in_ok-unknown.ensures.variable in
    invert_stops c.args.of.now.arity c.args.at c.args.index h (λ g. omega (arith, l, g))
    c.in_err-zero.field-0.0 _ _ c.from_residual-in_err-zero.ensures.1
    (c.in_err-zero.ensures c.args.of.now.arity (unknown_at c.args.of.now.arity c.args.index) h u k)

pub returns : goal.returns
returns c h k =
    let l = c.if-index-ge-MOST_UNKNOWNS.false in
    let m = c.args.of.now.arity in
    let u = unknown_is c.arity.result c.args.of.now.arity c.args.index _ _ c.arity.ensures.arity
    c.in_ok-unknown.ensures.variable in
    let z = c.in_ok-zero.ensures m (unknown_at m c.args.index) h u k in (
      record { unknown = u; zero = z.0 },
      invert_free m c.args.at c.args.index h (λ g. omega (arith, l, g)) z.1,
    )
