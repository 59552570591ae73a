use Rattle.std.proofs.Common.{◌≡◌, ℕ, length, Vec, Global}
use Rattle.vectors.specs.Adding.{lead, reduce_row}
use Rattle.frac128.specs.declared.fraction.Frac.{Frac}
use Rattle.linear.specs.Rows.{fractions_of, rows_of}
use Rattle.linear.specs.Parts.{IsFresh}
use Rattle.linear.proofs.Clearing.{fresh_widths, fresh_column, insert_within, added_is, found_some}
use Rattle.linear.proofs.adding.with_row.Goals as goal
use Rattle.linear.proofs.adding.with_row.Goals.{In-Some}

fresh : (c : In-Some) → IsFresh (rows_of c.args.rows.now) (fractions_of c.args.row.now.items)
    c.in-Some.column (fractions_of c.in-Some.fresh.items)
fresh c =
    found_some (lead (reduce_row (rows_of c.args.rows.now) (fractions_of c.args.row.now.items))
    ≡ length c.args.row.now.items) (λ (f : ℕ × Vec Frac Global). IsFresh (rows_of c.args.rows.now)
    (fractions_of c.args.row.now.items) f.0 (fractions_of f.1.items)) c.in-Some.is
    c.in-Ok.ensures.fresh

pub cleared_of-requires-clause-widths : goal.cleared_of-requires-clause-widths
cleared_of-requires-clause-widths c =
    fresh_widths c.args.rows.now c.args.row.now.items c.in-Some.fresh
    (fresh (goal.at.cleared_of-requires-clause-widths c).In-Some) c.requires.widths

pub cleared_of-requires-clause-column : goal.cleared_of-requires-clause-column
cleared_of-requires-clause-column c =
    fresh_column c.args.rows.now c.args.row.now.items c.in-Some.fresh
    (fresh (goal.at.cleared_of-requires-clause-column c).In-Some)

pub insert-requires : goal.insert-requires
insert-requires c =
    insert_within c.args.rows.now c.args.row.now.items c.in-Some.fresh
    (fresh (goal.at.insert-requires c).In-Some) c.in-Ok-cleared_of.more.items
    _ c.in-Ok-cleared_of.ensures.rows c.place_of.ensures.place c.in-Ok-cleared_of.more.ok.0

pub returns-clause-added : goal.returns-clause-added
returns-clause-added c =
    added_is c.args.rows.now c.args.row.now.items c.in-Some.fresh
    (fresh (goal.at.returns-clause-added c).In-Some) _ c.place_of.result
    c.in-Ok-cleared_of.ensures.rows c.place_of.ensures.place c.in_ok-insert.ensures.items
