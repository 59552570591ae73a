use Rattle.std.proofs.Common.{◌∙◌, sym, ap}
use Rattle.linear.proofs.Kept.{kept_widths, kept_below, kept_more, rows_more, new_more, rows_same, new_same}
use Rattle.linear.proofs.Rref.add_row.Goals as goal

pub with_row-requires-clause-widths : goal.with_row-requires-clause-widths
with_row-requires-clause-widths c =
    kept_widths (c.requires
    ∙ sym (ap (λ e. e.width) c.self.view_is)) c.as_slice.ensures.value c.self.invariant

pub with_row-requires-clause-leads : goal.with_row-requires-clause-leads
with_row-requires-clause-leads c =
    kept_below _ (c.requires
    ∙ sym (ap (λ e. e.width) c.self.view_is)) c.as_slice.ensures.value c.self.invariant

pub invariant_of-self : goal.invariant_of-self
invariant_of-self c =
    kept_more c.args.row.now.items c.self.view_is c.as_slice.ensures.value c.requires
    c.self.invariant _ (rw c.in-Ok-Some.field-0-is at c.in-Ok-Some.ensures.added)

pub returns-in-Ok-Some-clause-rows : goal.returns-in-Ok-Some-clause-rows
returns-in-Ok-Some-clause-rows c =
    rows_more c.args.row.now.items c.self.view_is c.as_slice.ensures.value c.requires
    c.self.invariant _ (rw c.in-Ok-Some.field-0-is at c.in-Ok-Some.ensures.added)

pub returns-in-Ok-Some-clause-new : goal.returns-in-Ok-Some-clause-new
returns-in-Ok-Some-clause-new c =
    new_more c.args.row.now.items c.self.view_is c.as_slice.ensures.value c.requires
    c.self.invariant _ (rw c.in-Ok-Some.field-0-is at c.in-Ok-Some.ensures.added)

pub returns-in-Ok-None-clause-rows : goal.returns-in-Ok-None-clause-rows
returns-in-Ok-None-clause-rows c =
    rows_same c.args.row.now.items c.self.view_is c.as_slice.ensures.value c.requires
    c.self.invariant (rw c.in-Ok-None.field-0-is at c.in-Ok-None.ensures.added)

pub returns-in-Ok-None-clause-new : goal.returns-in-Ok-None-clause-new
returns-in-Ok-None-clause-new c =
    new_same c.args.row.now.items c.self.view_is c.as_slice.ensures.value c.requires
    c.self.invariant (rw c.in-Ok-None.field-0-is at c.in-Ok-None.ensures.added)
