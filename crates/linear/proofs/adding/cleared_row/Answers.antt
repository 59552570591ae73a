use Rattle.std.proofs.Common.{◌≡◌, ◌<◌, ◌∙◌, ℕ, ap, sym, subst, refl}
use Rattle.std.proofs.lemmas.Result.{IfOk-weaker}
use Rattle.linear.specs.Rows.{fractions_of}
use Rattle.linear.proofs.Clearing.{clear_same, clear_less, clear_wide}
use Rattle.linear.proofs.adding.cleared_row.Goals as goal

within : (c m n : ℕ) → m ≡ n → c < n → c < m
within c m n e h = subst (λ x. c < x) (sym e) h

pub returns-then-is_zero-clause-row : goal.returns-then-is_zero-clause-row
returns-then-is_zero-clause-row c =
    ap fractions_of (c.in_ok-copy_row.ensures ∙ c.as_slice.ensures.value) ∙ clear_same
    c.args.row.now.items c.args.fresh.now.items c.args.column (within c.args.column _ _
    c.requires.width c.requires.column) c.index-factor.ensures (c.if-is_zero.ensures.0 refl)

pub returns-clause-row : goal.returns-clause-row
returns-clause-row c =
    IfOk-weaker c.less_of.result _ _ (λ out. clear_less c.args.row.now.items c.args.fresh.now.items
    c.args.column out.items (within c.args.column _ _ c.requires.width c.requires.column)
    c.index-factor.ensures) c.less_of.ensures.row

pub returns-clause-wide : goal.returns-clause-wide
returns-clause-wide c = λ h.
    clear_wide c.args.row.now.items c.args.fresh.now.items c.args.column (within c.args.column _ _
    c.requires.width c.requires.column) c.index-factor.ensures (c.less_of.ensures.wide h)
