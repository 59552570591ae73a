use Rattle.std.proofs.Common.{IsTrue, false, ◌+◌, ap, ◌∙◌, sym, refl, subst, Vec, Global, drop}
use Rattle.std.proofs.lemmas.Result.{err_from_is_err_and}
use Rattle.linear.specs.Rows.{fractions_of, rows_of}
use Rattle.frac128.specs.declared.fraction.Frac.{Frac}
use Rattle.linear.proofs.Lists.{Going, going_first, going_done, going_width, same_width, iteration_less, iteration_same, iteration_wide, below}
use Rattle.linear.proofs.rows.reduced_of.Goals as goal
use Rattle.linear.proofs.rows.reduced_of.Goals.{then-not-is_zero+in_ok-rest-2, else-not-is_zero}

pub loop-other-init : goal.loop-other-init
loop-other-init c = going_first (rows_of c.args.rows.now) (ap fractions_of (c.in_ok-rest.ensures
    ∙ c.as_slice.ensures.value))

pub less_of-requires : goal.less_of-requires
less_of-requires c =
    same_width c.args.row.now.items c.args.rows.now c.loop-other.other-index c.loop-other.rest
    c.loop-other-test.true c.other-item.is c.requires.widths c.loop-other.invariant

apart : IsTrue false → ⊥
apart e = cc

pub returns-in_err-rest-2-clause-wide : goal.returns-in_err-rest-2-clause-wide
returns-in_err-rest-2-clause-wide c =
    let p = err_from_is_err_and c.from_residual-in_err-rest-2.result
    c.from_residual-in_err-rest-2.ensures.1 in
    λ h. iteration_wide c.args.row.now.items c.args.rows.now c.loop-other.other-index
    c.loop-other.rest c.loop-other-test.true c.other-item.is c.requires.widths
    c.loop-other.invariant c.lead_of.ensures (below _ _ _ c.loop-other-test.true c.other-item.is
    c.lead_of.ensures c.requires.leads) c.index-factor.ensures
    (c.in_err-rest-2.ensures.wide (cc (p.1, p.2, h)))

pub loop-other-preserved : goal.loop-other-preserved
loop-other-preserved c =
    let row = c.args.row.now.items in
    let all = c.args.rows.now in
    let i = c.loop-other.other-index in
    let low = below row all i c.loop-other-test.true
    c.other-item.is c.lead_of.ensures c.requires.leads in
    elim c.if-not-is_zero.branch [
      | then-not-is_zero+in_ok-rest-2 w
          ↦ subst (λ (v : Vec Frac Global). Going (fractions_of row) (rows_of all)
          (rows_of (drop (i + 1) all)) (fractions_of v.items)) (sym w.rest-is) (iteration_less row
          all i c.loop-other.rest c.loop-other-test.true c.other-item.is c.requires.widths
          c.loop-other.invariant c.lead_of.ensures low c.index-factor.ensures _
          w.in_ok-rest-2.ensures.row)
      | else-not-is_zero w ↦ subst (λ (v : Vec Frac Global). Going (fractions_of row) (rows_of all)
          (rows_of (drop (i + 1) all)) (fractions_of v.items)) (sym w.rest-is) (iteration_same row
          all i c.loop-other.rest c.loop-other-test.true c.other-item.is c.requires.widths
          c.loop-other.invariant c.lead_of.ensures low c.index-factor.ensures
          (w.if-not-is_zero.ensures.0 refl))
    ]

pub returns-clause-row : goal.returns-clause-row
returns-clause-row c =
    going_done c.args.row.now.items c.args.rows.now _ _ c.loop-other-test.false
    c.loop-other.invariant

pub returns-clause-width : goal.returns-clause-width
returns-clause-width c = going_width c.args.row.now.items _
    c.loop-other.invariant
