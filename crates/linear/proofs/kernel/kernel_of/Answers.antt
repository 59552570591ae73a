use Rattle.std.proofs.Common.{◌≡◌, ◌+◌, ◌-◌, ◌++◌, ◌∙◌, sym, subst, Vec, Global}
use Rattle.frac128.specs.declared.fraction.Frac.{Frac}
use Rattle.linear.specs.Rows.{rows_of}
use Rattle.linear.specs.Parts.{kernel_rows}
use Rattle.linear.proofs.Kernels.{rows_more, rows_same}
use Rattle.linear.proofs.kernel.kernel_of.Goals as goal
use Rattle.linear.proofs.kernel.kernel_of.Goals.{then-has_no_lead+in_ok-vector_of+in_ok-push, else-has_no_lead}

pub loop-column-preserved : goal.loop-column-preserved
loop-column-preserved c =
    let rows = rows_of c.args.rows.now in
    let w = c.args.width in
    let i = c.loop-column.column in
    let all = kernel_rows rows w 0 w in
    elim c.if-has_no_lead.branch [
      | then-has_no_lead+in_ok-vector_of+in_ok-push v ↦ subst (λ (o : Vec (Vec Frac Global) Global).
          all ≡ rows_of o.items ++ kernel_rows rows w (i + 1) (w - (i + 1))) (sym v.vectors-is)
          (rows_more rows w i all _ c.loop-column-test.true c.loop-column.invariant
          v.in_ok-vector_of.field-0 (sym c.has_no_lead.ensures ∙ v.if-has_no_lead.true)
          v.in_ok-vector_of.ensures v.in_ok-push.ensures.items)
      | else-has_no_lead v ↦ subst (λ (o : Vec (Vec Frac Global) Global). all ≡ rows_of o.items
          ++ kernel_rows rows w (i + 1) (w - (i + 1))) (sym v.vectors-is)
          (rows_same rows w i all _ c.loop-column-test.true
          c.loop-column.invariant (sym c.has_no_lead.ensures ∙ v.if-has_no_lead.false))
    ]
