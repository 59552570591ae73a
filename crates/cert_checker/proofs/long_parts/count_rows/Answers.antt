use Rattle.std.proofs.Common.{◌≡◌, ◌+◌, ◌<◌, [], get_or, length, ap, sym, subst₂, ◌∙◌, arith}
use Rattle.std.proofs.lemmas.List.{get_or-map, length-map}
use Rattle.poly.specs.Seen.{terms_each}
use Rattle.expansion.specs.Counts.{IsCount, combination_terms}
use Rattle.expansion.specs.Lengths.{composition_length}
use Rattle.loop_model.proofs.Items.{in_list, item_of}
use Rattle.task_lists.specs.Rows.{rows_of}
use Rattle.cert_checker.specs.LongParts.{row_terms}
use Rattle.cert_checker.proofs.LongLaws.{none_none}
use Rattle.cert_checker.proofs.PartTotals.{number_next, number_beyond}
use Rattle.cert_checker.proofs.long_parts.count_rows.Given.{Over}
use Rattle.cert_checker.proofs.long_parts.count_rows.Goals as goal
use Rattle.cert_checker.proofs.long_parts.count_rows.Goals.{After-with_row}

module _ (g : Over) (c : After-with_row g) where
  within : c.loop-i.i < length c.args.rows.now.items
  within = in_list _ _ c.deref-row-items.ensures.value _ c.loop-i-test.true

  row : terms_each c.deref.result.now ≡ get_or (rows_of c.args.rows.now.items) c.loop-i.i []
  row = ap terms_each c.deref.ensures.value
      ∙ ap (λ r. terms_each r.items) (item_of _ _ c.deref-row-items.ensures.value _ _ c.row-item.is)
      ∙ sym (get_or-map (λ r. terms_each r.items) _ c.loop-i.i c.row-item.result [] within)

  -- the count of the row, of the certificate's lists
  counted : IsCount (c.loop-i.terms + row_terms (terms_each c.args.list.now)
      (terms_each c.args.images.now) (rows_of c.args.rows.now.items)
      (terms_each c.args.elements.now.items) c.loop-i.i) c.with_row.result
  counted = subst₂ (λ qs hs. IsCount (c.loop-i.terms
      + (composition_length (get_or (terms_each c.args.list.now) c.loop-i.i [])
      (terms_each c.args.images.now) + combination_terms qs hs)) c.with_row.result) row
      (ap terms_each c.deref-in-loop-i.ensures.value) c.with_row.ensures

pub returns-in-None-clause-beyond : goal.returns-in-None-clause-beyond
returns-in-None-clause-beyond g c =
    let at = (goal.at.returns-in-None-clause-beyond g c).After-with_row in
    number_beyond _ c.args.before c.loop-i.i c.loop-i.invariant (counted g at) _
    (let n = length-map c.args.rows.now.items (λ r. terms_each r.items) in
    let l = within g at in omega (arith, n, l)) (none_none c.in-None.is)

pub loop-i-preserved : goal.loop-i-preserved
loop-i-preserved g c =
    let at = (goal.at.loop-i-preserved g c).After-with_row in
    number_next _ c.args.before c.loop-i.i c.loop-i.invariant
    (counted g at) c.in-Some.more c.in-Some.is
