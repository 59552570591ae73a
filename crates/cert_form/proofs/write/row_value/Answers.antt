use Rattle.std.proofs.Common.{sym, ap, subst, ◌∙◌, map, true≢false}
use Rattle.serde_json.specs.View.{view}
use Rattle.poly.specs.Seen.{terms_in}
use Rattle.cert_form.specs.Written.{IsReadBack}
use Rattle.cert_form.proofs.Listed.{row_start, row_more, row_all, pair_pushed, no_pair}
use Rattle.cert_form.proofs.ReadingBack.{zero_read_back}
use Rattle.cert_form.proofs.write.row_value.Goals as goal
use Rattle.cert_form.proofs.write.row_value.Goals.{then-not-is_left_out+in_ok-pair+in_ok-push, else-not-is_left_out}

pub loop-position-init : goal.loop-position-init
loop-position-init c = row_start c.new-pairs.ensures.items

pub loop-position-preserved : goal.loop-position-preserved
loop-position-preserved c =
    let names = c.args.names.now in
    let position = c.loop-position.position in
    let p = terms_in c.cofactor-item.result in
    let more = row_more c.deref-cofactor-items.ensures.value c.loop-position.invariant
    {next = c.if-not-is_left_out.pairs.items} c.loop-position-test.true c.cofactor-item.is in
    elim c.if-not-is_left_out.branch [
      | then-not-is_left_out+in_ok-pair+in_ok-push w ↦ more
          (ap (λ v. map view v.items) w.pairs-is
          ∙ pair_pushed names position p c.loop-position.pairs.items _
          w.in_ok-pair.pair (λ none. true≢false (sym (c.is_left_out.ensures.1 none)
          ∙ w.if-not-is_left_out.true)) w.in_ok-push.ensures.items w.in_ok-pair.ensures.value)
          w.in_ok-pair.ensures.holds
      | else-not-is_left_out w ↦ (
          let none = c.is_left_out.ensures.0 w.if-not-is_left_out.false in
          more (ap (λ v. map view v.items) w.pairs-is
          ∙ no_pair names position p c.loop-position.pairs.items none)
          (subst (IsReadBack names) (sym none) (zero_read_back names c.len.ensures.names)))
    ]

pub returns : goal.returns
returns c = row_all c.deref-cofactor-items.ensures.value c.loop-position.invariant
    c.loop-position-test.false c.from.ensures
