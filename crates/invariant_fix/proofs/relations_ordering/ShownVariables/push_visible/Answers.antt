use Rattle.std.proofs.Common.{ℕ, Vec, Global, ap, sym, ◌∙◌}
use Rattle.corollaries.specs.Order.{is_among}
use Rattle.invariant_fix.proofs.Places.{none_yet, kept_more, left_out}
use Rattle.invariant_fix.proofs.relations_ordering.ShownVariables.push_visible.Goals.{then-contains+in_ok-push, else-contains}
use Rattle.invariant_fix.proofs.relations_ordering.ShownVariables.push_visible.Goals as goal

pub loop-place-init : goal.loop-place-init
loop-place-init c = none_yet (is_among c.args.self.now.shown.now) c.args.places.now.items

pub loop-place-preserved : goal.loop-place-preserved
loop-place-preserved c =
    elim c.if-contains.branch [
      | then-contains+in_ok-push w ↦ ap (λ (v : Vec ℕ Global). v.items) w.places-is
          ∙ w.in_ok-push.ensures.items ∙ kept_more (is_among c.args.self.now.shown.now) _ _
          c.loop-place.invariant (sym c.contains.ensures.value ∙ w.if-contains.true)
      | else-contains w ↦ ap (λ (v : Vec ℕ Global). v.items) w.places-is
          ∙ left_out (is_among c.args.self.now.shown.now) _ _ c.loop-place.invariant
          (sym c.contains.ensures.value ∙ w.if-contains.false)
    ]
