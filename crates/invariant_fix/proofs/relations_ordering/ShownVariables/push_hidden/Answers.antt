use Rattle.std.proofs.Common.{ℕ, Vec, Global, not, ap, sym, ◌∙◌}
use Rattle.corollaries.specs.Order.{is_among}
use Rattle.invariant_fix.proofs.Places.{none_yet, kept_more, left_out}
use Rattle.invariant_fix.proofs.relations_ordering.ShownVariables.push_hidden.Goals.{then-not-contains+in_ok-push, else-not-contains}
use Rattle.invariant_fix.proofs.relations_ordering.ShownVariables.push_hidden.Goals as goal

pub loop-place-init : goal.loop-place-init
loop-place-init c = none_yet (λ i. not (is_among c.args.self.now.shown.now i))
    c.args.places.now.items

pub loop-place-preserved : goal.loop-place-preserved
loop-place-preserved c =
    elim c.if-not-contains.branch [
      | then-not-contains+in_ok-push w ↦ ap (λ (v : Vec ℕ Global). v.items) w.places-is
          ∙ w.in_ok-push.ensures.items
          ∙ kept_more (λ i. not (is_among c.args.self.now.shown.now i)) _ _ c.loop-place.invariant
          (ap not (sym c.contains.ensures.value ∙ w.if-not-contains.true))
      | else-not-contains w ↦ ap (λ (v : Vec ℕ Global). v.items) w.places-is
          ∙ left_out (λ i. not (is_among c.args.self.now.shown.now i)) _ _ c.loop-place.invariant
          (ap not (sym c.contains.ensures.value ∙ w.if-not-contains.false))
    ]
