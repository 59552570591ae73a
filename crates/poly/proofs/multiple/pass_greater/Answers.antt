use Rattle.std.proofs.Common.{◌≡◌, [], ◌∷◌, ◌++◌, length, Some, append_assoc, suc, arith, refl, sym, ap, ◌∙◌, subst}
use Rattle.std.specs.List.{All}
use Rattle.std.proofs.lemmas.List.Elements.{All-tail}
use Rattle.polynomials.specs.Order.{compare}
use Rattle.poly.specs.View.{term_of}
use Rattle.poly.proofs.Peeked.{peeked, taken, pushed, parts_long}
use Rattle.poly.proofs.Raising.{exceeds_push}
use Rattle.poly.proofs.multiple.pass_greater.Goals as goal

pub loop-front-preserved : goal.loop-front-preserved
loop-front-preserved g c =
    let i = c.loop-front.invariant in
    let t = c.in-Some-pop_front.term in
    let same = taken _ _ _ _ _ (peeked (λ u. u.now) _ (Some c.in-Some.next) c.in-Some.ensures.item)
    c.in-Some-pop_front.ensures.items in (
      ap (λ l. l ++ c.pop_front.new.self.items) c.push_reserved.ensures.items
          ∙ append_assoc c.loop-front.front.items (t ∷ []) c.pop_front.new.self.items
          ∙ ap (λ l. c.loop-front.front.items ++ l) (sym c.in-Some-pop_front.ensures.items) ∙ i.0,
      All-tail (λ u. length u.mono ≡ length c.args.mono.now) t c.pop_front.new.self.items
          (subst (All (λ u. length u.mono ≡ length c.args.mono.now))
          c.in-Some-pop_front.ensures.items i.1),
      c.push_reserved.ensures.capacity ∙ i.2,
      λ h. exceeds_push _ _ _ _ _ (pushed (term_of g.K.Ring.meaning) _ _ _ _
          c.push_reserved.ensures.items refl)
          (ap (λ u. compare (g.O.Order.order c.args.order) u.mono c.args.mono.now) same
          ∙ sym c.compare.ensures ∙ c.in-Greater.is) (i.3 h),
    )

pub push_reserved-requires : goal.push_reserved-requires
push_reserved-requires g c =
    let v = c.loop-front.front in
    let i = c.loop-front.invariant in
    let long = parts_long c.loop-front.front.items c.loop-front.back.items c.args.front.now.items
    c.args.back.now.items i.0 in
    let more : length c.loop-front.back.items ≡ suc (length c.pop_front.new.self.items) =
    ap length c.in-Some-pop_front.ensures.items in
    let room = c.requires.room in
    let same = i.2 in
    let count = v.ok.0 in
    omega (arith, long, more, room, same, count)
