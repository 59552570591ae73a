use Rattle.std.proofs.Common.{◌≡◌, map, length, suc, arith, refl, ap, ◌∙◌}
use Rattle.std.proofs.lemmas.List.{length_push}
use Rattle.algebra.proofs.Each.{each-right}
use Rattle.poly.specs.View.{term_of, terms_of}
use Rattle.poly.proofs.Peeked.{pushed, parts_long}
use Rattle.poly.proofs.Shifting.{takes_as}
use Rattle.poly.proofs.Steps.{all_arity}
use Rattle.poly.proofs.Raising.{put_less, put_equal, put_past, images}
use Rattle.poly.proofs.multiple.put.Goals as goal

pub pass_greater-requires : goal.pass_greater-requires
pass_greater-requires g c =
    let k = terms_of g.K.Ring.meaning in
    record {
      long = all_arity g.K.Ring.meaning (length c.args.mono) c.args.back.now.items
          (each-right (λ t. length t.0 ≡ length c.args.mono) (k c.args.front.now.items)
          (k c.args.back.now.items) c.requires.descending.arity);
      room = let room = c.requires.room in omega (arith, room);
    }

pub push_reserved-requires : goal.push_reserved-requires
push_reserved-requires g c =
    let v = c.pass_greater.new.front in
    let long = parts_long c.pass_greater.new.front.items c.pass_greater.new.back.items
    c.args.front.now.items c.args.back.now.items c.pass_greater.ensures.terms in
    let room = c.requires.room in
    let same = c.pass_greater.ensures.room in
    let count = v.ok.0 in
    omega (arith, long, room, same, count)

pub returns-then-not-pass_greater-clause-count : goal.returns-then-not-pass_greater-clause-count
returns-then-not-pass_greater-clause-count g c =
    let long = parts_long c.pass_greater.new.front.items c.pass_greater.new.back.items
    c.args.front.now.items c.args.back.now.items c.pass_greater.ensures.terms in
    let more = ap length c.push_reserved.ensures.items
    ∙ length_push c.pass_greater.new.front.items (record { mono = c.args.mono; coef = c.args.coef })
    in
    omega (arith, long, more)

pub put_nonzero-requires : goal.put_nonzero-requires
put_nonzero-requires g c =
    let long = parts_long c.pass_greater.new.front.items c.pass_greater.new.back.items
    c.args.front.now.items c.args.back.now.items c.pass_greater.ensures.terms in
    let room = c.requires.room in
    let same = c.pass_greater.ensures.room in
    omega (arith, long, room, same)

pub returns-clause-count : goal.returns-clause-count
returns-clause-count g c =
    let long = parts_long c.pass_greater.new.front.items c.pass_greater.new.back.items
    c.args.front.now.items c.args.back.now.items c.pass_greater.ensures.terms in
    let more : length c.pass_greater.new.back.items ≡ suc (length c.pop_front.new.self.items) =
    ap length c.in-Some.ensures.items in
    let put = c.put_nonzero.ensures.count in
    omega (arith, long, more, put)

pub returns-then-not-pass_greater-clause-ok : goal.returns-then-not-pass_greater-clause-ok
returns-then-not-pass_greater-clause-ok g c =
    let t = term_of g.K.Ring.meaning in
    put_less g.K.Ring.scalars g.met.K.Ring.ring _ (g.met.O.Order.is_order c.args.order) _ _ _ _ _
    c.requires.descending (images t _ _ _ _ c.pass_greater.ensures.terms)
    (c.pass_greater.ensures.above c.requires.above)
    c.pass_greater.result _ c.requires.nonzero c.if-not-pass_greater.true
    c.pass_greater.ensures.begins (pushed t _ _ _ _ c.push_reserved.ensures.items refl)

pub returns-in_err-sum-clause-wide : goal.returns-in_err-sum-clause-wide
returns-in_err-sum-clause-wide g c =
    let t = term_of g.K.Ring.meaning in
    λ _. put_past g.K.Ring.scalars g.met.K.Ring.ring _ (g.met.O.Order.is_order c.args.order) _ _ _ _
    _ c.requires.descending (images t _ _ _ _ c.pass_greater.ensures.terms)
    (c.pass_greater.ensures.above c.requires.above)
    c.pass_greater.result _ _ c.if-not-pass_greater.false c.pass_greater.ensures.begins
    (ap (map t) c.in-Some.ensures.items) (c.in_err-sum.ensures.wide refl)

pub returns-clause-ok : goal.returns-clause-ok
returns-clause-ok g c =
    let t = term_of g.K.Ring.meaning in
    put_equal g.K.Ring.scalars g.met.K.Ring.ring _
    (g.met.O.Order.is_order c.args.order) _ _ _ _ _ c.requires.descending
    (images t _ _ _ _ c.pass_greater.ensures.terms) (c.pass_greater.ensures.above
    c.requires.above)
    c.pass_greater.result _ _ _ c.requires.nonzero c.if-not-pass_greater.false
    c.pass_greater.ensures.begins (ap (map t) c.in-Some.ensures.items)
    (takes_as g.K.Ring.scalars _ _ _ _ _ _ refl c.in_ok-sum.ensures.ok c.put_nonzero.ensures.term)
