use Rattle.std.proofs.Common.{◌≡◌, ◌≤◌, ◌+◌, ◌++◌, ◌∷◌, [], true, false, take, drop, length, reverse, sym, ap, subst, ◌∙◌, arith}
use Rattle.std.specs.List.{All}
use Rattle.std.specs.Ordering.{is_lt}
use Rattle.std.proofs.lemmas.List.{nil_from_length, take_rest, length-drop, length-take-le, length_push, drop-drop, drop-append-le}
use Rattle.complete.specs.declared.pair.Pair.{Pair}
use Rattle.complete.specs.Pairs.{keys, InOrder, waiting_pairs}
use Rattle.complete.proofs.Placing.{keys_total}
use Rattle.complete.proofs.Entering.{IsOnItsWay, all_before, all_after, fronts, front_is, later_is, step, front_in_order, done}
use Rattle.complete.proofs.pairs.put_pairs.Goals as goal

pub place_of-place-requires-clause-long : goal.place_of-place-requires-clause-long
place_of-place-requires-clause-long g c =
    let q = c.loop-pair.queue in
    let a = c.in-Some.pair in
    let news = c.pop.new.self.items in
    let v = c.loop-pair.invariant.3 in
    let IsLong : Pair → Type 0 = λ b. length b.parts.value.multiple ≡ v.variables in
    let all = subst (λ ns. All IsLong (waiting_pairs q ++ ns)) c.in-Some.ensures.items v.each in
    let at = all_after IsLong news (a ∷ []) (all_after IsLong (waiting_pairs q) (news ++ a ∷ [])
    all) 0 a
    (omega arith) in
    let same = take_rest c.deref.result.now q.taken ∙ ap (drop q.taken) c.deref.ensures.value in
    subst (All (λ (b : Pair). length b.parts.value.multiple ≡ length a.parts.value.multiple))
    (sym same) (λ k d l. all_before IsLong (waiting_pairs q) (news ++ a ∷ []) all k d l ∙ sym at)

pub place_of-place-requires-clause-in_order : goal.place_of-place-requires-clause-in_order
place_of-place-requires-clause-in_order g c =
    let q = c.loop-pair.queue in
    let O = g.O.Order.order c.args.order in
    let i = c.loop-pair.invariant in
    let same = take_rest c.deref.result.now q.taken ∙ ap (drop q.taken) c.deref.ensures.value in
    let R = keys O c.args.queue.now.mixed in
    subst (InOrder (keys O q.mixed)) (sym same) (subst (λ b. InOrder (keys O b) (waiting_pairs q))
    (sym i.0) (front_in_order R (keys_total O c.args.queue.now.mixed) _ _ _ _ _ i.4))

pub loop-pair-preserved : goal.loop-pair-preserved
loop-pair-preserved g c =
    let q = c.loop-pair.queue in
    let t = q.taken in
    let p = c.place_of-place.result in
    let a = c.in-Some.pair in
    let news = c.pop.new.self.items in
    let later = c.loop-pair.later.items in
    let given = c.args.news.items in
    let old = waiting_pairs c.args.queue.now in
    let O = g.O.Order.order c.args.order in
    let mixed = c.args.queue.now.mixed in
    let R = keys O mixed in
    let i = c.loop-pair.invariant in
    let v = i.3 in
    let same = take_rest c.deref.result.now t ∙ ap (drop t) c.deref.ensures.value in
    let bound = subst (λ ps. p ≤ length ps) same c.place_of-place.ensures.bound in
    let below = subst (λ ps. All (λ b. is_lt (keys O q.mixed a b) ≡ false) (take p ps)) same
    c.place_of-place.ensures.below in
    let above = subst (λ ps. All (λ b. is_lt (keys O q.mixed a b) ≡ true) (drop p ps)) same
    c.place_of-place.ensures.above in
    let behind = length-drop t q.pairs.items in
    let taken = i.2 in
    let within : t + p ≤ length q.pairs.items = omega (arith, bound, behind, taken) in
    let cut = length-take-le (t + p) q.pairs.items within in
    let is = c.in_ok-push.ensures.items ∙ ap (λ xs. xs ++ a ∷ []) c.in_ok-tail.ensures.items in
    let size = ap length is ∙ length_push (take (t + p) q.pairs.items) a in
    let front = front_is q.pairs.items c.push.new.self.items t p a within is in
    let aside = ap (λ xs. xs ++ reverse later) (drop-drop p t q.pairs.items
    ∙ sym c.in_ok-tail.ensures.tail) ∙ later_is later c.reverse.new.self.items
    c.in_ok-tail.tail.items c.append.new.self.items c.reverse.ensures.items
    c.in_ok-append.ensures.items in
    let IsLong : Pair → Type 0 = λ b. length b.parts.value.multiple ≡ v.variables in
    let all = subst (λ ns. All IsLong (waiting_pairs q ++ ns)) c.in-Some.ensures.items v.each in
    let next = step R (keys_total O mixed) given old c.loop-pair.news.items news (waiting_pairs q)
    (reverse later) a p c.in-Some.ensures.items bound
    (subst (λ b. All (λ x. is_lt (keys O b a x) ≡ false) (take p (waiting_pairs q))) i.0 below)
    (subst (λ b. All (λ x. is_lt (keys O b a x) ≡ true) (drop p (waiting_pairs q))) i.0 above)
    i.4 in (
      i.0,
      i.1,
      omega (arith, size, cut),
      record {
        variables = v.variables;
        each = subst (λ xs. All IsLong (xs ++ news)) (sym front) (fronts IsLong (waiting_pairs q)
            news a p
            all);
      },
      subst (λ xs. IsOnItsWay R given old news xs (reverse c.append.new.self.items)) (sym front)
          (subst (IsOnItsWay R given old news (take p (waiting_pairs q) ++ a ∷ [])) aside next),
    )

pub returns-clause-pairs : goal.returns-clause-pairs
returns-clause-pairs g c =
    let q = c.loop-pair.queue in
    let O = g.O.Order.order c.args.order in
    let i = c.loop-pair.invariant in
    let zero = c.in_default.ensures.cases.0 in
    let none : c.loop-pair.news.items ≡ [] = nil_from_length c.loop-pair.news.items
    (omega (arith, zero)) in
    ap (drop q.taken) (c.in_ok-append-2.ensures.items
    ∙ ap (λ ys. q.pairs.items ++ ys) c.reverse-2.ensures.items)
    ∙ drop-append-le q.taken q.pairs.items (reverse c.loop-pair.later.items) i.2
    ∙ done (keys O c.args.queue.now.mixed) (keys_total O c.args.queue.now.mixed) _ _
    c.loop-pair.news.items _ _ none i.4
