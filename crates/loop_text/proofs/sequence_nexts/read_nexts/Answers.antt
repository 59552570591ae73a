use Rattle.std.proofs.Common.{◌≡◌, ◌<◌, ◌≤◌, ◌+◌, ◌++◌, ◌∷◌, [], ℕ, length, take, get_or, vec_len, refl, sym, ap₂, subst, ◌∙◌, arith}
use Rattle.std.proofs.lemmas.Result.{err_from_is_err_and}
use Rattle.std.proofs.lemmas.List.{get_or_default}
use Rattle.loops.specs.Limits.{most_names}
use Rattle.loop_model.specs.ExpressionView.{expr_of}
use Rattle.poly_text.specs.CursorView.{rest}
use Rattle.loop_text.specs.Seqs.{next}
use Rattle.loop_text.specs.LoopLayout.{total}
use Rattle.loop_text.specs.declared.sequence_firsts.Firsts.{Firsts}
use Rattle.loop_text.specs.Firsts.{behind_all, AreMade}
use Rattle.loop_text.proofs.Standing.{left_tokens}
use Rattle.loop_text.proofs.NextReads.{begins_going, next_stops, more_going, ends_going, some_order, few_places, total_take_more, order_fits, iteration_of}
use Rattle.loop_text.proofs.sequence_nexts.read_nexts.Goals as goal

pub loop-index-init : goal.loop-index-init
unfolding total
loop-index-init c = record {
  going = begins_going c.args.firsts.now c.args.cursor c.new-iteration.result.items
      c.new-iteration.ensures.items;
  first = refl;
  within = omega arith;
  tokens = c.requires.tokens;
}

within : (firsts : Firsts) (i n : ℕ) → i < n → n ≡ vec_len firsts.orders
    → i < length firsts.orders.items
within firsts i n l e = let d = firsts.orders.ok in omega (arith, l, e, d)

beyond : (firsts : Firsts) (i n : ℕ) → n ≤ i → n ≡ vec_len firsts.orders
    → length firsts.orders.items ≤ i
beyond firsts i n l e = let d = firsts.orders.ok in omega (arith, l, e, d)

pub returns-in_err-next : goal.returns-in_err-next
returns-in_err-next c =
    let f = c.args.firsts.now in
    let i = c.loop-index.index in
    let g = c.loop-index.invariant.going in
    next_stops f c.args.cursor c.requires.made i c.loop-index.iteration.items c.loop-index.at g
    (within f i c.len.result c.loop-index-test.true c.len.ensures) c.in_err-next.field-0.0
    c.from_residual.result
    (err_from_is_err_and c.from_residual.result c.from_residual.ensures.1)
    (c.in_err-next.ensures.reads g.nexts g.count)

order_is : (firsts : Firsts) (i n : ℕ) → i < length firsts.orders.items
    → n ≡ get_or firsts.orders.items i n → n ≡ get_or firsts.orders.items i 0
order_is firsts i n l e = e ∙ get_or_default firsts.orders.items i n 0 l

pub push_later-requires-clause-some : goal.push_later-requires-clause-some
push_later-requires-clause-some c =
    let f = c.args.firsts.now in
    let i = c.loop-index.index in
    let l = within f i c.len.result c.loop-index-test.true c.len.ensures in
    subst (λ n. 0 < n) (sym (order_is f i c.index-order.result.now l c.index-order.ensures))
    (some_order f c.requires.made i l)

few : (f : Firsts) (m : AreMade f) (i first n : ℕ) → i < length f.orders.items
    → first ≡ total (take i f.orders.items) → n ≡ get_or f.orders.items i n
    → first + n ≤ most_names
few f m i first n l a b =
    let c = few_places f m i l in
    let d = order_is f i n l b in omega (arith, a, c, d)

pub push_later-requires-clause-few : goal.push_later-requires-clause-few
push_later-requires-clause-few c =
    let f = c.args.firsts.now in
    let i = c.loop-index.index in
    few f c.requires.made i c.loop-index.first c.index-order.result.now
    (within f i c.len.result c.loop-index-test.true c.len.ensures)
    c.loop-index.invariant.first c.index-order.ensures

pub overflow_add-first : goal.overflow_add-first
overflow_add-first c =
    let f = c.args.firsts.now in
    let i = c.loop-index.index in
    let a = order_fits _ (few f c.requires.made i c.loop-index.first c.index-order.result.now
    (within f i c.len.result c.loop-index-test.true c.len.ensures)
    c.loop-index.invariant.first c.index-order.ensures) in
    omega (arith, a)

pub loop-index-preserved : goal.loop-index-preserved
loop-index-preserved c =
    let f = c.args.firsts.now in
    let i = c.loop-index.index in
    let l = within f i c.len.result c.loop-index-test.true c.len.ensures in
    let g = c.loop-index.invariant.going in
    let e = c.in_ok-next.next in
    let o = order_is f i c.index-order.result.now l c.index-order.ensures in
    let read = c.in_ok-next.ensures.reads g.nexts g.count in
    record {
      going = more_going f c.args.cursor c.requires.made i c.loop-index.iteration.items
          c.loop-index.at g l e c.push.new.self.items c.in_ok-next.end read
          c.in_ok-next.ensures.over
          (iteration_of f i c.loop-index.first c.index-order.result.now c.loop-index.invariant.first
          o
          c.loop-index.iteration.items c.push_later.new.iteration.items c.push.new.self.items e
          c.in_ok-push_later.ensures c.in_ok-push.ensures.items);
      first = ap₂ (λ a b. a + b) c.loop-index.invariant.first o
          ∙ total_take_more f c.requires.made i l;
      within = omega (arith, l);
      tokens = left_tokens c.args.text.now next refl (behind_all f g.nexts)
          (rest c.loop-index.at) c.loop-index.invariant.tokens
          (behind_all f (g.nexts ++ expr_of e ∷ [])) (rest c.in_ok-next.end) read;
    }

pub returns : goal.returns
returns c =
    let f = c.args.firsts.now in
    let i = c.loop-index.index in
    ends_going f c.args.cursor c.requires.made i c.loop-index.iteration.items c.loop-index.at
    c.loop-index.invariant.going
    (beyond f i c.len.result c.loop-index-test.false c.len.ensures)
    c.loop-index.invariant.within c.loop-index.iteration refl
