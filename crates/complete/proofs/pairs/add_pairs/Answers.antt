use Rattle.std.proofs.Common.{◌≡◌, ℕ, ◌<◌, ◌≤◌, ◌+◌, List, ◌++◌, ◌∷◌, [], not, cond, length, map, drop, refl, sym, ap, ap₂, subst, ◌∙◌, arith}
use Rattle.std.specs.List.{All}
use Rattle.std.proofs.lemmas.List.{drop_all, take_all, length_push, get_or_append_left, get_or_push}
use Rattle.std.proofs.lemmas.List.Elements.{All-nil, All-push, All-append}
use Rattle.std.proofs.lemmas.Result.{on_ok_weaker}
use Rattle.polynomials.proofs.Exponent.{length-lcm}
use Rattle.algebra.proofs.Lists.{take_next}
use Rattle.machines.specs.Pairs.{coprime, put_pair, with_new}
use Rattle.machines.proofs.Waiting.{AllWithin}
use Rattle.complete.specs.declared.pair.Pair.{Pair}
use Rattle.complete.specs.Pairs.{pair_of, keys, InOrder, enters, waiting_pairs, rows_of, HasRoom}
use Rattle.complete.specs.Table.{Tells, Once}
use Rattle.complete.proofs.Entering.{all_enter, enters_none}
use Rattle.complete.proofs.Putting.{Kept, kept_none, kept_enter, kept_enters, kept_more, put_as, stands_at, sugar_there, stand_long, all_stand_long, within_all, coprime_is, slice_front, slice_last, new_next, new_end}
use Rattle.complete.proofs.Tables.{once_all, told_new}
use Rattle.complete.proofs.Walking.{next_leads}
use Rattle.complete.proofs.pairs.add_pairs.Given.{Over}
use Rattle.complete.proofs.pairs.add_pairs.Goals.{Joined-waits, After-push-2, then-waits+in_ok-pair+in_ok-put_pair, else-waits}
use Rattle.complete.proofs.pairs.add_pairs.Goals as goal

pub loop-k-init : goal.loop-k-init
loop-k-init g c =
    let d = c.args.lead.now in
    let ls = c.args.leads.now ++ d ∷ [] in
    let ss = c.args.sugars.now ++ c.args.sugar ∷ [] in
    let O = g.O.Order.order c.args.order in
    let q = c.args.queue.now in
    let IsBefore : Pair → Type 0 = λ a. a.parts.value.left < 0 in
    let none = c.new-news.ensures.items in (
      kept_none O q.mixed ls ss c.new-news.result.items none,
      subst (All IsBefore) (sym none) (All-nil IsBefore),
      ap (λ ps. with_new O ls ss (length c.args.leads.now) d c.args.leads.now 0 (map pair_of ps))
          (sym (enters_none (keys O q.mixed) c.new-news.result.items (waiting_pairs q) none)),
      c.new-row.ensures.items,
    )

pub new-requires-clause-same : goal.new-requires-clause-same
new-requires-clause-same g c = subst (λ e. length e ≡ length c.args.lead.now)
    (sym c.index-leads-k.is) (c.requires.long c.loop-k.k c.index-leads-k.result c.loop-k-test.true)

pub new-requires-clause-first_room : goal.new-requires-clause-first_room
new-requires-clause-first_room g c =
    let l = c.loop-k-test.true in
    let count = c.requires.count in
    let more = length_push c.args.sugars.now c.args.sugar in
    subst HasRoom (get_or_append_left c.args.sugars.now (c.args.sugar ∷ []) 0 c.loop-k.k
    (omega (arith, l, count))) (c.requires.room c.loop-k.k 0 (omega (arith, l, count, more)))

pub new-requires-clause-second_room : goal.new-requires-clause-second_room
new-requires-clause-second_room g c =
    let more = length_push c.args.sugars.now c.args.sugar in
    subst HasRoom (get_or_push c.args.sugars.now c.args.sugar 0 (length c.args.sugars.now) refl)
    (c.requires.room (length c.args.sugars.now) 0 (omega (arith, more)))

pub put_pair-requires-clause-long : goal.put_pair-requires-clause-long
put_pair-requires-clause-long g c =
    let d = c.args.lead.now in
    let m = length d in
    let first = subst (λ e. length e ≡ m) (sym c.index-leads-k.is)
    (c.requires.long c.loop-k.k c.index-leads-k.result c.loop-k-test.true) in
    let long = ap length c.in_ok-pair.ensures.pair.multiple_is ∙ length-lcm _ _ first ∙ first in
    λ k x l. all_stand_long m (c.args.leads.now ++ d ∷ []) c.loop-k.news.items
    (All-push (λ e. length e ≡ m) c.args.leads.now d c.requires.long refl)
    c.loop-k.invariant.0.pairs k x l ∙ sym long

-- the new pairs behind one lead
abbrev Facts : (g : Over) (c : Joined-waits g) → List Pair → Type 0
Facts g c news =
    let d = c.args.lead.now in
    let ls = c.args.leads.now ++ d ∷ [] in
    let ss = c.args.sugars.now ++ c.args.sugar ∷ [] in
    let O = g.O.Order.order c.args.order in
    let q = c.args.queue.now in
    let w = map pair_of (enters (keys O q.mixed) c.loop-k.news.items (waiting_pairs q)) in
    Kept O q.mixed ls ss news × All (λ a. a.parts.value.left < c.loop-k.k + 1) news
    × (map pair_of (enters (keys O q.mixed) news (waiting_pairs q))
    ≡ cond (coprime c.index-leads-k.result d) w
    (put_pair O ls ss (c.loop-k.k, length c.args.leads.now) w))

facts : (g : Over) (c : Joined-waits g) → Facts g c c.if-waits.news.items
facts g c = elim c.if-waits.branch [
  | then-waits+in_ok-pair+in_ok-put_pair w ↦ subst (λ v. Facts g c v.items) (sym w.news-is)
      (
      let d = c.args.lead.now in
      let m = length d in
      let n = length c.args.leads.now in
      let k = c.loop-k.k in
      let ls = c.args.leads.now ++ d ∷ [] in
      let ss = c.args.sugars.now ++ c.args.sugar ∷ [] in
      let O = g.O.Order.order c.args.order in
      let i = c.loop-k.invariant in
      let e = c.index-leads-k.result in
      let q = c.args.queue.now in
      let R = keys O q.mixed in
      let news = c.loop-k.news.items in
      let v = map pair_of (enters R news (waiting_pairs q)) in
      let l = c.loop-k-test.true in
      let count = c.requires.count in
      let first = subst (λ x. length x ≡ m) (sym c.index-leads-k.is) (c.requires.long k e l) in
      let p = w.in_ok-pair.pair in
      let of = w.in_ok-pair.ensures.pair in
      let at = slice_front c.args.leads.now d k e l c.index-leads-k.is in
      let end = slice_last c.args.leads.now d n refl in
      let stands = stands_at ls ss (k, n) e d _ _ p of at end l in
      let sugar = sugar_there ls ss (k, n) e d _ _ p of
      at end (sym (get_or_append_left c.args.sugars.now (c.args.sugar ∷ []) 0 k
      (omega (arith, l, count))))
      (sym (get_or_push c.args.sugars.now c.args.sugar 0 n count)) in
      let long = stand_long m ls p (All-push (λ x. length x ≡ m) c.args.leads.now d c.requires.long
      refl) stands in
      let left : p.parts.value.left ≡ k = ap (λ (a : ℕ × ℕ). a.0) of.places in
      let old = kept_more O c.args.leads.now c.args.sugars.now d c.args.sugar q count
      c.requires.queue in
      let is = w.in_ok-put_pair.ensures.list in (
        subst (Kept O q.mixed ls ss) (sym is) (kept_enter O q.mixed ls ss p news stands sugar i.0),
        subst (All (λ a. a.parts.value.left < k + 1)) (sym is)
            (all_enter R (λ a. a.parts.value.left < k + 1) p news (omega (arith, left))
            (λ j x b. let before = i.1 j x b in omega (arith, before))),
        ap (λ ps. map pair_of (enters R ps (waiting_pairs q))) is
            ∙ put_as O q.mixed ls ss m p news (waiting_pairs q) c.requires.mixed long stands sugar
            (subst (λ x. All (λ a. a.parts.value.left < x) news) (sym left) i.1) i.0 old
            ∙ ap (λ a. put_pair O ls ss a v) of.places
            ∙ ap (λ b. cond b v (put_pair O ls ss (k, n) v)) (sym w.if-waits.true
            ∙ coprime_is c.is_coprime-waits.result e d first c.is_coprime-waits.ensures),
      )
      )
  | else-waits w ↦ subst (λ v. Facts g c v.items) (sym w.news-is)
      (
      let d = c.args.lead.now in
      let ls = c.args.leads.now ++ d ∷ [] in
      let ss = c.args.sugars.now ++ c.args.sugar ∷ [] in
      let O = g.O.Order.order c.args.order in
      let i = c.loop-k.invariant in
      let v = map pair_of (enters (keys O c.args.queue.now.mixed) c.loop-k.news.items
      (waiting_pairs c.args.queue.now)) in
      let first = subst (λ x. length x ≡ length d) (sym c.index-leads-k.is)
      (c.requires.long c.loop-k.k c.index-leads-k.result c.loop-k-test.true) in (
        i.0,
        (λ j x b. let before = i.1 j x b in omega (arith, before)),
        ap (λ b. cond b v (put_pair O ls ss (c.loop-k.k, length c.args.leads.now) v))
            (sym w.if-waits.false ∙ coprime_is c.is_coprime-waits.result c.index-leads-k.result d
            first c.is_coprime-waits.ensures),
      )
      )
]

pub loop-k-preserved : goal.loop-k-preserved
loop-k-preserved g c =
    let d = c.args.lead.now in
    let n = length c.args.leads.now in
    let ls = c.args.leads.now ++ d ∷ [] in
    let ss = c.args.sugars.now ++ c.args.sugar ∷ [] in
    let O = g.O.Order.order c.args.order in
    let i = c.loop-k.invariant in
    let e = c.index-leads-k.result in
    let f = facts g c in
    let first = subst (λ x. length x ≡ length d) (sym c.index-leads-k.is)
    (c.requires.long c.loop-k.k e c.loop-k-test.true) in (
      f.0,
      f.1,
      i.2 ∙ new_next O ls ss n d _ _ e c.loop-k.k _ (next_leads c.args.leads.now c.loop-k.k e
          c.loop-k-test.true c.index-leads-k.is)
          ∙ ap (λ v. with_new O ls ss n d (drop (c.loop-k.k + 1) c.args.leads.now) (c.loop-k.k + 1)
          v) (sym f.2),
      c.in_ok-push.ensures.items
          ∙ ap₂ (λ r b. r ++ not b ∷ []) i.3 (coprime_is c.is_coprime-waits.result e d first
          c.is_coprime-waits.ensures)
          ∙ sym (take_next (λ x. not (coprime x d)) c.args.leads.now c.loop-k.k e c.loop-k-test.true
          c.index-leads-k.is),
    )

pub put_pairs-requires-clause-long : goal.put_pairs-requires-clause-long
put_pairs-requires-clause-long g c =
    let d = c.args.lead.now in
    let m = length d in
    let ls = c.args.leads.now ++ d ∷ [] in
    let all = All-push (λ e. length e ≡ m) c.args.leads.now d c.requires.long refl in
    let old = kept_more (g.O.Order.order c.args.order) c.args.leads.now c.args.sugars.now d
    c.args.sugar c.args.queue.now c.requires.count c.requires.queue in
    record {
      variables = m;
      each = All-append (λ a. length a.parts.value.multiple ≡ m) (waiting_pairs c.args.queue.now)
          c.loop-k.news.items
          (all_stand_long m ls (waiting_pairs c.args.queue.now) all old.pairs)
          (all_stand_long m ls c.loop-k.news.items all c.loop-k.invariant.0.pairs);
    }

-- ---- behind the last lead
out : (g : Over) (c : After-push-2 g) → length c.args.leads.now ≤ c.loop-k.k
out g c = let e = c.loop-k-test.false in omega (arith, e)

all_pairs : (g : Over) (c : After-push-2 g) → map pair_of (waiting_pairs c.put_pairs.new.queue)
    ≡ with_new (g.O.Order.order c.args.order) (c.args.leads.now ++ c.args.lead.now ∷ [])
    (c.args.sugars.now ++ c.args.sugar ∷ []) (length c.args.leads.now) c.args.lead.now
    c.args.leads.now 0 (map pair_of (waiting_pairs c.args.queue.now))
all_pairs g c = ap (map pair_of) c.in_ok-put_pairs.ensures.pairs
    ∙ sym (c.loop-k.invariant.2 ∙ new_end (g.O.Order.order c.args.order) _ _ _ _ _
    c.loop-k.k _ (drop_all c.loop-k.k c.args.leads.now (out g c)))

whole_row : (g : Over) (c : After-push-2 g)
    → c.loop-k.row.items ≡ map (λ e. not (coprime e c.args.lead.now)) c.args.leads.now
whole_row g c = c.loop-k.invariant.3 ∙ ap (map (λ e. not (coprime e c.args.lead.now)))
    (take_all c.loop-k.k c.args.leads.now (out g c))

within : (g : Over) (c : After-push-2 g)
    → AllWithin (length c.args.leads.now) (map pair_of (waiting_pairs c.args.queue.now))
within g c = within_all c.args.leads.now (waiting_pairs c.args.queue.now) c.requires.queue.pairs

pub returns-clause-pairs : goal.returns-clause-pairs
returns-clause-pairs g c = on_ok_weaker c.push-2.result (λ e. all_pairs g c) c.push-2.ensures.row

pub returns-clause-queue : goal.returns-clause-queue
returns-clause-queue g c = on_ok_weaker c.push-2.result (λ e. (
    let O = g.O.Order.order c.args.order in
    let ls = c.args.leads.now ++ c.args.lead.now ∷ [] in
    let ss = c.args.sugars.now ++ c.args.sugar ∷ [] in
    let mixed = c.args.queue.now.mixed in
    let put = c.in_ok-put_pairs.ensures in
    let old = kept_more O c.args.leads.now c.args.sugars.now c.args.lead.now c.args.sugar
    c.args.queue.now c.requires.count c.requires.queue in
    let kept = subst (Kept O mixed ls ss) (sym put.pairs) (kept_enters O mixed ls ss
    c.loop-k.news.items (waiting_pairs c.args.queue.now) c.loop-k.invariant.0 old) in
    let q = c.requires.queue in
    let t = rows_of c.args.queue.now.table in
    let row = map (λ x. not (coprime x c.args.lead.now)) c.args.leads.now in
    let is = e ∙ ap₂ (λ u r. u ++ r ∷ []) (ap rows_of c.in_ok-put_pairs.ensures.table)
    (whole_row g c) in
    let count = q.count in
    let more = length_push t row in
    let leads = length_push c.args.leads.now c.args.lead.now in
    let size = ap length is in
    record {
      taken = put.taken;
      pairs = kept.pairs;
      sugars = kept.sugars;
      in_order = subst (λ b. InOrder (keys O b) (waiting_pairs c.put_pairs.new.queue))
          (sym put.mixed)
          kept.in_order;
      once = subst Once (sym (all_pairs g c)) (once_all O ls ss c.args.lead.now c.args.leads.now _
          (within g c) q.once);
      count = omega (arith, size, more, leads, count);
    }
    )) c.push-2.ensures.row

pub returns-clause-told : goal.returns-clause-told
returns-clause-told g c = on_ok_weaker c.push-2.result (λ e. (
    let is = e ∙ ap₂ (λ u r. u ++ r ∷ []) (ap rows_of c.in_ok-put_pairs.ensures.table)
    (whole_row g c) in
    subst (λ u. Tells u (map pair_of (waiting_pairs c.put_pairs.new.queue))) (sym is)
    (subst (Tells _) (sym (all_pairs g c))
    (told_new (g.O.Order.order c.args.order) (c.args.leads.now ++ c.args.lead.now ∷ [])
    (c.args.sugars.now ++ c.args.sugar ∷ []) (rows_of c.args.queue.now.table) c.args.lead.now
    c.args.leads.now _ c.requires.queue.count (within g c) c.requires.told))
    )) c.push-2.ensures.row
