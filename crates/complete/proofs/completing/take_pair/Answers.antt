use Rattle.std.proofs.Common.{◌≡◌, ◌≢◌, ℕ, ◌+◌, ◌<◌, ◌≤◌, [], ◌∷◌, Some, map, drop, length, get_or, refl, sym, ap, subst, ◌∙◌, arith}
use Rattle.std.proofs.lemmas.Bool.{ltb-true}
use Rattle.std.proofs.lemmas.List.{take_rest, length-map}
use Rattle.algebra.specs.Scalars.{field}
use Rattle.polynomials.specs.Terms.{Terms}
use Rattle.machines.specs.Completion.{State, next}
use Rattle.machines.specs.Cut.{lead_of}
use Rattle.machines.specs.Event.{Pair}
use Rattle.machines.specs.Pairs.{multiple, skip_covered}
use Rattle.machines.proofs.Working.{step_of}
use Rattle.poly.specs.Seen.{terms_in, terms_each}
use Rattle.divide.proofs.Divided.{wide_of, budget_of}
use Rattle.divide.proofs.OneCut.{along, leads_long}
use Rattle.complete.specs.declared.pair.Parts.{Parts}
use Rattle.complete.specs.Pairs.{pair_of, rows_of, keys, Stands, AllStand, HasSugar}
use Rattle.complete.specs.Completing.{state_of, current_of, IsSmall}
use Rattle.complete.proofs.Coming.{pair_comes, none_comes, pair_past, pair_weight, s_polynomial_is}
use Rattle.complete.proofs.Made.{collected_along}
use Rattle.complete.proofs.Placing.{keys_total}
use Rattle.complete.proofs.Putting.{left_in}
use Rattle.complete.proofs.Sugars.{sugar_next}
use Rattle.complete.proofs.Drawn.{settled_from, in_order_later, once_later, told_later, stands_in, all_long, all_later, inside_of, got, multiple_of}
use Rattle.complete.proofs.Walking.{seen_drop, seen_end}
use Rattle.complete.proofs.completing.take_pair.Given.{Over}
use Rattle.complete.proofs.completing.take_pair.Goals.{In-Some, After-index-second, In_ok-p}
use Rattle.complete.proofs.completing.take_pair.Goals as goal

pub covered_count-covered-requires-clause-long : goal.covered_count-covered-requires-clause-long
covered_count-covered-requires-clause-long g c =
    let S = g.K.Ring.scalars in
    let s = c.args.state.now in
    let slice = take_rest c.deref.result.now s.queue.taken
    ∙ ap (drop s.queue.taken) c.deref.ensures.value in
    let long = leads_long terms_in s.arity s.basis.items c.deref-2.result.now
    (c.deref-2.ensures.value ∙ c.requires.fits.leads)
    (λ k d l. let one = c.requires.fits.elements k d l in (
      one.2,
      (along S g.O.Order.order _ _ _ _ _ one.0 one.1
          (get_or s.basis.items k d).polynomial).arity,
    )) in
    all_long s.arity c.deref-2.result.now _ long (subst (AllStand c.deref-2.result.now) (sym slice)
    (subst (λ ls. AllStand ls (drop s.queue.taken s.queue.pairs.items))
    (sym c.deref-2.ensures.value) c.requires.fits.queue.pairs))

pub returns-in_default-clause-ok : goal.returns-in_default-clause-ok
returns-in_default-clause-ok g c =
    let s = c.args.state.now in
    let skip_covered = settled_from s.queue.pairs.items c.deref.result.now s.leads.items
    c.deref-2.result.now s.queue.taken c.covered_count-covered.result c.deref.ensures.value
    c.deref-2.ensures.value c.covered_count-covered.ensures.settled in
    let out = subst (λ xs. length xs ≤ s.queue.taken + c.covered_count-covered.result)
    c.deref-3.ensures.value c.in_default.ensures.lookup.3 in (
      none_comes g.K.Ring.scalars (g.O.Order.order s.order) (state_of s) s.leads.items
          c.requires.fits.leads (ap current_of c.requires.idle)
          (skip_covered ∙ seen_end pair_of s.queue.pairs.items (s.queue.taken
          + c.covered_count-covered.result) out),
      refl,
      refl,
    )

-- ---- the pair that is taken
at_place : (g : Over) (c : In-Some g)
    → c.in-Some.pair.now ≡ get_or c.args.state.now.queue.pairs.items (c.args.state.now.queue.taken
    + c.covered_count-covered.result) c.in-Some.pair.now
at_place g c = c.in-Some.ensures.lookup.1
    ∙ ap (λ xs. get_or xs (c.args.state.now.queue.taken + c.covered_count-covered.result)
    c.in-Some.pair.now) c.deref-3.ensures.value

within : (g : Over) (c : In-Some g) → c.args.state.now.queue.taken + c.covered_count-covered.result
    < length c.args.state.now.queue.pairs.items
within g c = subst (λ xs. c.args.state.now.queue.taken + c.covered_count-covered.result < length xs)
    c.deref-3.ensures.value (ltb-true _ _ (sym c.in-Some.ensures.lookup.0))

stands : (g : Over) (c : In-Some g) → Stands c.args.state.now.leads.items c.in-Some.pair.now
stands g c =
    let s = c.args.state.now in
    stands_in (Stands s.leads.items) s.queue.pairs.items s.queue.taken
    c.covered_count-covered.result c.in-Some.pair.now (within g c) (at_place g c)
    c.requires.fits.queue.pairs

sugar_is : (g : Over) (c : In-Some g) → HasSugar c.args.state.now.leads.items
    c.args.state.now.sugars.items c.in-Some.pair.now
sugar_is g c =
    let s = c.args.state.now in
    stands_in (HasSugar s.leads.items s.sugars.items) s.queue.pairs.items s.queue.taken
    c.covered_count-covered.result c.in-Some.pair.now (within g c) (at_place g c)
    c.requires.fits.queue.sugars

inside : (g : Over) (c : In-Some g)
    → (c.in-Some.pair.now.parts.value.left < length c.args.state.now.basis.items)
    × (c.in-Some.pair.now.parts.value.right < length c.args.state.now.basis.items)
inside g c =
    let s = c.args.state.now in
    let a = c.in-Some.pair.now in (
      inside_of terms_in s.basis.items s.leads.items a.parts.value.left c.requires.fits.leads
          (left_in s.leads.items a (stands g c)),
      inside_of terms_in s.basis.items s.leads.items
          a.parts.value.right c.requires.fits.leads (stands g c).right_in,
    )

pub index-first-requires : goal.index-first-requires
index-first-requires g c =
    let left_in = (inside g (goal.at.index-first-requires g c).In-Some).0 in
    let size = c.args.state.now.basis.ok in
    let is = ap (λ (p : Parts). p.left) c.deref-4.ensures in
    omega (arith, left_in, size, is)

pub index-second-requires : goal.index-second-requires
index-second-requires g c =
    let right_in = (inside g (goal.at.index-second-requires g c).In-Some).1 in
    let size = c.args.state.now.basis.ok in
    let is = ap (λ (p : Parts). p.right) c.deref-5.ensures in
    omega (arith, right_in, size, is)

-- ---- its two elements
first_at : (g : Over) (c : After-index-second g) → c.index-first.result.now
    ≡ get_or c.args.state.now.basis.items c.in-Some.pair.now.parts.value.left
    c.index-first.result.now
first_at g c = c.index-first.ensures
    ∙ ap (λ (p : Parts). get_or c.args.state.now.basis.items p.left c.index-first.result.now)
    c.deref-4.ensures

second_at : (g : Over) (c : After-index-second g) → c.index-second.result.now
    ≡ get_or c.args.state.now.basis.items c.in-Some.pair.now.parts.value.right
    c.index-second.result.now
second_at g c = c.index-second.ensures
    ∙ ap (λ (p : Parts). get_or c.args.state.now.basis.items p.right c.index-second.result.now)
    c.deref-5.ensures

first : (g : Over) (c : After-index-second g)
    → (c.index-first.result.now.order ≡ c.args.state.now.order)
    × (c.index-first.result.now.arity ≡ c.args.state.now.arity)
    × (terms_in c.index-first.result.now ≢ [])
first g c =
    let s = c.args.state.now in
    subst (λ q. (q.order ≡ s.order) × (q.arity ≡ s.arity) × (terms_in q ≢ [])) (sym (first_at g c))
    (c.requires.fits.elements c.in-Some.pair.now.parts.value.left c.index-first.result.now
    (inside g (goal.at.After-index-second g c).In-Some).0)

second : (g : Over) (c : After-index-second g)
    → (c.index-second.result.now.order ≡ c.args.state.now.order)
    × (c.index-second.result.now.arity ≡ c.args.state.now.arity)
    × (terms_in c.index-second.result.now ≢ [])
second g c =
    let s = c.args.state.now in
    subst (λ q. (q.order ≡ s.order) × (q.arity ≡ s.arity) × (terms_in q ≢ [])) (sym (second_at g c))
    (c.requires.fits.elements c.in-Some.pair.now.parts.value.right c.index-second.result.now
    (inside g (goal.at.After-index-second g c).In-Some).1)

left_at : (g : Over) (c : After-index-second g) → get_or (terms_each c.args.state.now.basis.items)
    c.in-Some.pair.now.parts.value.left [] ≡ terms_in c.index-first.result.now
left_at g c = got terms_in c.args.state.now.basis.items c.in-Some.pair.now.parts.value.left
    c.index-first.result.now (inside g (goal.at.After-index-second g c).In-Some).0 (first_at g c)

right_at : (g : Over) (c : After-index-second g) → get_or (terms_each c.args.state.now.basis.items)
    c.in-Some.pair.now.parts.value.right [] ≡ terms_in c.index-second.result.now
right_at g c = got terms_in c.args.state.now.basis.items c.in-Some.pair.now.parts.value.right
    c.index-second.result.now (inside g (goal.at.After-index-second g c).In-Some).1 (second_at g c)

pub s_polynomial-requires : goal.s_polynomial-requires
s_polynomial-requires g c =
    let s = c.args.state.now in
    let at = goal.at.s_polynomial-requires g c in
    let one = first g at.After-index-second in
    let other = second g at.After-index-second in
    record {
      order = one.0 ∙ sym other.0;
      arity = one.1 ∙ sym other.1;
      nonzero = (one.2, other.2);
      multiple = ap (λ (p : Parts). p.multiple) c.deref-7.ensures
          ∙ multiple_of terms_in s.basis.items s.leads.items c.in-Some.pair.now
          c.index-first.result.now c.index-second.result.now c.requires.fits.leads
          (stands g at.In-Some) (first_at g at.After-index-second)
          (second_at g at.After-index-second);
    }

-- ---- what comes next
next_pair : (g : Over) (c : In-Some g)
    → skip_covered c.args.state.now.leads.items
    (map pair_of (drop c.args.state.now.queue.taken c.args.state.now.queue.pairs.items))
    ≡ pair_of c.in-Some.pair.now
    ∷ map pair_of (drop (c.args.state.now.queue.taken + c.covered_count-covered.result + 1)
    c.args.state.now.queue.pairs.items)
next_pair g c =
    let s = c.args.state.now in
    settled_from s.queue.pairs.items c.deref.result.now s.leads.items c.deref-2.result.now
    s.queue.taken c.covered_count-covered.result c.deref.ensures.value c.deref-2.ensures.value
    c.covered_count-covered.ensures.settled
    ∙ seen_drop pair_of s.queue.pairs.items (s.queue.taken + c.covered_count-covered.result)
    c.in-Some.pair.now (within g c) (at_place g c)

multiple_is : (g : Over) (c : In-Some g)
    → multiple (map lead_of (terms_each c.args.state.now.basis.items)) (pair_of c.in-Some.pair.now)
    ≡ c.in-Some.pair.now.parts.value.multiple
multiple_is g c = ap (λ ls. multiple ls (pair_of c.in-Some.pair.now)) (sym c.requires.fits.leads)
    ∙ sym (stands g c).multiple_is

-- the state with this current polynomial, where the pair waits no longer
abbrev pair_taken : (g : Over) (c : In_ok-p g) → ℕ → Terms g.K.Ring.scalars.Elem
    → State g.K.Ring.scalars.Elem
pair_taken g c n p =
    let s = c.args.state.now in
    record (state_of s) {
      waiting = map pair_of (drop (s.queue.taken + c.covered_count-covered.result + 1)
          s.queue.pairs.items);
      current = Some p;
      pair_sugar = n;
    }

comes : (g : Over) (c : In_ok-p g)
    → next (field g.K.Ring.scalars) (g.O.Order.order c.args.state.now.order)
    (state_of c.args.state.now)
    ≡ Some (
      Pair c.deref-4.result.now.left c.deref-5.result.now.right,
      pair_taken g c c.deref-6.result.now.sugar (terms_in c.in_ok-p.p),
    )
comes g c =
    let S = g.K.Ring.scalars in
    let s = c.args.state.now in
    let O = g.O.Order.order s.order in
    let a = c.in-Some.pair.now in
    let at = (goal.at.In_ok-p g c).After-index-second in
    let pair = (goal.at.In_ok-p g c).In-Some in
    pair_comes S O (state_of s) s.leads.items c.requires.fits.leads
    (ap current_of c.requires.idle) (pair_of a) _ (terms_in c.in_ok-p.p) (next_pair g pair)
    (s_polynomial_is S O (state_of s) (pair_of a) c.deref-7.result.now.multiple
    (terms_in c.index-first.result.now) (terms_in c.index-second.result.now) (left_at g at)
    (right_at g at) (multiple_is g pair
    ∙ sym (ap (λ (p : Parts). p.multiple) c.deref-7.ensures)) (terms_in c.in_ok-p.p)
    (collected_along S g.O.Order.order c.index-first.result.now.order s.order (terms_in c.in_ok-p.p)
    _ (first g at).0 c.in_ok-p.ensures.terms))
    ∙ ap (λ n. Some (
      Pair a.parts.value.left a.parts.value.right,
      pair_taken g c n (terms_in c.in_ok-p.p),
    )) (sym (sugar_is g pair))
    ∙ sym (λ i. Some (
      Pair (c.deref-4.ensures i).left (c.deref-5.ensures i).right,
      pair_taken g c (c.deref-6.ensures i).sugar (terms_in c.in_ok-p.p),
    ))

pub returns-in_err-p-clause-wide : goal.returns-in_err-p-clause-wide
returns-in_err-p-clause-wide g c =
    let S = g.K.Ring.scalars in
    let s = c.args.state.now in
    let O = g.O.Order.order s.order in
    let a = c.in-Some.pair.now in
    let at = (goal.at.returns-in_err-p-clause-wide g c).After-index-second in
    let pair = (goal.at.returns-in_err-p-clause-wide g c).In-Some in
    λ wide. pair_past S O (state_of s) s.leads.items c.requires.fits.leads
    (ap current_of c.requires.idle) (pair_of a) _ (next_pair g pair)
    (pair_weight S O (state_of s) (pair_of a) c.deref-7.result.now.multiple
    (terms_in c.index-first.result.now) (terms_in c.index-second.result.now) (left_at g at)
    (right_at g at) (multiple_is g pair
    ∙ sym (ap (λ (p : Parts). p.multiple) c.deref-7.ensures))
    (c.in_err-p.ensures.wide
    (cc (wide_of c.from_residual.result c.in_err-p.field-0.0 c.from_residual.ensures.1
    wide))))

pub returns-in_err-note-clause-budget : goal.returns-in_err-note-clause-budget
returns-in_err-note-clause-budget g c = λ w. record {
  event = _;
  following = _;
  comes = comes g (goal.at.returns-in_err-note-clause-budget g c).In_ok-p;
  unit = refl;
  exhausted = (c.in_err-note.ensures.budget.0
      (cc (budget_of c.from_residual-in_err-note.result c.in_err-note.field-0.0
      c.from_residual-in_err-note.ensures.1 w))).1;
}

pub returns-clause-ok : goal.returns-clause-ok
returns-clause-ok g c =
    let s = c.args.state.now in
    let at = (goal.at.returns-clause-ok g c).In_ok-p in
    step_of (next (field g.K.Ring.scalars) (g.O.Order.order s.order)) (state_of s) _
    c.args.meter.now c.note.new.self _
    (comes g at
    ∙ ap (λ q. Some (
      Pair c.deref-4.result.now.left c.deref-5.result.now.right,
      pair_taken g at c.deref-6.result.now.sugar q,
    )) (sym c.new.ensures.left))
    c.in_ok-note.ensures.ok c.in_ok-note.ensures.within

pub returns-clause-fits : goal.returns-clause-fits
returns-clause-fits g c =
    let s = c.args.state.now in
    let O = g.O.Order.order s.order in
    let one = first g (goal.at.returns-clause-fits g c).After-index-second in
    let pair = (goal.at.returns-clause-fits g c).In-Some in
    let q = c.requires.fits.queue in
    let items = s.queue.pairs.items in
    let t = s.queue.taken in
    let n = s.queue.taken + c.covered_count-covered.result + 1 in
    record {
      order = refl;
      arity = refl;
      elements = c.requires.fits.elements;
      leads = c.requires.fits.leads;
      sugars = c.requires.fits.sugars;
      small = c.requires.fits.small;
      pair_small = subst (λ (p : Parts). IsSmall (length s.basis.items + 1) p.sugar)
          (sym c.deref-6.ensures) (sugar_next s.leads.items s.sugars.items (length s.basis.items)
          c.in-Some.pair.now c.requires.fits.sugars
          (ap length c.requires.fits.leads ∙ length-map (terms_each s.basis.items) lead_of
          ∙ length-map s.basis.items terms_in) (stands g pair) (sugar_is g pair)
          c.requires.fits.small);
      mixed = c.requires.fits.mixed;
      queue = record {
        taken = (let w = within g pair in omega (arith, w));
        pairs = all_later (Stands s.leads.items) items t n (omega arith) q.pairs;
        sugars = all_later (HasSugar s.leads.items s.sugars.items) items t n (omega arith) q.sugars;
        in_order = in_order_later (keys O s.queue.mixed) (keys_total O s.queue.mixed) items t n
            (omega arith) q.in_order;
        once = once_later items t n (omega arith) q.once;
        count = c.covered_count-covered.ensures.count ∙ q.count;
      };
      current = (
        c.new.ensures.order ∙ c.in_ok-p.ensures.order ∙ one.0,
        c.new.ensures.arity
            ∙ c.in_ok-p.ensures.arity ∙ one.1,
        c.new.ensures.current s.leads.items,
      );
    }

pub returns-clause-told : goal.returns-clause-told
returns-clause-told g c = λ same.
    let s = c.args.state.now in
    told_later (rows_of c.covered_count-covered.new.table) s.queue.pairs.items c.deref.result.now
    s.queue.taken c.covered_count-covered.result c.deref.ensures.value
    (within g (goal.at.returns-clause-told g c).In-Some) c.covered_count-covered.ensures.told
