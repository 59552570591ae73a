use Rattle.std.proofs.Common.{◌≡◌, ◌≢◌, ◌<◌, true, [], None, drop, length, set, get_or, refl, sym, ap, subst, ◌∙◌, arith}
use Rattle.std.specs.List.{All}
use Rattle.std.proofs.lemmas.List.{length-map, length-set, get_or-set_other, set-set}
use Rattle.std.proofs.lemmas.List.Elements.{All-set}
use Rattle.algebra.specs.Scalars.{field}
use Rattle.polynomials.specs.Polynomial.{IsPolynomial}
use Rattle.machines.specs.Cut.{lead_of, divides}
use Rattle.machines.specs.Past.{IsPastCut}
use Rattle.machines.specs.Tidying.{next, drop_place, tail_from}
use Rattle.machines.proofs.Working.{step_of}
use Rattle.poly.specs.Seen.{terms_in, terms_each}
use Rattle.divide.specs.Cutting.{term_at, cutting_of}
use Rattle.divide.proofs.Divided.{wide_of, budget_of}
use Rattle.divide.proofs.Ended.{places_of}
use Rattle.divide.proofs.OneCut.{along}
use Rattle.reduced_basis.specs.Tails.{TailAt, tail_of_places}
use Rattle.reduced_basis.specs.Tidying.{elements_of}
use Rattle.reduced_basis.proofs.Turning.{IsCutAt, IsLeft, other_element, still_is, none_comes, cut_is, term_in, term_divided, past_is, stop_comes, iteration_comes, lead_stays, leads_kept, clean_still, left_some}
use Rattle.reduced_basis.proofs.tidying.cancel_tail.Given.{Over}
use Rattle.reduced_basis.proofs.tidying.cancel_tail.Goals.{Start, In-Some, After-index-divisor, In_ok-left}
use Rattle.reduced_basis.proofs.tidying.cancel_tail.Goals as goal

-- no lead divides another
still : (g : Over) (c : Start g)
    → drop_place (field g.K.Ring.scalars) (elements_of c.args.state.now) ≡ None
still g c =
    let s = c.args.state.now in
    still_is g.K.Ring.scalars (elements_of s) s.leads.items s.apart c.requires.fits.leads
    c.requires.fits.apart c.requires.apart

pub returns-in_default-clause-ok : goal.returns-in_default-clause-ok
returns-in_default-clause-ok g c =
    let S = g.K.Ring.scalars in
    let s = c.args.state.now in
    let none = c.requires.fits.clean
    ∙ subst (λ l. tail_from (field S) (terms_each l) s.clean (drop s.clean (terms_each l))
    ≡ None) c.deref.ensures.value c.in_default.ensures in (
      none_comes S (g.O.Order.order s.order) (elements_of s)
          (still g (goal.at.returns-in_default-clause-ok g c).Start) none,
      refl,
      refl,
    )

-- ---- the tail that is found, and its places in the list
tail_is : (g : Over) (c : In-Some g) → TailAt g.K.Ring.scalars (elements_of c.args.state.now)
    c.args.state.now.clean c.in-Some.tail.element c.in-Some.tail.term c.in-Some.tail.divisor
tail_is g c =
    let tail = c.in-Some.tail in
    subst (λ l. TailAt g.K.Ring.scalars (terms_each l) c.args.state.now.clean tail.element tail.term
    tail.divisor) c.deref.ensures.value c.in-Some.ensures

inside : (g : Over) (c : In-Some g) → (c.in-Some.tail.element < length c.args.state.now.list.items)
    × (c.in-Some.tail.divisor < length c.args.state.now.list.items)
inside g c =
    let element = (tail_is g c).element_in in
    let divisor = (tail_is g c).divisor_in in
    let size = length-map c.args.state.now.list.items terms_in in
    (omega (arith, element, size), omega (arith, divisor, size))

pub index-requires : goal.index-requires
index-requires g c =
    let l = (inside g (goal.at.index-requires g c).In-Some).0 in
    let same = c.args.state.now.list.ok in
    omega (arith, l, same)

pub index_mut-requires : goal.index_mut-requires
index_mut-requires g c =
    let l = (inside g (goal.at.index_mut-requires g c).In-Some).0 in
    let same = c.args.state.now.list.ok in
    omega (arith, l, same)

pub index-divisor-requires : goal.index-divisor-requires
index-divisor-requires g c =
    let l = (inside g (goal.at.index-divisor-requires g c).In-Some).1 in
    let same = c.args.state.now.list.ok in
    omega (arith, l, same)

pub index_mut-requires-2 : goal.index_mut-requires-2
index_mut-requires-2 g c =
    let l = (inside g (goal.at.index_mut-requires-2 g c).In-Some).0 in
    let same = c.args.state.now.list.ok in
    omega (arith, l, same)

pub unreachable-requires : goal.unreachable-requires
unreachable-requires g c =
    let l = (inside g (goal.at.unreachable-requires g c).In-Some).0 in
    let few = c.requires.fits.few in
    c.in_default-try_from.ensures (omega (arith, l, few))

pub unreachable-requires-in_default-try_from-2 : goal.unreachable-requires-in_default-try_from-2
unreachable-requires-in_default-try_from-2 g c =
    let l = (inside g (goal.at.unreachable-requires-in_default-try_from-2 g c).In-Some).1 in
    let few = c.requires.fits.few in
    c.in_default-try_from-2.ensures (omega (arith, l, few))

-- ---- the cancellation
cut_at : (g : Over) (c : After-index-divisor g)
    → IsCutAt g.K.Ring.scalars terms_in c.args.state.now.list.items c.args.state.now.clean
    c.in-Some.tail.element c.in-Some.tail.term c.in-Some.tail.divisor c.index_mut.result.now
    c.index-divisor.result.now
cut_at g c =
    let s = c.args.state.now in
    let tail = c.in-Some.tail in
    let is = tail_is g (goal.at.After-index-divisor g c).In-Some in
    record {
      tail = is;
      clean = c.requires.fits.clean;
      p_at = c.index_mut.ensures.value;
      q_at = c.index-divisor.ensures
          ∙ get_or-set_other s.list.items tail.element tail.divisor c.replace-poly.new.dest
          c.index-divisor.result.now
          (other_element g.K.Ring.scalars (elements_of s) s.clean tail.element tail.term
          tail.divisor
          is);
    }

from_like : (g : Over) (c : After-index-divisor g)
    → (c.index_mut.result.now.order ≡ c.args.state.now.order)
    × (c.index_mut.result.now.arity ≡ c.args.state.now.arity)
    × (terms_in c.index_mut.result.now ≢ [])
from_like g c =
    let s = c.args.state.now in
    subst (λ q. (q.order ≡ s.order) × (q.arity ≡ s.arity) × (terms_in q ≢ []))
    (sym c.index_mut.ensures.value) (c.requires.fits.elements c.in-Some.tail.element
    c.index_mut.result.now (inside g (goal.at.After-index-divisor g c).In-Some).0)

pub cancel-requires : goal.cancel-requires
cancel-requires g c =
    let s = c.args.state.now in
    let at = (goal.at.cancel-requires g c).After-index-divisor in
    let O = g.O.Order.order s.order in
    let one = from_like g at in
    let cut = cut_at g at in
    let other = subst (λ q. (q.order ≡ s.order) × (q.arity ≡ s.arity) × (terms_in q ≢ []))
    (sym cut.q_at) (c.requires.fits.elements c.in-Some.tail.divisor
    c.index-divisor.result.now (inside g (goal.at.cancel-requires g c).In-Some).1) in
    let q = terms_in c.index-divisor.result.now in
    let is = c.replace-poly.ensures.value in
    record {
      order = other.0 ∙ sym (ap (λ p. p.order) is ∙ one.0);
      arity = other.1 ∙ sym (ap (λ p. p.arity) is ∙ one.1);
      nonzero = other.2;
      at = subst (λ p. c.in-Some.tail.term < length (terms_in p)) (sym is) (term_in O cut);
      divided = subst (λ p. divides (lead_of q)
          (term_at g.K.Ring.scalars (terms_in p) c.in-Some.tail.term).0 ≡ true) (sym is)
          (term_divided O cut);
    }

pub returns-in_err-left-clause-wide : goal.returns-in_err-left-clause-wide
returns-in_err-left-clause-wide g c =
    let at = goal.at.returns-in_err-left-clause-wide g c in
    let q = terms_in c.index-divisor.result.now in
    λ w. past_is (g.O.Order.order c.args.state.now.order) (cut_at g at.After-index-divisor)
    (still g at.Start)
    (subst (λ p. IsPastCut g.K.Ring.scalars (field g.K.Ring.scalars) (terms_in p)
    (cutting_of g.K.Ring.scalars 0 (term_at g.K.Ring.scalars (terms_in p) c.in-Some.tail.term) q))
    c.replace-poly.ensures.value
    (c.in_err-left.ensures.wide (cc (wide_of c.from_residual.result
    c.in_err-left.field-0.0 c.from_residual.ensures.1 w))))

pub returns-in_err-note-clause-budget : goal.returns-in_err-note-clause-budget
returns-in_err-note-clause-budget g c =
    let at = goal.at.returns-in_err-note-clause-budget g c in
    λ w. record {
      event = _;
      following = _;
      comes = stop_comes (g.O.Order.order c.args.state.now.order) (cut_at g at.After-index-divisor)
          (still g at.Start);
      unit = refl;
      exhausted = (c.in_err-note.ensures.budget.0
          (cc (budget_of c.from_residual-in_err-note.result c.in_err-note.field-0.0
          c.from_residual-in_err-note.ensures.1 w))).1;
    }

left_is : (g : Over) (c : In_ok-left g)
    → IsLeft g.K.Ring.scalars (g.O.Order.order c.args.state.now.order)
    (terms_in c.index_mut.result.now) (terms_in c.index-divisor.result.now) c.in-Some.tail.term
    (terms_in c.in_ok-left.left)
left_is g c =
    let q = terms_in c.index-divisor.result.now in
    let left = terms_in c.in_ok-left.left in
    subst (λ o. IsLeft g.K.Ring.scalars (g.O.Order.order o) (terms_in c.index_mut.result.now) q
    c.in-Some.tail.term left) (from_like g (goal.at.In_ok-left g c).After-index-divisor).0
    (subst (λ p. IsLeft g.K.Ring.scalars (g.O.Order.order p.order) (terms_in p) q
    c.in-Some.tail.term left) c.replace-poly.ensures.value
    c.in_ok-left.ensures.cutting.left_is)

-- the list after it: what stood in the element's place meanwhile is gone
list_is : (g : Over) (c : In_ok-left g)
    → set (set c.args.state.now.list.items c.in-Some.tail.element c.replace-poly.new.dest)
    c.in-Some.tail.element c.in_ok-left.left
    ≡ set c.args.state.now.list.items c.in-Some.tail.element c.in_ok-left.left
list_is g c =
    set-set c.args.state.now.list.items c.in-Some.tail.element c.replace-poly.new.dest
    c.in_ok-left.left

pub returns-clause-ok : goal.returns-clause-ok
returns-clause-ok g c =
    let at = goal.at.returns-clause-ok g c in
    let s = c.args.state.now in
    let O = g.O.Order.order s.order in
    step_of (next (field g.K.Ring.scalars) O) (elements_of s) _ c.args.meter.now c.note.new.self _
    (iteration_comes O (cut_at g at.After-index-divisor) (still g at.Start) c.in_ok-left.left _ _ _
    c.in-Ok.ensures.1 c.in-Ok-try_from.ensures.1 (list_is g at.In_ok-left)
    (left_is g at.In_ok-left))
    c.in_ok-note.ensures.ok c.in_ok-note.ensures.within

pub returns-clause-fits : goal.returns-clause-fits
returns-clause-fits g c =
    let at = goal.at.returns-clause-fits g c in
    let S = g.K.Ring.scalars in
    let s = c.args.state.now in
    let f = c.requires.fits in
    let tail = c.in-Some.tail in
    let O = g.O.Order.order s.order in
    let cut = cut_at g at.After-index-divisor in
    let left = left_is g at.In_ok-left in
    let list = list_is g at.In_ok-left in
    let was = c.replace-poly.ensures.value in
    let one = from_like g at.After-index-divisor in
    let within = (inside g at.In-Some).0 in
    let polynomials = places_of terms_in (λ q. IsPolynomial S.arithmetic O s.arity q × (q ≢ []))
    s.list.items
    (λ k d l. let each = f.elements k d l in (
      along S g.O.Order.order _ _ _ _ _ each.0 each.1 (get_or s.list.items k d).polynomial,
      each.2,
    )) in
    let stays = lead_stays S g.met.K.Ring.ring g.met.K.Field.field g.met.K.Ring.zero_is O
    (g.met.O.Order.is_order s.order) s.arity (elements_of s) polynomials
    (tail_of_places S (elements_of s) tail.element tail.term tail.divisor) (cut_is O cut) in
    let leads = leads_kept O cut c.in_ok-left.left _ list left stays.0 stays.1 in
    let size = ap length list ∙ length-set s.list.items tail.element c.in_ok-left.left in
    let few = f.few in
    record {
      order = refl;
      arity = refl;
      few = omega (arith, size, few);
      elements = subst (All (λ q. (q.order ≡ s.order) × (q.arity ≡ s.arity)
          × (terms_in q ≢ []))) (sym list)
          (All-set (λ q. (q.order ≡ s.order) × (q.arity ≡ s.arity) × (terms_in q ≢ []))
          s.list.items tail.element c.in_ok-left.left (
            c.in_ok-left.ensures.order ∙ ap (λ p. p.order) was ∙ one.0,
            c.in_ok-left.ensures.arity ∙ ap (λ p. p.arity) was ∙ one.1,
            left_some O cut (terms_in c.in_ok-left.left) left stays.2,
          ) f.elements);
      leads = f.leads ∙ leads;
      apart_in = f.apart_in;
      apart = f.apart;
      clean_in = omega (arith, size, within);
      clean = clean_still O cut c.in_ok-left.left _ list leads;
    }
