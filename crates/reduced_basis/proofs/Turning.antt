-- The events of a tidying (machines/specs/Tidying), over plain variables.
--   drop_place_is                    the next Drop, by the leads
--   drop_comes, tail_comes, none_comes     what comes next
--   tail_past                        where the next event is past
--   lead_stays                       a cancellation behind the lead leaves the lead
--   kept_long                        all leads have as many exponents
--   IsCutAt S terms xs a i j k p q   the first cancellation behind a lead, from the place a of the program's list on, has the term at j of p at i, by q at k
--   IsLeft S O p q j left            it leaves that
--   cut_is, term_in, term_divided    what it is
--   other_element                    the element that divides is another one
--   past_is, stop_comes, iteration_comes       where it is past, and what comes next
--   left_some, leads_kept, clean_still     the list after it
--   still_is                         where no lead divides another
use Rattle.std.proofs.Common.{◌≡◌, ◌≢◌, ◌↔◌, ℕ, ◌+◌, ◌<◌, true, not, eqb, List, [], ◌∷◌, map, drop, length, set, get_or, slice_get, Option, Some, None, refl, sym, ap, ap₂, subst, ◌∙◌, arith, Less}
use Rattle.std.proofs.lemmas.Bool.{eq-eqb}
use Rattle.std.specs.List.{All}
use Rattle.algebra.specs.Each.{Each}
use Rattle.algebra.specs.FieldArithmetic.{FieldArithmetic, field_of, calculus}
use Rattle.algebra.specs.Ring.{Field, IsRing, IsFieldOf}
use Rattle.algebra.specs.Scalars.{Scalars, field}
use Rattle.algebra.proofs.ScalarFields.{is_field}
use Rattle.polynomials.specs.Exponent.{plus}
use Rattle.polynomials.specs.Order.{Rank, IsMonomialOrder, compare}
use Rattle.polynomials.specs.Polynomial.{Falls, IsPolynomial}
use Rattle.polynomials.specs.Terms.{Terms}
use Rattle.std.proofs.lemmas.List.{length-map, map-set, drop_all}
use Rattle.machines.specs.Cut.{Cutting, lead_of, tail_of, divides, find_cut, after_cut}
use Rattle.machines.specs.Event.{Drop, Tail}
use Rattle.machines.specs.Past.{IsPastCut, IsPastDropping, IsPastTailing, IsPastTidying}
use Rattle.machines.specs.Run.{HasEnded}
use Rattle.machines.specs.Tidying.{others, without, TailCut, drop_place, tail_cut, tail_from, next_tail, next_drop, next}
use Rattle.machines.proofs.Cuts.{Found, found_cut, found_at, by_long, at_term}
use Rattle.machines.proofs.Elements.{IsElement}
use Rattle.machines.proofs.Monic.{below_member}
use Rattle.machines.proofs.Tidied.{tail_found, after-first}
use Rattle.divide.specs.Cutting.{term_at, cutting_of}
use Rattle.divide.proofs.OneCut.{after_any}
use Rattle.complete.proofs.Drawn.{got}
use Rattle.reduced_basis.specs.Leads.{AreLong, redundant_from}
use Rattle.reduced_basis.specs.Tails.{TailAt, tail_of_places}
use Rattle.reduced_basis.proofs.Removed.{set_leads}
use Rattle.reduced_basis.proofs.Behind.{clean_kept}
use Rattle.reduced_basis.proofs.Divisors.{drop_is, redundant_end}

pub kept_long : (m : ℕ) (ls : List (List ℕ)) → All (λ d. length d ≡ m) ls → AreLong ls
kept_long m ls h k d l i e j = h i e j ∙ sym (h k d l)

module _ (S : Scalars) (O : Rank) (gs : List (Terms S.Elem)) where
  abbrev F : FieldArithmetic S.Elem
  F = field S

  pub drop_place_is : (ls : List (List ℕ)) (a : ℕ) (o : Option ℕ) → ls ≡ map lead_of gs
      → redundant_from ls 0 ls ≡ redundant_from ls a (drop a ls) → redundant_from ls a (drop a ls)
      ≡ o → drop_place F gs ≡ o
  drop_place_is ls a o e h i = drop_is S gs 0 gs ∙ ap (λ l. redundant_from l 0 l) (sym e) ∙ h ∙ i

  pub drop_comes : (k : ℕ) → drop_place F gs ≡ Some k → next F O gs ≡ Some (Drop k, without k gs)
  unfolding next next_drop
  drop_comes k e = ap (next_drop F O gs) e

  module _ (still : drop_place F gs ≡ None) where
    pub tail_comes : (c : TailCut S.Elem) → tail_cut F gs ≡ Some c
        → next F O gs ≡ Some (
          Tail c.element c.cutting.place,
          set gs c.element (after_cut F O c.from c.cutting),
        )
    unfolding next next_drop next_tail
    tail_comes c e = ap (next_drop F O gs) still ∙ ap (next_tail F O gs) e

    pub none_comes : tail_cut F gs ≡ None → HasEnded (next F O) gs
    unfolding next next_drop next_tail
    none_comes e = ap (next_drop F O gs) still ∙ ap (next_tail F O gs) e

    pub tail_past : (c : TailCut S.Elem) → tail_cut F gs ≡ Some c → IsPastCut S F c.from c.cutting
        → IsPastTidying S F gs
    tail_past c e h = subst (IsPastDropping S F gs) (sym still) (subst (IsPastTailing S F) (sym e)
        h)

-- ---- the lead stays
module _ {A : Type 0} (K : Field A) (O : Rank) (o : IsMonomialOrder O) (m : ℕ) where
  stays_by : (gs : List (Terms A)) → ((k : ℕ) (g : Terms A) → slice_get gs k ≡ Some g
      → IsElement K O o m g) → (i : ℕ) (g : Terms A) (c : Cutting A) → slice_get gs i ≡ Some g
      → find_cut (calculus K) (others i) gs (tail_of g) ≡ Some c
      → (lead_of (after_cut (calculus K) O g c) ≡ lead_of g) × (after_cut (calculus K) O g c ≢ [])
  unfolding tail_of lead_of Falls Each
  stays_by gs elements i [] c at e = absurd ((elements i [] at).nonzero refl)
  stays_by gs elements i (u ∷ p) c at e =
      let found : Found (calculus K) (others i) gs p c = found_cut (calculus K) (others i) gs p c
      e in
      let at_of : slice_get gs c.place ≡ Some c.of = found_at (calculus K) (others i) gs found.term
      c found.by_first in
      let mo = elements c.place c.of at_of in
      let h = (elements i (u ∷ p) at).polynomial in
      let l = by_long K O o m (others i) gs p c h.arity.1 found mo in
      let k : compare O (plus c.by (lead_of c.of)) u.0 ≡ Less =
      ap (λ d. compare O d u.0) (at_term K O o m (others i) gs p c h.arity.1 found mo)
      ∙ below_member K O o m u.0 found.term p found.in_list h.falls.0 in
      let first : after_cut (calculus K) O (u ∷ p) c ≡ u ∷ after_cut (calculus K) O p c =
      after-first K O o m u p c h mo l k in
      (ap lead_of first, λ z. (let q : ⊥ = cc in q))

module _ (S : Scalars) (r : IsRing S.arithmetic) (f : IsFieldOf S.arithmetic S.inverse)
    (z : (a : S.Elem) → (S.is_zero a ≡ true) ↔ (a ≡ S.zero)) (O : Rank) (o : IsMonomialOrder O)
    (m : ℕ) where
  pub lead_stays : (gs : List (Terms S.Elem)) → ((k : ℕ) (g : Terms S.Elem)
      → slice_get gs k ≡ Some g → IsPolynomial S.arithmetic O m g × (g ≢ []))
      → (c : TailCut S.Elem) → tail_cut (field S) gs ≡ Some c
      → (slice_get gs c.element ≡ Some c.from)
      × (lead_of (after_cut (field S) O c.from c.cutting) ≡ lead_of c.from)
      × (after_cut (field S) O c.from c.cutting ≢ [])
  lead_stays gs elements c e =
      let t = tail_found (field S) gs 0 gs c e in
      let at : slice_get gs c.element ≡ Some c.from = ap (slice_get gs) (t.place
      ∙ (let q : 0 + t.after ≡ t.after = omega arith in q)) ∙ t.at in
      let stays = stays_by (field_of (field S) (is_field S r f z)) O o m gs (λ k g i. let two =
      elements k g i in record { polynomial = two.0; nonzero = two.1 }) c.element c.from
      c.cutting at t.found in
      (at, stays.0, stays.1)

pub other_element : (S : Scalars) (gs : List (Terms S.Elem)) (a i j k : ℕ) → TailAt S gs a i j k
    → k ≢ i
other_element S gs a i j k t e =
    let c = tail_of_places S gs i j k in
    let found = (tail_found (field S) gs a (drop a gs) c t.is).found in
    let allowed : not (eqb k i) ≡ true =
    (found_cut (field S) (others i) gs (tail_of c.from) c.cutting found).by_first.allowed in
    let same : eqb k i ≡ true = eq-eqb k i e in
    let z : ⊥ = cc in
    z

-- ---- one cancellation behind a lead, by the program's lists
pub record IsCutAt {X : Type 0} (S : Scalars) (terms : X → Terms S.Elem) (xs : List X) (a i j k : ℕ)
    (p q : X) : Type 0 where
  pub tail : TailAt S (map terms xs) a i j k
  pub clean : tail_cut (field S) (map terms xs) ≡ tail_from (field S) (map terms xs) a
      (drop a (map terms xs))
  pub p_at : p ≡ get_or xs i p
  pub q_at : q ≡ get_or xs k q

abbrev pub IsLeft : (S : Scalars) → Rank → (p q : Terms S.Elem) → ℕ → Terms S.Elem → Type 0
IsLeft S O p q j left = left ≡ after_cut (field S) O p (cutting_of S 0 (term_at S p j) q)

module _ {X : Type 0} {S : Scalars} {terms : X → Terms S.Elem} {xs : List X} {a i j k : ℕ} {p q : X}
    (O : Rank) (t : IsCutAt S terms xs a i j k p q) where
  abbrev gs : List (Terms S.Elem)
  gs = map terms xs

  p_is : get_or (map terms xs) i [] ≡ terms p
  p_is = let s = length-map xs terms in let l = t.tail.element_in in
      got terms xs i p (omega (arith, s, l)) t.p_at

  q_is : get_or (map terms xs) k [] ≡ terms q
  q_is = let s = length-map xs terms in let l = t.tail.divisor_in in
      got terms xs k q (omega (arith, s, l)) t.q_at

  pub cut_is : tail_cut (field S) (map terms xs) ≡ Some (tail_of_places S (map terms xs) i j k)
  cut_is = t.clean ∙ t.tail.is

  pub term_in : j < length (terms p)
  term_in = subst (λ x. j < length x) p_is t.tail.term_in

  pub term_divided : divides (lead_of (terms q)) (term_at S (terms p) j).0 ≡ true
  term_divided = ap₂ (λ y x. divides (lead_of y) (term_at S x j).0) (sym q_is) (sym p_is)
      ∙ t.tail.divided

  left_is : (left : Terms S.Elem) → IsLeft S O (terms p) (terms q) j left
      → left ≡ after_cut (field S) O (get_or (map terms xs) i []) (tail_of_places S (map terms xs) i
      j k).cutting
  left_is left e = e ∙ after_any S O (terms p) (terms q) (term_at S (terms p) j) 0 k
      ∙ ap₂ (λ y x. after_cut (field S) O x (cutting_of S k (term_at S x j) y)) (sym q_is)
      (sym p_is)

  pub left_some : (left : Terms S.Elem) → IsLeft S O (terms p) (terms q) j left
      → after_cut (field S) O (get_or (map terms xs) i []) (tail_of_places S (map terms xs) i j
      k).cutting ≢ [] → left ≢ []
  left_some left e n z = n (sym (left_is left e) ∙ z)

  module _ (still : drop_place (field S) (map terms xs) ≡ None) where
    pub past_is : IsPastCut S (field S) (terms p) (cutting_of S 0 (term_at S (terms p) j) (terms q))
        → IsPastTidying S (field S) (map terms xs)
    past_is h = tail_past S O gs still (tail_of_places S gs i j k) cut_is
        (subst (λ x. IsPastCut S (field S) x (cutting_of S k (term_at S x j) (get_or gs k [])))
        (sym p_is)
        (subst (λ y. IsPastCut S (field S) (terms p) (cutting_of S k (term_at S (terms p) j)
        y)) (sym q_is) h))

    pub stop_comes : next (field S) O (map terms xs) ≡ Some (
      Tail i k,
      set (map terms xs) i (after_cut (field S) O (get_or (map terms xs) i [])
          (tail_of_places S (map terms xs) i j k).cutting),
    )
    stop_comes = tail_comes S O gs still (tail_of_places S gs i j k) cut_is

    pub iteration_comes : (x : X) (ys : List X) (n l : ℕ) → n ≡ i → l ≡ k → ys ≡ set xs i x
        → IsLeft S O (terms p) (terms q) j (terms x) → next (field S) O (map terms xs)
        ≡ Some (Tail n l, map terms ys)
    iteration_comes x ys n l ni lk e left = stop_comes
        ∙ ap (λ z. Some (Tail i k, z)) (ap (set gs i) (sym (left_is (terms x) left))
        ∙ sym (ap (map terms) e ∙ map-set terms xs i x))
        ∙ ap₂ (λ m o. Some (Tail m o, map terms ys)) (sym ni) (sym lk)

  module _ (x : X) (ys : List X) (e : ys ≡ set xs i x) where
    seen_kept : map terms ys ≡ set (map terms xs) i (terms x)
    seen_kept = ap (map terms) e ∙ map-set terms xs i x

    pub leads_kept : IsLeft S O (terms p) (terms q) j (terms x) → slice_get (map terms xs) i
        ≡ Some (get_or (map terms xs) i [])
        → lead_of (after_cut (field S) O (get_or (map terms xs) i [])
        (tail_of_places S (map terms xs) i j k).cutting)
        ≡ lead_of (get_or (map terms xs) i []) → map lead_of (map terms xs)
        ≡ map lead_of (map terms ys)
    leads_kept left at stays =
        sym (set_leads gs i (get_or gs i []) (terms x) at (ap lead_of (left_is (terms x) left)
        ∙ stays)) ∙ ap (map lead_of) (sym seen_kept)

    pub clean_still : map lead_of (map terms xs) ≡ map lead_of (map terms ys)
        → tail_cut (field S) (map terms ys) ≡ tail_from (field S) (map terms ys) i
        (drop i (map terms ys))
    clean_still leads = clean_kept S gs (map terms ys) (tail_of_places S gs i j k) (terms x) cut_is
        t.tail.element_in seen_kept leads

pub still_is : (S : Scalars) (gs : List (Terms S.Elem)) (ls : List (List ℕ)) (a : ℕ)
    → ls ≡ map lead_of gs → redundant_from ls 0 ls ≡ redundant_from ls a (drop a ls) → a ≡ length ls
    → drop_place (field S) gs ≡ None
still_is S gs ls a e h l = drop_is S gs 0 gs ∙ ap (λ z. redundant_from z 0 z) (sym e) ∙ h
    ∙ redundant_end ls a (drop a ls) (drop_all a ls (omega (arith, l)))
