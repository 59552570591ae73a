-- Two polynomials, merged from the greatest term down.
--   Merging S r O m xs ys out lefts rights     `out` is merged, and of xs and ys are left `lefts` and `rights`
--   begin                   nothing is merged yet
--   take_left, take_right, take_both     one step
--   finish_left, finish_right            the rest is one list
--   lead_cancels                        a term and its opposite around others
--   heads_past, heads_shared             where the sum of the next two terms is past
use Rattle.std.proofs.Common.{◌≡◌, ◌≢◌, ℕ, List, [], ◌∷◌, ◌++◌, length, refl, sym, ap, ap₂, subst, ◌∙◌, ◌⊎◌, inl, inr, Less, Equal, Greater, append_assoc, arith}
use Rattle.std.specs.List.{Contains}
use Rattle.std.proofs.lemmas.List.{append-nil, map-append}
use Rattle.std.proofs.lemmas.List.Elements.{Contains-append_right}
use Rattle.algebra.specs.Ring.{CommRing}
use Rattle.algebra.specs.Scalars.{Scalars, IsBounded}
use Rattle.algebra.specs.Ring.{IsRing, ring as ring_of}
use Rattle.algebra.specs.Size.{IsPast, sum_size}
use Rattle.algebra.proofs.RingLaws.{zero-add}
use Rattle.algebra.proofs.RingSolver.{ring, ring_rules}
use Rattle.polynomials.specs.Terms.{Terms, Same}
use Rattle.polynomials.specs.Order.{Rank, IsMonomialOrder, compare}
use Rattle.polynomials.specs.Polynomial.{Below}
use Rattle.polynomials.specs.Polynomial.{IsPolynomial}
use Rattle.polynomials.specs.Weight.{weight}
use Rattle.polynomials.proofs.Order.{compare_equal}
use Rattle.polynomials.proofs.Order.{greater_less}
use Rattle.polynomials.specs.Exponent.{exponents}
use Rattle.polynomials.proofs.Exponent.{exponents_monoid}
use Rattle.polynomials.proofs.AlgebraRing.{Algebra, algebra, algebra_ring, algebra-append, algebra-nil, same_of_algebra}
use Rattle.polynomials.proofs.AlgebraRing.{monomial-list, monomial-add, monomial-zero}
use Rattle.polynomials.proofs.Past.{past_terms}
use Rattle.poly.specs.Pushed.{Takes}
use Rattle.poly.specs.Shared.{monomials, Share}
use Rattle.poly.proofs.Kept.{Over, over-tail, over-head, over-number, over-push, below-cons, below-tail, polynomial_nil, polynomial_one, polynomial_tail, head_nonzero, head_arity, polynomial_append}

-- ---- sums put together again
module _ {A : Type 0} (R : CommRing A) where
  open R use {zero as 𝟘, add as ◌⊕◌}

  infixl 60 ◌⊕◌
  left_moves : (o s l q : A) → o ⊕ s ⊕ (l ⊕ q) ≡ o ⊕ (s ⊕ l ⊕ q)
  left_moves o s l q = ring R (o ∷ s ∷ l ∷ q ∷ []) (search ring_rules depth 40) refl

  right_moves : (o s l q : A) → o ⊕ s ⊕ (l ⊕ q) ≡ o ⊕ (l ⊕ (s ⊕ q))
  right_moves o s l q = ring R (o ∷ s ∷ l ∷ q ∷ []) (search ring_rules depth 40) refl

  both_move : (o s t l q : A) → o ⊕ (s ⊕ t) ⊕ (l ⊕ q) ≡ o ⊕ (s ⊕ l ⊕ (t ⊕ q))
  both_move o s t l q = ring R (o ∷ s ∷ t ∷ l ∷ q ∷ []) (search ring_rules depth 40) refl

  both_cancel : (o s t l q : A) → s ⊕ t ≡ 𝟘 → o ⊕ (l ⊕ q) ≡ o ⊕ (s ⊕ l ⊕ (t ⊕ q))
  both_cancel o s t l q h = ap (λ z. z ⊕ (l ⊕ q)) (sym (R.add-zero o) ∙ ap (λ z. o ⊕ z) (sym h))
      ∙ both_move o s t l q

  moved_last : (s q t : A) → s ⊕ q ⊕ t ≡ s ⊕ t ⊕ q
  moved_last s q t = ring R (s ∷ q ∷ t ∷ []) (search ring_rules depth 40) refl

  first_cancels : (s q t : A) → s ⊕ t ≡ 𝟘 → q ≡ s ⊕ q ⊕ t
  first_cancels s q t h = sym (moved_last s q t ∙ ap (λ z. z ⊕ q) h ∙ zero-add R q)

module _ (S : Scalars) (r : IsRing S.arithmetic) (O : Rank) (law : IsMonomialOrder O) (m : ℕ) where
  abbrev pub P : CommRing (Algebra exponents (ring_of S.arithmetic r))
  P = algebra_ring exponents exponents_monoid (ring_of S.arithmetic r)

  open P use {zero as 𝟘, add as ◌⊕◌}

  infixl 60 ◌⊕◌
  abbrev pub poly : Terms S.Elem → Algebra exponents (ring_of S.arithmetic r)
  poly p = algebra exponents (ring_of S.arithmetic r) p

  pub record Merging (xs ys out lefts rights : Terms S.Elem) : Type 0 where
    pub xs_are : IsPolynomial S.arithmetic O m xs
    pub ys_are : IsPolynomial S.arithmetic O m ys
    pub out_is : IsPolynomial S.arithmetic O m out
    pub lefts_are : IsPolynomial S.arithmetic O m lefts
    pub rights_are : IsPolynomial S.arithmetic O m rights
    pub over_lefts : Over O out lefts
    pub over_rights : Over O out rights
    pub lefts_in : (fs : Terms S.Elem) × (xs ≡ fs ++ lefts)
    pub rights_in : (fs : Terms S.Elem) × (ys ≡ fs ++ rights)
    pub total : poly out ⊕ (poly lefts ⊕ poly rights) ≡ poly xs ⊕ poly ys

  -- ---- terms of one monomial
  one_sum : (e : List ℕ) (a b : S.Elem) → poly ((e, S.add a b) ∷ []) ≡ poly ((e, a) ∷ []) ⊕ poly
      ((e, b) ∷ [])
  one_sum e a b = monomial-list exponents exponents_monoid (ring_of S.arithmetic r) e (S.add a b)
      ∙ monomial-add exponents exponents_monoid (ring_of S.arithmetic r) e a b
      ∙ sym (ap₂ ◌⊕◌ (monomial-list exponents exponents_monoid (ring_of S.arithmetic r) e a)
      (monomial-list exponents exponents_monoid (ring_of S.arithmetic r) e b))

  pub one_zero : (e : List ℕ) → poly ((e, S.zero) ∷ []) ≡ 𝟘
  one_zero e = monomial-list exponents exponents_monoid (ring_of S.arithmetic r) e S.zero
      ∙ monomial-zero exponents exponents_monoid (ring_of S.arithmetic r) e

  cancels : (e : List ℕ) (a b : S.Elem) → S.add a b ≡ S.zero
      → poly ((e, a) ∷ []) ⊕ poly ((e, b) ∷ []) ≡ 𝟘
  cancels e a b h = sym (one_sum e a b) ∙ ap (λ c. poly ((e, c) ∷ [])) h ∙ one_zero e

  next : (t : List ℕ × S.Elem) (p : Terms S.Elem) → poly (t ∷ p) ≡ poly (t ∷ []) ⊕ poly p
  next t p = algebra-append exponents exponents_monoid (ring_of S.arithmetic r) (t ∷ []) p

  pub lead_cancels : (e : List ℕ) (a b : S.Elem) (rest : Terms S.Elem) → S.add a b ≡ S.zero
      → Same S.arithmetic rest ((e, a) ∷ rest ++ (e, b) ∷ [])
  lead_cancels e a b rest h = same_of_algebra exponents exponents_monoid (ring_of S.arithmetic r)
      rest ((e, a) ∷ rest ++ (e, b) ∷ [])
      (first_cancels P (poly ((e, a) ∷ [])) (poly rest) (poly ((e, b) ∷ [])) (cancels e a b h)
      ∙ ap (λ z. z ⊕ poly ((e, b) ∷ [])) (sym (next (e, a) rest))
      ∙ sym (algebra-append exponents exponents_monoid (ring_of S.arithmetic r) ((e, a) ∷ rest)
      ((e, b) ∷ [])))

  further : (t : List ℕ × S.Elem) (ts zs : Terms S.Elem)
      → ((fs : Terms S.Elem) × (zs ≡ fs ++ t ∷ ts)) → (fs : Terms S.Elem) × (zs ≡ fs ++ ts)
  further t ts zs w = (w.0 ++ t ∷ [], w.1 ∙ sym (append_assoc w.0 (t ∷ []) ts))

  -- ---- steps
  pub begin : (xs ys : Terms S.Elem) → IsPolynomial S.arithmetic O m xs
      → IsPolynomial S.arithmetic O m ys → Merging xs ys [] xs ys
  unfolding Over
  begin xs ys h k = record {
    xs_are = h;
    ys_are = k;
    out_is = polynomial_nil O S m [] refl;
    lefts_are = h;
    rights_are = k;
    over_lefts = tt;
    over_rights = tt;
    lefts_in = ([], refl);
    rights_in = ([], refl);
    total = ap (λ z. z ⊕ (poly xs ⊕ poly ys)) (algebra-nil exponents exponents_monoid
        (ring_of S.arithmetic r)) ∙ zero-add P (poly xs ⊕ poly ys);
  }

  head_is : (t : List ℕ × S.Elem) (p : Terms S.Elem) → IsPolynomial S.arithmetic O m (t ∷ p)
      → IsPolynomial S.arithmetic O m (t ∷ [])
  head_is t p h = polynomial_one O S m t.0 t.1 (head_arity O S m t p h) (head_nonzero O S m t p h)

  -- behind a term that all the others are above
  pushed : (out : Terms S.Elem) (t : List ℕ × S.Elem) (p : Terms S.Elem)
      → IsPolynomial S.arithmetic O m out → IsPolynomial S.arithmetic O m (t ∷ p)
      → Over O out (t ∷ p) → IsPolynomial S.arithmetic O m (out ++ t ∷ [])
  pushed out t p h k o = polynomial_append O S m out (t ∷ []) h (head_is t p k)
      (over-head O out t p o)

  take_left : (xs ys out lefts rights : Terms S.Elem) (s : List ℕ × S.Elem)
      → Merging xs ys out (s ∷ lefts) rights → Below O s.0 rights
      → Merging xs ys (out ++ s ∷ []) lefts rights
  take_left xs ys out lefts rights s h below = record {
    xs_are = h.xs_are;
    ys_are = h.ys_are;
    out_is = pushed out s lefts h.out_is h.lefts_are h.over_lefts;
    lefts_are = polynomial_tail O S m s lefts h.lefts_are;
    rights_are = h.rights_are;
    over_lefts = over-push O out s lefts (over-tail O out s lefts h.over_lefts)
        (below-tail O s lefts h.lefts_are.falls);
    over_rights = over-push O out s rights h.over_rights below;
    lefts_in = further s lefts xs h.lefts_in;
    rights_in = h.rights_in;
    total =
        ap (λ z. z ⊕ (poly lefts ⊕ poly rights)) (algebra-append exponents exponents_monoid
        (ring_of S.arithmetic r) out (s ∷ []))
        ∙ left_moves P (poly out) (poly (s ∷ [])) (poly lefts) (poly rights)
        ∙ ap (λ z. poly out ⊕ (z ⊕ poly rights)) (sym (next s lefts)) ∙ h.total;
  }

  take_right : (xs ys out lefts rights : Terms S.Elem) (t : List ℕ × S.Elem)
      → Merging xs ys out lefts (t ∷ rights) → Below O t.0 lefts
      → Merging xs ys (out ++ t ∷ []) lefts rights
  take_right xs ys out lefts rights t h below = record {
    xs_are = h.xs_are;
    ys_are = h.ys_are;
    out_is = pushed out t rights h.out_is h.rights_are h.over_rights;
    lefts_are = h.lefts_are;
    rights_are = polynomial_tail O S m t rights h.rights_are;
    over_lefts = over-push O out t lefts h.over_lefts below;
    over_rights = over-push O out t rights (over-tail O out t rights h.over_rights)
        (below-tail O t rights h.rights_are.falls);
    lefts_in = h.lefts_in;
    rights_in = further t rights ys h.rights_in;
    total =
        ap (λ z. z ⊕ (poly lefts ⊕ poly rights)) (algebra-append exponents exponents_monoid
        (ring_of S.arithmetic r) out (t ∷ []))
        ∙ right_moves P (poly out) (poly (t ∷ [])) (poly lefts) (poly rights)
        ∙ ap (λ z. poly out ⊕ (poly lefts ⊕ z)) (sym (next t rights)) ∙ h.total;
  }

  heads : (out lefts rights : Terms S.Elem) (s t : List ℕ × S.Elem)
      → poly out ⊕ (poly (s ∷ []) ⊕ poly lefts ⊕ (poly (t ∷ []) ⊕ poly rights))
      ≡ poly out ⊕ (poly (s ∷ lefts) ⊕ poly (t ∷ rights))
  heads out lefts rights s t =
      ap (λ z. poly out ⊕ z) (ap₂ ◌⊕◌ (sym (next s lefts)) (sym (next t rights)))

  take_neither : (xs ys out lefts rights : Terms S.Elem) (e : List ℕ) (a b : S.Elem)
      → Merging xs ys out ((e, a) ∷ lefts) ((e, b) ∷ rights) → S.add a b ≡ S.zero
      → Merging xs ys out lefts rights
  take_neither xs ys out lefts rights e a b h zero = record {
    xs_are = h.xs_are;
    ys_are = h.ys_are;
    out_is = h.out_is;
    lefts_are = polynomial_tail O S m (e, a) lefts h.lefts_are;
    rights_are = polynomial_tail O S m (e, b) rights h.rights_are;
    over_lefts = over-tail O out (e, a) lefts h.over_lefts;
    over_rights = over-tail O out (e, b) rights h.over_rights;
    lefts_in = further (e, a) lefts xs h.lefts_in;
    rights_in = further (e, b) rights ys h.rights_in;
    total =
        both_cancel P (poly out) (poly ((e, a) ∷ [])) (poly ((e, b) ∷ [])) (poly lefts)
        (poly rights)
        (cancels e a b zero)
        ∙ heads out lefts rights (e, a) (e, b) ∙ h.total;
  }

  take_sum : (xs ys out lefts rights : Terms S.Elem) (e : List ℕ) (a b : S.Elem)
      → Merging xs ys out ((e, a) ∷ lefts) ((e, b) ∷ rights) → S.add a b ≢ S.zero
      → Merging xs ys (out ++ (e, S.add a b) ∷ []) lefts rights
  take_sum xs ys out lefts rights e a b h some =
      record {
        xs_are = h.xs_are;
        ys_are = h.ys_are;
        out_is = polynomial_append O S m out ((e, S.add a b) ∷ []) h.out_is
            (polynomial_one O S m e (S.add a b) (head_arity O S m (e, a) lefts h.lefts_are) some)
            (over-number O out e a (S.add a b) (over-head O out (e, a) lefts h.over_lefts));
        lefts_are = polynomial_tail O S m (e, a) lefts h.lefts_are;
        rights_are = polynomial_tail O S m (e, b) rights h.rights_are;
        over_lefts = over-push O out (e, S.add a b) lefts (over-tail O out (e, a) lefts
            h.over_lefts) (below-tail O (e, a) lefts h.lefts_are.falls);
        over_rights = over-push O out (e, S.add a b) rights (over-tail O out (e, b) rights
            h.over_rights) (below-tail O (e, b) rights h.rights_are.falls);
        lefts_in = further (e, a) lefts xs h.lefts_in;
        rights_in = further (e, b) rights ys h.rights_in;
        total =
            ap (λ z. z ⊕ (poly lefts ⊕ poly rights)) (algebra-append exponents exponents_monoid
            (ring_of S.arithmetic r) out ((e, S.add a b) ∷ [])
            ∙ ap (λ z. poly out ⊕ z) (one_sum e a b))
            ∙ both_move P (poly out) (poly ((e, a) ∷ [])) (poly ((e, b) ∷ [])) (poly lefts)
            (poly rights)
            ∙ heads out lefts rights (e, a) (e, b) ∙ h.total;
      }

  take_both : (xs ys out news lefts rights : Terms S.Elem) (e : List ℕ) (a b : S.Elem)
      → Merging xs ys out ((e, a) ∷ lefts) ((e, b) ∷ rights) → Takes S e (S.add a b) out news
      → Merging xs ys news lefts rights
  take_both xs ys out news lefts rights e a b h (inl none) =
      subst (λ (zs : Terms S.Elem). Merging xs ys zs lefts rights) (sym none.1)
      (take_neither xs ys out lefts rights e a b h none.0)
  take_both xs ys out news lefts rights e a b h (inr some) =
      subst (λ (zs : Terms S.Elem). Merging xs ys zs lefts rights) (sym some.1)
      (take_sum xs ys out lefts rights e a b h some.0)

  -- ---- the same, as the code has the lists
  pub begin_at : (xs ys out : Terms S.Elem) → out ≡ [] → IsPolynomial S.arithmetic O m xs
      → IsPolynomial S.arithmetic O m ys → Merging xs ys out xs ys
  begin_at xs ys out e h k = rw e (begin xs ys h k)

  pub heads_same : (xs ys out lefts rights lefts' rights' : Terms S.Elem) (s t : List ℕ × S.Elem)
      → lefts ≡ s ∷ lefts' → rights ≡ t ∷ rights' → Merging xs ys out lefts rights
      → length s.0 ≡ length t.0
  heads_same xs ys out lefts rights lefts' rights' s t e f h =
      let n = rw (e, f) at h in
      head_arity O S m s lefts' n.lefts_are ∙ sym (head_arity O S m t rights' n.rights_are)

  pub step_greater : (xs ys out news lefts rights lefts' rights' : Terms S.Elem) (s t : List ℕ
      × S.Elem) → lefts ≡ s ∷ lefts' → rights ≡ t ∷ rights' → news ≡ out ++ s ∷ []
      → compare O s.0 t.0 ≡ Greater → Merging xs ys out lefts rights
      → Merging xs ys news lefts' rights
  step_greater xs ys out news lefts rights lefts' rights' s t e f n o h =
      let k = rw (e, f) at h in
      rw (n, f) (take_left xs ys out lefts' (t ∷ rights') s k (below-cons O law s.0 t rights'
      (greater_less O law s.0 t.0 o) k.rights_are.falls))

  pub step_less : (xs ys out news lefts rights lefts' rights' : Terms S.Elem) (s t : List ℕ
      × S.Elem) → lefts ≡ s ∷ lefts' → rights ≡ t ∷ rights' → news ≡ out ++ t ∷ []
      → compare O s.0 t.0 ≡ Less → Merging xs ys out lefts rights → Merging xs ys news lefts rights'
  step_less xs ys out news lefts rights lefts' rights' s t e f n o h =
      let k = rw (e, f) at h in
      rw (n, e) (take_right xs ys out (s ∷ lefts') rights' t k (below-cons O law t.0 s lefts' o
      k.lefts_are.falls))

  pub step_equal : (xs ys out news lefts rights lefts' rights' : Terms S.Elem) (s t : List ℕ
      × S.Elem) → lefts ≡ s ∷ lefts' → rights ≡ t ∷ rights' → Takes S s.0 (S.add s.1 t.1) out news
      → compare O s.0 t.0 ≡ Equal → Merging xs ys out lefts rights
      → Merging xs ys news lefts' rights'
  step_equal xs ys out news lefts rights lefts' rights' s t e f n o h =
      let same : t.0 ≡ s.0 = sym (compare_equal O law s.0 t.0 o) in
      let k : Merging xs ys out ((s.0, s.1) ∷ lefts') ((s.0, t.1) ∷ rights') =
      subst (λ (d : List ℕ). Merging xs ys out (s ∷ lefts') ((d, t.1) ∷ rights')) same
      (rw (e, f) at h) in
      take_both xs ys out news lefts' rights' s.0 s.1 t.1 k n

  -- ---- the end
  pub record Merged (xs ys zs : Terms S.Elem) : Type 0 where
    pub is : IsPolynomial S.arithmetic O m zs
    pub sum : Same S.arithmetic zs (xs ++ ys)

  ends : (xs ys out rest : Terms S.Elem) → IsPolynomial S.arithmetic O m out
      → IsPolynomial S.arithmetic O m rest → Over O out rest → poly out ⊕ poly rest ≡ poly xs ⊕ poly
      ys → Merged xs ys (out ++ rest)
  ends xs ys out rest h k o total =
      let is = polynomial_append O S m out rest h k o in
      record {
        is = is;
        sum = same_of_algebra exponents exponents_monoid (ring_of S.arithmetic r) (out ++ rest)
            (xs ++ ys) (algebra-append exponents exponents_monoid (ring_of S.arithmetic r) out rest
            ∙ total ∙ sym (algebra-append exponents exponents_monoid (ring_of S.arithmetic r) xs
            ys));
      }

  pub finish : (xs ys out out' out'' lefts rights : Terms S.Elem) → out' ≡ out ++ lefts
      → out'' ≡ out' ++ rights → ((lefts ≡ []) ⊎ (rights ≡ [])) → Merging xs ys out lefts rights
      → Merged xs ys out''
  finish xs ys out out' out'' lefts rights e f (inl none) h =
      let all : out'' ≡ out ++ rights = f ∙ ap (λ (zs : Terms S.Elem). zs ++ rights) (e
      ∙ ap (λ (zs : Terms S.Elem). out ++ zs) none ∙ append-nil out) in
      let k = rw none at h in
      rw all (ends xs ys out rights k.out_is k.rights_are k.over_rights
      (ap (λ z. poly out ⊕ z)
      (sym (ap (λ z. z ⊕ poly rights) (algebra-nil exponents exponents_monoid
      (ring_of S.arithmetic r)) ∙ zero-add P (poly rights))) ∙ k.total))
  finish xs ys out out' out'' lefts rights e f (inr none) h =
      let all : out'' ≡ out ++ lefts = f ∙ ap (λ (zs : Terms S.Elem). out' ++ zs) none
      ∙ append-nil out' ∙ e in
      let k = rw none at h in
      rw all (ends xs ys out lefts k.out_is k.lefts_are k.over_lefts
      (ap (λ z. poly out ⊕ z)
      (sym (ap (λ z. poly lefts ⊕ z) (algebra-nil exponents exponents_monoid
      (ring_of S.arithmetic r)) ∙ P.add-zero (poly lefts))) ∙ k.total))

  -- ---- the next two terms
  pub heads_past : (z : IsBounded S.arithmetic S.size) (xs ys out lefts rights lefts'
      rights' : Terms S.Elem) (s t : List ℕ × S.Elem)
      → lefts ≡ s ∷ lefts' → rights ≡ t ∷ rights' → Merging xs ys out lefts rights
      → IsPast (sum_size (S.size s.1) (S.size t.1))
      → IsPast (sum_size (weight S.size xs) (weight S.size ys))
  heads_past z xs ys out lefts rights lefts' rights' s t e f h past =
      let l : xs ≡ h.lefts_in.0 ++ s ∷ lefts' = h.lefts_in.1
      ∙ ap (λ (zs : Terms S.Elem). h.lefts_in.0 ++ zs) e in
      let q : ys ≡ h.rights_in.0 ++ t ∷ rights' = h.rights_in.1
      ∙ ap (λ (zs : Terms S.Elem). h.rights_in.0 ++ zs) f in
      rw (l, q) (past_terms S r z h.lefts_in.0 s lefts' h.rights_in.0 t rights' past)

  contains : (fs : Terms S.Elem) (t : List ℕ × S.Elem) (ts zs : Terms S.Elem) → zs ≡ fs ++ t ∷ ts
      → Contains (monomials zs) t.0
  contains fs t ts zs e =
      rw (e, map-append (λ (u : List ℕ × S.Elem). u.0) fs (t ∷ ts))
      (Contains-append_right (monomials fs) (monomials (t ∷ ts)) t.0 (0, omega arith, refl))

  pub heads_shared : (xs ys out lefts rights lefts' rights' : Terms S.Elem) (s t : List ℕ × S.Elem)
      → lefts ≡ s ∷ lefts' → rights ≡ t ∷ rights' → compare O s.0 t.0 ≡ Equal
      → Merging xs ys out lefts rights → Share xs ys
  heads_shared xs ys out lefts rights lefts' rights' s t e f o h = record {
    monomial = s.0;
    in_left = contains h.lefts_in.0 s lefts' xs (h.lefts_in.1
        ∙ ap (λ (zs : Terms S.Elem). h.lefts_in.0 ++ zs) e);
    in_right = subst (Contains (monomials ys)) (sym (compare_equal O law s.0 t.0 o))
        (contains h.rights_in.0 t rights' ys (h.rights_in.1
        ∙ ap (λ (zs : Terms S.Elem). h.rights_in.0 ++ zs) f));
  }
