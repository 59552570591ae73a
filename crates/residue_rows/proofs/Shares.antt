-- Sums of shares with rows, and the terms of an element, one after the other.
--   sum_none, sum_first, sum_push       of no shares, with one in front, with one more
--   one_lead               rows that lead in one column are the same;  off_lead: the entry where another leads
--   none_shared            where a row leads in none of the columns the sum is a multiple
--   element_first, element_same, element_push, element_end     of the rows that lead below a column, from it down to the first
--   ascend_at, arity_at      monomials of columns
--   element_polynomial     the terms are a polynomial
use Rattle.std.proofs.Common.{◌≡◌, ◌≢◌, ◌⊎◌, inl, inr, ℕ, zero, suc, ◌<◌, ◌≤◌, ℤ, pos, ◌+ℤ◌, ◌*ℤ◌, neg_ℤ, List, [], ◌∷◌, ◌++◌, length, get_or, refl, sym, ap, subst, ◌∙◌, arith, Less}
use Rattle.std.specs.List.{AllZip}
use Rattle.std.proofs.lemmas.Bool.{cases_lt}
use Rattle.algebra.specs.Each.{Each}
use Rattle.algebra.specs.In.{In}
use Rattle.algebra.specs.Ring.{CommRing}
use Rattle.algebra.specs.Fraction.{Fraction, ℚ}
use Rattle.algebra.proofs.Each.{each_weaker, each-append, each-map}
use Rattle.algebra.proofs.In.{each_in, each_from, in_map, map-in, in_get}
use Rattle.algebra.proofs.IntRing.{ℤ_ring}
use Rattle.algebra.proofs.RingSolver.{ring, ring_rules}
use Rattle.algebra.proofs.Fractions.{ℚ_field}
use Rattle.ideals.proofs.Ideal.{in_ideal_same, in_ideal_zero, in_ideal_add, in_ideal_mul}
use Rattle.ideals.proofs.Congruence.{congruent_refl, congruent_same, congruent_add, congruent_mul}
use Rattle.polynomials.specs.Terms.{Terms}
use Rattle.polynomials.specs.Order.{compare, grevlex}
use Rattle.polynomials.specs.Polynomial.{IsPolynomial, Below, Falls as TermsFall}
use Rattle.closures.specs.Modulo.{IsMultiple, AreCongruent, IsResidueOf}
use Rattle.closures.specs.Monomials.{AreAscending}
use Rattle.closures.proofs.Modulo.{residue_zero}
use Rattle.residue_rows.specs.Modulus.{modulus}
use Rattle.residue_rows.specs.Limited.{IsFractionOf}
use Rattle.residue_rows.specs.EchelonForm.{entry, pick, Led, leads_in, IsLed, AreClear, AreApart, IsReducedEchelon}
use Rattle.residue_rows.proofs.Dots.{multiple_to, dot_first, dot_zero}
use Rattle.residue_rows.proofs.Picked.{other_lead}
use Rattle.residue_rows.specs.ElementParts.{Share, columns_in, numbers_in, share_sum, IsTermAt, Falls, IsElementTo}

module _ {A : Type 0} (R : CommRing A) where
  open R use {zero as 𝟘, one as 𝟙, add as ◌⊕◌, mul as ◌⊗◌, neg}

  infixl 60 ◌⊕◌
  infixl 70 ◌⊗◌
  only_share : (x : A) → x ⊕ 𝟘 ≡ 𝟘 ⊕ x
  only_share x = ring R (x ∷ []) (search ring_rules depth 40) refl

  one_behind : (x s y : A) → x ⊕ (s ⊕ y) ≡ (x ⊕ s) ⊕ y
  one_behind x s y = ring R (x ∷ s ∷ y ∷ []) (search ring_rules depth 40) refl

  taken : (x s : A) → neg x ⊗ 𝟙 ⊕ (x ⊕ s) ≡ s
  taken x s = ring R (x ∷ s ∷ []) (search ring_rules depth 40) refl

  moved : (x s y : A) → x ⊕ (s ⊕ y) ≡ y ⊕ (x ⊕ s)
  moved x s y = ring R (x ∷ s ∷ y ∷ []) (search ring_rules depth 40) refl

-- ---- sums
pub sum_first : (s : Share) (ss : List Share) (row : List ℤ)
    → share_sum (s ∷ ss) row ≡ s.number *ℤ entry row s.column +ℤ share_sum ss row
sum_first s ss row =
    dot_first s.number (entry row s.column) (numbers_in ss) (pick (pos 0) (columns_in ss) row)

pub sum_none : (row : List ℤ) → share_sum [] row ≡ pos 0
sum_none row = dot_zero _

sum_push : (ss : List Share) (s : Share) (row : List ℤ)
    → share_sum (ss ++ s ∷ []) row ≡ share_sum ss row +ℤ s.number *ℤ entry row s.column
sum_push [] s row =
    sum_first s [] row ∙ ap (λ y. s.number *ℤ entry row s.column +ℤ y) (sum_none row)
    ∙ only_share ℤ_ring (s.number *ℤ entry row s.column)
    ∙ ap (λ y. y +ℤ s.number *ℤ entry row s.column) (sym (sum_none row))
sum_push (r ∷ ss) s row =
    sum_first r (ss ++ s ∷ []) row
    ∙ ap (λ y. r.number *ℤ entry row r.column +ℤ y) (sum_push ss s row)
    ∙ one_behind ℤ_ring (r.number *ℤ entry row r.column) (share_sum ss row)
    (s.number *ℤ entry row s.column)
    ∙ ap (λ y. y +ℤ s.number *ℤ entry row s.column) (sym (sum_first r ss row))

module _ (q : ℤ) (none : IsMultiple q (pos 1) → ⊥) where
  abbrev M : ℤ → Type 0
  M = IsMultiple q

  abbrev IsOne : Led → Type 0
  IsOne l = AreCongruent q (entry l.row l.lead) (pos 1)

  -- ---- rows and their leads
  pub one_lead : (ls : List Led) → Each IsOne ls → AreApart q ls → (l k : Led) → In l ls
      → In k ls → l.lead ≡ k.lead → l ≡ k
  unfolding Each AreApart
  one_lead [] o a l k i j e = absurd i
  one_lead (m ∷ ls) o a l k (inl i) (inl j) e = i ∙ sym j
  one_lead (m ∷ ls) o a l k (inl i) (inr j) e =
      let c = each_in (AreClear q m) ls k a.0 j in
      absurd (other_lead q none m o.0 k.lead c.0 (sym e ∙ ap (λ (x : Led). x.lead) i))
  one_lead (m ∷ ls) o a l k (inr i) (inl j) e =
      let c = each_in (AreClear q m) ls l a.0 i in
      absurd (other_lead q none m o.0 l.lead c.0 (e ∙ ap (λ (x : Led). x.lead) j))
  one_lead (m ∷ ls) o a l k (inr i) (inr j) e = one_lead ls o.1 a.1 l k i j e

  pub off_lead : (ls : List Led) → AreApart q ls → (l k : Led) → In l ls → In k ls
      → l.lead ≢ k.lead → M (entry l.row k.lead)
  unfolding AreApart
  off_lead [] a l k i j d = absurd i
  off_lead (m ∷ ls) a l k (inl i) (inl j) d = absurd (d (ap (λ (x : Led). x.lead) (i ∙ sym j)))
  off_lead (m ∷ ls) a l k (inl i) (inr j) d =
      let c = each_in (AreClear q m) ls k a.0 j in
      subst (λ (x : Led). M (entry x.row k.lead)) (sym i) c.0
  off_lead (m ∷ ls) a l k (inr i) (inl j) d =
      let c = each_in (AreClear q m) ls l a.0 i in
      subst (λ (x : Led). M (entry l.row x.lead)) (sym j) c.1
  off_lead (m ∷ ls) a l k (inr i) (inr j) d = off_lead ls a.1 l k i j d

  pub off_column : (ls : List Led) → AreApart q ls → (l : Led) → In l ls → (c : ℕ)
      → In c (leads_in ls) → l.lead ≢ c → M (entry l.row c)
  off_column ls a l i c j d =
      let (k, m, e) = in_map (λ (x : Led). x.lead) ls c j in
      subst (λ n. M (entry l.row n)) (sym e)
      (off_lead ls a l k i m (λ f. d (f ∙ sym e)))

  pub none_shared : (ls : List Led) → AreApart q ls → (l : Led) → In l ls → (ss : List Share)
      → Each (λ s. In s.column (leads_in ls)) ss → Each (λ s. l.lead ≢ s.column) ss
      → M (share_sum ss l.row)
  unfolding Each
  none_shared ls a l i [] h d = in_ideal_same ℤ_ring (sum_none l.row) (in_ideal_zero ℤ_ring)
  none_shared ls a l i (s ∷ ss) h d =
      in_ideal_same ℤ_ring (sum_first s ss l.row)
      (in_ideal_add ℤ_ring
      (in_ideal_mul ℤ_ring s.number (off_column ls a l i s.column h.0 d.0))
      (none_shared ls a l i ss h.1 d.1))

  -- ---- an element, column by column
  module _ {n : ℕ} (es : List (List ℕ)) (ls : List Led) (kept : IsReducedEchelon q n ls) (c : ℕ)
    where
      pub row_ones : Each (λ l. AreCongruent q (entry l.row l.lead) (pos 1)) ls
      row_ones = each_weaker (IsLed q n) IsOne (λ l i. i.one) ls kept.led

      pub element_first : Each (λ l. l.lead ≢ c) ls → (p : Terms Fraction)
          → p ≡ (get_or es c [], ℚ.one) ∷ [] → IsElementTo q es ls c c p
      unfolding Each Falls
      element_first d p e = record {
        shares = [];
        rest = [];
        is = e;
        terms = tt;
        below = tt;
        behind = tt;
        falls = tt;
        standard = tt;
        some = tt;
        kills = each_from ls (λ l i b.
            in_ideal_same ℤ_ring
            (ap (λ y. entry l.row c +ℤ y) (sum_none l.row) ∙ ℤ_ring.add-zero (entry l.row c))
            (let h = each_in (IsLed q n) ls l kept.led i in
            let o = each_in (λ l. l.lead ≢ c) ls l d i in
            h.before c (above l.lead b o)));
      }
        where
          above : (k : ℕ) → c ≤ k → k ≢ c → c < k
          above k b o = go (cases_lt c k)
            where
              go : (c < k) ⊎ (k ≤ c) → c < k
              go (inl h) = h
              go (inr h) = absurd (o (omega (arith, h, b)))

      -- the kills of a lower column, for rows that lead there or not
      lower : (i : ℕ) (ss rs : List Share)
          → ((l : Led) → In l ls → suc i ≤ l.lead → M (entry l.row c +ℤ share_sum ss l.row)
          → M (entry l.row c +ℤ share_sum rs l.row))
          → ((l : Led) → In l ls → l.lead ≡ i → M (entry l.row c +ℤ share_sum rs l.row))
          → Each (λ l. suc i ≤ l.lead → M (entry l.row c +ℤ share_sum ss l.row)) ls
          → Each (λ l. i ≤ l.lead → M (entry l.row c +ℤ share_sum rs l.row)) ls
      lower i ss rs f g h = each_from ls (λ l j b. go l j b (cases_lt i l.lead))
        where
          go : (l : Led) → In l ls → i ≤ l.lead → (i < l.lead) ⊎ (l.lead ≤ i)
              → M (entry l.row c +ℤ share_sum rs l.row)
          go l j b (inl a) =
              f l j a (each_in (λ l. suc i ≤ l.lead → M (entry l.row c +ℤ share_sum ss l.row)) ls l
              h j a)
          go l j b (inr a) = g l j (omega (arith, a, b))

      fewer : (i : ℕ) (ss : List Share) → Each (λ s. suc i ≤ s.column) ss
          → Each (λ s. i ≤ s.column) ss
      fewer i ss h =
          each_weaker (λ s. suc i ≤ s.column) (λ s. i ≤ s.column) (λ s l. omega (arith, l)) ss h

      -- the row that leads in the column has none of the shares so far
      none_yet : (i : ℕ) (ss : List Share) → Each (λ s. suc i ≤ s.column) ss
          → Each (λ s. In s.column (leads_in ls)) ss → (l : Led) → In l ls → l.lead ≡ i
          → M (share_sum ss l.row)
      none_yet i ss b h l j e =
          none_shared ls kept.apart l j ss h
          (each_weaker (λ s. suc i ≤ s.column) (λ s. l.lead ≢ s.column)
          (λ s m d. absurd (omega (arith, m, d, e))) ss b)

      -- no share where the entry is a multiple, or no row leads
      pub element_same : (i : ℕ) (p : Terms Fraction)
          → Each (λ l. l.lead ≡ i → M (entry l.row c)) ls → IsElementTo q es ls c (suc i) p
          → IsElementTo q es ls c i p
      element_same i p z h = record {
        shares = h.shares;
        rest = h.rest;
        is = h.is;
        terms = h.terms;
        below = h.below;
        behind = fewer i h.shares h.behind;
        falls = h.falls;
        standard = h.standard;
        some = h.some;
        kills = lower i h.shares h.shares (λ l j a k. k)
            (λ l j e. in_ideal_add ℤ_ring
            (each_in (λ l. l.lead ≡ i → M (entry l.row c)) ls l z j e)
            (none_yet i h.shares h.behind h.standard l j e)) h.kills;
      }

      zip_push : (ss : List Share) (ts : Terms Fraction) (s : Share) (t : List ℕ × Fraction)
          → AllZip (IsTermAt es) ss ts → IsTermAt es s t
          → AllZip (IsTermAt es) (ss ++ s ∷ []) (ts ++ t ∷ [])
      zip_push [] [] s t h k = (k, tt)
      zip_push [] (u ∷ ts) s t h k = absurd h
      zip_push (r ∷ ss) [] s t h k = absurd h
      zip_push (r ∷ ss) (u ∷ ts) s t h k = (h.0, zip_push ss ts s t h.1 k)

      below_push : (k : ℕ) (ss : List Share) (s : Share) → Each (λ j. j < k) (columns_in ss)
          → s.column < k → Each (λ j. j < k) (columns_in (ss ++ s ∷ []))
      unfolding Each
      below_push k [] s h b = (b, tt)
      below_push k (r ∷ ss) s h b = (h.0, below_push k ss s h.1 b)

      falls_push : (ss : List Share) (s : Share) → Falls (columns_in ss)
          → Each (λ r. suc s.column ≤ r.column) ss → Falls (columns_in (ss ++ s ∷ []))
      unfolding Each Falls
      falls_push [] s h b = (tt, tt)
      falls_push (r ∷ ss) s h b = (below_push r.column ss s h.0 b.0, falls_push ss s h.1 b.1)

      -- a share more, of the row that leads in the column
      module _ (i : ℕ) (p : Terms Fraction) (h : IsElementTo q es ls c (suc i) p) (l : Led)
          (within : In l ls) (leads : l.lead ≡ i) (a : ℤ)
          (opposite : AreCongruent q a (neg_ℤ (entry l.row c))) where
        share : Share
        share = record { column = i; number = a }

        is_standard : In i (leads_in ls)
        is_standard = subst (λ k. In k (leads_in ls)) leads (map-in (λ (x : Led). x.lead) ls l
            within)

        kills_later : (k : Led) → In k ls → suc i ≤ k.lead
            → M (entry k.row c +ℤ share_sum h.shares k.row)
            → M (entry k.row c +ℤ share_sum (h.shares ++ share ∷ []) k.row)
        unfolding share
        kills_later k j b m =
            in_ideal_same ℤ_ring
            (ap (λ y. entry k.row c +ℤ y) (sum_push h.shares share k.row)
            ∙ moved ℤ_ring (entry k.row c) (share_sum h.shares k.row) (a *ℤ entry k.row i))
            (in_ideal_add ℤ_ring
            (in_ideal_mul ℤ_ring a
            (off_column ls kept.apart k j i is_standard (λ e. absurd (omega (arith, e, b))))) m)

        kills_own : M (entry l.row c +ℤ share_sum (h.shares ++ share ∷ []) l.row)
        unfolding share
        kills_own =
            let x = entry l.row c in
            let s = share_sum h.shares l.row in
            in_ideal_same ℤ_ring (ap (λ y. x +ℤ y) (sum_push h.shares share l.row)
            ∙ moved ℤ_ring x s
            (a *ℤ entry l.row i)) (multiple_to q (congruent_same ℤ_ring (q ∷ []) refl
            (sym (taken ℤ_ring x s)) (congruent_add ℤ_ring (q ∷ []) (a *ℤ entry l.row i)
            (neg_ℤ x *ℤ pos 1) (x +ℤ s) (x +ℤ s) (congruent_mul ℤ_ring (q ∷ []) a (neg_ℤ x)
            (entry l.row i) (pos 1) opposite (subst (λ k. AreCongruent q (entry l.row k) (pos 1))
            leads (each_in IsOne ls l row_ones within))) (congruent_refl ℤ_ring (q ∷ []) (x +ℤ s))))
            (none_yet i h.shares h.behind h.standard l within leads))

        kills_here : (k : Led) → In k ls → k.lead ≡ i
            → M (entry k.row c +ℤ share_sum (h.shares ++ share ∷ []) k.row)
        kills_here k j e =
            subst (λ (x : Led). M (entry x.row c +ℤ share_sum (h.shares ++ share ∷ []) x.row))
            (sym (one_lead ls row_ones kept.apart k l j within (e ∙ sym leads))) kills_own

        pub element_push : (f : Fraction) → IsFractionOf f a → ¬ (M a) → i < c
            → (r : Terms Fraction) → r ≡ p ++ (get_or es i [], f) ∷ []
            → IsElementTo q es ls c i r
        unfolding Each share
        element_push f t some b r e = record {
          shares = h.shares ++ share ∷ [];
          rest = h.rest ++ (get_or es i [], f) ∷ [];
          is = e ∙ ap (λ x. x ++ (get_or es i [], f) ∷ []) h.is;
          terms = zip_push h.shares h.rest share (get_or es i [], f) h.terms
              (record { monomial = refl; fraction = t });
          below = each-append (λ s. s.column < c) h.shares (share ∷ []) h.below (b, tt);
          behind = each-append (λ s. i ≤ s.column) h.shares (share ∷ [])
              (fewer i h.shares h.behind) (omega arith, tt);
          falls = falls_push h.shares share h.falls h.behind;
          standard = each-append (λ s. In s.column (leads_in ls)) h.shares (share ∷ []) h.standard
              (is_standard, tt);
          some = each-append (λ s. ¬ (M s.number)) h.shares (share ∷ []) h.some (some, tt);
          kills = lower i h.shares (h.shares ++ share ∷ []) kills_later kills_here h.kills;
        }

      pub element_end : (p : Terms Fraction) (h : IsElementTo q es ls c 0 p)
          → Each (λ l. M (entry l.row c +ℤ share_sum h.shares l.row)) ls
      element_end p h =
          each_weaker (λ l. 0 ≤ l.lead → M (entry l.row c +ℤ share_sum h.shares l.row))
          (λ l. M (entry l.row c +ℤ share_sum h.shares l.row)) (λ l k. k (omega arith)) ls h.kills

-- ---- monomials in ascending order
pub ascend_at : (es : List (List ℕ)) → AreAscending es → (j k : ℕ) → j < k → k < length es
    → compare grevlex (get_or es j []) (get_or es k []) ≡ Less
unfolding AreAscending
ascend_at [] a j k h l = absurd (omega (arith, l))
ascend_at (e ∷ es) a j zero h l = absurd (omega (arith, h))
ascend_at (e ∷ es) a zero (suc k) h l =
    each_in (λ d. compare grevlex e d ≡ Less) es (get_or es k []) a.0
    (in_get es k [] (omega (arith, l)))
ascend_at (e ∷ es) a (suc j) (suc k) h l =
    ascend_at es a.1 j k (omega (arith, h)) (omega (arith, l))

pub arity_at : (m : ℕ) (es : List (List ℕ)) → Each (λ e. length e ≡ m) es → (k : ℕ)
    → k < length es → length (get_or es k []) ≡ m
arity_at m es arities k l =
    each_in (λ e. length e ≡ m) es (get_or es k []) arities (in_get es k [] l)

-- ---- the terms
module _ (m : ℕ) (es : List (List ℕ)) (arities : Each (λ e. length e ≡ m) es)
    (ascend : AreAscending es) where
  rest_nonzero : (ss : List Share) (ts : Terms Fraction) → AllZip (IsTermAt es) ss ts
      → Each (λ s. ¬ (IsMultiple (pos modulus) s.number)) ss → Each (λ t. t.1 ≢ ℚ.zero) ts
  unfolding Each
  rest_nonzero [] [] h k = tt
  rest_nonzero [] (t ∷ ts) h k = absurd h
  rest_nonzero (s ∷ ss) [] h k = absurd h
  rest_nonzero (s ∷ ss) (t ∷ ts) h k =
      (nonzero s t h.0 k.0, rest_nonzero ss ts h.1 k.1)
    where
      nonzero : (s : Share) (t : List ℕ × Fraction) → IsTermAt es s t
          → ¬ (IsMultiple (pos modulus) s.number) → t.1 ≢ ℚ.zero
      nonzero s t h k e =
          let f = h.fraction in
          k (residue_zero (pos modulus) s.number
          (subst (λ x. IsResidueOf (pos modulus) x s.number) e f.residue))

  rest_arity : (c : ℕ) → c ≤ length es → (ss : List Share) (ts : Terms Fraction)
      → AllZip (IsTermAt es) ss ts → Each (λ s. s.column < c) ss
      → Each (λ t. length t.0 ≡ m) ts
  unfolding Each
  rest_arity c l [] [] h b = tt
  rest_arity c l [] (t ∷ ts) h b = absurd h
  rest_arity c l (s ∷ ss) [] h b = absurd h
  rest_arity c l (s ∷ ss) (t ∷ ts) h b = (one s t h.0 b.0, rest_arity c l ss ts h.1 b.1)
    where
      one : (s : Share) (t : List ℕ × Fraction) → IsTermAt es s t → s.column < c
          → length t.0 ≡ m
      one s t h b = ap length h.monomial ∙ arity_at m es arities s.column (omega (arith, b, l))

  rest_below : (c : ℕ) → c < length es → (ss : List Share) (ts : Terms Fraction)
      → AllZip (IsTermAt es) ss ts → Each (λ j. j < c) (columns_in ss)
      → Below grevlex (get_or es c []) ts
  unfolding Each
  rest_below c l [] [] h b = tt
  rest_below c l [] (t ∷ ts) h b = absurd h
  rest_below c l (s ∷ ss) [] h b = absurd h
  rest_below c l (s ∷ ss) (t ∷ ts) h b = (one s t h.0 b.0, rest_below c l ss ts h.1 b.1)
    where
      one : (s : Share) (t : List ℕ × Fraction) → IsTermAt es s t → s.column < c
          → compare grevlex t.0 (get_or es c []) ≡ Less
      one s t h b =
          subst (λ e. compare grevlex e (get_or es c []) ≡ Less) (sym h.monomial)
          (ascend_at es ascend s.column c b l)

  rest_falls : (c : ℕ) → c ≤ length es → (ss : List Share) (ts : Terms Fraction)
      → AllZip (IsTermAt es) ss ts → Each (λ s. s.column < c) ss → Falls (columns_in ss)
      → TermsFall grevlex ts
  unfolding Each Falls TermsFall
  rest_falls c l [] [] h b f = tt
  rest_falls c l [] (t ∷ ts) h b f = absurd h
  rest_falls c l (s ∷ ss) [] h b f = absurd h
  rest_falls c l (s ∷ ss) (t ∷ ts) h b f = (one s t h.0 b.0 f.0, rest_falls c l ss ts h.1 b.1 f.1)
    where
      one : (s : Share) (t : List ℕ × Fraction) → IsTermAt es s t → s.column < c
          → Each (λ j. j < s.column) (columns_in ss) → Below grevlex t.0 ts
      one s t i b f =
          subst (λ e. Below grevlex e ts) (sym i.monomial)
          (rest_below s.column (omega (arith, b, l)) ss ts h.1 f)

  columns_below : (c : ℕ) (ss : List Share) → Each (λ s. s.column < c) ss
      → Each (λ j. j < c) (columns_in ss)
  columns_below c ss h = each-map (λ j. j < c) (λ (s : Share). s.column) ss h

  whole_polynomial : (c : ℕ) → c < length es → (ss : List Share) (ts : Terms Fraction)
      → AllZip (IsTermAt es) ss ts → Each (λ s. s.column < c) ss → Falls (columns_in ss)
      → Each (λ s. ¬ (IsMultiple (pos modulus) s.number)) ss
      → IsPolynomial ℚ grevlex m ((get_or es c [], ℚ.one) ∷ ts)
  unfolding Each TermsFall
  whole_polynomial c l ss ts t b f s = record {
    nonzero = (ℚ_field.one-ne-zero, rest_nonzero ss ts t s);
    arity = (arity_at m es arities c l, rest_arity c (omega (arith, l)) ss ts t b);
    falls = (
      rest_below c l ss ts t (columns_below c ss b),
      rest_falls c (omega (arith, l)) ss
          ts t b f,
    );
  }

  pub element_polynomial : {ls : List Led} (c : ℕ) {i : ℕ} {p : Terms Fraction} → c < length es
      → IsElementTo (pos modulus) es ls c i p → IsPolynomial ℚ grevlex m p
  element_polynomial c l h =
      subst (IsPolynomial ℚ grevlex m) (sym h.is)
      (whole_polynomial c l h.shares h.rest h.terms h.below h.falls h.some)
