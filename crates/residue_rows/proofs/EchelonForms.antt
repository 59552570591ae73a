-- Echelon forms before and after a row.
--   own_dots             a vector of the rows' numbers at their leading columns gives with each row its number
--   form_none            no rows are the form of none
--   rest_old             where the rows leave nothing of a row it is a combination
--   fresh_new            where they leave a fresh one it is none
--   fresh_more           and the form is then that of one row more
--   form_own             the rows of an echelon form are the reduced echelon form of themselves
--   combined             a vector that gives a multiple with each of some rows gives one with each of their combinations
--   lows, ones           the leading columns are below the width, and the entries there are 1
use Rattle.std.proofs.Common.{◌≡◌, ◌⊎◌, inl, inr, ℕ, ◌<◌, ◌≤◌, ℤ, pos, ◌+ℤ◌, ◌*ℤ◌, neg_ℤ, List, [], ◌∷◌, ◌++◌, map, length, refl, sym, subst, ◌∙◌, arith}
use Rattle.std.specs.List.{AllZip}
use Rattle.std.proofs.lemmas.Bool.{cases_lt}
use Rattle.algebra.specs.Each.{Each}
use Rattle.algebra.specs.Ring.{CommRing}
use Rattle.algebra.proofs.Each.{each_weaker, each-append, each-left, each-right, each-map}
use Rattle.algebra.proofs.In.{each_in, each_from}
use Rattle.algebra.proofs.IntRing.{ℤ_ring}
use Rattle.algebra.proofs.RingSolver.{ring, ring_rules}
use Rattle.ideals.proofs.Ideal.{in_ideal_same, in_ideal_zero, in_ideal_add, in_ideal_mul, in_ideal_neg}
use Rattle.ideals.proofs.Congruence.{congruent_refl, congruent_same, congruent_sym, congruent_add, congruent_mul}
use Rattle.closures.specs.Modulo.{IsMultiple, AreCongruent, IsCombinationModulo}
use Rattle.closures.proofs.Congruent.{congruent_trans}
use Rattle.residue_rows.specs.EchelonForm.{dot, entry, pick, Led, rows_in, leads_in, IsLed, AreClear, AreApart, IsEchelonOf, Form, IsReducedEchelon, IsIndependent, IsDependent, IsRestOf}
use Rattle.residue_rows.specs.Additions.{IsFresh, IsClearedBy, IsAddedAs}
use Rattle.residue_rows.proofs.Dots.{multiple_to, none_of, multiple_of, first_part, dot_first, dot_zero, dot_blend, spread, dot_spread}

-- ---- identities of rings
module _ {A : Type 0} (R : CommRing A) where
  open R use {zero as 𝟘, one as 𝟙, add as ◌⊕◌, mul as ◌⊗◌, neg}

  infixl 60 ◌⊕◌
  infixl 70 ◌⊗◌
  by_one : (x : A) → x ≡ x ⊗ 𝟙 ⊕ 𝟘
  by_one x = ring R (x ∷ []) (search ring_rules depth 40) refl

  nothing_first : (x : A) → x ≡ 𝟘 ⊕ x
  nothing_first x = ring R (x ∷ []) (search ring_rules depth 40) refl

  opposite : (x : A) → x ⊕ neg x ≡ 𝟘
  opposite x = ring R (x ∷ []) (search ring_rules depth 40) refl

  less_one : (x : A) → 𝟙 ⊗ x ⊕ neg x ⊗ 𝟙 ≡ 𝟘
  less_one x = ring R (x ∷ []) (search ring_rules depth 40) refl

  undone : (x y z : A) → x ≡ (𝟙 ⊗ x ⊕ neg z ⊗ y) ⊕ z ⊗ y
  undone x y z = ring R (x ∷ y ∷ z ∷ []) (search ring_rules depth 40) refl

  one_and_none : (y z : A) → 𝟙 ≡ 𝟙 ⊗ 𝟙 ⊕ neg z ⊗ 𝟘
  one_and_none y z = ring R (y ∷ z ∷ []) (search ring_rules depth 40) refl

  scaled_only : (i x t : A) → i ⊗ x ⊕ 𝟘 ⊗ t ≡ i ⊗ x
  scaled_only i x t = ring R (i ∷ x ∷ t ∷ []) (search ring_rules depth 40) refl

  pub turned : (i x t : A) → i ⊗ x ⊕ 𝟘 ⊗ t ≡ x ⊗ i
  turned i x t = ring R (i ∷ x ∷ t ∷ []) (search ring_rules depth 40) refl

  no_sum : (x : A) → 𝟘 ⊗ x ⊕ 𝟘 ⊗ x ≡ 𝟘
  no_sum x = ring R (x ∷ []) (search ring_rules depth 40) refl

  other_way : (a x : A) → neg a ⊗ x ≡ neg x ⊗ a
  other_way a x = ring R (a ∷ x ∷ []) (search ring_rules depth 40) refl

  by_inverse : (a i x : A) → x ≡ a ⊗ (i ⊗ x) ⊕ neg (x ⊗ (a ⊗ i ⊕ neg 𝟙))
  by_inverse a i x = ring R (a ∷ i ∷ x ∷ []) (search ring_rules depth 40) refl

module _ (q : ℤ) where
  abbrev M : ℤ → Type 0
  M = IsMultiple q

  -- of a combination, and of two parts
  blend_multiple : (a : ℤ) {x : ℤ} (b : ℤ) {y out : ℤ} → AreCongruent q out (a *ℤ x +ℤ b *ℤ y) → M x
      → M y → M out
  blend_multiple a {x = x} b {y = y} {out = out} h i j =
      multiple_to q h (in_ideal_add ℤ_ring (in_ideal_mul ℤ_ring a i) (in_ideal_mul ℤ_ring b j))

  -- ---- rows in leading columns
  none_picked : (ls : List Led) (row : List ℤ) → Each (λ k. M (entry row k.lead)) ls
      → (f : Led → ℤ) → M (dot (map f ls) (pick (pos 0) (leads_in ls) row))
  unfolding Each
  none_picked [] row h f = in_ideal_same ℤ_ring (dot_zero _) (in_ideal_zero ℤ_ring)
  none_picked (l ∷ ls) row h f =
      in_ideal_same ℤ_ring
      (dot_first (f l) (entry row l.lead) (map f ls) (pick (pos 0) (leads_in ls) row))
      (in_ideal_add ℤ_ring (in_ideal_mul ℤ_ring (f l) h.0) (none_picked ls row h.1 f))

  pub own_dots : (f : Led → ℤ) (ls : List Led)
      → Each (λ l. AreCongruent q (entry l.row l.lead) (pos 1)) ls → AreApart q ls
      → Each (λ l. AreCongruent q (dot (map f ls) (pick (pos 0) (leads_in ls) l.row)) (f l)) ls
  unfolding Each AreApart
  own_dots f [] one apart = tt
  own_dots f (l ∷ ls) one apart = (first, later ls (own_dots f ls one.1 apart.1) apart.0)
    where
      rest : Led → ℤ
      rest k = dot (map f ls) (pick (pos 0) (leads_in ls) k.row)

      first : AreCongruent q (dot (map f (l ∷ ls)) (pick (pos 0) (leads_in (l ∷ ls)) l.row)) (f l)
      first =
          congruent_same ℤ_ring (q ∷ []) (dot_first (f l) (entry l.row l.lead) (map f ls)
          (pick (pos 0) (leads_in ls) l.row)) (by_one ℤ_ring (f l)) (congruent_add ℤ_ring (q ∷ [])
          (f l *ℤ entry l.row l.lead) (f l *ℤ pos 1) (rest l) (pos 0) (congruent_mul ℤ_ring (q ∷ [])
          (f l) (f l) (entry l.row l.lead) (pos 1) (congruent_refl ℤ_ring (q ∷ []) (f l)) one.0)
          (none_of q (none_picked ls l.row (each_weaker (AreClear q l) (λ k. M (entry l.row k.lead))
          (λ k c. c.0) ls apart.0) f)))

      one_later : (k : Led) → AreCongruent q (rest k) (f k) → AreClear q l k
          → AreCongruent q (dot (map f (l ∷ ls)) (pick (pos 0) (leads_in (l ∷ ls)) k.row)) (f k)
      one_later k h c =
          congruent_same ℤ_ring (q ∷ []) (dot_first (f l) (entry k.row l.lead) (map f ls)
          (pick (pos 0) (leads_in ls) k.row)) (nothing_first ℤ_ring (f k)) (congruent_add ℤ_ring
          (q ∷ []) (f l *ℤ entry k.row l.lead) (pos 0) (rest k) (f k)
          (none_of q (in_ideal_mul ℤ_ring (f l) c.1)) h)

      later : (ks : List Led) → Each (λ k. AreCongruent q (rest k) (f k)) ks
          → Each (AreClear q l) ks
          → Each (λ k. AreCongruent q
          (dot (map f (l ∷ ls)) (pick (pos 0) (leads_in (l ∷ ls)) k.row)) (f k)) ks
      later [] h c = tt
      later (k ∷ ks) h c = (one_later k h.0 c.0, later ks h.1 c.1)

  -- ---- what gives multiples with rows
  abbrev Kills : List ℤ → List (List ℤ) → Type 0
  Kills z rows = Each (λ r. M (dot z r)) rows

  combinations : (A B : List (List ℤ)) → ((z : List ℤ) → Kills z A → Kills z B)
      → Each (IsCombinationModulo q A) B
  combinations A B f =
      each_from B (λ s i. record { gives = λ z h. each_in (λ r. M (dot z r)) B s (f z h) i })

  pub combined : (A B : List (List ℤ)) → Each (IsCombinationModulo q A) B → (z : List ℤ)
      → Each (λ r. IsMultiple q (dot z r)) A → Each (λ r. IsMultiple q (dot z r)) B
  combined A B c z h =
      each_weaker (IsCombinationModulo q A) (λ r. M (dot z r)) (λ r i. i.gives z h) B c

  rows_killed : (z : List ℤ) (ls : List Led) → Each (λ l. M (dot z l.row)) ls
      → Kills z (rows_in ls)
  rows_killed z ls h = each-map (λ r. M (dot z r)) (λ (l : Led). l.row) ls h

  killed_rows : (z : List ℤ) (ls : List Led) → Kills z (rows_in ls)
      → Each (λ l. M (dot z l.row)) ls
  unfolding Each
  killed_rows z [] h = tt
  killed_rows z (l ∷ ls) h = (h.0, killed_rows z ls h.1)

  pub lows : (n : ℕ) (ls : List Led) → Each (IsLed q n) ls → Each (λ k. k < n) (leads_in ls)
  lows n ls h =
      each-map (λ k. k < n) (λ (l : Led). l.lead) ls
      (each_weaker (IsLed q n) (λ l. l.lead < n) (λ l i. i.within) ls h)

  pub ones : (n : ℕ) (ls : List Led) → Each (IsLed q n) ls
      → Each (λ l. AreCongruent q (entry l.row l.lead) (pos 1)) ls
  ones n ls h =
      each_weaker (IsLed q n) (λ l. AreCongruent q (entry l.row l.lead) (pos 1)) (λ l i. i.one) ls h

  -- ---- no rows, and rows of themselves
  pub form_none : (n : ℕ) → IsEchelonOf q n [] []
  unfolding Each AreApart
  form_none n = record { widths = tt; led = tt; apart = tt; within = tt; spans = tt }

  pub form_own : (n : ℕ) {given : List (List ℤ)} (ls : List Led) → IsEchelonOf q n given ls
      → IsReducedEchelon q n ls
  form_own n ls e = record {
    widths = each-map (λ r. length r ≡ n) (λ (l : Led). l.row) ls
        (each_weaker (IsLed q n) (λ l. length l.row ≡ n) (λ l i. i.width) ls e.led);
    led = e.led;
    apart = e.apart;
    within = combinations (rows_in ls) (rows_in ls) (λ z h. h);
    spans = combinations (rows_in ls) (rows_in ls) (λ z h. h);
  }

  -- ---- nothing is left
  dot_nothing : (z rest : List ℤ) → ((k : ℕ) → M (entry rest k)) → M (dot z rest)
  dot_nothing z rest h =
      multiple_to q (dot_blend q (pos 0) (pos 0) [] [] rest z (λ k. none_of q (h k)))
      (in_ideal_same ℤ_ring (no_sum ℤ_ring (dot z [])) (in_ideal_zero ℤ_ring))

  pub rest_old : (e : Form) (row rest : List ℤ) → IsRestOf q e row rest
      → ((k : ℕ) → IsMultiple q (entry rest k)) → IsDependent q e row
  rest_old e row rest r h given g = record {
    gives = λ z k.
        multiple_to q (congruent_sym ℤ_ring (q ∷ [])
        (r.left z (combined given (rows_in e.rows) g.within z k))) (dot_nothing z rest h);
  }

  -- ---- a fresh row is no combination
  module _ (e : Form) (row : List ℤ) (l : Led) (fresh : IsFresh q e row l) where
    abbrev minus : Led → ℤ
    minus k = neg_ℤ (entry k.row l.lead)

    witness : List ℤ
    witness = spread e.width l.lead (leads_in e.rows) (map minus e.rows)

    module _ (led : Each (IsLed q e.width) e.rows) (apart : AreApart q e.rows) where
      with_row : (r : List ℤ) → dot witness r
          ≡ entry r l.lead +ℤ dot (map minus e.rows) (pick (pos 0) (leads_in e.rows) r)
      unfolding witness
      with_row r =
          dot_spread e.width l.lead (leads_in e.rows) (map minus e.rows) r fresh.within
          (lows e.width e.rows led)

      cancels : (k : Led) → AreCongruent q
          (dot (map minus e.rows) (pick (pos 0) (leads_in e.rows) k.row)) (minus k)
          → M (dot witness k.row)
      cancels k h =
          in_ideal_same ℤ_ring (with_row k.row) (multiple_of q (congruent_same ℤ_ring (q ∷ []) refl
          (sym (opposite ℤ_ring (entry k.row l.lead))) (congruent_add ℤ_ring (q ∷ [])
          (entry k.row l.lead) (entry k.row l.lead) _ (minus k)
          (congruent_refl ℤ_ring (q ∷ []) (entry k.row l.lead)) h)))

      all_cancel : Kills witness (rows_in e.rows)
      all_cancel =
          rows_killed witness e.rows
          (each_weaker
          (λ k. AreCongruent q
          (dot (map minus e.rows) (pick (pos 0) (leads_in e.rows) k.row)) (minus k))
          (λ k. M (dot witness k.row)) cancels e.rows
          (own_dots minus e.rows (ones e.width e.rows led) apart))

      not_row : M (dot witness row) → ⊥
      not_row h =
          let left = in_ideal_same ℤ_ring (sym (with_row fresh.rest))
          (multiple_to q (fresh.is.left witness all_cancel) h) in
          fresh.some (first_part q (entry fresh.rest l.lead) left
          (none_picked e.rows fresh.rest fresh.is.cleared minus))

    pub fresh_new : IsIndependent q e row
    fresh_new given g c =
        not_row g.led g.apart
        (c.gives witness (combined (rows_in e.rows) given g.spans witness
        (all_cancel g.led g.apart)))

  -- ---- the form with a fresh row
  module _ (e : Form) (row : List ℤ) (f : Led) (fresh : IsFresh q e row f) where
    abbrev rest : List ℤ
    rest = fresh.rest

    first_one : AreCongruent q (entry f.row f.lead) (pos 1)
    first_one =
        congruent_trans q (entry f.row f.lead) _ (pos 1) (fresh.scaled f.lead)
        (congruent_same ℤ_ring (q ∷ []) (turned ℤ_ring fresh.inverse (entry rest f.lead) (pos 0))
        refl fresh.invertible)

    fresh_none : (k : ℕ) → M (entry rest k) → M (entry f.row k)
    fresh_none k h =
        blend_multiple fresh.inverse (pos 0) (fresh.scaled k) h (in_ideal_zero ℤ_ring)

    pub fresh_led : IsLed q e.width f
    fresh_led = record {
      width = fresh.width;
      within = fresh.within;
      one = first_one;
      before = λ k l. fresh_none k (fresh.before k l);
    }

    all_free : Each (λ l. M (entry f.row l.lead)) e.rows
    all_free =
        each_weaker (λ l. M (entry rest l.lead)) (λ l. M (entry f.row l.lead))
        (λ l h. fresh_none l.lead h) e.rows fresh.is.cleared

    -- one row, cleared
    module _ (l c : Led) (h : IsClearedBy q f l c) where
      abbrev at_lead : ℤ
      at_lead = entry l.row f.lead

      cleared_none : (k : ℕ) → M (entry l.row k) → M (entry f.row k) → M (entry c.row k)
      cleared_none k i j =
          blend_multiple (pos 1) (neg_ℤ at_lead) (h.row k) i j

      cleared_here : M (entry c.row f.lead)
      cleared_here =
          multiple_of q (congruent_trans q (entry c.row f.lead) _ (pos 0) (h.row f.lead)
          (congruent_same ℤ_ring (q ∷ []) refl (sym (less_one ℤ_ring at_lead)) (congruent_add ℤ_ring
          (q ∷ []) (pos 1 *ℤ at_lead) (pos 1 *ℤ at_lead) _ (neg_ℤ at_lead *ℤ pos 1)
          (congruent_refl ℤ_ring (q ∷ []) (pos 1 *ℤ at_lead)) (congruent_mul ℤ_ring (q ∷ [])
          (neg_ℤ at_lead) (neg_ℤ at_lead) (entry f.row f.lead) (pos 1)
          (congruent_refl ℤ_ring (q ∷ []) (neg_ℤ at_lead)) first_one))))

      cleared_one : IsLed q e.width l → M (entry f.row l.lead)
          → AreCongruent q (entry c.row l.lead) (pos 1)
      cleared_one i j =
          congruent_trans q (entry c.row l.lead) _ (pos 1) (h.row l.lead) (congruent_same ℤ_ring
          (q ∷ []) refl (one_and_none ℤ_ring (pos 1) at_lead) (congruent_add ℤ_ring (q ∷ [])
          (pos 1 *ℤ entry l.row l.lead) (pos 1 *ℤ pos 1) _ (neg_ℤ at_lead *ℤ pos 0)
          (congruent_mul ℤ_ring (q ∷ []) (pos 1) (pos 1) (entry l.row l.lead) (pos 1)
          (congruent_refl ℤ_ring (q ∷ []) (pos 1)) i.one) (congruent_mul ℤ_ring (q ∷ [])
          (neg_ℤ at_lead) (neg_ℤ at_lead) (entry f.row l.lead) (pos 0)
          (congruent_refl ℤ_ring (q ∷ []) (neg_ℤ at_lead)) (none_of q j))))

      cleared_before : IsLed q e.width l → (k : ℕ) → k < l.lead → M (entry c.row k)
      cleared_before i k b = go (cases_lt k f.lead)
        where
          go : (k < f.lead) ⊎ (f.lead ≤ k) → M (entry c.row k)
          go (inl a) = cleared_none k (i.before k b) (fresh_led.before k a)
          go (inr a) =
              multiple_to q (h.row k) (in_ideal_add ℤ_ring
              (in_ideal_mul ℤ_ring (pos 1) (i.before k b)) (in_ideal_same ℤ_ring
              (other_way ℤ_ring at_lead (entry f.row k)) (in_ideal_mul ℤ_ring
              (neg_ℤ (entry f.row k)) (i.before f.lead (omega (arith, a, b))))))

      cleared_led : IsLed q e.width l → M (entry f.row l.lead) → IsLed q e.width c
      cleared_led i j = record {
        width = h.width ∙ i.width;
        within = subst (λ k. k < e.width) (sym h.lead) i.within;
        one = subst (λ k. AreCongruent q (entry c.row k) (pos 1)) (sym h.lead) (cleared_one i j);
        before = λ k b. cleared_before i k (subst (λ m. k < m) h.lead b);
      }

      cleared_by_fresh : M (entry f.row l.lead) → AreClear q c f
      cleared_by_fresh j = (cleared_here, subst (λ k. M (entry f.row k)) (sym h.lead) j)

      cleared_back : (z : List ℤ) → M (dot z c.row) → M (dot z f.row) → M (dot z l.row)
      cleared_back z i j =
          in_ideal_same ℤ_ring (undone ℤ_ring (dot z l.row) (dot z f.row) at_lead)
          (in_ideal_add ℤ_ring (multiple_to q (congruent_sym ℤ_ring (q ∷ []) (dot_blend q (pos 1)
          (neg_ℤ at_lead) l.row f.row c.row z h.row)) i) (in_ideal_mul ℤ_ring at_lead j))

      cleared_dot : (z : List ℤ) → M (dot z l.row) → M (dot z f.row) → M (dot z c.row)
      cleared_dot z i j =
          blend_multiple (pos 1) (neg_ℤ at_lead)
          (dot_blend q (pos 1) (neg_ℤ at_lead) l.row f.row c.row z h.row) i j

    cleared_apart : (l c k d : Led) → IsClearedBy q f l c → IsClearedBy q f k d
        → M (entry f.row l.lead) → M (entry f.row k.lead) → AreClear q l k → AreClear q c d
    cleared_apart l c k d h g i j a = (
      subst (λ m. M (entry c.row m)) (sym g.lead) (cleared_none l c h k.lead a.0 j),
      subst (λ m. M (entry d.row m)) (sym h.lead) (cleared_none k d g l.lead a.1 i),
    )

    one_apart : (l c : Led) (ks ds : List Led) → IsClearedBy q f l c → M (entry f.row l.lead)
        → AllZip (IsClearedBy q f) ks ds → Each (λ k. M (entry f.row k.lead)) ks
        → Each (AreClear q l) ks → Each (AreClear q c) (ds ++ f ∷ [])
    unfolding Each
    one_apart l c [] [] h i g j a = (cleared_by_fresh l c h i, tt)
    one_apart l c [] (d ∷ ds) h i g j a = absurd g
    one_apart l c (k ∷ ks) [] h i g j a = absurd g
    one_apart l c (k ∷ ks) (d ∷ ds) h i g j a = (
      cleared_apart l c k d h g.0 i j.0 a.0,
      one_apart l c ks ds h i g.1 j.1 a.1,
    )

    all_apart : (ls cs : List Led) → AllZip (IsClearedBy q f) ls cs
        → Each (λ k. M (entry f.row k.lead)) ls → AreApart q ls → AreApart q (cs ++ f ∷ [])
    unfolding Each AreApart
    all_apart [] [] h i a = (tt, tt)
    all_apart [] (c ∷ cs) h i a = absurd h
    all_apart (l ∷ ls) [] h i a = absurd h
    all_apart (l ∷ ls) (c ∷ cs) h i a = (
      one_apart l c ls cs h.0 i.0 h.1 i.1 a.0,
      all_apart ls cs h.1 i.1 a.1,
    )

    all_led : (ls cs : List Led) → AllZip (IsClearedBy q f) ls cs
        → Each (λ k. M (entry f.row k.lead)) ls → Each (IsLed q e.width) ls
        → Each (IsLed q e.width) (cs ++ f ∷ [])
    unfolding Each
    all_led [] [] h i a = (fresh_led, tt)
    all_led [] (c ∷ cs) h i a = absurd h
    all_led (l ∷ ls) [] h i a = absurd h
    all_led (l ∷ ls) (c ∷ cs) h i a = (cleared_led l c h.0 a.0 i.0, all_led ls cs h.1 i.1 a.1)

    all_dots : (z : List ℤ) (ls cs : List Led) → AllZip (IsClearedBy q f) ls cs
        → Each (λ l. M (dot z l.row)) ls → M (dot z f.row)
        → Each (λ l. M (dot z l.row)) (cs ++ f ∷ [])
    unfolding Each
    all_dots z [] [] h i j = (j, tt)
    all_dots z [] (c ∷ cs) h i j = absurd h
    all_dots z (l ∷ ls) [] h i j = absurd h
    all_dots z (l ∷ ls) (c ∷ cs) h i j = (cleared_dot l c h.0 z i.0 j, all_dots z ls cs h.1 i.1 j)

    fresh_dot : (z : List ℤ) (ls cs : List Led) → AllZip (IsClearedBy q f) ls cs
        → Each (λ l. M (dot z l.row)) (cs ++ f ∷ []) → M (dot z f.row)
    unfolding Each
    fresh_dot z [] [] h i = i.0
    fresh_dot z [] (c ∷ cs) h i = absurd h
    fresh_dot z (l ∷ ls) [] h i = absurd h
    fresh_dot z (l ∷ ls) (c ∷ cs) h i = fresh_dot z ls cs h.1 i.1

    back_dots : (z : List ℤ) (ls cs : List Led) → AllZip (IsClearedBy q f) ls cs
        → Each (λ l. M (dot z l.row)) (cs ++ f ∷ []) → M (dot z f.row)
        → Each (λ l. M (dot z l.row)) ls
    unfolding Each
    back_dots z [] [] h i j = tt
    back_dots z [] (c ∷ cs) h i j = absurd h
    back_dots z (l ∷ ls) [] h i j = absurd h
    back_dots z (l ∷ ls) (c ∷ cs) h i j =
        (cleared_back l c h.0 z i.0 j, back_dots z ls cs h.1 i.1 j)

    to_fresh : (z : List ℤ) → M (dot z rest) → M (dot z f.row)
    to_fresh z i =
        multiple_to q (dot_blend q fresh.inverse (pos 0) rest [] f.row z fresh.scaled)
        (in_ideal_same ℤ_ring (scaled_only ℤ_ring fresh.inverse (dot z rest) (dot z []))
        (in_ideal_mul ℤ_ring fresh.inverse i))

    from_fresh : (z : List ℤ) → M (dot z f.row) → M (dot z rest)
    from_fresh z i =
        let a = entry rest f.lead in
        in_ideal_same ℤ_ring (by_inverse ℤ_ring a fresh.inverse (dot z rest)) (in_ideal_add ℤ_ring
        (in_ideal_mul ℤ_ring a (in_ideal_same ℤ_ring (sym (scaled_only ℤ_ring fresh.inverse
        (dot z rest) (dot z []))) (multiple_to q (congruent_sym ℤ_ring (q ∷ []) (dot_blend q
        fresh.inverse (pos 0) rest [] f.row z fresh.scaled)) i))) (in_ideal_neg ℤ_ring
        (in_ideal_mul ℤ_ring (dot z rest) fresh.invertible.difference)))

    module _ (cs : List Led) (are : AllZip (IsClearedBy q f) e.rows cs)
        (given : List (List ℤ)) (g : IsEchelonOf q e.width given e.rows) where
      to_new : (z : List ℤ) → Kills z (given ++ row ∷ []) → Kills z (rows_in (cs ++ f ∷ []))
      unfolding Each
      to_new z h =
          let old = combined given (rows_in e.rows) g.within z
          (each-left (λ r. M (dot z r)) given (row ∷ []) h) in
          let here = each-right (λ r. M (dot z r)) given (row ∷ []) h in
          rows_killed z (cs ++ f ∷ []) (all_dots z e.rows cs are (killed_rows z e.rows old)
          (to_fresh z (multiple_to q (fresh.is.left z old) here.0)))

      to_old : (z : List ℤ) → Kills z (rows_in (cs ++ f ∷ [])) → Kills z (given ++ row ∷ [])
      unfolding Each
      to_old z h =
          let all = killed_rows z (cs ++ f ∷ []) h in
          let here = fresh_dot z e.rows cs are all in
          let old = rows_killed z e.rows (back_dots z e.rows cs are all here) in
          each-append (λ r. M (dot z r)) given (row ∷ [])
          (combined (rows_in e.rows) given g.spans z old) (
            multiple_to q
                (congruent_sym ℤ_ring (q ∷ []) (fresh.is.left z old)) (from_fresh z here),
            tt,
          )

      form_more : length row ≡ e.width → IsEchelonOf q e.width (given ++ row ∷ []) (cs ++ f ∷ [])
      unfolding Each
      form_more w = record {
        widths = each-append (λ r. length r ≡ e.width) given (row ∷ []) g.widths (w, tt);
        led = all_led e.rows cs are all_free g.led;
        apart = all_apart e.rows cs are all_free g.apart;
        within = combinations (given ++ row ∷ []) (rows_in (cs ++ f ∷ [])) to_new;
        spans = combinations (rows_in (cs ++ f ∷ [])) (given ++ row ∷ []) to_old;
      }

  pub added_more : {e : Form} {row : List ℤ} {fs : List Led} → IsAddedAs q e row fs
      → length row ≡ e.width → (given : List (List ℤ)) → IsEchelonOf q e.width given e.rows
      → IsEchelonOf q e.width (given ++ row ∷ []) fs
  added_more {e = e} {row = row} a w given g =
      subst (λ ls. IsEchelonOf q e.width (given ++ row ∷ []) ls) (sym a.rows)
      (form_more e row a.fresh a.is a.cleared a.are given g w)

  pub added_new : {e : Form} {row : List ℤ} {fs : List Led} → IsAddedAs q e row fs
      → IsIndependent q e row
  added_new {e = e} {row = row} a = fresh_new e row a.fresh a.is
