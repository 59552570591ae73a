-- Two rows of two columns that are 1 in the first and differ, modulo q, in the second by a number with an inverse: no column is left.
--   IsRowTo q x row        the row is 1, and then x, modulo q
--   combined_of_none, combined_of_first    neither is a combination of those before
--   never_stuck, never_stuck_behind        what an echelon form leaves of the one or the other begins with a number that has an inverse
--   all_lead               in each column a row of their echelon form leads
--   no_element             so it tells no element
use Rattle.std.proofs.Common.{◌≡◌, ◌≢◌, ℕ, zero, suc, ◌<◌, ◌≤◌, ℤ, pos, ◌+ℤ◌, ◌*ℤ◌, neg_ℤ, List, [], ◌∷◌, length, refl, sym, ap, ap₂, subst, ◌∙◌, arith}
use Rattle.algebra.specs.Each.{Each}
use Rattle.algebra.specs.Fraction.{Fraction}
use Rattle.algebra.specs.Ring.{CommRing}
use Rattle.algebra.proofs.Each.{each_weaker}
use Rattle.algebra.proofs.IntRing.{ℤ_ring}
use Rattle.algebra.proofs.RingSolver.{ring, ring_rules}
use Rattle.ideals.proofs.Ideal.{in_ideal_same, in_ideal_zero, in_ideal_add, in_ideal_mul, in_ideal_neg}
use Rattle.ideals.proofs.Congruence.{congruent_refl, congruent_same, congruent_sym, congruent_add, congruent_mul}
use Rattle.polynomials.specs.Terms.{Terms}
use Rattle.closures.specs.Modulo.{IsMultiple, AreCongruent, HasPivot, IsCombinationModulo}
use Rattle.closures.proofs.Congruent.{congruent_trans, pivot_same}
use Rattle.residue_rows.specs.EchelonForm.{dot, entry, Led, rows_in, IsLed, AreApart, IsEchelonOf, IsStuck}
use Rattle.residue_rows.proofs.Dots.{multiple_to, dot_first, dot_zero}
use Rattle.residue_rows.proofs.EchelonForms.{combined}
use Rattle.residue_rows.specs.ElementParts.{Share, columns_in, share_sum, Falls, IsElementOf}
use Rattle.residue_rows.proofs.Shares.{sum_first, sum_none}
use Rattle.residue_rows.proofs.Spans.{given_killed}

module _ {A : Type 0} (R : CommRing A) where
  open R use {zero as 𝟘, one as 𝟙, add as ◌⊕◌, mul as ◌⊗◌, neg}

  infixl 60 ◌⊕◌
  infixl 70 ◌⊗◌
  two_parts : (x y : A) → x ⊕ (y ⊕ 𝟘) ≡ x ⊕ y
  two_parts x y = ring R (x ∷ y ∷ []) (search ring_rules depth 40) refl

  first_alone : (x : A) → 𝟙 ≡ 𝟙 ⊕ 𝟘 ⊗ x
  first_alone x = ring R (x ∷ []) (search ring_rules depth 40) refl

  one_first : (y z x : A) → y ⊗ 𝟙 ⊕ z ⊗ x ≡ y ⊕ z ⊗ x
  one_first y z x = ring R (y ∷ z ∷ x ∷ []) (search ring_rules depth 40) refl

  itself : (x : A) → neg x ⊕ 𝟙 ⊗ x ≡ 𝟘
  itself x = ring R (x ∷ []) (search ring_rules depth 40) refl

  apart_from : (x y : A) → y ⊕ neg x ≡ neg x ⊕ 𝟙 ⊗ y
  apart_from x y = ring R (x ∷ y ∷ []) (search ring_rules depth 40) refl

  both_less : (w x y : A) → y ⊕ neg x ≡ (w ⊕ 𝟙 ⊗ y) ⊕ neg (w ⊕ 𝟙 ⊗ x)
  both_less w x y = ring R (w ∷ x ∷ y ∷ []) (search ring_rules depth 40) refl

  second_alone : (x u v : A) → v ≡ (neg x ⊗ u ⊕ 𝟙 ⊗ v) ⊕ neg (neg x ⊗ u)
  second_alone x u v = ring R (x ∷ u ∷ v ∷ []) (search ring_rules depth 40) refl

  unit_first : (x v : A) → 𝟙 ⊗ x ⊕ 𝟘 ⊗ v ≡ x
  unit_first x v = ring R (x ∷ v ∷ []) (search ring_rules depth 40) refl

  less_times : (x : A) → neg x ⊗ 𝟙 ⊕ 𝟙 ⊗ x ≡ 𝟘
  less_times x = ring R (x ∷ []) (search ring_rules depth 40) refl

  left_behind : (x y u v : A) → v ⊕ neg (y ⊕ neg x)
      ≡ ((neg x ⊗ u ⊕ 𝟙 ⊗ v) ⊕ neg (neg x ⊕ 𝟙 ⊗ y)) ⊕ neg (neg x ⊗ u)
  left_behind x y u v = ring R (x ∷ y ∷ u ∷ v ∷ []) (search ring_rules depth 40) refl

  moved_apart : (x y u v : A)
      → (y ⊕ neg x) ⊕ neg (v ⊕ neg u) ≡ neg (v ⊕ neg y) ⊕ (u ⊕ neg x)
  moved_apart x y u v = ring R (x ∷ y ∷ u ∷ v ∷ []) (search ring_rules depth 40) refl

  none_apart : (x y : A) → y ⊕ neg x ≡ (y ⊕ 𝟘) ⊕ neg (x ⊕ 𝟘)
  none_apart x y = ring R (x ∷ y ∷ []) (search ring_rules depth 40) refl

  share_apart : (n u v x y : A) → y ⊕ neg x
      ≡ ((y ⊕ (n ⊗ v ⊕ 𝟘)) ⊕ neg (x ⊕ (n ⊗ u ⊕ 𝟘))) ⊕ neg (n ⊗ (v ⊕ neg u))
  share_apart n u v x y = ring R (n ∷ u ∷ v ∷ x ∷ y ∷ []) (search ring_rules depth 40) refl

module _ (q : ℤ) where
  pub record IsRowTo (x : ℤ) (row : List ℤ) : Type 0 where
    pub width : length row ≡ 2
    pub first : AreCongruent q (entry row 0) (pos 1)
    pub second : AreCongruent q (entry row 1) x

  abbrev M : ℤ → Type 0
  M x = IsMultiple q x

  pair_dot : (y z : ℤ) (row : List ℤ) → length row ≡ 2
      → dot (y ∷ z ∷ []) row ≡ y *ℤ entry row 0 +ℤ z *ℤ entry row 1
  pair_dot y z [] l = absurd (omega (arith, l))
  pair_dot y z (u ∷ []) l = absurd (omega (arith, l))
  pair_dot y z (u ∷ v ∷ []) l =
      dot_first y u (z ∷ []) (v ∷ [])
      ∙ ap (λ s. y *ℤ u +ℤ s) (dot_first z v [] [] ∙ ap (λ s. z *ℤ v +ℤ s) (dot_zero []))
      ∙ two_parts ℤ_ring (y *ℤ u) (z *ℤ v)
  pair_dot y z (u ∷ v ∷ w ∷ row) l = absurd (omega (arith, l))

  pair_with : (y z x : ℤ) (row : List ℤ) → IsRowTo x row
      → AreCongruent q (dot (y ∷ z ∷ []) row) (y +ℤ z *ℤ x)
  pair_with y z x row h =
      congruent_same ℤ_ring (q ∷ []) (pair_dot y z row h.width) (sym (one_first ℤ_ring y z x))
      (congruent_add ℤ_ring (q ∷ []) (y *ℤ entry row 0) (y *ℤ pos 1) (z *ℤ entry row 1) (z *ℤ x)
      (congruent_mul ℤ_ring (q ∷ []) y y (entry row 0) (pos 1)
      (congruent_refl ℤ_ring (q ∷ []) y) h.first)
      (congruent_mul ℤ_ring (q ∷ []) z z (entry row 1) x
      (congruent_refl ℤ_ring (q ∷ []) z) h.second))

  killed : (y z x : ℤ) (row : List ℤ) → IsRowTo x row → M (dot (y ∷ z ∷ []) row)
      → M (y +ℤ z *ℤ x)
  killed y z x row h m =
      multiple_to q (congruent_sym ℤ_ring (q ∷ []) (pair_with y z x row h)) m

  kills : (y z x : ℤ) (row : List ℤ) → IsRowTo x row → M (y +ℤ z *ℤ x)
      → M (dot (y ∷ z ∷ []) row)
  kills y z x row h m = multiple_to q (pair_with y z x row h) m

  kills_itself : (x : ℤ) (row : List ℤ) → IsRowTo x row → M (dot (neg_ℤ x ∷ pos 1 ∷ []) row)
  kills_itself x row h =
      kills (neg_ℤ x) (pos 1) x row h
      (in_ideal_same ℤ_ring (itself ℤ_ring x) (in_ideal_zero ℤ_ring))

  module _ (some : IsMultiple q (pos 1) → ⊥) where
    no_unit : {x : ℤ} → AreCongruent q x (pos 1) → M x → ⊥
    no_unit {x = x} h m = some (multiple_to q (congruent_sym ℤ_ring (q ∷ []) h) m)

    pub combined_of_none : (x : ℤ) (row : List ℤ) → IsRowTo x row
        → IsCombinationModulo q [] row → ⊥
    unfolding Each
    combined_of_none x row h c =
        some (in_ideal_same ℤ_ring (first_alone ℤ_ring x)
        (killed (pos 1) (pos 0) x row h (c.gives (pos 1 ∷ pos 0 ∷ []) tt)))

    -- ---- of one row
    module _ (x : ℤ) (row : List ℤ) (h : IsRowTo x row) where
      -- nothing kills what is left of it alone
      pub never_stuck : (form : List Led) → IsEchelonOf q 2 [] form
          → IsStuck q (record { width = 2; rows = form }) row → ⊥
      unfolding Each
      never_stuck form e s = go s.column s.before s.some s.stuck
        where
          one : AreCongruent q (entry s.rest 0) (pos 1)
          one =
              congruent_trans q (entry s.rest 0) _ (pos 1) (congruent_same ℤ_ring (q ∷ [])
              (sym (unit_first ℤ_ring (entry s.rest 0) (entry s.rest 1)))
              (pair_dot (pos 1) (pos 0) s.rest s.is.width) (congruent_refl ℤ_ring (q ∷ []) _))
              (congruent_trans q _ (dot (pos 1 ∷ pos 0 ∷ []) row) (pos 1) (s.is.left (pos 1 ∷ pos 0
              ∷ []) (combined q [] (rows_in form) e.within (pos 1 ∷ pos 0 ∷ []) tt))
              (congruent_same ℤ_ring (q ∷ []) refl (first_alone ℤ_ring x)
              (pair_with (pos 1) (pos 0) x row h)))

          go : (c : ℕ) → ((k : ℕ) → k < c → M (entry s.rest k)) → ¬ (M (entry s.rest c))
              → ¬ (HasPivot q (entry s.rest c)) → ⊥
          go zero before more stuck =
              stuck (record {
                inverse = pos 1;
                is = congruent_same ℤ_ring (q ∷ []) (ℤ_ring.mul-one (entry s.rest 0)) refl one;
              })
          go (suc c) before more stuck = no_unit one (before 0 (omega arith))

    positive : (n : ℕ) → n ≢ 0 → 0 < n
    positive zero h = absurd (h refl)
    positive (suc n) h = omega arith

    only_first : (n : ℕ) → n < 2 → n ≢ 1 → n ≡ 0
    only_first zero l h = refl
    only_first (suc zero) l h = absurd (h refl)
    only_first (suc (suc n)) l h = absurd (omega (arith, l))

    -- ---- of two
    module _ (x y : ℤ) (apart : HasPivot q (y +ℤ neg_ℤ x)) {one two : List ℤ} (h : IsRowTo x one)
        (k : IsRowTo y two) where
      differ : M (y +ℤ neg_ℤ x) → ⊥
      differ m =
          some (multiple_to q (congruent_sym ℤ_ring (q ∷ []) apart.is) (in_ideal_same ℤ_ring
          (ℤ_ring.mul_comm (y +ℤ neg_ℤ x) apart.inverse) (in_ideal_mul ℤ_ring apart.inverse m)))

      differ_with : (w : ℤ) → M (w +ℤ pos 1 *ℤ x) → M (w +ℤ pos 1 *ℤ y) → ⊥
      differ_with w m n =
          differ (in_ideal_same ℤ_ring (both_less ℤ_ring w x y)
          (in_ideal_add ℤ_ring n (in_ideal_neg ℤ_ring m)))

      entries_differ : M (entry two 1 +ℤ neg_ℤ (entry one 1)) → ⊥
      entries_differ m =
          differ (multiple_to q (record {
            difference = in_ideal_same ℤ_ring (moved_apart ℤ_ring x y (entry one 1) (entry two 1))
                (in_ideal_add ℤ_ring (in_ideal_neg ℤ_ring k.second.difference)
                h.second.difference);
          }) m)

      pub combined_of_first : IsCombinationModulo q (one ∷ []) two → ⊥
      unfolding Each
      combined_of_first c =
          differ (in_ideal_same ℤ_ring (apart_from ℤ_ring x y)
          (killed (neg_ℤ x) (pos 1) y two k
          (c.gives (neg_ℤ x ∷ pos 1 ∷ []) (kills_itself x one h, tt))))

      -- ---- what the first leaves of the second
      leads_first : (l : Led) → IsLed q 2 l → IsCombinationModulo q (one ∷ []) l.row
          → l.lead ≡ 0
      unfolding Each
      leads_first l i c = go l.lead i.within i.one i.before
        where
          go : (n : ℕ) → n < 2 → AreCongruent q (entry l.row n) (pos 1)
              → ((j : ℕ) → j < n → M (entry l.row j)) → n ≡ 0
          go zero less is before = refl
          go (suc zero) less is before =
              let u = entry l.row 0 in
              let sum = in_ideal_same ℤ_ring
              (sym (pair_dot (neg_ℤ x) (pos 1) l.row i.width))
              (c.gives (neg_ℤ x ∷ pos 1 ∷ []) (kills_itself x one h, tt)) in
              absurd (no_unit is (in_ideal_same ℤ_ring (second_alone ℤ_ring x u (entry l.row 1))
              (in_ideal_add ℤ_ring sum (in_ideal_neg ℤ_ring
              (in_ideal_mul ℤ_ring (neg_ℤ x) (before 0 (omega arith)))))))
          go (suc (suc n)) less is before = absurd (omega (arith, less))

      pub never_stuck_behind : (form : List Led) → IsEchelonOf q 2 (one ∷ []) form
          → IsStuck q (record { width = 2; rows = form }) two → ⊥
      unfolding Each
      never_stuck_behind [] e s = combined_of_none x one h e.spans.0
      never_stuck_behind (l ∷ form) e s = go s.column s.before s.some s.stuck
        where
          none : M (entry s.rest 0)
          none = subst (λ c. M (entry s.rest c)) (leads_first l e.led.0 e.within.0) s.is.cleared.0

          near : AreCongruent q (entry s.rest 1) (y +ℤ neg_ℤ x)
          near =
              let both = congruent_trans q _ _ (neg_ℤ x +ℤ pos 1 *ℤ y) (congruent_same ℤ_ring
              (q ∷ []) (sym (pair_dot (neg_ℤ x) (pos 1) s.rest s.is.width)) refl
              (congruent_refl ℤ_ring (q ∷ []) (dot (neg_ℤ x ∷ pos 1 ∷ []) s.rest)))
              (congruent_trans q _ _ (neg_ℤ x +ℤ pos 1 *ℤ y) (s.is.left (neg_ℤ x ∷ pos 1 ∷ [])
              (combined q (one ∷ []) (rows_in (l ∷ form)) e.within (neg_ℤ x ∷ pos 1 ∷ [])
              (kills_itself x one h, tt))) (pair_with (neg_ℤ x) (pos 1) y two k)) in
              record {
                difference = in_ideal_same ℤ_ring (left_behind ℤ_ring x y (entry s.rest 0)
                    (entry s.rest 1))
                    (in_ideal_add ℤ_ring both.difference
                    (in_ideal_neg ℤ_ring (in_ideal_mul ℤ_ring (neg_ℤ x) none)));
              }

          go : (c : ℕ) → ((j : ℕ) → j < c → M (entry s.rest j)) → ¬ (M (entry s.rest c))
              → ¬ (HasPivot q (entry s.rest c)) → ⊥
          go zero before more stuck = more none
          go (suc zero) before more stuck =
              stuck (pivot_same q (y +ℤ neg_ℤ x) (entry s.rest 1) (congruent_sym ℤ_ring (q ∷ [])
              near) apart)
          go (suc (suc c)) before more stuck =
              differ (multiple_to q (congruent_sym ℤ_ring (q ∷ []) near) (before 1 (omega arith)))

      -- ---- an echelon form of both
      abbrev both : List (List ℤ)
      both = one ∷ two ∷ []

      first_free : (ls : List Led) → Each (IsLed q 2) ls → Each (λ l. l.lead ≢ 0) ls
          → Each (λ r. M (dot (pos 1 ∷ pos 0 ∷ []) r)) (rows_in ls)
      unfolding Each
      first_free [] i n = tt
      first_free (l ∷ ls) i n = (
        let lead : IsLed q 2 l = i.0 in
            in_ideal_same ℤ_ring
            (pair_dot (pos 1) (pos 0) l.row lead.width
            ∙ unit_first ℤ_ring (entry l.row 0) (entry l.row 1))
            (lead.before 0 (positive l.lead n.0)),
        first_free ls i.1 n.1,
      )

      abbrev kills_led : Led → List ℤ
      kills_led l = neg_ℤ (entry l.row 1) ∷ pos 1 ∷ []

      killed_led : (l : Led) → IsLed q 2 l → l.lead ≡ 0 → M (dot (kills_led l) l.row)
      killed_led l i is =
          let w = entry l.row 1 in
          multiple_to q (congruent_same ℤ_ring (q ∷ []) (pair_dot (neg_ℤ w) (pos 1) l.row i.width)
          refl (congruent_add ℤ_ring (q ∷ []) (neg_ℤ w *ℤ entry l.row 0) (neg_ℤ w *ℤ pos 1)
          (pos 1 *ℤ w) (pos 1 *ℤ w) (congruent_mul ℤ_ring (q ∷ []) (neg_ℤ w) (neg_ℤ w)
          (entry l.row 0) (pos 1) (congruent_refl ℤ_ring (q ∷ []) (neg_ℤ w)) (subst (λ c.
          AreCongruent q (entry l.row c) (pos 1)) is i.one))
          (congruent_refl ℤ_ring (q ∷ []) (pos 1 *ℤ w)))) (in_ideal_same ℤ_ring
          (less_times ℤ_ring w) (in_ideal_zero ℤ_ring))

      pub all_lead : (form : List Led) → IsEchelonOf q 2 (one ∷ two ∷ []) form → (c : ℕ) → c < 2
          → Each (λ l. l.lead ≢ c) form → ⊥
      unfolding Each AreApart
      all_lead form e zero less n =
          let kill = combined q (rows_in form) both e.spans (pos 1 ∷ pos 0 ∷ [])
          (first_free form e.led n) in
          some (in_ideal_same ℤ_ring (first_alone ℤ_ring x)
          (killed (pos 1) (pos 0) x one h kill.0))
      all_lead [] e (suc zero) less n = combined_of_none x one h e.spans.0
      all_lead (l ∷ []) e (suc zero) less n =
          let lead : IsLed q 2 l = e.led.0 in
          let w = neg_ℤ (entry l.row 1) in
          let kill = combined q (l.row ∷ []) both e.spans (kills_led l)
          (killed_led l lead (only_first l.lead lead.within n.0), tt) in
          differ_with w (killed w (pos 1) x one h kill.0) (killed w (pos 1) y two k kill.1.0)
      all_lead (l ∷ m ∷ form) e (suc zero) less n =
          let i : IsLed q 2 l = e.led.0 in
          let j : IsLed q 2 m = e.led.1.0 in
          no_unit i.one (subst (λ c. M (entry l.row c)) (only_first m.lead j.within n.1.0
          ∙ sym (only_first l.lead i.within n.0)) e.apart.0.0.0)
      all_lead form e (suc (suc c)) less n = omega (arith, less)

      one_share : (s : Share) → s.column ≡ 0 → (row : List ℤ)
          → share_sum (s ∷ []) row ≡ s.number *ℤ entry row 0 +ℤ pos 0
      one_share s is row =
          sum_first s [] row
          ∙ ap₂ (λ c t. s.number *ℤ entry row c +ℤ t) is (sum_none row)

      ones_near : M (entry two 0 +ℤ neg_ℤ (entry one 0))
      ones_near =
          (congruent_trans q (entry two 0) (pos 1) (entry one 0) k.first
          (congruent_sym ℤ_ring (q ∷ []) h.first)).difference

      no_shares : (c : ℕ) → c < 2 → (ss : List Share) → Each (λ s. s.column < c) ss
          → Falls (columns_in ss)
          → Each (λ r. M (entry r c +ℤ share_sum ss r)) (one ∷ two ∷ []) → ⊥
      unfolding Each Falls
      no_shares zero less [] b f kill =
          no_unit h.first (in_ideal_same ℤ_ring (sym (ap (λ t. entry one 0 +ℤ t) (sum_none one)
          ∙ ℤ_ring.add-zero (entry one 0))) kill.0)
      no_shares zero less (s ∷ ss) b f kill = omega (arith, b.0)
      no_shares (suc zero) less [] b f kill =
          entries_differ (in_ideal_same ℤ_ring
          (none_apart ℤ_ring (entry one 1) (entry two 1)
          ∙ ap₂ (λ s t. (entry two 1 +ℤ s) +ℤ neg_ℤ (entry one 1 +ℤ t)) (sym (sum_none two))
          (sym (sum_none one)))
          (in_ideal_add ℤ_ring kill.1.0 (in_ideal_neg ℤ_ring kill.0)))
      no_shares (suc zero) less (s ∷ []) b f kill =
          let is : s.column ≡ 0 = omega (arith, b.0) in
          entries_differ (in_ideal_same ℤ_ring
          (share_apart ℤ_ring s.number (entry one 0) (entry two 0) (entry one 1) (entry two 1)
          ∙ ap₂ (λ t r. ((entry two 1 +ℤ t) +ℤ neg_ℤ (entry one 1 +ℤ r))
          +ℤ neg_ℤ (s.number *ℤ (entry two 0 +ℤ neg_ℤ (entry one 0))))
          (sym (one_share s is two)) (sym (one_share s is one)))
          (in_ideal_add ℤ_ring (in_ideal_add ℤ_ring kill.1.0 (in_ideal_neg ℤ_ring kill.0))
          (in_ideal_neg ℤ_ring (in_ideal_mul ℤ_ring s.number ones_near))))
      no_shares (suc zero) less (s ∷ t ∷ ss) b f kill = omega (arith, b.0, f.0.0)
      no_shares (suc (suc c)) less ss b f kill = omega (arith, less)

      pub no_element : {es : List (List ℕ)} (form : List Led)
          → IsEchelonOf q 2 (one ∷ two ∷ []) form → (g : Terms Fraction) → IsElementOf q es form 2 g
          → ⊥
      no_element form e g i =
          let t = i.is in
          no_shares i.column i.low t.shares t.below t.falls (given_killed q i.column t.shares i.low
          (each_weaker (λ s. s.column < i.column) (λ s. s.column < 2)
          (λ s l. let low = i.low in omega (arith, l, low)) t.shares t.below) form e
          (each_weaker (λ l. 0 ≤ l.lead → M (entry l.row i.column +ℤ share_sum t.shares l.row))
          (λ l. M (entry l.row i.column +ℤ share_sum t.shares l.row))
          (λ l f. f (omega arith)) form t.kills))
