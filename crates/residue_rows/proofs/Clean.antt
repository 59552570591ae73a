-- No lead of an element divides a standard monomial: the element times what is left of that would be 0 at all samples, and led by a standard monomial.
--   place_of                the column of a monomial among those up to a degree
--   no_standard_multiple    so it is
use Rattle.std.proofs.Common.{◌≡◌, ◌⊎◌, inl, inr, ℕ, ◌<◌, ◌≤◌, ℤ, pos, ◌+ℤ◌, ◌*ℤ◌, true, List, [], ◌∷◌, length, sum, get_or, refl, sym, ap, subst, ◌∙◌, arith, Less}
use Rattle.std.specs.List.{AllZip}
use Rattle.std.proofs.lemmas.Bool.{cases_lt}
use Rattle.algebra.specs.Each.{Each}
use Rattle.algebra.specs.In.{In}
use Rattle.algebra.specs.Ring.{CommRing}
use Rattle.algebra.specs.Fraction.{Fraction, ℚ}
use Rattle.algebra.proofs.Each.{each_weaker}
use Rattle.algebra.proofs.Fractions.{ℚ_ring}
use Rattle.algebra.proofs.In.{each_in, in_place, in_get, map-in}
use Rattle.algebra.proofs.IntRing.{ℤ_ring}
use Rattle.algebra.proofs.RingSolver.{ring, ring_rules}
use Rattle.ideals.proofs.Ideal.{in_ideal_same, in_ideal_zero, in_ideal_add, in_ideal_mul}
use Rattle.ideals.proofs.Congruence.{congruent_refl, congruent_same, congruent_sym, congruent_add, congruent_mul}
use Rattle.polynomials.specs.Exponent.{plus, over}
use Rattle.polynomials.specs.Terms.{monomial_at}
use Rattle.polynomials.specs.Order.{compare, grevlex}
use Rattle.polynomials.proofs.Exponent.{sum-plus, length-plus, plus_comm}
use Rattle.polynomials.proofs.Monomials.{length-over}
use Rattle.polynomials.proofs.Order.{compare-plus, less_irrefl, less_trans}
use Rattle.polynomials.proofs.Orders.{grevlex_order}
use Rattle.polynomials.proofs.Value.{monomial-plus}
use Rattle.machines.specs.Cut.{divides}
use Rattle.machines.proofs.Elements.{over-plus}
use Rattle.closures.specs.Modulo.{IsMultiple, AreCongruent, IsResidueOf}
use Rattle.closures.specs.Monomials.{AreMonomialsUpTo}
use Rattle.closures.proofs.Residues.{residue_mul, residues_agree}
use Rattle.closures.proofs.UpTo.{less_degree}
use Rattle.residue_rows.specs.EchelonForm.{entry, Led, rows_in, IsLed, IsEchelonOf}
use Rattle.residue_rows.proofs.Dots.{multiple_to, first_part}
use Rattle.residue_rows.proofs.Picked.{residue_at}
use Rattle.residue_rows.specs.Elements.{IsValueRow}
use Rattle.residue_rows.specs.ElementParts.{Share, share_sum}
use Rattle.residue_rows.proofs.Shares.{sum_first, sum_none, ascend_at, arity_at}
use Rattle.residue_rows.proofs.Spans.{given_killed, rows_killed}

module _ {A : Type 0} (R : CommRing A) where
  open R use {zero as 𝟘, one as 𝟙, add as ◌⊕◌, mul as ◌⊗◌, neg}

  infixl 60 ◌⊕◌
  infixl 70 ◌⊗◌
  shared : (n t x s : A) → n ⊗ (t ⊗ x) ⊕ t ⊗ s ≡ t ⊗ (n ⊗ x ⊕ s)
  shared n t x s = ring R (n ∷ t ∷ x ∷ s ∷ []) (search ring_rules depth 40) refl

  factored : (t x s : A) → t ⊗ x ⊕ t ⊗ s ≡ t ⊗ (x ⊕ s)
  factored t x s = ring R (t ∷ x ∷ s ∷ []) (search ring_rules depth 40) refl

  none_times : (t : A) → t ⊗ 𝟘 ≡ 𝟘
  none_times t = ring R (t ∷ []) (search ring_rules depth 40) refl

each_both : {X : Type 0} (P Q : X → Type 0) (xs : List X) → Each P xs → Each Q xs
    → Each (λ x. P x × Q x) xs
unfolding Each
each_both P Q [] h k = tt
each_both P Q (x ∷ xs) h k = ((h.0, k.0), each_both P Q xs h.1 k.1)

module _ (m d : ℕ) (es : List (List ℕ)) (are : AreMonomialsUpTo m d es) where
  degree_at : (k : ℕ) → k < length es → sum (get_or es k []) ≤ d
  degree_at k l = each_in (λ e. sum e ≤ d) es (get_or es k []) are.degrees (in_get es k [] l)

  pub place_of : (e : List ℕ) → length e ≡ m → sum e ≤ d
      → (k : ℕ) × (k < length es) × (get_or es k [] ≡ e)
  place_of e l s = in_place es [] e (are.covers e l s)

  -- of two places the lower one has the lower monomial
  lower_place : (j k : ℕ) → j < length es → k < length es
      → compare grevlex (get_or es j []) (get_or es k []) ≡ Less → j < k
  lower_place j k l h c = go (cases_lt j k)
    where
      go : (j < k) ⊎ (k ≤ j) → j < k
      go (inl i) = i
      go (inr i) = absurd (other (cases_lt k j))
        where
          other : (k < j) ⊎ (j ≤ k) → ⊥
          other (inl b) =
              less_irrefl grevlex grevlex_order (get_or es j [])
              (less_trans grevlex grevlex_order (get_or es j []) (get_or es k []) (get_or es j []) c
              (ascend_at es are.ascend k j b l))
          other (inr b) =
              let same : j ≡ k = omega (arith, b, i) in
              less_irrefl grevlex grevlex_order (get_or es j [])
              (subst (λ x. compare grevlex (get_or es j []) (get_or es x []) ≡ Less) (sym same) c)

  module _ (t : List ℕ) (arity : length t ≡ m) (top : ℕ) (low : top < length es) where
    pub record IsMoved (s r : Share) : Type 0 where
      pub number : r.number ≡ s.number
      pub within : s.column < length es
      pub monomial : get_or es r.column [] ≡ plus t (get_or es s.column [])
      pub below : r.column < top

    moved : (c : ℕ) → c < length es → plus t (get_or es c []) ≡ get_or es top [] → (s : Share)
        → s.column < c → (r : Share) × IsMoved s r
    moved c l is s b =
        let e = get_or es s.column [] in
        let inside : s.column < length es = omega (arith, b, l) in
        let w : length e ≡ m = arity_at m es are.arities s.column inside in
        let v : length (get_or es c []) ≡ m = arity_at m es are.arities c l in
        let less : compare grevlex (plus t e) (get_or es top []) ≡ Less =
        subst (λ x. compare grevlex (plus t e) x ≡ Less) is
        (lifted e (get_or es c []) w v (ascend_at es are.ascend s.column c b l)) in
        let lt = length-plus t e m arity w in
        let (k, h, same) = place_of (plus t e) lt
        (bound (plus t e) lt less) in (
          record { column = k; number = s.number },
          record {
            number = refl;
            within = inside;
            monomial = same;
            below = lower_place k top h low
                (subst (λ x. compare grevlex x (get_or es top []) ≡ Less) (sym same) less);
          },
        )
      where
        lifted : (e f : List ℕ) → length e ≡ m → length f ≡ m → compare grevlex e f ≡ Less
            → compare grevlex (plus t e) (plus t f) ≡ Less
        lifted e f w v h =
            subst (λ x. compare grevlex x (plus t f) ≡ Less) (plus_comm e t)
            (subst (λ x. compare grevlex (plus e t) x ≡ Less) (plus_comm f t)
            (compare-plus grevlex grevlex_order e f t (w ∙ sym arity) (v ∙ sym arity) ∙ h))

        bound : (e : List ℕ) → length e ≡ m → compare grevlex e (get_or es top []) ≡ Less
            → sum e ≤ d
        bound e w h =
            let s = less_degree e (get_or es top []) (w ∙ sym (arity_at m es are.arities top low))
            h in
            omega (arith, s, degree_at top low)

    all_moved : (c : ℕ) → c < length es → plus t (get_or es c []) ≡ get_or es top []
        → (ss : List Share) → Each (λ s. s.column < c) ss
        → (rs : List Share) × AllZip IsMoved ss rs
    unfolding Each
    all_moved c l is [] h = ([], tt)
    all_moved c l is (s ∷ ss) h =
        let (r, i) = moved c l is s h.0 in
        let (rs, j) = all_moved c l is ss h.1 in (r ∷ rs, (i, j))

    below_top : (ss rs : List Share) → AllZip IsMoved ss rs → Each (λ s. s.column < top) rs
    unfolding Each
    below_top [] [] h = tt
    below_top [] (r ∷ rs) h = absurd h
    below_top (s ∷ ss) [] h = absurd h
    below_top (s ∷ ss) (r ∷ rs) h = (let i = h.0 in i.below, below_top ss rs h.1)

    -- a row of values
    module _ (q : ℤ) (ct : ℕ) (within : ct < length es) (is : get_or es ct [] ≡ t)
        (row : List ℤ) (value : IsValueRow q es row) where
      abbrev mon : List ℕ → Fraction
      mon = monomial_at ℚ value.state

      residue : (k : ℕ) → k < length es → IsResidueOf q (mon (get_or es k [])) (entry row k)
      residue k l = residue_at q mon es row value.residues k l

      multiplied : (k j : ℕ) → k < length es → j < length es
          → get_or es k [] ≡ plus t (get_or es j [])
          → AreCongruent q (entry row k) (entry row ct *ℤ entry row j)
      multiplied k j l h e =
          residues_agree q (mon (get_or es k [])) (entry row k) (entry row ct *ℤ entry row j)
          (residue k l)
          (subst (λ f. IsResidueOf q f (entry row ct *ℤ entry row j))
          (sym (ap mon e ∙ monomial-plus ℚ_ring value.state t (get_or es j [])))
          (residue_mul q (mon t) (mon (get_or es j [])) (entry row ct) (entry row j)
          (subst (λ x. IsResidueOf q (mon x) (entry row ct)) is (residue ct within))
          (residue j h)))

      sums_multiplied : (ss rs : List Share) → AllZip IsMoved ss rs
          → AreCongruent q (share_sum rs row) (entry row ct *ℤ share_sum ss row)
      sums_multiplied [] [] h =
          congruent_same ℤ_ring (q ∷ []) (sum_none row)
          (ap (λ y. entry row ct *ℤ y) (sum_none row) ∙ none_times ℤ_ring (entry row ct))
          (congruent_refl ℤ_ring (q ∷ []) (pos 0))
      sums_multiplied [] (r ∷ rs) h = absurd h
      sums_multiplied (s ∷ ss) [] h = absurd h
      sums_multiplied (s ∷ ss) (r ∷ rs) h =
          let i = h.0 in
          congruent_same ℤ_ring (q ∷ []) (sum_first r rs row
          ∙ ap (λ y. y *ℤ entry row r.column +ℤ share_sum rs row) i.number) (ap (λ y. entry row ct
          *ℤ y) (sum_first s ss row) ∙ sym (shared ℤ_ring s.number (entry row ct)
          (entry row s.column) (share_sum ss row))) (congruent_add ℤ_ring (q ∷ []) _ _
          (share_sum rs row) _ (congruent_mul ℤ_ring (q ∷ []) s.number s.number (entry row r.column)
          _ (congruent_refl ℤ_ring (q ∷ []) s.number) (multiplied r.column s.column
          (inside r.column i.below) i.within i.monomial)) (sums_multiplied ss rs h.1))
        where
          inside : (k : ℕ) → k < top → k < length es
          inside k b = omega (arith, b, low)

      kills_moved : (c : ℕ) → c < length es → get_or es top [] ≡ plus t (get_or es c [])
          → (ss rs : List Share) → AllZip IsMoved ss rs
          → IsMultiple q (entry row c +ℤ share_sum ss row)
          → IsMultiple q (entry row top +ℤ share_sum rs row)
      kills_moved c l e ss rs h k =
          multiple_to q (congruent_same ℤ_ring (q ∷ []) refl (sym (factored ℤ_ring (entry row ct)
          (entry row c) (share_sum ss row))) (congruent_add ℤ_ring (q ∷ []) (entry row top)
          (entry row ct *ℤ entry row c) (share_sum rs row) _ (multiplied top c low l e)
          (sums_multiplied ss rs h))) (in_ideal_mul ℤ_ring (entry row ct) k)

  -- ---- the lemma
  module _ (q : ℤ) (none : IsMultiple q (pos 1) → ⊥) (given : List (List ℤ)) (ls : List Led)
      (e : IsEchelonOf q (length es) given ls) (values : Each (IsValueRow q es) given) where
    before_sum : (l : Led) → IsLed q (length es) l → (rs : List Share)
        → Each (λ r. r.column < l.lead) rs → IsMultiple q (share_sum rs l.row)
    unfolding Each
    before_sum l i [] h = in_ideal_same ℤ_ring (sum_none l.row) (in_ideal_zero ℤ_ring)
    before_sum l i (r ∷ rs) h =
        in_ideal_same ℤ_ring (sum_first r rs l.row)
        (in_ideal_add ℤ_ring (in_ideal_mul ℤ_ring r.number (i.before r.column h.0))
        (before_sum l i rs h.1))

    pub no_standard_multiple : (c : ℕ) → c < length es → (ss : List Share)
        → Each (λ s. s.column < c) ss
        → Each (λ l. IsMultiple q (entry l.row c +ℤ share_sum ss l.row)) ls
        → (l : Led) → In l ls
        → divides (get_or es c []) (get_or es l.lead []) ≡ true → ⊥
    no_standard_multiple c low ss below kills l within div =
        let i = each_in (IsLed q (length es)) ls l e.led within in
        let a = get_or es c [] in
        let b = get_or es l.lead [] in
        let wa = arity_at m es are.arities c low in
        let wb = arity_at m es are.arities l.lead i.within in
        let t = over b a in
        let is : plus t a ≡ b = over-plus a b (wa ∙ sym wb) div in
        let wt : length t ≡ m = length-over b a (wb ∙ sym wa) ∙ wb in
        let st = sum-plus t a in
        let small : sum t ≤ d = omega (arith, st, ap sum is, degree_at l.lead i.within) in
        let (ct, inside, told) = place_of t wt small in
        let (rs, moves) = all_moved t wt l.lead i.within c low is ss below in
        let lows = below_top t wt l.lead i.within ss rs moves in
        let shifted = each_weaker (λ r. IsValueRow q es r × IsMultiple q
        (entry r c +ℤ share_sum ss r)) (λ r. IsMultiple q (entry r l.lead +ℤ share_sum rs r))
        (λ r h. kills_moved t wt l.lead i.within q ct inside told r h.0 c low (sym is) ss rs moves
        h.1) given (each_both (IsValueRow q es) (λ r. IsMultiple q (entry r c +ℤ share_sum ss r))
        given values (given_killed q c ss low (wider c low ss below) ls e kills)) in
        let final = each_in (λ r. IsMultiple q (entry r l.lead +ℤ share_sum rs r)) (rows_in ls)
        l.row (rows_killed q l.lead rs i.within (wider l.lead i.within rs lows) ls e shifted)
        (map-in (λ (x : Led). x.row) ls l within) in
        none (multiple_to q (congruent_sym ℤ_ring (q ∷ []) i.one) (first_part q (entry l.row l.lead)
        final (before_sum l i rs lows)))
      where
        wider : (k : ℕ) → k < length es → (ss : List Share) → Each (λ s. s.column < k) ss
            → Each (λ s. s.column < length es) ss
        wider k l ss h =
            each_weaker (λ s. s.column < k) (λ s. s.column < length es)
            (λ s b. omega (arith, b, l)) ss h
