-- Where the opposite of an entry has no limited fraction, no polynomial with the column's monomial, and of standard monomials besides, is 0 at all samples.
--   no_candidate            so it is
use Rattle.std.proofs.Common.{◌≡◌, ◌≢◌, ◌⊎◌, inl, inr, ℕ, ◌<◌, ◌≤◌, ℤ, pos, ◌+ℤ◌, ◌*ℤ◌, neg_ℤ, List, [], ◌∷◌, map, length, get_or, refl, sym, ap, subst, ◌∙◌, arith, Less}
use Rattle.std.specs.List.{AllZip}
use Rattle.std.proofs.lemmas.Bool.{cases_eq}
use Rattle.algebra.specs.Each.{Each}
use Rattle.algebra.specs.In.{In}
use Rattle.algebra.specs.Ring.{CommRing}
use Rattle.algebra.specs.Fraction.{Fraction, ℚ}
use Rattle.algebra.specs.Fraction as FractionSpec
use Rattle.algebra.specs.Ratio as RatioSpec
use Rattle.algebra.specs.Gcd as GcdSpec
use Rattle.algebra.proofs.Each.{each_weaker}
use Rattle.algebra.proofs.In.{each_in, in_map, map-in}
use Rattle.algebra.proofs.IntRing.{ℤ_ring}
use Rattle.algebra.proofs.RingLaws.{one-mul}
use Rattle.algebra.proofs.RingSolver.{ring, ring_rules}
use Rattle.ideals.proofs.Ideal.{in_ideal_same, in_ideal_mul}
use Rattle.ideals.proofs.Congruence.{congruent_refl, congruent_same, congruent_sym, congruent_add, congruent_mul}
use Rattle.polynomials.specs.Terms.{Terms, monomial_at}
use Rattle.polynomials.specs.Order.{compare, grevlex}
use Rattle.polynomials.specs.Polynomial.{IsPolynomial, Falls as TermsFall}
use Rattle.polynomials.proofs.Order.{less_irrefl}
use Rattle.polynomials.proofs.Orders.{grevlex_order}
use Rattle.closures.specs.Modulo.{IsMultiple, AreCongruent, IsResidueOf, AreResidues}
use Rattle.closures.proofs.Congruent.{congruent_trans}
use Rattle.closures.proofs.Modulo.{residue_zero, residue_none}
use Rattle.closures.proofs.Residues.{residue_congruent, residue_whole}
use Rattle.residue_rows.specs.Limited.{IsLimited}
use Rattle.residue_rows.specs.Modulus.{modulus, fraction_limit}
use Rattle.residue_rows.specs.EchelonForm.{entry, Led, leads_in, rows_in, IsLed, AreApart, IsEchelonOf}
use Rattle.residue_rows.proofs.Dots.{none_of}
use Rattle.residue_rows.proofs.EchelonForms.{lows}
use Rattle.residue_rows.specs.Elements.{IsZeroRow, IsCandidate, HasResidue, standard_in}
use Rattle.residue_rows.specs.ElementParts.{Share, share_sum, IsUntold}
use Rattle.residue_rows.proofs.Shares.{sum_first, sum_none, off_column, none_shared}
use Rattle.residue_rows.proofs.Spans.{rows_killed, IsShareOf, value_residue}

module _ {A : Type 0} (R : CommRing A) where
  open R use {zero as 𝟘, one as 𝟙, add as ◌⊕◌, mul as ◌⊗◌, neg}

  infixl 60 ◌⊕◌
  infixl 70 ◌⊗◌
  nothing_else : (x : A) → x ≡ x ⊗ 𝟙 ⊕ 𝟘
  nothing_else x = ring R (x ∷ []) (search ring_rules depth 40) refl

  nothing_first : (x : A) → x ≡ 𝟘 ⊕ x
  nothing_first x = ring R (x ∷ []) (search ring_rules depth 40) refl

  opposites : (x s : A) → s ⊕ neg (neg x) ≡ x ⊕ s
  opposites x s = ring R (x ∷ s ∷ []) (search ring_rules depth 40) refl

none_limited : IsLimited ℚ.zero
unfolding FractionSpec.fraction RatioSpec.is_lowest GcdSpec.gcd
none_limited =
    let low : 0 ≤ fraction_limit = omega arith in
    let some : 1 ≤ fraction_limit = omega arith in record { num = low; den = some }

module _ (q : ℤ) (es : List (List ℕ)) (ls : List Led) where
  pub record IsStandardShare (s : Share) (t : List ℕ × Fraction) : Type 0 where
    pub monomial : t.0 ≡ get_or es s.column []
    pub standard : In s.column (leads_in ls)
    pub limited : IsLimited t.1
    pub residue : IsResidueOf q t.1 s.number

  shares_of : (p : Terms Fraction) → Each (λ t. In t.0 (standard_in es ls)) p
      → Each (λ t. IsLimited t.1) p → Each (λ t. HasResidue q t.1) p
      → (ss : List Share) × AllZip IsStandardShare ss p
  unfolding Each
  shares_of [] i b r = ([], tt)
  shares_of (t ∷ p) i b r =
      let (k, j, e) = in_map (λ k. get_or es k []) (leads_in ls) t.0 i.0 in
      let (ss, h) = shares_of p i.1 b.1 r.1 in
      let has = r.0 in (
        record { column = k; number = has.number } ∷ ss,
        (record { monomial = e; standard = j; limited = b.0; residue = has.is }, h),
      )

  all_standard : (ss : List Share) (p : Terms Fraction) → AllZip IsStandardShare ss p
      → Each (λ s. In s.column (leads_in ls)) ss
  unfolding Each
  all_standard [] [] h = tt
  all_standard [] (t ∷ p) h = absurd h
  all_standard (s ∷ ss) [] h = absurd h
  all_standard (s ∷ ss) (t ∷ p) h = (let i = h.0 in i.standard, all_standard ss p h.1)

  -- no later share has the column
  other_columns : (e : List ℕ) (k : ℕ) → e ≡ get_or es k [] → (ss : List Share)
      (p : Terms Fraction) → AllZip IsStandardShare ss p
      → Each (λ t. compare grevlex t.0 e ≡ Less) p → Each (λ s. k ≢ s.column) ss
  unfolding Each
  other_columns e k is [] [] h b = tt
  other_columns e k is [] (t ∷ p) h b = absurd h
  other_columns e k is (s ∷ ss) [] h b = absurd h
  other_columns e k is (s ∷ ss) (t ∷ p) h b =
      (apart s t h.0 b.0, other_columns e k is ss p h.1 b.1)
    where
      apart : (s : Share) (t : List ℕ × Fraction) → IsStandardShare s t
          → compare grevlex t.0 e ≡ Less → k ≢ s.column
      apart s t i c d =
          less_irrefl grevlex grevlex_order e
          (subst (λ x. compare grevlex x e ≡ Less)
          (i.monomial ∙ ap (λ j. get_or es j []) (sym d) ∙ sym is) c)

  -- the sum with a row is a residue of the number at its leading monomial
  module _ (none : IsMultiple q (pos 1) → ⊥) (n : ℕ) (led : Each (IsLed q n) ls)
      (apart : AreApart q ls) (l : Led) (within : In l ls) where
    pub record HasFraction (a : ℤ) : Type 0 where
      pub fraction : Fraction
      pub limited : IsLimited fraction
      pub residue : IsResidueOf q fraction a

    one : AreCongruent q (entry l.row l.lead) (pos 1)
    one = let i = each_in (IsLed q n) ls l led within in i.one

    own_share : (s : Share) (t : List ℕ × Fraction) → IsStandardShare s t → l.lead ≡ s.column
        → (x : ℤ) → IsMultiple q x → HasFraction (s.number *ℤ entry l.row s.column +ℤ x)
    own_share s t h e x i = record {
      fraction = t.1;
      limited = h.limited;
      residue = residue_congruent q t.1 s.number _ h.residue
          (congruent_sym ℤ_ring (q ∷ []) (congruent_same ℤ_ring (q ∷ []) refl
          (nothing_else ℤ_ring s.number) (congruent_add ℤ_ring (q ∷ []) _ (s.number *ℤ pos 1) x
          (pos 0) (congruent_mul ℤ_ring (q ∷ []) s.number s.number (entry l.row s.column) (pos 1)
          (congruent_refl ℤ_ring (q ∷ []) s.number)
          (subst (λ k. AreCongruent q (entry l.row k) (pos 1)) e one)) (none_of q i))));
    }

    other_share : (s : Share) (t : List ℕ × Fraction) → IsStandardShare s t → l.lead ≢ s.column
        → (x : ℤ) → HasFraction x → HasFraction (s.number *ℤ entry l.row s.column +ℤ x)
    other_share s t h d x f = record {
      fraction = f.fraction;
      limited = f.limited;
      residue = residue_congruent q f.fraction x _ f.residue
          (congruent_sym ℤ_ring (q ∷ []) (congruent_same ℤ_ring (q ∷ []) refl
          (nothing_first ℤ_ring x) (congruent_add ℤ_ring (q ∷ []) _ (pos 0) x x (none_of q
          (in_ideal_mul ℤ_ring s.number (off_column q none ls apart l within s.column h.standard
          d))) (congruent_refl ℤ_ring (q ∷ []) x))));
    }

    pub find_fraction : (ss : List Share) (p : Terms Fraction) → AllZip IsStandardShare ss p
        → TermsFall grevlex p → HasFraction (share_sum ss l.row)
    unfolding TermsFall
    find_fraction [] [] h f =
        subst HasFraction (sym (sum_none l.row))
        (record { fraction = ℚ.zero; limited = none_limited; residue = residue_none q })
    find_fraction [] (t ∷ p) h f = absurd h
    find_fraction (s ∷ ss) [] h f = absurd h
    find_fraction (s ∷ ss) (t ∷ p) h f =
        subst HasFraction (sym (sum_first s ss l.row))
        (go (cases_eq l.lead s.column) (find_fraction ss p h.1 f.1))
      where
        go : (l.lead ≡ s.column) ⊎ (l.lead ≢ s.column) → HasFraction (share_sum ss l.row)
            → HasFraction (s.number *ℤ entry l.row s.column +ℤ share_sum ss l.row)
        go (inl e) r =
            let i = h.0 in
            own_share s t i e (share_sum ss l.row)
            (none_shared q none ls apart l within ss (all_standard ss p h.1)
            (subst (λ k. Each (λ r. k ≢ r.column) ss) (sym e)
            (other_columns t.0 s.column i.monomial ss p h.1 f.0)))
        go (inr d) r = other_share s t h.0 d (share_sum ss l.row) r

  shares_at : (x : List Fraction) (row : List ℤ)
      (residues : AreResidues q (map (monomial_at ℚ x) es) row)
      → Each (λ k. k < length es) (leads_in ls) → (ss : List Share) (p : Terms Fraction)
      → AllZip IsStandardShare ss p → AllZip (IsShareOf q es x row residues) ss p
  shares_at x row residues lows [] [] h = tt
  shares_at x row residues lows [] (t ∷ p) h = absurd h
  shares_at x row residues lows (s ∷ ss) [] h = absurd h
  shares_at x row residues lows (s ∷ ss) (t ∷ p) h =
      let i = h.0 in (
        record {
          monomial = i.monomial;
          within = each_in (λ k. k < length es) (leads_in ls) s.column lows i.standard;
          residue = i.residue;
        },
        shares_at x row residues lows ss p h.1,
      )

module _ (m : ℕ) (es : List (List ℕ)) (ls : List Led) (c : ℕ) (low : c < length es)
    (none : IsMultiple (pos modulus) (pos 1) → ⊥) (given : List (List ℤ))
    (e : IsEchelonOf (pos modulus) (length es) given ls) where
  abbrev q : ℤ
  q = pos modulus

  -- a row at which the polynomial is 0
  row_killed : (rest : Terms Fraction) (ss : List Share) → AllZip (IsStandardShare q es ls) ss rest
      → (row : List ℤ) → IsZeroRow q es ((get_or es c [], ℚ.one) ∷ rest) row
      → IsMultiple q (entry row c +ℤ share_sum ss row)
  row_killed rest ss h row z =
      let lead : Share = record { column = c; number = pos 1 } in
      let zs = shares_at q es ls z.state row z.residues
      (lows q (length es) ls e.led) ss rest h in
      let all = value_residue q es z.state row z.residues (lead ∷ ss) _
      (record { monomial = refl; within = low; residue = residue_whole q (pos 1) }, zs) in
      in_ideal_same ℤ_ring
      (ap (λ y. y +ℤ share_sum ss row) (sym (one-mul ℤ_ring (entry row c)))
      ∙ sym (sum_first lead ss row))
      (residue_zero q (share_sum (lead ∷ ss) row)
      (subst (λ f. IsResidueOf q f (share_sum (lead ∷ ss) row)) z.zero all))

  wide : (ss : List Share) → Each (λ s. In s.column (leads_in ls)) ss
      → Each (λ s. s.column < length es) ss
  wide ss h =
      each_weaker (λ s. In s.column (leads_in ls)) (λ s. s.column < length es)
      (λ s i. each_in (λ k. k < length es) (leads_in ls) s.column
      (lows q (length es) ls e.led) i) ss h

  told : (rest : Terms Fraction) → IsPolynomial ℚ grevlex m ((get_or es c [], ℚ.one) ∷ rest)
      → (ss : List Share) → AllZip (IsStandardShare q es ls) ss rest
      → Each (λ r. IsMultiple q (entry r c +ℤ share_sum ss r)) given → IsUntold q ls c → ⊥
  unfolding TermsFall
  told rest poly ss h kills u =
      let l = u.row in
      let none_left = u.untold in
      let f = find_fraction q es ls none (length es) e.led e.apart l u.within ss rest h
      poly.falls.1 in
      let x = entry l.row c in
      let s = share_sum ss l.row in
      let killed = each_in (λ r. IsMultiple q (entry r c +ℤ share_sum ss r)) (rows_in ls) l.row
      (rows_killed q c ss low (wide ss (all_standard q es ls ss rest h)) ls e
      kills) (map-in (λ (k : Led). k.row) ls l u.within) in
      let near : AreCongruent q s (neg_ℤ x) =
      record { difference = in_ideal_same ℤ_ring (opposites ℤ_ring x s) killed } in
      none_left.none f.fraction
      (record {
        limited = f.limited;
        residue = residue_congruent q f.fraction s none_left.number f.residue
            (congruent_trans q s (neg_ℤ x) none_left.number near
            (congruent_sym ℤ_ring (q ∷ []) none_left.is));
      })

  pub no_candidate : IsUntold (pos modulus) ls c → (p : Terms Fraction)
      → IsPolynomial ℚ grevlex m p → IsCandidate (pos modulus) es ls c p
      → ¬ (Each (IsZeroRow (pos modulus) es p) given)
  no_candidate u p poly can zeros =
      let (ss, h) = shares_of q es ls can.rest can.standard can.limited can.residues in
      told can.rest (subst (IsPolynomial ℚ grevlex m) can.is poly) ss h
      (each_weaker (IsZeroRow q es p) (λ r. IsMultiple q (entry r c +ℤ share_sum ss r))
      (λ r z. row_killed can.rest ss h r (subst (λ y. IsZeroRow q es y r) can.is z)) given zeros) u
