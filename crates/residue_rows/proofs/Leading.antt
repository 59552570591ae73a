-- What leads an element.
--   element_free      no row leads in the column of an element
--   told_before       where the elements before a column are found, each column before it that leads one has one
--   leads_at          where the elements before a column are found, the monomial that no row leads in and no lead of theirs divides leads one
use Rattle.std.proofs.Common.{◌≡◌, ◌≢◌, ◌⊎◌, inl, inr, ℕ, ◌<◌, ◌≤◌, ℤ, pos, ◌+ℤ◌, true, false, true≢false, List, [], ◌∷◌, map, length, get_or, sym, ap, subst, ◌∙◌, arith, Less}
use Rattle.std.proofs.lemmas.Bool.{cases_lt}
use Rattle.algebra.specs.Each.{Each}
use Rattle.algebra.specs.In.{In}
use Rattle.algebra.specs.Fraction.{Fraction}
use Rattle.algebra.proofs.Each.{each_weaker}
use Rattle.algebra.proofs.In.{each_in, in_map}
use Rattle.algebra.proofs.IntRing.{ℤ_ring}
use Rattle.ideals.proofs.Congruence.{congruent_sym}
use Rattle.polynomials.specs.Exponent.{over}
use Rattle.polynomials.specs.Order.{compare, grevlex}
use Rattle.polynomials.specs.Terms.{Terms}
use Rattle.polynomials.proofs.Monomials.{length-over}
use Rattle.polynomials.proofs.Order.{compare_least}
use Rattle.polynomials.proofs.Orders.{grevlex_order}
use Rattle.machines.specs.Cut.{lead_of, divides}
use Rattle.machines.proofs.Elements.{over-plus}
use Rattle.machines.proofs.Tidied.{divides-trans}
use Rattle.closures.specs.Modulo.{IsMultiple}
use Rattle.closures.specs.Monomials.{AreAscending}
use Rattle.residue_rows.specs.EchelonForm.{entry, Led, leads_in, IsLed, IsReducedEchelon}
use Rattle.residue_rows.proofs.Dots.{multiple_to, first_part}
use Rattle.residue_rows.specs.ElementParts.{share_sum, LeadsElement, IsElementTo, has_divisor}
use Rattle.residue_rows.proofs.Leads.{IsElementOf, IsFoundTo, IsDivided, lead_is, none_divides, not_true}
use Rattle.residue_rows.proofs.Shares.{none_shared, ascend_at, arity_at}

module _ (q : ℤ) (none : IsMultiple q (pos 1) → ⊥) (n : ℕ) (es : List (List ℕ)) (ls : List Led)
    (kept : IsReducedEchelon q n ls) where
  pub element_free : (c : ℕ) (g : Terms Fraction) (x : IsElementOf q es ls c g)
      → In x.column (leads_in ls) → ⊥
  element_free c g x i =
      let (l, m, is) = in_map (λ (k : Led). k.lead) ls x.column i in
      let t = x.is in
      let led : IsLed q n l = each_in (IsLed q n) ls l kept.led m in
      let killed =
      each_in (λ k. 0 ≤ k.lead → IsMultiple q (entry k.row x.column +ℤ share_sum t.shares k.row)) ls
      l t.kills m (omega arith) in
      let shared = none_shared q none ls kept.apart l m t.shares t.standard
      (each_weaker (λ s. s.column < x.column) (λ s. l.lead ≢ s.column)
      (λ s low same. omega (arith, low, same, is)) t.shares t.below) in
      none (multiple_to q (congruent_sym ℤ_ring (q ∷ []) led.one) (subst (λ k. IsMultiple q
      (entry l.row k)) is (first_part q (entry l.row x.column) killed shared)))

  pub told_before : (m c : ℕ) → c < length es → Each (λ e. length e ≡ m) es → AreAscending es
      → {gs : List (Terms Fraction)} → IsFoundTo q es ls c gs → (j : ℕ) → j < c
      → LeadsElement q es ls j → (p : Terms Fraction) × IsElementTo q es ls j 0 p
  told_before m c within arities ascend {gs = gs} found j l leads = go (found.covers j l)
    where
      go : In j (leads_in ls) ⊎ IsDivided gs (get_or es j [])
          → (p : Terms Fraction) × IsElementTo q es ls j 0 p
      go (inl i) =
          let (k, n, is) = in_map (λ (k : Led). k.lead) ls j i in
          absurd (each_in (λ k. k.lead ≢ j) ls k leads.free n (sym is))
      go (inr d) =
          let x = each_in (IsElementOf q es ls c) gs d.by found.elements d.within in
          by x (cases_lt x.column j) (cases_lt j x.column)
        where
          by : (x : IsElementOf q es ls c d.by) → (x.column < j) ⊎ (j ≤ x.column)
              → (j < x.column) ⊎ (x.column ≤ j) → (p : Terms Fraction) × IsElementTo q es ls j 0 p
          by x (inl low) n =
              let y : IsElementOf q es ls j d.by =
              record { column = x.column; low = low; is = x.is } in
              absurd (true≢false (sym d.divides_it ∙ leads.undivided d.by y))
          by x (inr m) (inr n) =
              (d.by, subst (λ k. IsElementTo q es ls k 0 d.by) (omega (arith, m, n)) x.is)
          by x (inr _) (inl high) = absurd (not_above x high)
            where
              not_above : (x : IsElementOf q es ls c d.by) → j < x.column → ⊥
              not_above x high =
                  let low = x.low in
                  let lead = get_or es x.column [] in
                  let e = get_or es j [] in
                  let same =
                  arity_at m es arities j (omega (arith, l, within))
                  ∙ sym (arity_at m es arities x.column (omega (arith, low, within))) in
                  compare_least grevlex grevlex_order (over e lead) lead
                  (length-over e lead same ∙ same) (subst (λ f. compare grevlex f lead ≡ Less)
                  (sym (over-plus lead e (sym same) (subst (λ f. divides f e ≡ true)
                  (lead_is q es ls d.by x) d.divides_it)))
                  (ascend_at es ascend j x.column high (omega (arith, low, within))))

  module _ (m : ℕ) {c : ℕ} (within : c < length es) (arities : Each (λ e. length e ≡ m) es)
      {gs : List (Terms Fraction)} (found : IsFoundTo q es ls c gs) (new : has_divisor
      (map lead_of gs) (get_or es c []) ≡ false) where
    lead_length : (g : Terms Fraction) → IsElementOf q es ls c g → length (lead_of g) ≡ m
    lead_length g x =
        ap length (lead_is q es ls g x)
        ∙ arity_at m es arities x.column (let low = x.low in omega (arith, low, within))

    undivided : (g : Terms Fraction) → IsElementOf q es ls c g
        → divides (lead_of g) (get_or es c []) ≡ false
    undivided g x = go (found.covers x.column x.low)
      where
        go : In x.column (leads_in ls) ⊎ IsDivided gs (get_or es x.column [])
            → divides (lead_of g) (get_or es c []) ≡ false
        go (inl i) = absurd (element_free c g x i)
        go (inr d) =
            not_true _ (λ h. true≢false (sym (divides-trans (lead_of d.by) (lead_of g)
            (get_or es c []) (lead_length d.by (each_in (IsElementOf q es ls c) gs d.by
            found.elements d.within) ∙ sym (lead_length g x))
            (lead_length g x ∙ sym (arity_at m es arities c within)) (subst (λ e. divides
            (lead_of d.by) e ≡ true) (sym (lead_is q es ls g x)) d.divides_it) h) ∙ each_in
            (λ f. divides (lead_of f) (get_or es c []) ≡ false) gs d.by
            (none_divides gs (get_or es c []) new) d.within))

    pub leads_at : Each (λ l. l.lead ≢ c) ls → LeadsElement q es ls c
    leads_at free = record { free = free; undivided = undivided }
