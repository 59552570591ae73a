-- What a search finds is the reduced list up to the degree.
--   picked_samples   rows of values are values of the monomials of these columns
--   apart_places     distinct monomials differ at different places
--   reduced          elements that an echelon form of the rows of a search tells, and that are closed, are it
use Rattle.std.proofs.Common.{◌≡◌, ◌≢◌, ℕ, zero, suc, ◌<◌, ◌≤◌, ℤ, pos, true, false, List, [], ◌∷◌, map, length, get_or, refl, sym, ap, subst, ◌∙◌, arith}
use Rattle.std.proofs.lemmas.List.{length-map}
use Rattle.algebra.specs.Each.{Each}
use Rattle.algebra.specs.Fraction.{Fraction, ℚ}
use Rattle.algebra.proofs.Each.{each_weaker, each-map}
use Rattle.polynomials.specs.Exponent.{same}
use Rattle.polynomials.specs.Terms.{Terms, monomial_at}
use Rattle.polynomials.proofs.Exponent.{same_refl}
use Rattle.machines.specs.Journal.{Entry}
use Rattle.loops.specs.Inv.{Inv}
use Rattle.loops.specs.Program.{Expr, Program}
use Rattle.closures.specs.Closing.{closed}
use Rattle.closures.specs.Ends.{ComesNext}
use Rattle.closures.specs.Modulo.{IsSampleRow}
use Rattle.closures.specs.UpTo.{AreDistinct, IsReducedUpTo}
use Rattle.closures.proofs.Searched.{searched_is}
use Rattle.closures.proofs.Monomials.{are_monomials_up_to, distinct_ascending}
use Rattle.residue_rows.specs.Modulus.{modulus}
use Rattle.residue_rows.specs.EchelonForm.{Led, pick, leads_in, rows_in}
use Rattle.residue_rows.proofs.EchelonForms.{lows, ones}
use Rattle.residue_rows.proofs.Picked.{one_is_none, picked_triangular, picked_combinations, picked_residues, distinct_picked}
use Rattle.residue_rows.specs.Elements.{standard_in}
use Rattle.closing.specs.Search.{Part, rows_of, monomials, HasLeft, IsSearch}
use Rattle.closing.proofs.Parts.{rows_are}

not_same : (e f : List ℕ) → same e f ≡ false → e ≢ f
not_same e f differ is =
    let yes : same e f ≡ true = subst (λ g. same e g ≡ true) is (same_refl e) in
    let b : true ≡ false = sym yes ∙ differ in cc

other_place : (e : List ℕ) (es : List (List ℕ)) (k : ℕ) → k < length es
    → Each (λ d. same d e ≡ false) es → get_or es k [] ≢ e
unfolding Each
other_place e [] k l h = absurd (omega (arith, l))
other_place e (f ∷ es) zero l h = not_same f e h.0
other_place e (f ∷ es) (suc k) l h = other_place e es k (omega (arith, l)) h.1

pub apart_places : (es : List (List ℕ)) → AreDistinct es → (j k : ℕ) → j < length es
    → k < length es → j ≢ k → get_or es j [] ≢ get_or es k []
unfolding AreDistinct
apart_places [] d j k l n apart = absurd (omega (arith, l))
apart_places (e ∷ es) d zero zero l n apart = absurd (apart refl)
apart_places (e ∷ es) d zero (suc k) l n apart =
    λ is. other_place e es k (omega (arith, n)) d.0 (sym is)
apart_places (e ∷ es) d (suc j) zero l n apart = other_place e es j (omega (arith, l)) d.0
apart_places (e ∷ es) d (suc j) (suc k) l n apart =
    apart_places es d.1 j k (omega (arith, l)) (omega (arith, n)) (λ is. apart (ap (λ i. suc i) is))

pub big : 2 ≤ modulus
big = omega arith

picked_samples : {At : Type 0} (program : Program (Expr At)) (q : ℤ) (es : List (List ℕ))
    (ks : List ℕ) → Each (λ k. k < length es) ks → (rows : List (List ℤ))
    → Each (IsSampleRow program q es) rows
    → Each (IsSampleRow program q (pick [] ks es)) (map (pick (pos 0) ks) rows)
picked_samples program q es ks l rows h =
    each-map (IsSampleRow program q (pick [] ks es)) (pick (pos 0) ks) rows
    (each_weaker (IsSampleRow program q es)
    (λ r. IsSampleRow program q (pick [] ks es) (pick (pos 0) ks r))
    (λ r s. record {
      run = s.run;
      residues =
          picked_residues q (monomial_at ℚ s.run.end) es r s.residues ks l;
    }) rows h)

module _ (program : Program (Expr ℕ)) (d : ℕ) where
  abbrev m : ℕ
  m = length program.names

  abbrev es : List (List ℕ)
  es = monomials program d

  pub reduced : (ps : List Part) {gs : List (Terms Fraction)} → IsSearch program d ps
      → HasLeft program d ps gs → (behind : List Entry) (hs : List (Terms Fraction))
      → ComesNext program gs behind (closed hs) → IsReducedUpTo m d gs (Inv program)
  reduced ps {gs = gs} s left behind hs c =
      let form = left.form in
      let e = left.echelon in
      let leads = leads_in form in
      let within = lows (pos modulus) (length es) form e.led in
      searched_is program d gs left.tidy behind hs c (standard_in es form) left.standard
      (distinct_picked (pos modulus) (one_is_none modulus big) es (apart_places es
      (distinct_ascending es (are_monomials_up_to m d).ascend)) form within
      (ones (pos modulus) (length es) form e.led) e.apart) modulus big _ _
      (picked_samples program (pos modulus) es leads within (rows_of ps) (rows_are program d ps s))
      (picked_triangular (pos modulus) (length es) (rows_of ps) form e)
      (picked_combinations (pos modulus) (length es) leads within (rows_of ps) (rows_in form)
      e.within) (same_length (pick (pos 0) leads) form)
    where
      same_length : (f : List ℤ → List ℤ) (form : List Led)
          → length (map f (rows_in form)) ≡ length (standard_in es form)
      same_length f form =
          length-map (rows_in form) f ∙ (length-map form (λ l. l.row)
          ∙ (sym (length-map form (λ l. l.lead))
          ∙ sym (length-map (leads_in form) (λ k. get_or es k []))))
