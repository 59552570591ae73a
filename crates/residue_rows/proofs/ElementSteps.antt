-- The elements' functions, step by step, as the code has them.
--   item_in, lead_mono        an element of a list, and the monomial of its lead
--   divisor_found, divisor_not, divisor_none     the search for a lead that divides
--   first_pushed, share_pushed, share_past       the terms of an element
--   leads_below, found_all                       the elements
--   no_one          1 is no multiple of the modulus
--   row_leads       a row leads in its column
use Rattle.std.proofs.Common.{◌≡◌, ◌≢◌, inl, inr, ℕ, suc, ◌+◌, ◌-◌, ◌<◌, ◌≤◌, ℤ, pos, neg_ℤ, Bool, true, false, ◌||◌, List, [], ◌∷◌, ◌++◌, map, length, get_or, drop, refl, sym, ap, ap₂, subst, ◌∙◌, arith, Option, Some, None, is_some}
use Rattle.std.specs.Prelude.{IfSome}
use Rattle.std.specs.List.{slice_get}
use Rattle.std.proofs.lemmas.List.{map-append, drop_more, get_or_default}
use Rattle.algebra.specs.Each.{Each}
use Rattle.algebra.specs.In.{In}
use Rattle.algebra.specs.Ring.{CommRing}
use Rattle.algebra.specs.Fraction.{Fraction, ℚ}
use Rattle.algebra.proofs.Each.{each_weaker}
use Rattle.algebra.proofs.In.{each_in, each_from, in_get, map-in}
use Rattle.algebra.proofs.IntRing.{ℤ_ring}
use Rattle.algebra.proofs.RingSolver.{ring, ring_rules}
use Rattle.ideals.proofs.Ideal.{in_ideal_same, in_ideal_zero, in_ideal_neg}
use Rattle.ideals.proofs.Congruence.{congruent_same, congruent_sym}
use Rattle.polynomials.specs.Terms.{Terms}
use Rattle.machines.specs.Cut.{lead_of, divides}
use Rattle.closures.specs.Modulo.{IsMultiple, AreCongruent}
use Rattle.frac128.specs.FracMeaning.{fraction_of}
use Rattle.frac128.specs.declared.fraction.Frac.{Frac}
use Rattle.poly.specs.View.{terms_of}
use Rattle.poly.specs.declared.Term.{Term}
use Rattle.residue_rows.specs.Modulus.{modulus}
use Rattle.residue_rows.specs.Numbers.{number_of, numbers_of}
use Rattle.residue_rows.specs.Limited.{IsFractionOf}
use Rattle.residue_rows.specs.EchelonForm.{entry, Led, leads_in, IsLed, IsReducedEchelon}
use Rattle.residue_rows.specs.LedRows.{led_of}
use Rattle.residue_rows.specs.declared.echelon.LedRow.{LedRow}
use Rattle.residue_rows.specs.declared.residue.Residue.{Residue}
use Rattle.residue_rows.proofs.Added.{residue_none}
use Rattle.residue_rows.proofs.Dots.{multiple_to}
use Rattle.residue_rows.proofs.Entries.{number_read, row_width}
use Rattle.residue_rows.proofs.Picked.{one_is_none}
use Rattle.residue_rows.specs.ElementParts.{IsElementTo, HasNoFraction, IsTold, IsPushed, has_divisor}
use Rattle.residue_rows.proofs.Shares.{one_lead, element_first, element_same, element_push, row_ones, arity_at}
use Rattle.residue_rows.proofs.Leads.{IsElementOf, IsFoundTo, lead_is, element_some}

module _ {A : Type 0} (R : CommRing A) where
  open R use {neg}

  twice : (x : A) → x ≡ neg (neg x)
  twice x = ring R (x ∷ []) (search ring_rules depth 40) refl

pub no_one : IsMultiple (pos modulus) (pos 1) → ⊥
no_one i = one_is_none modulus (omega arith) i

-- ---- lists of elements
pub item_in : {X : Type 0} (f : X → Terms Fraction) (xs : List X) (i : ℕ) {x : X} → i < length xs
    → x ≡ get_or xs i x → In (f x) (map f xs)
item_in f xs i {x = x} l e =
    subst (λ y. In (f y) (map f xs)) (sym e) (map-in f xs (get_or xs i x) (in_get xs i x l))

pub lead_mono : (p : Terms Fraction) (t : List ℕ × Fraction) → slice_get p 0 ≡ Some t
    → lead_of p ≡ t.0
unfolding lead_of
lead_mono [] t e = absurd (none_some e)
  where
    none_some : {x : List ℕ × Fraction} → None ≡ Some x → ⊥
    none_some e = cc
lead_mono (u ∷ p) t e = ap (λ (x : List ℕ × Fraction). x.0) (same e)
  where
    same : Some u ≡ Some t → u ≡ t
    same e = cc

-- the leads of the items from the place i on
pub divisors_from : {X : Type 0} (f : X → Terms Fraction) (xs : List X) (i : ℕ) {x : X} (e : List ℕ)
    → i < length xs → x ≡ get_or xs i x
    → has_divisor (map lead_of (map f xs)) e ≡ has_divisor (map lead_of (map f (drop i xs))) e
    → has_divisor (map lead_of (map f xs)) e ≡ (divides (lead_of (f x)) e || has_divisor
    (map lead_of (map f (drop (i + 1) xs))) e)
divisors_from f xs i {x = x} e l r h =
    h ∙ ap (λ ys. has_divisor (map lead_of (map f ys)) e) (drop_more xs i x l)
    ∙ ap (λ y. divides (lead_of (f y)) e || has_divisor (map lead_of (map f (drop (i + 1) xs))) e)
    (sym r)

pub true_or : {a b : Bool} (c : Bool) → a ≡ (b || c) → b ≡ true → true ≡ a
true_or c h t = sym (h ∙ ap (λ x. x || c) t)

pub false_or : {a b : Bool} (c : Bool) → a ≡ (b || c) → b ≡ false → a ≡ c
false_or c h t = h ∙ ap (λ x. x || c) t

-- ---- terms
-- of the opposite of an entry that is read
module _ (row : List Residue) (c : ℕ) (x y : Residue) (l : c < length row)
    (read : x ≡ get_or row c x)
    (opposite : AreCongruent (pos modulus) (number_of y) (neg_ℤ (number_of x))) where
  abbrev value : ℤ
  value = entry (numbers_of row) c

  is : AreCongruent (pos modulus) (number_of y) (neg_ℤ value)
  is =
      congruent_same ℤ_ring ((pos modulus) ∷ []) refl
      (ap neg_ℤ (sym (number_read row c x l read))) opposite

  pub no_fraction : ((f : Fraction) → ¬ (IsFractionOf f (number_of y)))
      → HasNoFraction (pos modulus) (entry (numbers_of row) c)
  no_fraction n = record { number = number_of y; is = is; none = n }

  nonzero : number_of x ≢ pos 0 → ¬ (IsMultiple (pos modulus) (number_of y))
  nonzero d i =
      d (residue_none x (in_ideal_same ℤ_ring (twice ℤ_ring (number_of x)) (in_ideal_neg ℤ_ring
      (multiple_to (pos modulus) (congruent_sym ℤ_ring ((pos modulus) ∷ []) opposite) i))))

  pub share_told : number_of x ≢ pos 0 → {f : Fraction} → IsFractionOf f (number_of y)
      → IsTold (pos modulus) (entry (numbers_of row) c) f
  share_told d t = record { number = number_of y; is = is; some = nonzero d; fraction = t }

pub terms_pushed : (olds : List (Term Frac)) {news : List (Term Frac)} (t : Term Frac) (e : List ℕ)
    {f : Fraction}
    → news ≡ olds ++ t ∷ [] → t.mono ≡ e → fraction_of t.coef ≡ f
    → terms_of fraction_of news ≡ terms_of fraction_of olds ++ (e, f) ∷ []
terms_pushed olds t e p m g =
    ap (terms_of fraction_of) p ∙ map-append (λ (u : Term Frac). (u.mono, fraction_of u.coef)) olds
    (t ∷ [])
    ∙ ap₂ (λ d a. terms_of fraction_of olds ++ (d, a) ∷ []) m g

pub first_term : (olds news : List (Term Frac)) (t : Term Frac) (e : List ℕ) (f : Fraction)
    → olds ≡ [] → news ≡ olds ++ t ∷ [] → t.mono ≡ e → fraction_of t.coef ≡ f
    → terms_of fraction_of news ≡ (e, f) ∷ []
first_term olds news t e f n p m g =
    terms_pushed olds t e p m g ∙ ap (λ l. terms_of fraction_of l ++ (e, f) ∷ []) n

-- ---- a column more
module _ (es : List (List ℕ)) {ls : List Led} (kept : IsReducedEchelon (pos modulus) (length es) ls)
    (c : ℕ) where
  before : (i : ℕ) → 0 < i → suc (i - 1) ≡ i
  before i l = omega (arith, l)

  pub first_made : Each (λ l. l.lead ≢ c) ls → (p : Terms Fraction) → (e : List ℕ)
      → p ≡ (e, ℚ.one) ∷ [] → e ≡ get_or es c [] → IsElementTo (pos modulus) es ls c c p
  first_made d p e is m =
      element_first (pos modulus) no_one es ls kept c d p (is ∙ ap (λ x. (x, ℚ.one) ∷ []) m)

  module _ {i : ℕ} (positive : 0 < i) (within : i ≤ c) {p : Terms Fraction}
      (h : IsElementTo (pos modulus) es ls c i p) where
    earlier : IsElementTo (pos modulus) es ls c (suc (i - 1)) p
    earlier = subst (λ k. IsElementTo (pos modulus) es ls c k p) (sym (before i positive)) h

    pub no_row : Each (λ l. l.lead ≢ i - 1) ls → IsElementTo (pos modulus) es ls c (i - 1) p
    no_row d =
        element_same (pos modulus) no_one es ls kept c (i - 1) p (each_weaker (λ l. l.lead ≢ i
        - 1) (λ l. l.lead ≡ i - 1 → IsMultiple (pos modulus) (entry l.row c))
        (λ l n e. absurd (n e)) ls d) earlier

    pub some_row : (r : LedRow) → In (led_of r) ls → r.lead ≡ i - 1 → {e : List ℕ}
        → e ≡ get_or es (i - 1) [] → {q : Terms Fraction}
        → IsPushed (pos modulus) e (entry (numbers_of r.entries.items) c) p q
        → IsElementTo (pos modulus) es ls c (i - 1) q
    some_row r j leads m (inl n) =
        subst (IsElementTo (pos modulus) es ls c (i - 1)) (sym n.1) (element_same (pos modulus)
        no_one es ls kept c (i - 1) p (each_from ls (λ l k d. subst
        (λ (x : Led). IsMultiple (pos modulus) (entry x.row c)) (sym (one_lead (pos modulus)
        no_one ls (row_ones (pos modulus) no_one es ls kept c) kept.apart l (led_of r) k j
        (d ∙ sym leads))) (in_ideal_same ℤ_ring n.0 (in_ideal_zero ℤ_ring)))) earlier)
    some_row r j leads m {q = q} (inr s) =
        let t = s.told in
        element_push (pos modulus) no_one es ls kept c (i - 1) p earlier (led_of r) j
        leads t.number t.is s.fraction t.fraction t.some (omega (arith, positive, within)) q
        (s.pushed ∙ ap (λ x. p ++ (x, s.fraction) ∷ []) m)

pub row_wide : (es : List (List ℕ)) (ls : List Led) → IsReducedEchelon (pos modulus) (length es) ls
    → (r : LedRow) → In (led_of r) ls → (c : ℕ) → c < length es → c < length r.entries.items
row_wide es ls kept r j c l =
    let w = row_width r
    (each_in (λ x. IsLed (pos modulus) (length es) x) ls (led_of r) kept.led j) in
    subst (λ n. c < n) (sym w) l

pub mono_read : (es : List (List ℕ)) (c : ℕ) {x : List ℕ} → c < length es → x ≡ get_or es c x
    → x ≡ get_or es c []
mono_read es c {x = x} l e = e ∙ get_or_default es c x [] l

pub row_leads : {X : Type 0} (o : Option X) (row : X → LedRow) (k : ℕ) (ls : List Led)
    → is_some o ≡ true → IfSome o (λ r. (row r).lead ≡ k)
    → IfSome o (λ r. In (led_of (row r)) ls) → In k (leads_in ls)
row_leads None row k ls e same within = cc
row_leads (Some r) row k ls e same within =
    subst (λ j. In j (leads_in ls)) same (map-in (λ (l : Led). l.lead) ls (led_of (row r)) within)

-- ---- the elements
module _ (m : ℕ) {es : List (List ℕ)} (arities : Each (λ e. length e ≡ m) es) {ls : List Led}
    {c : ℕ} {gs : List (Terms Fraction)} (found : IsFoundTo (pos modulus) es ls c gs) where
  pub leads_wide : c < length es → {mono : List ℕ} → mono ≡ get_or es c mono
      → Each (λ g. length (lead_of g) ≡ length mono) gs
  leads_wide l {mono = mono} e =
      each_weaker (IsElementOf (pos modulus) es ls c) (λ g. length (lead_of g) ≡ length mono)
      (λ g x. ap length (lead_is (pos modulus) es ls g x)
      ∙ arity_at m es arities x.column (omega (arith, l, x.low))
      ∙ sym (ap length (mono_read es c l e) ∙ arity_at m es arities c l)) gs found.elements

  pub leads_some : Each (λ g. g ≢ []) gs
  leads_some =
      each_weaker (IsElementOf (pos modulus) es ls c) (λ g. g ≢ [])
      (λ g x. element_some (pos modulus) es ls c g x) gs found.elements

  pub found_all : length es ≤ c → c ≤ length es → IsFoundTo (pos modulus) es ls (length es) gs
  found_all l k = subst (λ n. IsFoundTo (pos modulus) es ls n gs) (omega (arith, l, k)) found
