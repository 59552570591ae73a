-- What a row is added as, as the code has it.
--   nothing_left, stuck_left, fresh_left     what is left of the row is nothing, begins with an entry without an inverse, or becomes a fresh row
--   fresh_wide, rows_wide, added_as          the rows that the fresh one is taken from, and all together
--   kept_added, either       the form after it, and whether the row counts
--   residue_none             a residue that is a multiple of the modulus is 0
use Rattle.std.proofs.Common.{◌≡◌, ℕ, ◌<◌, Result, Ok, Err, ℤ, pos, ◌*ℤ◌, List, [], ◌∷◌, ◌++◌, map, length, get_or, refl, sym, ap, subst, ◌∙◌}
use Rattle.std.proofs.lemmas.List.{length-map, map-append}
use Rattle.std.specs.List.{AllZip}
use Rattle.algebra.specs.Each.{Each}
use Rattle.algebra.proofs.IntRing.{ℤ_ring}
use Rattle.ideals.proofs.Ideal.{in_ideal_same, in_ideal_zero}
use Rattle.ideals.proofs.Congruence.{congruent_same}
use Rattle.closures.specs.Modulo.{IsMultiple, AreCongruent, HasPivot}
use Rattle.residue_rows.specs.Modulus.{modulus}
use Rattle.residue_rows.specs.Numbers.{number_of, numbers_of}
use Rattle.residue_rows.specs.EchelonForm.{entry, Led, Form, IsLed, IsReducedEchelon, IsRestOf, IsDependent, IsStuck}
use Rattle.residue_rows.specs.LedRows.{led_of, leds_of}
use Rattle.residue_rows.specs.Additions.{IsBlendOf, IsFirstEntry, IsFresh, IsClearedBy, IsAddedAs}
use Rattle.std.specs.declared.alloc.AllocError.{AllocError}
use Rattle.residue_rows.specs.declared.echelon.Addition.{Addition}
use Rattle.residue_rows.specs.declared.echelon.Addition.TheVariants.{Counts, Combination, NoInverse}
use Rattle.residue_rows.specs.declared.echelon.LedRow.{LedRow}
use Rattle.residue_rows.specs.declared.residue.Residue.{Residue}
use Rattle.residue_rows.proofs.EchelonForms.{rest_old, fresh_led, form_own, added_more}
use Rattle.residue_rows.proofs.Picked.{small_multiple}
use Rattle.residue_rows.proofs.Entries.{number_read, row_width}

-- a residue that is a multiple is 0
pub residue_none : (x : Residue) → IsMultiple (pos modulus) (number_of x) → number_of x ≡ pos 0
residue_none x i = ap pos (small_multiple modulus x.value x.low i)

module _ (e : Form) (row : List ℤ) (rest : List Residue)
    (left : IsRestOf (pos modulus) e row (numbers_of rest)) where
  pub nothing_left : (slice : List Residue) → slice ≡ rest
      → ((k : ℕ) → entry (numbers_of slice) k ≡ pos 0) → IsDependent (pos modulus) e row
  nothing_left slice s zero =
      rest_old (pos modulus) e row (numbers_of rest) left
      (λ k. in_ideal_same ℤ_ring
      (subst (λ r. entry (numbers_of r) k ≡ pos 0) s (zero k)) (in_ideal_zero ℤ_ring))

  module _ (slice : List Residue) (s : slice ≡ rest) (c : ℕ)
      (first : IsFirstEntry (numbers_of slice) c) (x : Residue) (read : x ≡ get_or rest c x) where
    here : IsFirstEntry (numbers_of rest) c
    here = subst (λ r. IsFirstEntry (numbers_of r) c) s first

    is : number_of x ≡ entry (numbers_of rest) c
    is =
        let f = here in
        number_read rest c x (subst (λ n. c < n) (length-map rest number_of) f.within) read

    pub column_within : c < length rest
    column_within = let f = here in subst (λ n. c < n) (length-map rest number_of) f.within

    none_before : (k : ℕ) → k < c → IsMultiple (pos modulus) (entry (numbers_of rest) k)
    none_before k l =
        let f = here in in_ideal_same ℤ_ring (f.before k l) (in_ideal_zero ℤ_ring)

    some : ¬ (IsMultiple (pos modulus) (entry (numbers_of rest) c))
    some i =
        let f = here in f.some (sym is ∙ residue_none x (in_ideal_same ℤ_ring is i))

    pub stuck_left : ¬ (HasPivot (pos modulus) (number_of x)) → IsStuck (pos modulus) e row
    stuck_left n = record {
      rest = numbers_of rest;
      is = left;
      column = c;
      before = none_before;
      some = some;
      stuck = λ h. n (subst (HasPivot (pos modulus)) (sym is) h);
    }

    pub fresh_left : (i : Residue)
        → AreCongruent (pos modulus) (number_of x *ℤ number_of i) (pos 1)
        → (f : LedRow) → f.lead ≡ c → length f.entries.items ≡ length rest
        → IsBlendOf (pos modulus) (number_of i) (numbers_of rest) (pos 0) []
        (numbers_of f.entries.items) → IsFresh (pos modulus) e row (led_of f)
    fresh_left i invertible f lead w scaled = record {
      rest = numbers_of rest;
      is = left;
      within = subst (λ k. k < e.width) (sym lead)
          (subst (λ n. c < n) left.width (let f = here in f.within));
      before = λ k l. none_before k (subst (λ m. k < m) lead l);
      some = subst (λ k. ¬ (IsMultiple (pos modulus) (entry (numbers_of rest) k))) (sym lead)
          some;
      inverse = number_of i;
      invertible = congruent_same ℤ_ring ((pos modulus) ∷ [])
          (ap (λ y. y *ℤ number_of i)
          (ap (entry (numbers_of rest)) lead ∙ sym is)) refl invertible;
      width = length-map f.entries.items number_of ∙ w ∙ sym (length-map rest number_of)
          ∙ left.width;
      scaled = scaled;
    }

pub fresh_wide : {e : Form} {row : List ℤ} (f : LedRow) {n : ℕ}
    → IsFresh (pos modulus) e row (led_of f) → length f.entries.items ≡ n
    → IsLed (pos modulus) n (led_of f)
fresh_wide {e = e} {row = row} f h w =
    subst (λ k. IsLed (pos modulus) k (led_of f))
    (sym h.width ∙ length-map f.entries.items number_of ∙ w)
    (fresh_led (pos modulus) e row (led_of f) h)

entries_wide : (n : ℕ) (rows : List LedRow) → Each (IsLed (pos modulus) n) (leds_of rows)
    → Each (λ r. length r.entries.items ≡ n) rows
unfolding Each
entries_wide n [] h = tt
entries_wide n (r ∷ rows) h = (row_width r h.0, entries_wide n rows h.1)

pub rows_wide : {n m : ℕ} (rows news : List LedRow) → Each (IsLed (pos modulus) n) (leds_of rows)
    → news ≡ rows → m ≡ n → Each (λ r. length r.entries.items ≡ m) news
rows_wide {n = n} rows news h s e =
    subst (λ k. Each (λ r. length r.entries.items ≡ k) news) (sym e)
    (subst (λ l. Each (λ r. length r.entries.items ≡ n) l) (sym s) (entries_wide n rows h))

pub added_as : {e : Form} {row : List ℤ} (f : LedRow) (rows : List LedRow) {olds : List LedRow}
    (cleared : List LedRow) {final : List LedRow}
    → e.rows ≡ leds_of olds → rows ≡ olds → IsFresh (pos modulus) e row (led_of f)
    → AllZip (IsClearedBy (pos modulus) (led_of f)) (leds_of rows) (leds_of cleared)
    → final ≡ cleared ++ f ∷ [] → IsAddedAs (pos modulus) e row (leds_of final)
added_as f rows cleared same s fresh are p = record {
  fresh = led_of f;
  is = fresh;
  cleared = leds_of cleared;
  are = subst (λ l. AllZip (IsClearedBy (pos modulus) (led_of f)) l (leds_of cleared))
      (ap leds_of s ∙ sym same) are;
  rows = ap leds_of p ∙ map-append led_of cleared (f ∷ []);
}

-- ---- the form after it
pub kept_added : (n : ℕ) {ls : List Led} {row : List ℤ} {fs : List Led} → length row ≡ n
    → IsReducedEchelon (pos modulus) n ls
    → IsAddedAs (pos modulus) (record { width = n; rows = ls }) row fs
    → IsReducedEchelon (pos modulus) n fs
kept_added n {ls = ls} {row = row} {fs = fs} w kept a =
    form_own (pos modulus) n fs (added_more (pos modulus) a w (map (λ l. l.row) ls) kept)

-- whether a row counts
abbrev Added : Type 0
Added = Result Addition AllocError

no_combination : (r : Added) → r ≡ Ok Combination → r ≡ Ok Counts → ⊥
no_combination r e f = cc

no_refusal : (r : Added) → r ≡ Ok NoInverse → r ≡ Ok Counts → ⊥
no_refusal r e f = cc

no_error : (r : Added) (x : AllocError) → r ≡ Err x → r ≡ Ok Counts → ⊥
no_error r x e f = cc

pub either : (r : Result Addition AllocError) (P : Type 0) → (r ≡ Ok Counts → P)
    → (¬ (r ≡ Ok Counts) → P) → P
either (Ok Counts) P f g = f refl
either (Ok Combination) P f g = g (no_combination (Ok Combination) refl)
either (Ok NoInverse) P f g = g (no_refusal (Ok NoInverse) refl)
either (Err x) P f g = g (no_error (Err x) x refl)
