-- The loops over entries and rows, as the code has them.
--   number_read            an entry that is read
--   taken_step, scaled_step     an entry that is written
--   blend_done             after the last one
--   first_step, first_found     the search for the first entry that isn't 0
--   rows_apart, row_read   of the rows, one by one
--   row_width              a row with a leading column has the width of the form
use Rattle.std.proofs.Common.{◌≡◌, ◌≢◌, ◌⊎◌, inl, inr, ℕ, ◌+◌, ◌<◌, ◌≤◌, ℤ, pos, ◌+ℤ◌, ◌-ℤ◌, ◌*ℤ◌, neg_ℤ, List, [], ◌∷◌, ◌++◌, length, get_or, set, take, drop, refl, sym, ap, subst, ◌∙◌, arith}
use Rattle.std.specs.List.{AllZip}
use Rattle.std.proofs.lemmas.Bool.{cases_lt}
use Rattle.std.proofs.lemmas.List.{get_or-map, map-set, length-map, get_or_past, take_more, drop_more, map-append, take_all, take-append-drop}
use Rattle.algebra.specs.Each.{Each}
use Rattle.algebra.specs.In.{In}
use Rattle.algebra.specs.Ring.{CommRing}
use Rattle.algebra.proofs.Each.{each-append}
use Rattle.algebra.proofs.In.{each_in, in_get, map-in}
use Rattle.algebra.proofs.IntRing.{ℤ_ring}
use Rattle.algebra.proofs.RingSolver.{ring, ring_rules}
use Rattle.ideals.proofs.Ideal.{in_ideal_same, in_ideal_neg}
use Rattle.ideals.proofs.Congruence.{congruent_same}
use Rattle.closures.specs.Modulo.{AreCongruent}
use Rattle.residue_rows.specs.Numbers.{number_of, numbers_of}
use Rattle.closures.proofs.Congruent.{congruent_trans}
use Rattle.residue_rows.specs.EchelonForm.{entry, IsLed, IsReducedEchelon, IsRestOf}
use Rattle.residue_rows.specs.LedRows.{led_of, leds_of}
use Rattle.residue_rows.specs.Additions.{IsBlendOf, IsFirstEntry, IsClearedBy}
use Rattle.residue_rows.specs.declared.echelon.LedRow.{LedRow}
use Rattle.residue_rows.specs.declared.residue.Residue.{Residue}
use Rattle.residue_rows.proofs.EchelonForms.{turned}
use Rattle.residue_rows.proofs.Iterations.{IsBlendTo, blend_step, blend_end, IsTurned, turned_item, turned_end, zip_images, IsRestTo, rest_step, rest_end}

module _ {A : Type 0} (R : CommRing A) where
  open R use {zero as 𝟘, one as 𝟙, add as ◌⊕◌, mul as ◌⊗◌, neg}

  infixl 60 ◌⊕◌
  infixl 70 ◌⊗◌
  less_product : (a p f o : A)
      → (a ⊕ neg p) ⊕ neg (𝟙 ⊗ a ⊕ neg f ⊗ o) ≡ neg (p ⊕ neg (f ⊗ o))
  less_product a p f o = ring R (a ∷ p ∷ f ∷ o ∷ []) (search ring_rules depth 40) refl

-- ---- entries
pub number_read : (row : List Residue) (k : ℕ) (x : Residue) → k < length row
    → x ≡ get_or row k x → number_of x ≡ entry (numbers_of row) k
number_read row k x l e = ap number_of e ∙ sym (get_or-map number_of row k x (pos 0) l)

less_entry : (q r a p f o : ℤ) → AreCongruent q r (a -ℤ p) → AreCongruent q p (f *ℤ o)
    → AreCongruent q r (pos 1 *ℤ a +ℤ neg_ℤ f *ℤ o)
less_entry q r a p f o h k =
    congruent_trans q r (a -ℤ p) (pos 1 *ℤ a +ℤ neg_ℤ f *ℤ o) h
    (record {
      difference = in_ideal_same ℤ_ring (less_product ℤ_ring a p f o)
          (in_ideal_neg ℤ_ring k.difference);
    })

module _ (q a : ℤ) (start : List Residue) (b : ℤ) (other : List ℤ) where
  written : (i : ℕ) (row : List Residue) (x : Residue) → i < length row
      → IsBlendTo q a (numbers_of start) b other i (numbers_of row)
      → AreCongruent q (number_of x) (a *ℤ entry (numbers_of row) i +ℤ b *ℤ entry other i)
      → IsBlendTo q a (numbers_of start) b other (i + 1) (numbers_of (set row i x))
  written i row x l h c =
      subst (λ r. IsBlendTo q a (numbers_of start) b other (i + 1) r)
      (sym (map-set number_of row i x))
      (blend_step q a (numbers_of start) b other i (numbers_of row) (number_of x)
      (subst (λ n. i < n) (sym (length-map row number_of)) l) h
      (congruent_same ℤ_ring (q ∷ []) refl
      (ap (λ y. a *ℤ y +ℤ b *ℤ entry other i) (sym (h.later i (omega arith)))) c))

  pub blend_done : (i n : ℕ) (row : List Residue) → n ≡ length start → n ≤ i
      → length other ≤ length start
      → IsBlendTo q a (numbers_of start) b other i (numbers_of row)
      → IsBlendOf q a (numbers_of start) b other (numbers_of row)
  blend_done i n row e l w h =
      let s : length (numbers_of start) ≡ length start = length-map start number_of in
      blend_end q a (numbers_of start) b other i (numbers_of row) (omega (arith, s, e, l))
      (omega (arith, s, w)) h

  pub row_length : {i : ℕ} (row : List Residue)
      → IsBlendTo q a (numbers_of start) b other i (numbers_of row) → length row ≡ length start
  row_length row h = sym (length-map row number_of) ∙ h.width ∙ length-map start number_of

pub taken_step : (q : ℤ) (start row other : List Residue) (i : ℕ) (f a : Residue) {o : Residue}
    (p x : Residue)
    → i < length row → i < length other → a ≡ get_or row i a → o ≡ get_or other i o
    → AreCongruent q (number_of p) (number_of f *ℤ number_of o)
    → AreCongruent q (number_of x) (number_of a -ℤ number_of p)
    → IsBlendTo q (pos 1) (numbers_of start) (neg_ℤ (number_of f)) (numbers_of other) i
    (numbers_of row)
    → IsBlendTo q (pos 1) (numbers_of start) (neg_ℤ (number_of f)) (numbers_of other) (i + 1)
    (numbers_of (set row i x))
taken_step q start row other i f a {o = o} p x l m e g c d h =
    written q (pos 1) start (neg_ℤ (number_of f)) (numbers_of other) i row x l h
    (congruent_same ℤ_ring (q ∷ []) refl
    (ap (λ y. pos 1 *ℤ y +ℤ neg_ℤ (number_of f) *ℤ entry (numbers_of other) i)
    (sym (number_read row i a l e))
    ∙ ap (λ y. pos 1 *ℤ number_of a +ℤ neg_ℤ (number_of f) *ℤ y)
    (sym (number_read other i o m g)))
    (less_entry q (number_of x) (number_of a) (number_of p) (number_of f) (number_of o) d c))

pub scaled_step : (q : ℤ) (start row : List Residue) (i : ℕ) (b a x : Residue)
    → i < length row → a ≡ get_or row i a
    → AreCongruent q (number_of x) (number_of a *ℤ number_of b)
    → IsBlendTo q (number_of b) (numbers_of start) (pos 0) [] i (numbers_of row)
    → IsBlendTo q (number_of b) (numbers_of start) (pos 0) [] (i + 1) (numbers_of (set row i x))
scaled_step q start row i b a x l e c h =
    written q (number_of b) start (pos 0) [] i row x l h
    (congruent_same ℤ_ring (q ∷ []) refl
    (turned ℤ_ring (number_of b) (entry (numbers_of row) i) (pos 0)
    ∙ ap (λ y. y *ℤ number_of b) (sym (number_read row i a l e))) c)

-- ---- the first entry that isn't 0
pub first_step : (row : List Residue) (i : ℕ) {x : Residue} → i < length row → x ≡ get_or row i x
    → number_of x ≡ pos 0 → ((k : ℕ) → k < i → entry (numbers_of row) k ≡ pos 0) → (k : ℕ)
    → k < i + 1 → entry (numbers_of row) k ≡ pos 0
first_step row i {x = x} l e z h k b = go (cases_lt k i)
  where
    go : (k < i) ⊎ (i ≤ k) → entry (numbers_of row) k ≡ pos 0
    go (inl m) = h k m
    go (inr m) =
        subst (λ j. entry (numbers_of row) j ≡ pos 0) (omega (arith, b, m))
        (sym (number_read row i x l e) ∙ z)

pub first_found : (row : List Residue) (i : ℕ) (x : Residue) → i < length row
    → x ≡ get_or row i x → number_of x ≢ pos 0
    → ((k : ℕ) → k < i → entry (numbers_of row) k ≡ pos 0) → IsFirstEntry (numbers_of row) i
first_found row i x l e z h = record {
  within = subst (λ n. i < n) (sym (length-map row number_of)) l;
  before = h;
  some = λ o. z (number_read row i x l e ∙ o);
}

pub none_found : (row : List Residue) (i n : ℕ) → n ≤ i → n ≡ length row
    → ((k : ℕ) → k < i → entry (numbers_of row) k ≡ pos 0)
    → (k : ℕ) → entry (numbers_of row) k ≡ pos 0
none_found row i n l e h k = go (cases_lt k i)
  where
    go : (k < i) ⊎ (i ≤ k) → entry (numbers_of row) k ≡ pos 0
    go (inl m) = h k m
    go (inr m) =
        let s : length (numbers_of row) ≡ length row = length-map row number_of in
        get_or_past (numbers_of row) k (pos 0) (omega (arith, s, l, e, m))

-- ---- rows
pub row_read : (rows : List LedRow) (i : ℕ) {r : LedRow} → i < length rows → r ≡ get_or rows i r
    → In (led_of r) (leds_of rows)
row_read rows i {r = r} l e =
    subst (λ x. In (led_of x) (leds_of rows)) (sym e)
    (map-in led_of rows (get_or rows i r) (in_get rows i r l))

pub split_at : (rows : List LedRow) (i : ℕ) (r : LedRow) → i < length rows
    → r ≡ get_or rows i r
    → leds_of rows ≡ leds_of (take i rows) ++ led_of r ∷ leds_of (drop (i + 1) rows)
split_at rows i r l e =
    ap leds_of (sym (take-append-drop i rows))
    ∙ map-append led_of (take i rows) (drop i rows)
    ∙ ap (λ x. leds_of (take i rows) ++ leds_of x) (drop_more rows i r l)
    ∙ ap (λ x. leds_of (take i rows) ++ led_of x ∷ leds_of (drop (i + 1) rows)) (sym e)

pub rest_more : (q : ℤ) (rows : List LedRow) (i : ℕ) (r : LedRow) (start row out : List Residue)
    (f : Residue) → i < length rows → r ≡ get_or rows i r
    → IsReducedEchelon q (length start) (leds_of rows)
    → IsRestTo q (length start) (leds_of rows) (numbers_of start) (leds_of (take i rows))
    (numbers_of row)
    → r.lead < length row → f ≡ get_or row r.lead f → length out ≡ length row
    → IsBlendOf q (pos 1) (numbers_of row) (neg_ℤ (number_of f)) (numbers_of r.entries.items)
    (numbers_of out)
    → IsRestTo q (length start) (leds_of rows) (numbers_of start) (leds_of (take (i + 1) rows))
    (numbers_of out)
rest_more q rows i r start row out f l e kept h b g w blend =
    subst (λ ls. IsRestTo q (length start) (leds_of rows) (numbers_of start) ls (numbers_of out))
    (sym (ap leds_of (take_more rows i r l) ∙ map-append led_of (take i rows) (get_or rows i r ∷ [])
    ∙ ap (λ x. leds_of (take i rows) ++ led_of x ∷ []) (sym e)))
    (rest_step q (length start) (leds_of rows) (numbers_of start) (leds_of (take i rows)) (led_of r)
    (leds_of (drop (i + 1) rows)) (numbers_of row) (numbers_of out) (split_at rows i r l e) kept h
    (length-map out number_of ∙ w ∙ sym (length-map row number_of))
    (subst (λ x. IsBlendOf q (pos 1) (numbers_of row) (neg_ℤ x) (numbers_of r.entries.items)
    (numbers_of out)) (number_read row r.lead f b g) blend))

pub rest_done : (q : ℤ) (rows : List LedRow) (i : ℕ) (start row : List Residue)
    → length rows ≤ i
    → IsRestTo q (length start) (leds_of rows) (numbers_of start) (leds_of (take i rows))
    (numbers_of row)
    → IsRestOf q (record { width = length start; rows = leds_of rows }) (numbers_of start)
    (numbers_of row)
rest_done q rows i start row l h =
    rest_end q (length start) (leds_of rows) (numbers_of start) (numbers_of row)
    (subst (λ x. IsRestTo q (length start) (leds_of rows) (numbers_of start) (leds_of x)
    (numbers_of row)) (take_all i rows l) h)

pub row_width : {q : ℤ} {n : ℕ} (r : LedRow) → IsLed q n (led_of r) → length r.entries.items ≡ n
row_width r h = sym (length-map r.entries.items number_of) ∙ h.width

-- ---- the column of the fresh row
pub led_wide : (q : ℤ) (f : LedRow) (start rows : List LedRow) (i : ℕ) (r : LedRow)
    → i < length start → r ≡ get_or rows i r
    → IsTurned (λ x y. IsClearedBy q (led_of f) (led_of x) (led_of y)) i start rows
    → Each (λ x. length x.entries.items ≡ length f.entries.items) start
    → IsLed q (length f.entries.items) (led_of f) → IsLed q (length r.entries.items) (led_of f)
led_wide q f start rows i r l e h w led =
    subst (λ n. IsLed q n (led_of f))
    (sym (each_in (λ (x : LedRow). length x.entries.items ≡ length f.entries.items) start r w
    (subst (λ x. In x start)
    (sym (e ∙ turned_item (λ x y. IsClearedBy q (led_of f) (led_of x) (led_of y)) i start rows r h))
    (in_get start i r l)))) led

pub all_cleared : (q : ℤ) (f : LedRow) (start rows : List LedRow) (i : ℕ) → length start ≤ i
    → IsTurned (λ x y. IsClearedBy q (led_of f) (led_of x) (led_of y)) i start rows
    → AllZip (IsClearedBy q (led_of f)) (leds_of start) (leds_of rows)
all_cleared q f start rows i l h =
    zip_images led_of (IsClearedBy q (led_of f)) start rows
    (turned_end (λ x y. IsClearedBy q (led_of f) (led_of x) (led_of y)) i start rows l h)

-- ---- the row that leads in a column
pub none_before : (rows : List LedRow) (i c : ℕ) (r : LedRow) → i < length rows
    → r ≡ get_or rows i r → r.lead ≢ c → Each (λ l. l.lead ≢ c) (leds_of (take i rows))
    → Each (λ l. l.lead ≢ c) (leds_of (take (i + 1) rows))
unfolding Each
none_before rows i c r l e d h =
    subst (Each (λ l. l.lead ≢ c))
    (sym (ap leds_of (take_more rows i r l) ∙ map-append led_of (take i rows) (get_or rows i r ∷ [])
    ∙ ap (λ x. leds_of (take i rows) ++ led_of x ∷ []) (sym e)))
    (each-append (λ l. l.lead ≢ c) (leds_of (take i rows)) (led_of r ∷ []) h (d, tt))

pub none_leads : (rows : List LedRow) (i c : ℕ) → length rows ≤ i
    → Each (λ l. l.lead ≢ c) (leds_of (take i rows)) → Each (λ l. l.lead ≢ c) (leds_of rows)
none_leads rows i c l h = subst (λ x. Each (λ l. l.lead ≢ c) (leds_of x)) (take_all i rows l) h
