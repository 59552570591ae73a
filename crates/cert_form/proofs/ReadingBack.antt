-- What is written is read as the certificate that was written.
--   document_reads     of the value of a certificate;  text_reads: of a text that is read as this value
--   count_made, with_count, few_enough     how many items a list has, and that these are as many as they must
--   the_texts          texts are listed as themselves
--   told_so            the same bytes for as many branches are read as the same certificate
--   without_blanks     what is read whatever blanks stand behind it is read without
--   all_same_trans     lists of the same polynomials;  same_again: two certificates that one text is read as are the same
--   memory_alone       the refusal of a text that is read
use Rattle.std.proofs.Common.{◌≡◌, ℕ, zero, suc, ◌+◌, ◌-◌, ◌≤◌, ◌<◌, List, [], ◌∷◌, ◌++◌, map, length, get_or, codes, refl, sym, ap, ap₂, subst, ◌∙◌, append_assoc, arith}
use Rattle.std.specs.Prelude.{All, true, ◌&&◌, nat_le, if◌then◌else◌, Option, Some, None, Ok, Err, IsSomeAnd}
use Rattle.std.specs.Option.{ok_or}
use Rattle.std.specs.List.{AllZip}
use Rattle.std.specs.Str.{IsUtf8}
use Rattle.std.proofs.lemmas.Bool.{eq-eqb, le-leb, lt-ltb}
use Rattle.std.proofs.lemmas.List.{append-nil}
use Rattle.std.proofs.lemmas.List.Elements.{All-nil, All-head, All-tail}
use Rattle.std.proofs.lemmas.Slice.Zip.{AllZip-long}
use Rattle.std.proofs.lemmas.Slice.Eq.{bytes_eq-Decides}
use Rattle.serde_json.specs.Data.{Data, Items, number, unsigned, string}
use Rattle.serde_json.specs.View.{items_of}
use Rattle.serde_json.specs.Read.{read}
use Rattle.serde_json.proofs.OnLiterals.{serde_json_on_literals}
use Rattle.json.specs.Lex.{tokens}
use Rattle.json.specs.Print.{print}
use Rattle.algebra.specs.Fraction.{Fraction, ℚ, fractions}
use Rattle.polynomials.specs.Terms.{Terms, Same, AllSame}
use Rattle.polynomials.proofs.Same.{Same-refl, Same-sym, Same-trans, AllSame-sym}
use Rattle.polynomials.specs.Polynomial.{IsPolynomial}
use Rattle.polynomials.specs.Order.{grevlex}
use Rattle.poly.proofs.Kept.{polynomial_nil}
use Rattle.loop_model.specs.Names.{AreNames}
use Rattle.loops.specs.Certificate.{Certificate, SameCertificate}
use Rattle.poly_text.specs.Narrow.{IsNarrow}
use Rattle.poly_text.proofs.PrintedSays.{printed_reads}
use Rattle.poly_text.specs.Flat.{flat_of}
use Rattle.poly_text.specs.Printed.{polynomial_text}
use Rattle.cert_form.specs.declared.error.CertError.{CertError}
use Rattle.cert_form.specs.declared.error.CertError.TheVariants as error
use Rattle.cert_form.specs.Form.{Fault, shape, polynomial, Reading, after, part, each, expect, count, list_with, most_elements, parts, poly_at, position_in, zeros, filled_row, row_at, block_at, are_texts, basis_of, steps_of, parts_of, cert_of, cert_in, ReadsAs}
use Rattle.cert_form.specs.Faults.{IfFault, IsRead}
use Rattle.cert_form.specs.Written.{poly_data, list_data, pairs, row_data, block_data, document_of, AreBlanks, IsReadBack, IsReadable}
use Rattle.cert_form.proofs.Zip.{zip_get}
use Rattle.cert_form.proofs.Documents.{on_read, parts_as, cert_in-some}
use Rattle.cert_form.proofs.Trailing.{blanks_read, blanks_utf8}

abbrev Alike : Terms Fraction → Terms Fraction → Type 0
Alike = Same ℚ

abbrev Rows : Type 0
Rows = List (List (Terms Fraction))

-- ---- lists

pub count_made : {A : Type 0} (data_of : A → Data) (us : List A)
    → count (items_of (map data_of us)) ≡ length us
count_made data_of [] = refl
count_made data_of (u ∷ us) = ap suc (count_made data_of us)

pub with_count : {A : Type 0} (data_of : A → Data) {n : ℕ} (us : List A) → length us ≡ n
    → list_with n (list_data data_of us) ≡ Some (items_of (map data_of us))
with_count data_of {n = n} us long = ap (λ b. if b then Some (items_of (map data_of us)) else None)
    (eq-eqb (count (items_of (map data_of us))) n (count_made data_of us ∙ long))

pub few_enough : {A : Type 0} (data_of : A → Data) (most : ℕ) (us : List A) → length us ≤ most
    → (if nat_le (count (items_of (map data_of us))) most then Some (items_of (map data_of us))
    else None) ≡ Some (items_of (map data_of us))
few_enough data_of most us few = ap (λ b. if b then Some (items_of (map data_of us)) else None)
    (le-leb (count (items_of (map data_of us))) most (subst (λ k. k ≤ most)
    (sym (count_made data_of us)) few))

module _ {A B : Type 0} (f : List ℕ → Data → Reading B) (data_of : A → Data) (like : A → B → Type 0)
    (P : A → Type 0) (one : (path : List ℕ) (a : A) → P a
    → IsRead like a (f path (data_of a))) where
  each_reads : (path : List ℕ) (n : ℕ) (us : List A) → All P us
      → IsRead (AllZip like) us (each f path n (items_of (map data_of us)))
  each_reads path n [] h = record { raw = []; is = refl; alike = tt }
  each_reads path n (a ∷ us) h =
      let first = one (part path n) a (All-head P a us h) in
      let rest = each_reads path (suc n) us (All-tail P a us h) in
      record {
        raw = first.raw ∷ rest.raw;
        is = on_read _ first.is ∙ ap (after (first.raw ∷ [])) rest.is;
        alike = (first.alike, rest.alike);
      }

  parts_read : (path : List ℕ) (o : Option Items) (us : List A)
      → o ≡ Some (items_of (map data_of us)) → All P us → IsRead (AllZip like) us (parts f path o)
  parts_read path o us some h =
      let all = each_reads path 0 us h in
      record {
        raw = all.raw;
        is = on_read _ (ap (λ x. ok_or x (shape path)) some) ∙ all.is;
        alike = all.alike;
      }

-- ---- polynomials

some_reads : (o : Option (Terms Fraction)) (e : Fault) (p : Terms Fraction)
    → IsSomeAnd o (λ q. Same ℚ q p) → IsRead Alike p (ok_or o e)
some_reads (Some q) e p h = record { raw = q; is = refl; alike = Same-sym ℚ h }
some_reads None e p h = absurd h

-- of names that differ
pub zero_read_back : (names : List (List ℕ)) → AreNames names → IsReadBack names []
zero_read_back names are = record {
  read = printed_reads names are.plain are.differ [] nothing
      (All-nil IsNarrow);
}
  where
    nothing : IsPolynomial ℚ grevlex (length names) []
    nothing = polynomial_nil grevlex fractions (length names) [] refl

module _ (names : List (List ℕ)) where
  poly_reads : (path : List ℕ) (p : Terms Fraction) → IsReadBack names p
      → IsRead Alike p (poly_at names path (poly_data names p))
  poly_reads path p h = some_reads (flat_of names (polynomial_text names p)) (polynomial path) p
      h.read

  -- ---- rows

  same_rows : (ps : List (Terms Fraction)) → AllZip Alike ps ps
  same_rows [] = tt
  same_rows (p ∷ ps) = (Same-refl ℚ p, same_rows ps)

  behind_zeros : (z : ℕ) (ps qs : List (Terms Fraction)) → AllZip Alike ps qs
      → AllZip Alike (zeros z ++ ps) (zeros z ++ qs)
  behind_zeros zero ps qs h = h
  behind_zeros (suc z) ps qs h = (Same-refl ℚ [], behind_zeros z ps qs h)

  one_more_zero : (z : ℕ) (ps : List (Terms Fraction)) → zeros (suc z) ++ ps ≡ zeros z ++ [] ∷ ps
  one_more_zero zero ps = refl
  one_more_zero (suc z) ps = ap (λ qs. [] ∷ qs) (one_more_zero z ps)

  position_read : (least n k : ℕ) (path : List ℕ) → least ≤ k → k < n
      → ok_or (position_in least n (number (unsigned k))) (shape path) ≡ Ok k
  position_read least n k path from below =
      ap (λ b. ok_or (if b then Some k else None) (shape path))
      (ap₂ (λ x y. x && y) (le-leb least k from) (lt-ltb k n below))

  one_further : (k l n : ℕ) → k + suc l ≡ n → suc k + l ≡ n
  one_further k l n h = omega (arith, h)

  module _ (n : ℕ) (path : List ℕ) where
    -- with z zeros left out before position k
    paired_reads : (z least k i : ℕ) (row : List (Terms Fraction)) → k ≡ least + z
        → k + length row ≡ n → All (IsReadBack names) row
        → IsRead (AllZip Alike) (zeros z ++ row)
        (filled_row names n path least i (items_of (pairs names k row)))
    paired_reads z least k i [] at long h =
        let end : k + 0 ≡ n = long in
        record {
          raw = zeros z;
          is = ap (λ j. Ok (zeros j)) (let left : n - least ≡ z = omega (arith, at, end) in left);
          alike =
              subst (λ ps. AllZip Alike ps (zeros z)) (sym (append-nil (zeros z)))
              (same_rows (zeros z));
        }
    paired_reads z least k i ([] ∷ row) at long h =
        let rest = paired_reads (suc z) least (suc k) i row (omega (arith, at))
        (one_further k (length row) n long) (All-tail (IsReadBack names) [] row h) in
        record {
          raw = rest.raw;
          is = rest.is;
          alike = subst (λ ps. AllZip Alike ps rest.raw)
              (one_more_zero z row) rest.alike;
        }
    paired_reads z least k i ((t ∷ p) ∷ row) at long h =
        let later = one_further k (length row) n long in
        let first = poly_reads (part path i) (t ∷ p) (All-head (IsReadBack names) (t ∷ p) row h) in
        let rest = paired_reads 0 (suc k) (suc k) (suc i) row (omega arith) later
        (All-tail (IsReadBack names) (t ∷ p) row h) in
        let before : k - least ≡ z = omega (arith, at) in
        record {
          raw = (zeros z ++ first.raw ∷ []) ++ rest.raw;
          is = on_read _ (on_read _ (position_read least n k (part path i) (omega (arith, at))
              (omega (arith, later))) ∙ on_read _ first.is)
              ∙ ap₂ (λ j r. after (zeros j ++ first.raw ∷ []) r) before rest.is;
          alike = subst (AllZip Alike (zeros z ++ (t ∷ p) ∷ row))
              (sym (append_assoc (zeros z) (first.raw ∷ []) rest.raw))
              (behind_zeros z ((t ∷ p) ∷ row) (first.raw ∷ rest.raw) (first.alike, rest.alike));
        }

  module _ (n : ℕ) where
    record IsRow (row : List (Terms Fraction)) : Type 0 where
      width : length row ≡ n
      read_back : All (IsReadBack names) row

    record IsBlock (rows : Rows) : Type 0 where
      height : length rows ≡ n
      rows_are : All IsRow rows

    row_reads : (path : List ℕ) (row : List (Terms Fraction)) → IsRow row
        → IsRead (AllZip Alike) row (row_at names true n path (row_data names row))
    row_reads path row h =
        let width = h.width in
        paired_reads n path 0 0 0 0 row refl (omega (arith, width)) h.read_back

    block_reads : (path : List ℕ) (rows : Rows) → IsBlock rows
        → IsRead (AllZip (AllZip Alike)) rows (block_at names true n path (block_data names rows))
    block_reads path rows h = parts_read (row_at names true n) (row_data names) (AllZip Alike) IsRow
        row_reads path _ rows (with_count (row_data names) rows h.height) h.rows_are

-- ---- the members of the object

pub the_texts : (texts : List (List ℕ)) → are_texts texts (items_of (map string texts)) ≡ true
the_texts [] = refl
the_texts (t ∷ texts) = ap₂ (λ x y. x && y) ((bytes_eq-Decides t t).1 refl) (the_texts texts)

-- ---- certificates

zip_same : (ps qs : List (Terms Fraction)) → AllZip Alike ps qs → AllSame ℚ ps qs
unfolding AllSame
zip_same [] [] h = tt
zip_same [] (q ∷ qs) h = absurd h
zip_same (p ∷ ps) [] h = absurd h
zip_same (p ∷ ps) (q ∷ qs) h = (h.0, zip_same ps qs h.1)

module _ (names : List (List ℕ)) (c : Certificate) (readable : IsReadable names c)
    (few : length c.basis ≤ most_elements) where
  abbrev n : ℕ
  n = length c.basis

  abbrev branches : ℕ
  branches = length c.steps

  abbrev d : Data
  d = document_of names c

  opened_by : cert_of names branches d ≡ parts_of names true branches d
  unfolding serde_json_on_literals
  opened_by = ap (λ b. expect b (codes "/vars") (parts_of names true branches d)) (the_texts names)

  basis_reads : IsRead (AllZip Alike) c.basis (basis_of names true d)
  unfolding serde_json_on_literals
  basis_reads = parts_read (poly_at names) (poly_data names) Alike (IsReadBack names)
      (poly_reads names) _ _ c.basis
      (few_enough (poly_data names) most_elements c.basis few) readable.elements

  blocks : All (IsBlock names n) c.steps
  blocks = λ k e within. record {
    height = readable.heights k e within;
    rows_are = λ j r inside. record {
      width = readable.widths k e within j r inside;
      read_back = readable.cofactors k e within j r inside;
    };
  }

  steps_reads : IsRead (AllZip (AllZip (AllZip Alike))) c.steps (steps_of names true branches n d)
  unfolding serde_json_on_literals
  steps_reads = parts_read (block_at names true n) (block_data names) (AllZip (AllZip Alike))
      (IsBlock names n) (block_reads names n) _ _ c.steps
      (with_count (block_data names) c.steps refl) blocks

  document_reads : ReadsAs (cert_of names branches d) c
  document_reads =
      let basis = basis_reads in
      let steps = steps_reads in
      let block : (b : ℕ) → AllZip (AllZip Alike) (get_or c.steps b []) (get_or steps.raw b []) =
      zip_get (AllZip (AllZip Alike)) [] [] tt c.steps steps.raw steps.alike in
      record {
        raw = record { basis = basis.raw; steps = steps.raw };
        is = opened_by ∙ parts_as names true branches d basis.is
            (AllZip-long Alike c.basis basis.raw basis.alike) steps.is;
        same = record {
          basis = zip_same c.basis basis.raw basis.alike;
          branches = sym (AllZip-long (AllZip (AllZip Alike)) c.steps steps.raw steps.alike);
          elements = λ b. sym (AllZip-long (AllZip Alike) _ _ (block b));
          steps = λ b i. zip_same _ _ (zip_get (AllZip Alike) [] [] tt _ _ (block b) i);
        };
      }

  -- also with blanks behind it
  pub text_reads : (text : List ℕ) (e : Data) → e ≡ document_of names c → IsUtf8 text
      → text ≡ print (tokens text) → read text ≡ Some e
      → (blanks : List ℕ) → AreBlanks blanks → ReadsAs (cert_in names branches (text ++ blanks)) c
  text_reads text e is utf8 printed there blanks are =
      let found = document_reads in
      record {
        raw = found.raw;
        is = sym (cert_in-some names branches (text ++ blanks) e (blanks_utf8 text blanks utf8 are)
            (blanks_read blanks are text printed ∙ there)) ∙ ap (cert_of names branches) is
            ∙ found.is;
        same = found.same;
      }

pub without_blanks : (names : List (List ℕ)) (branches : ℕ) (c : Certificate) (text : List ℕ)
    → ((blanks : List ℕ) → AreBlanks blanks → ReadsAs (cert_in names branches (text ++ blanks)) c)
    → ReadsAs (cert_in names branches text) c
without_blanks names branches c text h = subst (λ t. ReadsAs (cert_in names branches t) c)
    (append-nil text) (h [] tt)

-- ---- read again

pub all_same_trans : (ps qs rs : List (Terms Fraction)) → AllSame ℚ ps qs → AllSame ℚ qs rs
    → AllSame ℚ ps rs
unfolding AllSame
all_same_trans [] [] [] h k = tt
all_same_trans [] [] (r ∷ rs) h k = absurd k
all_same_trans [] (q ∷ qs) rs h k = absurd h
all_same_trans (p ∷ ps) [] rs h k = absurd h
all_same_trans (p ∷ ps) (q ∷ qs) [] h k = absurd k
all_same_trans (p ∷ ps) (q ∷ qs) (r ∷ rs) h k =
    (Same-trans ℚ h.0 k.0, all_same_trans ps qs rs h.1 k.1)

pub same_again : (reading : Reading Certificate) (c d : Certificate) → ReadsAs reading c
    → ReadsAs reading d → SameCertificate c d
same_again reading c d first again =
    let one : first.raw ≡ again.raw = same_ok first.raw again.raw (sym first.is ∙ again.is) in
    let there : SameCertificate c again.raw = subst (SameCertificate c) one first.same in
    record {
      basis = all_same_trans c.basis again.raw.basis d.basis there.basis
          (AllSame-sym ℚ d.basis again.raw.basis again.same.basis);
      branches = there.branches ∙ sym again.same.branches;
      elements = λ b. there.elements b ∙ sym (again.same.elements b);
      steps = λ b i. all_same_trans _ _ _ (there.steps b i)
          (AllSame-sym ℚ _ _ (again.same.steps b i));
    }
  where
    same_ok : (x y : Certificate) → ◌≡◌ {A = Reading Certificate} (Ok x) (Ok y) → x ≡ y
    same_ok x y h = cc

-- the same bytes, and as many branches
pub told_so : (names : List (List ℕ)) (m n : ℕ) (text bytes : List ℕ) (c : Certificate) → m ≡ n
    → bytes ≡ text → ReadsAs (cert_in names m text) c → ReadsAs (cert_in names n bytes) c
told_so names m n text bytes c count same h = subst (λ k. ReadsAs (cert_in names k bytes) c) count
    (subst (λ t. ReadsAs (cert_in names m t) c) (sym same) h)

apart : {A : Type 0} {r : Reading A} {a : A} {f : Fault} → r ≡ Ok a → r ≡ Err f → ⊥
apart read wrong = cc

pub memory_alone : {A : Type 0} (e : CertError) {r : Reading A} {a : A} → r ≡ Ok a
    → IfFault e (λ f. r ≡ Err f) → e ≡ error.Memory
memory_alone error.NotJson read wrong = absurd (apart read wrong)
memory_alone (error.Shape path) read wrong = absurd (apart read wrong)
memory_alone (error.Poly path) read wrong = absurd (apart read wrong)
memory_alone error.Memory read wrong = refl
