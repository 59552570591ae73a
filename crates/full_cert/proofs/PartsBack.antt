-- The parts of a full certificate that are written are read as themselves.
--   IsReadable O m p         a polynomial in descending order that is narrow;  AreReadable, AreRowsReadable: lists of these
--   IsTable rows n table     so many lists of so many
--   each_back, parts_back     lists whose elements are read as themselves
--   form_reads, start_reads, stage_reads     a form, a start, a stage
use Rattle.std.proofs.Common.{◌≡◌, ℕ, suc, ◌+◌, ◌≤◌, List, [], ◌∷◌, length, map, refl, ap, ◌∙◌, Ok}
use Rattle.std.specs.Prelude.{All, Option, Some}
use Rattle.std.specs.Option.{ok_or}
use Rattle.std.proofs.lemmas.List.Elements.{All-head, All-tail}
use Rattle.serde_json.specs.Data.{Data, Items}
use Rattle.serde_json.specs.View.{items_of}
use Rattle.serde_json.proofs.OnLiterals.{serde_json_on_literals}
use Rattle.algebra.specs.Fraction.{Fraction, ℚ}
use Rattle.polynomials.specs.Order.{Rank, IsMonomialOrder, grevlex}
use Rattle.polynomials.specs.Polynomial.{IsPolynomial}
use Rattle.polynomials.specs.Terms.{Terms}
use Rattle.polynomials.proofs.Orders.{grevlex_order}
use Rattle.solvable_maps.specs.Iterations.{width}
use Rattle.poly_text.specs.Narrow.{IsNarrow}
use Rattle.cert_form.specs.Form.{Reading, after, part, each, parts, shape}
use Rattle.cert_form.specs.Written.{list_data}
use Rattle.cert_form.proofs.ReadingBack.{with_count, few_enough}
use Rattle.full_cert.specs.Raw.{raw_at}
use Rattle.full_cert.specs.Tables.{raws_at, raws_with, table_at}
use Rattle.full_cert.specs.RawWritten.{raw_data}
use Rattle.corollaries.specs.Full.{WrittenForm}
use Rattle.corollaries.specs.Stage.{Stage, block_order}
use Rattle.corollaries.specs.Counts.{IsStageCounted}
use Rattle.full_cert.specs.PartsForm.{base_number_at, base_at, form_at, stage_at, Start, start_at, block_at, steps_at, forms_at}
use Rattle.task_lists.specs.Images.{most_bases}
use Rattle.full_cert.specs.Narrow.{IsNarrowNumber}
use Rattle.full_cert.specs.Written.{raws_data, rows_data, steps_data, base_number_data, base_data, form_data, start_data, stage_data}
use Rattle.cert_form.proofs.Documents.{on_read}
use Rattle.full_cert.proofs.NumberBack.{numeral_back}
use Rattle.full_cert.proofs.TermBack.{raw_back}

pub record IsReadable (O : Rank) (m : ℕ) (p : Terms Fraction) : Type 0 where
  pub is : IsPolynomial ℚ O m p
  pub narrow : All IsNarrow p

abbrev pub AreReadable : Rank → ℕ → List (Terms Fraction) → Type 0
AreReadable O m ps = All (IsReadable O m) ps

abbrev pub AreRowsReadable : Rank → ℕ → List (List (Terms Fraction)) → Type 0
AreRowsReadable O m rows = All (AreReadable O m) rows

-- ---- lists
module _ {A : Type 0} (f : List ℕ → Data → Reading A) (data_of : A → Data) (P : A → Type 0)
    (one : (path : List ℕ) (a : A) → P a → f path (data_of a) ≡ Ok a) where
  each_back : (path : List ℕ) (n : ℕ) (us : List A) → All P us
      → each f path n (items_of (map data_of us)) ≡ Ok us
  each_back path n [] h = refl
  each_back path n (a ∷ us) h =
      on_read _ (one (part path n) a (All-head P a us h))
      ∙ ap (after (a ∷ [])) (each_back path (suc n) us (All-tail P a us h))

  pub parts_back : (path : List ℕ) (o : Option Items) (us : List A)
      → o ≡ Some (items_of (map data_of us)) → All P us → parts f path o ≡ Ok us
  parts_back path o us some h =
      on_read _ (ap (λ x. ok_or x (shape path)) some) ∙ each_back path 0 us h

-- ---- polynomials
record IsRow (O : Rank) (m n : ℕ) (row : List (Terms Fraction)) : Type 0 where
  width : length row ≡ n
  are : AreReadable O m row

pub record IsTable (O : Rank) (m rows n : ℕ) (table : List (List (Terms Fraction))) : Type 0 where
  pub height : length table ≡ rows
  pub widths : All (λ row. length row ≡ n) table
  pub are : AreRowsReadable O m table

module _ {O : Rank} (m : ℕ) (o : IsMonomialOrder O) where
  poly_back : (path : List ℕ) (p : Terms Fraction) → IsReadable O m p
      → raw_at O m path (raw_data p) ≡ Ok p
  poly_back path p h = raw_back O m path p o h.is h.narrow

  pub raws_back : (path : List ℕ) (ps : List (Terms Fraction)) → AreReadable O m ps
      → raws_at O m path (Some (raws_data ps)) ≡ Ok ps
  raws_back path ps h = parts_back (raw_at O m) raw_data (IsReadable O m) poly_back path _ ps refl h

  row_with : (n : ℕ) (path : List ℕ) (row : List (Terms Fraction)) → IsRow O m n row
      → raws_with n O m path (raws_data row) ≡ Ok row
  row_with n path row h =
      parts_back (raw_at O m) raw_data (IsReadable O m) poly_back path _ row
      (with_count raw_data row h.width) h.are

  pub table_back : {rows n : ℕ} (path : List ℕ) (table : List (List (Terms Fraction)))
      → IsTable O m rows n table → table_at rows n O m path (Some (rows_data table)) ≡ Ok table
  table_back {rows = rows} {n = n} path table h =
      parts_back (raws_with n O m) raws_data (IsRow O m n) (row_with n) path _ table
      (with_count raws_data table h.height)
      (λ i d l. record { width = h.widths i d l; are = h.are i d l })

-- ---- forms
base_reads : (path : List ℕ) (base : List ℕ) → length base ≤ most_bases → All IsNarrowNumber base
    → base_at path (Some (base_data base)) ≡ Ok base
base_reads path base short narrow = parts_back base_number_at base_number_data IsNarrowNumber
    (λ here n small. ap (λ x. ok_or x (shape here)) (numeral_back n small)) path _ base
    (few_enough base_number_data most_bases base short) narrow

pub record IsFormReadable (m : ℕ) (f : WrittenForm) : Type 0 where
  pub few : length f.base ≤ most_bases
  pub base : All IsNarrowNumber f.base
  pub count : length f.polys ≡ m
  pub polys : AreReadable grevlex (width (length f.base) m) f.polys

pub form_reads : (m : ℕ) (path : List ℕ) (f : WrittenForm) → IsFormReadable m f
    → form_at m path (form_data f) ≡ Ok f
unfolding serde_json_on_literals
form_reads m path f h =
    on_read _ (base_reads _ f.base h.few h.base)
    ∙ on_read _ (row_with (width (length f.base) m) grevlex_order m _ f.polys
    (record { width = h.count; are = h.polys }))

-- ---- starts
pub record IsStartReadable (m equations : ℕ) (s : Start) : Type 0 where
  pub out : AreReadable grevlex m s.0
  pub links : IsTable grevlex m equations (length s.0) s.1

pub start_reads : (m equations : ℕ) (path : List ℕ) (s : Start) → IsStartReadable m equations s
    → start_at m equations path (start_data s) ≡ Ok s
unfolding serde_json_on_literals
start_reads m equations path s h =
    on_read _ (raws_back m grevlex_order _ s.0 h.out)
    ∙ on_read _ (table_back m grevlex_order _ s.1 h.links)

-- ---- stages
pub record IsStageReadable (k m : ℕ) (s : Stage) : Type 0 where
  pub list : AreReadable (block_order k) (k + m) s.list
  pub gens : AreRowsReadable (block_order k) (k + m) s.gens
  pub pairs : AreRowsReadable (block_order k) (k + m) s.pairs
  pub out : AreReadable grevlex m s.out
  pub links : AreRowsReadable grevlex m s.links

pub stage_reads : (k m n : ℕ) (path : List ℕ) (s : Stage) → IsMonomialOrder (block_order k)
    → IsStageReadable k m s → IsStageCounted k n s → stage_at k m n path (stage_data s) ≡ Ok s
unfolding serde_json_on_literals
stage_reads k m n path s o h c =
    on_read _ (raws_back (k + m) o _ s.list h.list)
    ∙ on_read _ (table_back (k + m) o _ s.gens
    (record { height = c.gens; widths = c.gens_widths; are = h.gens }))
    ∙ on_read _ (table_back (k + m) o _ s.pairs
    (record { height = c.pairs; widths = c.pairs_widths; are = h.pairs }))
    ∙ on_read _ (raws_back m grevlex_order _ s.out h.out)
    ∙ on_read _ (table_back m grevlex_order _ s.links
    (record { height = c.links; widths = c.links_widths; are = h.links }))

-- ---- of all branches
pub steps_read : (m n branches : ℕ) (path : List ℕ) (steps : List (List (List (Terms Fraction))))
    → length steps ≡ branches → All (IsTable grevlex m n n) steps
    → steps_at m n branches path (Some (steps_data steps)) ≡ Ok steps
steps_read m n branches path steps many are =
    parts_back (block_at m n) rows_data (IsTable grevlex m n n)
    (table_back m grevlex_order) path _ steps
    (with_count rows_data steps many) are

pub forms_read : (m branches : ℕ) (path : List ℕ) (forms : List WrittenForm)
    → length forms ≡ branches → All (IsFormReadable m) forms
    → forms_at m branches path (Some (list_data form_data forms)) ≡ Ok forms
forms_read m branches path forms many are =
    parts_back (form_at m) form_data (IsFormReadable m) (form_reads m) path _ forms
    (with_count form_data forms many) are
