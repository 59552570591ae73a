-- What a certificate is in JSON, and where its first fault stands. A path names the members and, counted from 0, the places that lead to a part.
-- With version 1 each cofactor is written; with version 2 those that are 0 may be left out, since each stands behind its position, which counts from 0.
--   document bytes             the JSON value that the bytes are, if they are UTF-8 and one value nested at most 127 deep
--   Fault                      not_json; shape: a part has another form than it must; polynomial: a text isn't a polynomial
--   Reading A                  what a part is, or its first fault
--   on f r                     f of a part that was read
--   after first r              these, and behind them those that are read
--   part path n                the path of the part at place n
--   each f path n ds           the parts of a list in order, the first at place n, each read by f at its path
--   expect test path r         r, where the test holds, and else a shape fault
--   list_with n d              the list that the value is, where it has n entries
--   most_elements              with version 2 a certificate has at most so many polynomials
--   list_within d              the list that the value is, where it has at most as many entries
--   parts f path ds            the parts of a list, where there is one
--   poly_at names path d       a polynomial over the names, in a text
--   position_in least n d      the whole number that the value is, where it is at least `least` and below n
--   entry k ds                 the value at place k
--   pair_at names least n path d     such a position and a polynomial over the names, in a list of two entries
--   zeros n                    n times the polynomial 0
--   filled_row names n path least i ds   the cofactors from position `least` on, of n: those that the pairs ds give their positions, and else 0; the first pair is at place i of its list
--   row_at names sparse n path d     a list of n polynomials; where it is sparse, written as the pairs of those that aren't left out
--   block_at                   a list of n such lists
--   has_version v d            whether the value has the version v;  has_known_version d: 1 or 2
--   has_names names d          whether it lists just the names
--   basis_of, steps_of         the polynomials and the cofactors of the value;  parts_of: both; sparse with version 2
--   cert_of names branches d   the certificate that the value is
--   cert_in names branches b   the certificate in the bytes
--   ReadsAs r c                r is a certificate with the polynomials of c
use Rattle.std.specs.Prelude.{◌≡◌, ℕ, zero, suc, ◌-◌, nat_le, nat_lt, List, [], ◌∷◌, ◌++◌, replicate, Bool, true, false, ◌&&◌, ◌||◌, Option, Some, None, Result, Ok, Err, codes, decimal, if◌then◌else◌, ◌==◌, is_some, length, option_and_then}
use Rattle.std.specs.Option.{ok_or, option_map_or}
use Rattle.std.specs.Str.{is_utf8, bytes_eq}
use Rattle.serde_json.specs.Data.{Data, null, Items, no_items, item}
use Rattle.serde_json.specs.Read.{read}
use Rattle.serde_json.specs.Find.{get, as_object, as_array, as_str, as_number, as_u64}
use Rattle.algebra.specs.Fraction.{Fraction}
use Rattle.polynomials.specs.Terms.{Terms}
use Rattle.loops.specs.Certificate.{Certificate, SameCertificate}
use Rattle.poly_text.specs.Flat.{flat_of}

abbrev pub document : List ℕ → Option Data
document bytes = if is_utf8 bytes then read bytes else None

pub data Fault : Type 0 where
  not_json : Fault
  shape : List ℕ → Fault
  polynomial : List ℕ → Fault

abbrev pub Reading : Type 0 → Type 0
Reading A = Result A Fault

abbrev pub on : {A B : Type 0} → (A → Reading B) → Reading A → Reading B
on f (Ok a) = f a
on f (Err e) = Err e

abbrev pub after : {A : Type 0} → List A → Reading (List A) → Reading (List A)
after first (Ok rest) = Ok (first ++ rest)
after first (Err e) = Err e

abbrev pub part : List ℕ → ℕ → List ℕ
part path n = path ++ codes "/" ++ decimal n

abbrev pub each : {A : Type 0} → (List ℕ → Data → Reading A) → List ℕ → ℕ → Items → Reading (List A)
each f path n no_items = Ok []
each f path n (item d ds) = on (λ a. after (a ∷ []) (each f path (suc n) ds)) (f (part path n) d)

abbrev pub expect : {A : Type 0} → Bool → List ℕ → Reading A → Reading A
expect test path r = if test then r else Err (shape path)

abbrev pub count : Items → ℕ
count no_items = 0
count (item d ds) = suc (count ds)

abbrev pub list_with : ℕ → Data → Option Items
list_with n d = option_and_then (λ ds. if count ds == n then Some ds else None) (as_array d)

abbrev pub most_elements : ℕ
most_elements = 512

abbrev pub list_within : Data → Option Items
list_within d =
    option_and_then (λ ds. if nat_le (count ds) most_elements then Some ds else None) (as_array d)

abbrev pub parts : {A : Type 0} → (List ℕ → Data → Reading A) → List ℕ → Option Items
    → Reading (List A)
parts f path ds = on (each f path 0) (ok_or ds (shape path))

abbrev pub poly_at : List (List ℕ) → List ℕ → Data → Reading (Terms Fraction)
poly_at names path d =
    on (λ text. ok_or (flat_of names text) (polynomial path)) (ok_or (as_str d) (shape path))

abbrev pub position_in : ℕ → ℕ → Data → Option ℕ
position_in least n d =
    option_and_then (λ k. if nat_le least k && nat_lt k n then Some k else None)
    (option_and_then as_u64 (as_number d))

abbrev pub entry : ℕ → Items → Data
entry k no_items = null
entry zero (item d ds) = d
entry (suc k) (item d ds) = entry k ds

abbrev pub pair_at : List (List ℕ) → ℕ → ℕ → List ℕ → Data → Reading (ℕ × Terms Fraction)
pair_at names least n path d =
    on (λ ds. on (λ k. on (λ p. Ok (k, p)) (poly_at names path (entry 1 ds)))
    (ok_or (position_in least n (entry 0 ds)) (shape path)))
    (ok_or (list_with 2 d) (shape path))

abbrev pub zeros : ℕ → List (Terms Fraction)
zeros n = replicate n []

abbrev pub filled_row : List (List ℕ) → ℕ → List ℕ → ℕ → ℕ → Items → Reading (List (Terms Fraction))
filled_row names n path least i no_items = Ok (zeros (n - least))
filled_row names n path least i (item d ds) =
    on (λ (pair : ℕ × Terms Fraction). after (zeros (pair.0 - least) ++ pair.1 ∷ [])
    (filled_row names n path (suc pair.0) (suc i) ds))
    (pair_at names least n (part path i) d)

-- with positions from 0 on, each above the one before
abbrev pub sparse_row : List (List ℕ) → ℕ → List ℕ → Data → Reading (List (Terms Fraction))
sparse_row names n path d = on (filled_row names n path 0 0) (ok_or (as_array d) (shape path))

abbrev pub full_row : List (List ℕ) → ℕ → List ℕ → Data → Reading (List (Terms Fraction))
full_row names n path d = parts (poly_at names) path (list_with n d)

abbrev pub row_at : List (List ℕ) → Bool → ℕ → List ℕ → Data → Reading (List (Terms Fraction))
row_at names sparse n path d = if sparse then sparse_row names n path d else full_row names n path d

abbrev pub block_at : List (List ℕ) → Bool → ℕ → List ℕ → Data
    → Reading (List (List (Terms Fraction)))
block_at names sparse n path d = parts (row_at names sparse n) path (list_with n d)

abbrev pub is_number : ℕ → Data → Bool
is_number v d = option_map_or (λ n. n == v) (option_and_then as_u64 (as_number d)) false

abbrev pub is_text : List ℕ → Data → Bool
is_text text d = option_map_or (bytes_eq text) (as_str d) false

-- whether the list has these texts and no more
abbrev pub are_texts : List (List ℕ) → Items → Bool
are_texts [] no_items = true
are_texts [] (item d ds) = false
are_texts (text ∷ texts) no_items = false
are_texts (text ∷ texts) (item d ds) = is_text text d && are_texts texts ds

abbrev pub is_list_of : List (List ℕ) → Data → Bool
is_list_of texts d = option_map_or (are_texts texts) (as_array d) false

abbrev pub has_version : ℕ → Data → Bool
has_version v d = option_map_or (is_number v) (get (codes "version") d) false

abbrev pub has_known_version : Data → Bool
has_known_version d = has_version 1 d || has_version 2 d

abbrev pub has_names : List (List ℕ) → Data → Bool
has_names names d = option_map_or (is_list_of names) (get (codes "vars") d) false

abbrev pub elements_in : Bool → Data → Option Items
elements_in sparse d = if sparse then list_within d else as_array d

abbrev pub basis_of : List (List ℕ) → Bool → Data → Reading (List (Terms Fraction))
basis_of names sparse d =
    parts (poly_at names) (codes "/basis")
    (option_and_then (elements_in sparse) (get (codes "basis") d))

-- for each branch a list of as many entries as the basis has, each a list of as many polynomials
abbrev pub steps_of : List (List ℕ) → Bool → ℕ → ℕ → Data
    → Reading (List (List (List (Terms Fraction))))
steps_of names sparse branches elements d =
    parts (block_at names sparse elements) (codes "/steps")
    (option_and_then (list_with branches) (get (codes "steps") d))

abbrev pub parts_of : List (List ℕ) → Bool → ℕ → Data → Reading Certificate
parts_of names sparse branches d =
    on (λ basis. on (λ steps. Ok (record { basis = basis; steps = steps }))
    (steps_of names sparse branches (length basis) d)) (basis_of names sparse d)

abbrev pub cert_of : List (List ℕ) → ℕ → Data → Reading Certificate
cert_of names branches d =
    expect (is_some (as_object d)) (codes "/")
    (expect (has_known_version d) (codes "/version")
    (expect (has_names names d) (codes "/vars")
    (parts_of names (has_version 2 d) branches d)))

unfoldable pub cert_in : List (List ℕ) → ℕ → List ℕ → Reading Certificate
cert_in names branches bytes = on (cert_of names branches) (ok_or (document bytes) not_json)

pub record ReadsAs (reading : Reading Certificate) (c : Certificate) : Type 0 where
  pub raw : Certificate
  pub is : reading ≡ Ok raw
  pub same : SameCertificate c raw
