-- What a certificate of a program is in JSON, and where its first fault stands. Readings and paths are those of a loop's certificate.
--   RawCertificate          as it is read: for each node but the start a list of polynomials, and for each transition, and each polynomial where it leads to, pairs of a position and a cofactor
--   count_at counts v       how many polynomials the node v has, of which each node has so many
--   generators_count counts t     how many polynomials the cofactors of a transition belong to: those where it comes from, and its zeros
--   each_by f path n ds     the parts of a list in order, the first at place n, that at place k read by f k at its path
--   pairs_from names n path least i ds     pairs of ascending positions, from `least` on and below n, and polynomials over the names
--   row_at, step_at         the pairs of an element; those of the elements where a transition leads to
--   count_of d              how many entries the value has, where it is a list;  entries ds: how many those of ds have in all
--   most_entries            the lists have at most so many
--   lists_in k d            the list of k such lists that the value is
--   has_kind d              whether it is a certificate of a program
--   lists_from, steps_from  the lists and the cofactors of the value
--   cert_of names g d       the certificate of the graph g that the value is;  cert_in names g bytes: that in the bytes
use Rattle.std.specs.Prelude.{ℕ, suc, ◌+◌, ◌-◌, nat_le, List, [], ◌∷◌, ◌++◌, map, get_or, length, Bool, false, Option, Some, None, Ok, codes, if◌then◌else◌, is_some, option_and_then}
use Rattle.std.specs.Option.{ok_or, option_map_or}
use Rattle.serde_json.specs.Data.{Data, Items, no_items, item}
use Rattle.serde_json.specs.Find.{get, as_object, as_array}
use Rattle.algebra.specs.Fraction.{Fraction}
use Rattle.polynomials.specs.Terms.{Terms}
use Rattle.flows.specs.Graph.{Transition, Graph}
use Rattle.flows.specs.Certificate.{transition_at}
use Rattle.program_model.specs.Names.{unknown_names}
use Rattle.cert_form.specs.Form.{document, not_json, shape, Reading, on, after, part, expect, count, list_with, parts, poly_at, pair_at, is_text, has_version, has_names}

abbrev pub RawRow : Type 0
RawRow = List (ℕ × Terms Fraction)

pub record RawCertificate : Type 0 where
  pub lists : List (List (Terms Fraction))
  pub steps : List (List RawRow)

abbrev pub count_at : List ℕ → ℕ → ℕ
count_at counts v = get_or counts v 0

abbrev pub generators_count : List ℕ → Transition → ℕ
generators_count counts t = count_at counts t.from + length t.zeros

abbrev pub each_by : {A : Type 0} → (ℕ → List ℕ → Data → Reading A) → List ℕ → ℕ → Items
    → Reading (List A)
each_by f path n no_items = Ok []
each_by f path n (item d ds) =
    on (λ a. after (a ∷ []) (each_by f path (suc n) ds)) (f n (part path n) d)

-- ---- cofactors
abbrev pub pairs_from : List (List ℕ) → ℕ → List ℕ → ℕ → ℕ → Items → Reading RawRow
pairs_from names n path least i no_items = Ok []
pairs_from names n path least i (item d ds) =
    on (λ (pair : ℕ × Terms Fraction). after (pair ∷ [])
    (pairs_from names n path (suc pair.0) (suc i) ds)) (pair_at names least n (part path i) d)

abbrev pub row_at : List (List ℕ) → ℕ → List ℕ → Data → Reading RawRow
row_at names n path d = on (pairs_from names n path 0 0) (ok_or (as_array d) (shape path))

abbrev pub step_at : List (List ℕ) → List ℕ → Transition → List ℕ → Data → Reading (List RawRow)
step_at names counts t path d =
    parts (row_at (unknown_names t.unknowns ++ names) (generators_count counts t)) path
    (list_with (count_at counts t.to) d)

abbrev pub steps_from : List (List ℕ) → List ℕ → Graph → Data → Reading (List (List RawRow))
steps_from names counts g d =
    on (each_by (λ j. step_at names counts (transition_at g j)) (codes "/steps") 0)
    (ok_or (option_and_then (list_with (length g.transitions)) (get (codes "steps") d))
    (shape (codes "/steps")))

-- ---- lists
abbrev pub most_entries : ℕ
most_entries = 512

abbrev pub count_of : Data → ℕ
count_of d = option_map_or count (as_array d) 0

abbrev pub entries : Items → ℕ
entries no_items = 0
entries (item d ds) = count_of d + entries ds

abbrev pub lists_in : ℕ → Data → Option Items
lists_in k d =
    option_and_then (λ ds. if nat_le (entries ds) most_entries then Some ds else None)
    (list_with k d)

abbrev pub list_at : List (List ℕ) → List ℕ → Data → Reading (List (Terms Fraction))
list_at names path d = parts (poly_at names) path (as_array d)

abbrev pub lists_from : List (List ℕ) → ℕ → Data → Reading (List (List (Terms Fraction)))
lists_from names k d =
    parts (list_at names) (codes "/lists")
    (option_and_then (lists_in k) (get (codes "lists") d))

-- ---- certificates
abbrev pub has_kind : Data → Bool
has_kind d = option_map_or (is_text (codes "program")) (get (codes "kind") d) false

abbrev pub cert_of : List (List ℕ) → Graph → Data → Reading RawCertificate
cert_of names g d =
    expect (is_some (as_object d)) (codes "/")
    (expect (has_version 1 d) (codes "/version")
    (expect (has_kind d) (codes "/kind")
    (expect (has_names names d) (codes "/vars")
    (on (λ lists. on (λ steps. Ok (record { lists = lists; steps = steps }))
    (steps_from names (0 ∷ map length lists) g d)) (lists_from names (g.nodes - 1) d)))))

unfoldable pub cert_in : List (List ℕ) → Graph → List ℕ → Reading RawCertificate
cert_in names g bytes = on (cert_of names g) (ok_or (document bytes) not_json)
