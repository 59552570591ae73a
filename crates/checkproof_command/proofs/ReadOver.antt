-- A certificate that was read has the variables of the graph, and its cofactors the unknowns too.
--   read_over
use Rattle.std.proofs.Common.{◌≡◌, ℕ, zero, suc, ◌+◌, ◌-◌, List, [], ◌∷◌, ◌++◌, map, replicate, length, get_or, Ok, refl, sym, ap, subst, ◌∙◌, arith}
use Rattle.std.specs.Prelude.{All, codes, is_some, option_and_then}
use Rattle.std.specs.Option.{ok_or}
use Rattle.std.proofs.lemmas.List.{length-map, length-append}
use Rattle.std.proofs.lemmas.List.Elements.{All-nil, All-cons}
use Rattle.serde_json.specs.Data.{Data, Items, no_items, item}
use Rattle.serde_json.specs.Find.{get, as_object, as_array, as_str}
use Rattle.algebra.specs.Each.{Each}
use Rattle.algebra.proofs.Each.{each-append}
use Rattle.algebra.specs.Fraction.{Fraction}
use Rattle.polynomials.specs.Terms.{Terms}
use Rattle.polynomials.specs.Polynomial.{Arity, AllArity}
use Rattle.exponentials.specs.Table.{numbers}
use Rattle.flows.specs.Graph.{Graph}
use Rattle.flows.specs.Certificate.{AreOver, transition_at}
use Rattle.poly_text.specs.Flat.{flat_of}
use Rattle.poly_text.proofs.FlatOver.{flat_over}
use Rattle.cert_form.specs.Form.{Reading, document, not_json, shape, polynomial, on, part, list_with, entry, poly_at, position_in, pair_at, has_version, has_names}
use Rattle.cert_form.proofs.Zip.{seen_all, at_or}
use Rattle.cert_form.proofs.Readings.{on_ok, after_ok, expect_ok, ok_or_ok, parts_ok, parts_all}
use Rattle.program_model.specs.Names.{unknown_name, unknown_names}
use Rattle.program_checker.specs.Rows.{filled}
use Rattle.program_checker.specs.Form.{RawRow, RawCertificate, each_by, pairs_from, row_at, step_at, steps_from, list_at, lists_in, lists_from, has_kind, cert_in, generators_count, count_at}
use Rattle.program_checker.specs.ReadAs.{positions_in, cofactors_in, full_row, certificate_in}

module _ (m : ℕ) where
  no_polys : AllArity {A = Fraction} m []
  unfolding Each
  no_polys = tt

  more_polys : (p : Terms Fraction) (ps : List (Terms Fraction)) → Arity m p → AllArity m ps
      → AllArity m (p ∷ ps)
  unfolding Each
  more_polys p ps h hs = (h, hs)

  zero_polys : (d : ℕ) → AllArity {A = Fraction} m (replicate d [])
  unfolding Each
  zero_polys zero = tt
  zero_polys (suc d) = (tt, zero_polys d)

  filled_over : (k : ℕ) (js : List ℕ) (qs : List (Terms Fraction)) → AllArity m qs
      → AllArity m (filled k js qs)
  unfolding Each filled
  filled_over k [] qs a = tt
  filled_over k (j ∷ js) [] a = tt
  filled_over k (j ∷ js) (q ∷ qs) a =
      each-append (Arity m) (replicate (j - k) []) (q ∷ filled (suc j) js qs) (zero_polys (j - k))
      (a.0, filled_over (suc j) js qs a.1)

module _ (names : List (List ℕ)) where
  abbrev m : ℕ
  m = length names

  poly_over : (path : List ℕ) (d : Data) (p : Terms Fraction) → poly_at names path d ≡ Ok p
      → Arity m p
  poly_over path d p h =
      let text = on_ok _ (ok_or (as_str d) (shape path)) p h in
      flat_over names text.part p (ok_or_ok (flat_of names text.part) (polynomial path) p
      text.gives)

  list_over : (path : List ℕ) (d : Data) (ps : List (Terms Fraction)) → list_at names path d ≡ Ok ps
      → AllArity m ps
  list_over path d ps h = parts_ok (poly_at names) (Arity m) (AllArity m) poly_over (no_polys m)
      (more_polys m) path (as_array d) ps h

  pair_over : (least n : ℕ) (path : List ℕ) (d : Data) (pair : ℕ × Terms Fraction)
      → pair_at names least n path d ≡ Ok pair → Arity m pair.1
  pair_over least n path d pair h =
      let list = on_ok _ (ok_or (list_with 2 d) (shape path)) pair h in
      let position = on_ok _ (ok_or (position_in least n (entry 0 list.part)) (shape path)) pair
      list.gives in
      let cofactor = on_ok _ (poly_at names path (entry 1 list.part)) pair position.gives in
      let made : (position.part, cofactor.part) ≡ pair = cc in
      subst (λ (q : ℕ × Terms Fraction). Arity m q.1) made (poly_over path (entry 1 list.part)
      cofactor.part cofactor.is)

  abbrev RowOver : RawRow → Type 0
  RowOver row = AllArity m (cofactors_in row)

  pairs_over : (n : ℕ) (path : List ℕ) (least i : ℕ) (ds : Items) (row : RawRow)
      → pairs_from names n path least i ds ≡ Ok row → RowOver row
  pairs_over n path least i no_items row h =
      let same : [] ≡ row = cc in
      subst RowOver same (no_polys m)
  pairs_over n path least i (item d ds) row h =
      let first = on_ok _ (pair_at names least n (part path i) d) row h in
      let behind = after_ok (first.part ∷ [])
      (pairs_from names n path (suc first.part.0) (suc i) ds) row first.gives in
      subst RowOver (sym behind.joined) (more_polys m first.part.1 (cofactors_in behind.rest)
      (pair_over least n (part path i) d first.part first.is)
      (pairs_over n path (suc first.part.0) (suc i) ds behind.rest behind.is))

  row_over : (n : ℕ) (path : List ℕ) (d : Data) (row : RawRow) → row_at names n path d ≡ Ok row
      → RowOver row
  row_over n path d row h =
      let list = on_ok _ (ok_or (as_array d) (shape path)) row h in
      pairs_over n path 0 0 list.part row list.gives

-- ---- lists whose parts are read by their places
module _ {A : Type 0} (f : ℕ → List ℕ → Data → Reading A) (P : ℕ → A → Type 0) (none : A)
    (past : (k : ℕ) → P k none)
    (sound : (k : ℕ) (path : List ℕ) (d : Data) (a : A) → f k path d ≡ Ok a → P k a) where
  begins : (n : ℕ) (x : A) (xs : List A) → P n x → ((j : ℕ) → P (suc n + j) (get_or xs j none))
      → (j : ℕ) → P (n + j) (get_or (x ∷ xs) j none)
  begins n x xs h hs zero =
      let e : n ≡ n + 0 = omega arith in
      subst (λ k. P k x) e h
  begins n x xs h hs (suc j) =
      let e : suc n + j ≡ n + suc j = omega arith in
      subst (λ k. P k (get_or xs j none)) e (hs j)

  each_over : (path : List ℕ) (n : ℕ) (ds : Items) (xs : List A) → each_by f path n ds ≡ Ok xs
      → (j : ℕ) → P (n + j) (get_or xs j none)
  each_over path n no_items xs h j =
      let same : [] ≡ xs = cc in
      subst (λ ys. P (n + j) (get_or ys j none)) same (past (n + j))
  each_over path n (item d ds) xs h j =
      let first = on_ok _ (f n (part path n) d) xs h in
      let behind = after_ok (first.part ∷ []) (each_by f path (suc n) ds) xs first.gives in
      subst (λ ys. P (n + j) (get_or ys j none)) (sym behind.joined)
      (begins n first.part behind.rest (sound n (part path n) d first.part first.is)
      (each_over path (suc n) ds behind.rest behind.is) j)

map_at : {A B : Type 0} (f : A → B) (d : A) (xs : List A) (j : ℕ)
    → get_or (map f xs) j (f d) ≡ f (get_or xs j d)
map_at f d [] j = refl
map_at f d (x ∷ xs) zero = refl
map_at f d (x ∷ xs) (suc j) = map_at f d xs j

numbers_length : (lo n : ℕ) → length (numbers lo n) ≡ n
numbers_length lo zero = refl
numbers_length lo (suc n) = ap suc (numbers_length (suc lo) n)

names_length : (a : ℕ) (names : List (List ℕ)) → length (unknown_names a ++ names)
    ≡ a + length names
names_length a names =
    length-append (unknown_names a) names
    ∙ ap (λ k. k + length names) (length-map (numbers 0 a) unknown_name ∙ numbers_length 0 a)

module _ (names : List (List ℕ)) (G : Graph) where
  abbrev over_at : ℕ → ℕ
  over_at j = (transition_at G j).unknowns + length names

  abbrev RowsOver : ℕ → List RawRow → Type 0
  RowsOver j rows = All (λ row. AllArity (over_at j) (cofactors_in row)) rows

  step_over : (counts : List ℕ) (j : ℕ) (path : List ℕ) (d : Data) (rows : List RawRow)
      → step_at names counts (transition_at G j) path d ≡ Ok rows → RowsOver j rows
  step_over counts j path d rows h =
      let t = transition_at G j in
      let all = unknown_names t.unknowns ++ names in
      subst (λ k. All (λ row. AllArity k (cofactors_in row)) rows) (names_length t.unknowns names)
      (parts_all (row_at all (generators_count counts t)) (RowOver all)
      (row_over all (generators_count counts t)) path (list_with (count_at counts t.to) d) rows h)

  steps_over : (counts : List ℕ) (d : Data) (steps : List (List RawRow))
      → steps_from names counts G d ≡ Ok steps → (j : ℕ) → RowsOver j (get_or steps j [])
  steps_over counts d steps h j =
      let list = on_ok _ (ok_or (option_and_then (list_with (length G.transitions))
      (get (codes "steps") d)) (shape (codes "/steps"))) steps h in
      let e : 0 + j ≡ j = omega arith in
      subst (λ k. RowsOver k (get_or steps j [])) e
      (each_over (λ j. step_at names counts (transition_at G j)) RowsOver []
      (λ k. All-nil (λ row. AllArity (over_at k) (cofactors_in row)))
      (step_over counts) (codes "/steps") 0 list.part steps list.gives j)

  module _ (variables : G.variables ≡ length names) (lists : List (List (Terms Fraction)))
      (steps : List (List RawRow)) (lists_are : All (AllArity (length names)) lists)
      (steps_are : (j : ℕ) → RowsOver j (get_or steps j [])) where
    rows_at : (j : ℕ) → get_or (map (map full_row) steps) j [] ≡ map full_row (get_or steps j [])
    rows_at j = map_at (map full_row) [] steps j

    cofactors_over : (j i : ℕ) → AllArity (over_at j)
        (get_or (get_or (map (map full_row) steps) j []) i [])
    cofactors_over j i =
        subst (λ rows. AllArity (over_at j) (get_or rows i [])) (sym (rows_at j))
        (at_or (AllArity (over_at j)) (no_polys (over_at j)) (map full_row (get_or steps j []))
        (seen_all (λ row. AllArity (over_at j) (cofactors_in row)) (AllArity (over_at j)) full_row
        (λ row h. filled_over (over_at j) 0 (positions_in row) (cofactors_in row) h)
        (get_or steps j []) (steps_are j)) i)

    both_over : AreOver G (certificate_in (record { lists = lists; steps = steps }))
    both_over = record {
      arities = λ v. subst (λ n. AllArity n (get_or ([] ∷ lists) v [])) (sym variables)
          (at_or (AllArity (length names)) (no_polys (length names)) ([] ∷ lists)
          (All-cons (AllArity (length names)) [] lists (no_polys (length names)) lists_are) v);
      cofactor_arities = λ j i. subst (λ n. AllArity ((transition_at G j).unknowns + n)
          (get_or (get_or (map (map full_row) steps) j []) i [])) (sym variables)
          (cofactors_over j i);
    }

  parts_over : G.variables ≡ length names → (d : Data) (raw : RawCertificate)
      → on (λ lists. on (λ steps. Ok (record { lists = lists; steps = steps }))
      (steps_from names (0 ∷ map length lists) G d)) (lists_from names (G.nodes - 1) d) ≡ Ok raw
      → AreOver G (certificate_in raw)
  parts_over variables d raw h =
      let lists = on_ok _ (lists_from names (G.nodes - 1) d) raw h in
      let steps = on_ok _ (steps_from names (0 ∷ map length lists.part) G d) raw lists.gives in
      let made : record { lists = lists.part; steps = steps.part } ≡ raw = cc in
      subst (λ r. AreOver G (certificate_in r)) made
      (both_over variables lists.part steps.part
      (parts_all (list_at names) (AllArity (length names)) (list_over names) (codes "/lists")
      (option_and_then (lists_in (G.nodes - 1)) (get (codes "lists") d)) lists.part lists.is)
      (steps_over (0 ∷ map length lists.part) d steps.part steps.is))

  pub read_over : G.variables ≡ length names → (bytes : List ℕ) (raw : RawCertificate)
      → cert_in names G bytes ≡ Ok raw → AreOver G (certificate_in raw)
  unfolding cert_in
  read_over variables bytes raw h =
      let document = on_ok _ (ok_or (document bytes) not_json) raw h in
      let d = document.part in
      parts_over variables d raw
      (expect_ok (has_names names d) _ _ raw
      (expect_ok (has_kind d) _ _ raw
      (expect_ok (has_version 1 d) _ _ raw
      (expect_ok (is_some (as_object d)) _ _ raw document.gives))))
