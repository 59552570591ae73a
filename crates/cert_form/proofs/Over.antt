-- A certificate that is read has polynomials over the names.
--   certificate_over     of the certificate in the bytes of a file
use Rattle.std.proofs.Common.{◌≡◌, ℕ, zero, suc, ◌-◌, List, [], ◌∷◌, ◌++◌, Ok, length, sym, subst, ◌∙◌, append_assoc}
use Rattle.std.proofs.lemmas.List.{append-nil}
use Rattle.std.specs.Prelude.{All, Bool, true, false, is_some}
use Rattle.std.proofs.lemmas.List.Elements.{All-nil}
use Rattle.std.specs.Option.{ok_or}
use Rattle.serde_json.specs.Data.{Data, Items, no_items, item}
use Rattle.serde_json.specs.Find.{as_object, as_str, as_array}
use Rattle.algebra.specs.Each.{Each}
use Rattle.algebra.specs.Fraction.{Fraction}
use Rattle.polynomials.specs.Terms.{Terms}
use Rattle.polynomials.specs.Polynomial.{Arity, AllArity}
use Rattle.loops.specs.Certificate.{Certificate, AreOver}
use Rattle.poly_text.specs.Flat.{flat_of}
use Rattle.cert_form.specs.Form.{not_json, shape, polynomial, part, list_with, entry, poly_at, position_in, pair_at, zeros, filled_row, row_at, block_at, has_version, has_known_version, has_names, basis_of, steps_of, parts_of, cert_in, document}
use Rattle.poly_text.proofs.FlatOver.{flat_over}
use Rattle.cert_form.proofs.Zip.{at_or}
use Rattle.cert_form.proofs.Readings.{on_ok, after_ok, expect_ok, ok_or_ok, parts_ok, parts_all}

module _ (names : List (List ℕ)) where
  abbrev Over : Terms Fraction → Type 0
  Over p = Arity (length names) p

  abbrev AllOver : List (Terms Fraction) → Type 0
  AllOver ps = AllArity (length names) ps

  poly_ok : (path : List ℕ) (d : Data) (p : Terms Fraction) → poly_at names path d ≡ Ok p → Over p
  poly_ok path d p h =
      let text = on_ok _ (ok_or (as_str d) (shape path)) p h in
      flat_over names text.part p (ok_or_ok (flat_of names text.part) (polynomial path) p
      text.gives)

  no_polys : AllOver []
  unfolding Each
  no_polys = tt

  more_polys : (p : Terms Fraction) (ps : List (Terms Fraction)) → Over p → AllOver ps
      → AllOver (p ∷ ps)
  unfolding Each
  more_polys p ps h hs = (h, hs)

  zero_over : Over []
  unfolding Each
  zero_over = tt

  -- zeros, and behind them others
  zeros_over : (n : ℕ) (ps : List (Terms Fraction)) → AllOver ps → AllOver (zeros n ++ ps)
  zeros_over zero ps h = h
  zeros_over (suc n) ps h = more_polys [] (zeros n ++ ps) zero_over (zeros_over n ps h)

  pair_ok : (least n : ℕ) (path : List ℕ) (d : Data) (pair : ℕ × Terms Fraction)
      → pair_at names least n path d ≡ Ok pair → Over pair.1
  pair_ok least n path d pair h =
      let list = on_ok _ (ok_or (list_with 2 d) (shape path)) pair h in
      let position = on_ok _ (ok_or (position_in least n (entry 0 list.part)) (shape path)) pair
      list.gives in
      let cofactor = on_ok _ (poly_at names path (entry 1 list.part)) pair position.gives in
      let made : (position.part, cofactor.part) ≡ pair = cc in
      subst (λ (q : ℕ × Terms Fraction). Over q.1) made (poly_ok path (entry 1 list.part)
      cofactor.part cofactor.is)

  paired_ok : (n : ℕ) (path : List ℕ) (least i : ℕ) (ds : Items) (row : List (Terms Fraction))
      → filled_row names n path least i ds ≡ Ok row → AllOver row
  paired_ok n path least i no_items row h =
      let same : zeros (n - least) ≡ row = cc in
      subst AllOver (append-nil (zeros (n - least)) ∙ same) (zeros_over (n - least) [] no_polys)
  paired_ok n path least i (item d ds) row h =
      let first = on_ok _ (pair_at names least n (part path i) d) row h in
      let behind = after_ok _ (filled_row names n path (suc first.part.0) (suc i) ds) row
      first.gives in
      subst AllOver (sym (behind.joined ∙ append_assoc (zeros (first.part.0 - least)) _
      behind.rest))
      (zeros_over (first.part.0 - least) _ (more_polys first.part.1 behind.rest
      (pair_ok least n (part path i) d first.part first.is)
      (paired_ok n path (suc first.part.0) (suc i) ds behind.rest behind.is)))

  row_ok : (sparse : Bool) (n : ℕ) (path : List ℕ) (d : Data) (row : List (Terms Fraction))
      → row_at names sparse n path d ≡ Ok row → AllOver row
  row_ok true n path d row h = let list = on_ok _ (ok_or (as_array d) (shape path)) row h in
      paired_ok n path 0 0 list.part row list.gives
  row_ok false n path d row h = parts_ok (poly_at names) Over AllOver poly_ok no_polys more_polys
      path (list_with n d) row h

  block_ok : (sparse : Bool) (n : ℕ) (path : List ℕ) (d : Data)
      (block : List (List (Terms Fraction))) → block_at names sparse n path d ≡ Ok block
      → All AllOver block
  block_ok sparse n path d block h = parts_all (row_at names sparse n) AllOver (row_ok sparse n)
      path (list_with n d) block h

  parts_over : (sparse : Bool) (branches : ℕ) (d : Data) (c : Certificate)
      → parts_of names sparse branches d ≡ Ok c → AreOver (length names) c
  parts_over sparse branches d c h =
      let basis = on_ok _ (basis_of names sparse d) c h in
      let steps = on_ok _ (steps_of names sparse branches (length basis.part) d) c basis.gives in
      let made : record { basis = basis.part; steps = steps.part } ≡ c = cc in
      let blocks : All (All AllOver) steps.part = parts_all (block_at names sparse
      (length basis.part)) (All AllOver) (block_ok sparse (length basis.part)) _ _ steps.part
      steps.is in
      subst (AreOver (length names)) made (record {
        arities = parts_ok (poly_at names) Over AllOver poly_ok no_polys more_polys _ _ basis.part
            basis.is;
        cofactor_arities = λ b i. at_or AllOver no_polys _ (at_or (All AllOver) (All-nil AllOver)
            steps.part blocks b) i;
      })

pub certificate_over : (names : List (List ℕ)) (branches : ℕ) (bytes : List ℕ) (raw : Certificate)
    → cert_in names branches bytes ≡ Ok raw → AreOver (length names) raw
unfolding cert_in
certificate_over names branches bytes raw h =
    let document = on_ok _ (ok_or (document bytes) not_json) raw h in
    parts_over names (has_version 2 document.part) branches document.part raw
    (expect_ok (has_names names document.part) _ _ raw
    (expect_ok (has_known_version document.part) _ _ raw
    (expect_ok (is_some (as_object document.part)) _ _ raw document.gives)))
