-- What a value and a document are, from their parts.
--   on_read          what is left behind a part that was read
--   expected         what is read behind a test that holds
--   opened, parts_as     a certificate is its parts, and these are the basis and the cofactors
--   document_none, document_some     the value that bytes are
--   cert_in-none, cert_in-some     the certificate in bytes that are none, and in those that are one
use Rattle.std.proofs.Common.{◌≡◌, ℕ, List, Ok, Err, length, refl, sym, ap, ◌∙◌}
use Rattle.std.specs.Prelude.{Bool, true, false, Some, None, if◌then◌else◌, is_some}
use Rattle.std.specs.Option.{ok_or}
use Rattle.std.specs.Str.{IsUtf8, is_utf8}
use Rattle.std.proofs.lemmas.Str.{IsUtf8-from_is_utf8, is_utf8-from_IsUtf8}
use Rattle.serde_json.specs.Data.{Data}
use Rattle.serde_json.specs.Find.{as_object}
use Rattle.serde_json.specs.Read.{read}
use Rattle.algebra.specs.Fraction.{Fraction}
use Rattle.polynomials.specs.Terms.{Terms}
use Rattle.cert_form.specs.Form.{not_json, Reading, on, expect, has_version, has_known_version, has_names, basis_of, steps_of, parts_of, cert_of, cert_in, document}

pub on_read : {A B : Type 0} (f : A → Reading B) {r : Reading A} {a : A} → r ≡ Ok a → on f r ≡ f a
on_read f is = ap (on f) is

pub expected : {A : Type 0} {test : Bool} (path : List ℕ) (r : Reading A) → test ≡ true
    → expect test path r ≡ r
expected path r is = ap (λ b. expect b path r) is

-- an object with a known version and the names
pub opened : (names : List (List ℕ)) (branches : ℕ) (d : Data) {sparse : Bool}
    → is_some (as_object d) ≡ true → has_known_version d ≡ true → has_names names d ≡ true
    → sparse ≡ has_version 2 d → cert_of names branches d ≡ parts_of names sparse branches d
opened names branches d object version vars same = expected _ _ object ∙ expected _ _ version
    ∙ expected _ _ vars ∙ ap (λ s. parts_of names s branches d) (sym same)

-- the cofactors of as many elements as the basis has
pub parts_as : (names : List (List ℕ)) (sparse : Bool) (branches : ℕ) (d : Data) {n : ℕ}
    {raws : List (Terms Fraction)} {r : Reading (List (List (List (Terms Fraction))))}
    → basis_of names sparse d ≡ Ok raws → length raws ≡ n → steps_of names sparse branches n d ≡ r
    → parts_of names sparse branches d ≡ on (λ steps. Ok (record { basis = raws; steps = steps })) r
parts_as names sparse branches d basis count steps = on_read _ basis
    ∙ ap (on _) (ap (λ k. steps_of names sparse branches k d) count ∙ steps)

module _ (bytes : List ℕ) where
  pub document_none : (IsUtf8 bytes → read bytes ≡ None) → document bytes ≡ None
  document_none none = go (is_utf8 bytes) (λ yes. none (IsUtf8-from_is_utf8 bytes yes))
    where
      go : (b : Bool) → (b ≡ true → read bytes ≡ None) → (if b then read bytes else None) ≡ None
      go true h = h refl
      go false h = refl

  pub document_some : {d : Data} → IsUtf8 bytes → read bytes ≡ Some d → document bytes ≡ Some d
  document_some utf8 some = ap (λ b. if b then read bytes else None)
      (is_utf8-from_IsUtf8 bytes utf8) ∙ some

module _ (names : List (List ℕ)) (branches : ℕ) (bytes : List ℕ) where
  pub cert_in-none : (IsUtf8 bytes → read bytes ≡ None) → cert_in names branches bytes
      ≡ Err not_json
  unfolding cert_in
  cert_in-none none = ap (λ o. on (cert_of names branches) (ok_or o not_json))
      (document_none bytes none)

  pub cert_in-some : (d : Data) → IsUtf8 bytes → read bytes ≡ Some d → cert_of names branches d
      ≡ cert_in names branches bytes
  unfolding cert_in
  cert_in-some d utf8 some = sym (ap (λ o. on (cert_of names branches) (ok_or o not_json))
      (document_some bytes utf8 some))
