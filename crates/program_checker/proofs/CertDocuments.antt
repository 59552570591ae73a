-- What a certificate's value and document are, from their parts.
--   opened           a certificate of a program is its lists and its steps
--   with_lists       behind the lists that were read it is its steps
--   listed, unlisted     the steps of a list with so many entries, and of none
--   cert_in-none, cert_in-some     the certificate in bytes that are none, and in those that are one
use Rattle.std.proofs.Common.{◌≡◌, ℕ, ◌-◌, List, ◌∷◌, map, Ok, Err, length, sym, ap, ◌∙◌}
use Rattle.std.specs.Prelude.{true, Option, Some, None, is_some, option_and_then}
use Rattle.std.specs.Option.{ok_or}
use Rattle.std.specs.Str.{IsUtf8}
use Rattle.serde_json.specs.Data.{Data, Items}
use Rattle.serde_json.specs.Find.{as_object}
use Rattle.serde_json.specs.Read.{read}
use Rattle.algebra.specs.Fraction.{Fraction}
use Rattle.polynomials.specs.Terms.{Terms}
use Rattle.flows.specs.Graph.{Graph}
use Rattle.cert_form.specs.Form.{Fault, Reading, on, not_json, list_with, has_version, has_names}
use Rattle.cert_form.proofs.Documents.{on_read, expected, document_none, document_some}
use Rattle.program_checker.specs.Form.{RawCertificate, has_kind, lists_from, steps_from, cert_of, cert_in}

module _ (names : List (List ℕ)) (g : Graph) (d : Data) where
  abbrev pub behind_lists : List (List (Terms Fraction)) → Reading RawCertificate
  behind_lists lists =
      on (λ steps. Ok (record { lists = lists; steps = steps }))
      (steps_from names (0 ∷ map length lists) g d)

  pub opened : is_some (as_object d) ≡ true → has_version 1 d ≡ true → has_kind d ≡ true
      → has_names names d ≡ true
      → cert_of names g d ≡ on behind_lists (lists_from names (g.nodes - 1) d)
  opened object version kind vars = expected _ _ object ∙ expected _ _ version
      ∙ expected _ _ kind ∙ expected _ _ vars

  pub with_lists : {lists : List (List (Terms Fraction))}
      → lists_from names (g.nodes - 1) d ≡ Ok lists → (counts : List ℕ)
      → counts ≡ 0 ∷ map length lists → on behind_lists (lists_from names (g.nodes - 1) d)
      ≡ on (λ steps. Ok (record { lists = lists; steps = steps })) (steps_from names counts g d)
  with_lists {lists = lists} is counts many = on_read _ is
      ∙ ap (λ ks. on (λ steps. Ok (record { lists = lists; steps = steps }))
      (steps_from names ks g d)) (sym many)

module _ {A : Type 0} (f : Items → Reading A) (fault : Fault) (n : ℕ) (o : Option Data) (v : Data)
    (is : o ≡ Some v) where
  pub listed : {ds : Items} → list_with n v ≡ Some ds
      → on f (ok_or (option_and_then (list_with n) o) fault) ≡ f ds
  listed has = ap (λ p. on f (ok_or (option_and_then (list_with n) p) fault)) is
      ∙ ap (λ p. on f (ok_or p fault)) has

  pub unlisted : list_with n v ≡ None
      → on f (ok_or (option_and_then (list_with n) o) fault) ≡ Err fault
  unlisted none = ap (λ p. on f (ok_or (option_and_then (list_with n) p) fault)) is
      ∙ ap (λ p. on f (ok_or p fault)) none

module _ (names : List (List ℕ)) (g : Graph) (bytes : List ℕ) where
  pub cert_in-none : (IsUtf8 bytes → read bytes ≡ None) → cert_in names g bytes ≡ Err not_json
  unfolding cert_in
  cert_in-none none = ap (λ o. on (cert_of names g) (ok_or o not_json)) (document_none bytes none)

  pub cert_in-some : (d : Data) → IsUtf8 bytes → read bytes ≡ Some d
      → cert_of names g d ≡ cert_in names g bytes
  unfolding cert_in
  cert_in-some d utf8 some = sym (ap (λ o. on (cert_of names g) (ok_or o not_json))
      (document_some bytes utf8 some))
