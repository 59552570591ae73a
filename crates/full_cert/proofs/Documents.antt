-- What a full certificate in bytes is, from the document that they are.
--   full_in-none     where they are none;  full_in-some: where they are one
--   terms_count      how many polynomials there are
use Rattle.std.proofs.Common.{◌≡◌, ℕ, List, Err, length, sym, ap}
use Rattle.std.specs.Prelude.{Some, None}
use Rattle.std.specs.Option.{ok_or}
use Rattle.std.specs.Str.{IsUtf8}
use Rattle.serde_json.specs.Data.{Data}
use Rattle.serde_json.specs.Read.{read}
use Rattle.std.specs.declared.cmp.PartialEq as PartialEq
use Rattle.std.proofs.lemmas.List.{length-map}
use Rattle.loops.specs.Program.{Expr, Program}
use Rattle.ring_laws.specs.declared.Ring as Ring
use Rattle.monos.specs.declared.order.Order as Order
use Rattle.poly.specs.declared.Poly.{Poly}
use Rattle.poly.specs.Seen.{terms_in, terms_each}
use Rattle.cert_form.specs.Form.{not_json, on}
use Rattle.cert_form.proofs.Documents.{document_none, document_some}
use Rattle.full_cert.specs.Form.{full_value, full_in}

module _ {At : Type 0} (program : Program (Expr At)) (bytes : List ℕ) where
  pub full_in-none : (IsUtf8 bytes → read bytes ≡ None) → full_in program bytes ≡ Err not_json
  unfolding full_in
  full_in-none none = ap (λ o. on (full_value program) (ok_or o not_json))
      (document_none bytes none)

  pub full_in-some : (d : Data) → IsUtf8 bytes → read bytes ≡ Some d
      → full_value program d ≡ full_in program bytes
  unfolding full_in
  full_in-some d utf8 some = sym (ap (λ o. on (full_value program) (ok_or o not_json))
      (document_some bytes utf8 some))

-- ---- how many there are
pub terms_count : {K O : Type 0} {g : Ring.Ghosts K} {h : PartialEq.Ghosts K} {b : Order.Ghosts O}
    {e : PartialEq.Ghosts O} (ps : List (Poly K O g h b e)) → length ps ≡ length (terms_each ps)
terms_count ps = sym (length-map ps terms_in)
