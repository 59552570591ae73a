-- Lists of raw polynomials, and lists of these.
--   raws_at O m path d                  the polynomials of a list, where there is one
--   raws_with n O m path d              those of a list of n
--   row_at n O m path d                 so, where there is a list
--   table_at rows n O m path d          a list of so many lists of n, where there is one
use Rattle.std.specs.Prelude.{ℕ, List, Option, option_and_then}
use Rattle.serde_json.specs.Data.{Data}
use Rattle.serde_json.specs.Find.{as_array}
use Rattle.algebra.specs.Fraction.{Fraction}
use Rattle.polynomials.specs.Order.{Rank}
use Rattle.polynomials.specs.Terms.{Terms}
use Rattle.cert_form.specs.Form.{Reading, parts, list_with}
use Rattle.full_cert.specs.Raw.{raw_at}

abbrev pub raws_at : Rank → ℕ → List ℕ → Option Data → Reading (List (Terms Fraction))
raws_at O m path d = parts (raw_at O m) path (option_and_then as_array d)

abbrev pub raws_with : ℕ → Rank → ℕ → List ℕ → Data → Reading (List (Terms Fraction))
raws_with n O m path d = parts (raw_at O m) path (list_with n d)

abbrev pub row_at : ℕ → Rank → ℕ → List ℕ → Option Data → Reading (List (Terms Fraction))
row_at n O m path d = parts (raw_at O m) path (option_and_then (list_with n) d)

abbrev pub table_at : ℕ → ℕ → Rank → ℕ → List ℕ → Option Data
    → Reading (List (List (Terms Fraction)))
table_at rows n O m path d = parts (raws_with n O m) path (option_and_then (list_with rows) d)
