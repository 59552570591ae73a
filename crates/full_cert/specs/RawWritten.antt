-- How a raw polynomial is written: its terms in descending order, each the text of its number and its exponents.
--   exponents_data e     a list of exponents
--   term_data t          a term
--   raw_data p           a polynomial
use Rattle.std.specs.Prelude.{ℕ, List}
use Rattle.serde_json.specs.Data.{Data, number, string, array, unsigned, item, no_items}
use Rattle.algebra.specs.Fraction.{Fraction}
use Rattle.polynomials.specs.Terms.{Terms}
use Rattle.poly_text.specs.Text.{number_text}
use Rattle.cert_form.specs.Written.{list_data}

abbrev pub exponent_data : ℕ → Data
exponent_data n = number (unsigned n)

abbrev pub exponents_data : List ℕ → Data
exponents_data e = list_data exponent_data e

abbrev pub term_data : List ℕ × Fraction → Data
term_data t = array (item (string (number_text t.1)) (item (exponents_data t.0) no_items))

abbrev pub raw_data : Terms Fraction → Data
raw_data p = list_data term_data p
