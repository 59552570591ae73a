-- What `basis` and `cert` answer, up to a degree.
--   basis_answer names gs         yes: the list, as `basis` tells one
--   degree_answer d               to too many monomials of degree at most d
--   sample_answer                 to a sample that tells nothing
--   monomial_text names e         the monomial e, as a polynomial is told
--   element_answer names e        to an element with the lead e, of which a number is too wide
use Rattle.std.specs.Prelude.{ℕ, List, [], ◌∷◌, ◌++◌, codes, decimal}
use Rattle.algebra.specs.Fraction.{Fraction, ℚ}
use Rattle.polynomials.specs.Terms.{Terms}
use Rattle.poly_text.specs.Printed.{polynomial_text}
use Rattle.io_edge.specs.declared.answer.Status.TheVariants as status
use Rattle.io_edge.specs.Texts.{Answer, with_text, answer}
use Rattle.command_parts.specs.BasisTexts.{basis_text}

abbrev pub basis_answer : List (List ℕ) → List (Terms Fraction) → Answer
basis_answer names gs = with_text status.Yes (basis_text names gs)

abbrev pub degree_answer : ℕ → Answer
degree_answer d = answer status.Fault (codes "limit: degree " ++ decimal d)

abbrev pub sample_answer : Answer
sample_answer = answer status.Wide (codes "wide: sample")

abbrev pub monomial_text : List (List ℕ) → List ℕ → List ℕ
monomial_text names e = polynomial_text names ((e, ℚ.one) ∷ [])

abbrev pub element_answer : List (List ℕ) → List ℕ → Answer
element_answer names e = answer status.Wide (codes "wide: " ++ monomial_text names e)
