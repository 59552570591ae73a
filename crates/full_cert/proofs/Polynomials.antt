-- The polynomial of the terms that were read is the one in descending order.
--   arity_of_read     terms that were read have as many exponents as variables
--   raw_is            a polynomial of the terms of a list is what the value is
use Rattle.std.proofs.Common.{◌≡◌, ℕ, Bool, true, List, [], ◌∷◌, Ok, length, sym, ap, ◌∙◌}
use Rattle.std.specs.Prelude.{All, Option, Some}
use Rattle.std.specs.Option.{ok_or}
use Rattle.std.proofs.lemmas.List.Elements.{All-head, All-tail}
use Rattle.algebra.specs.Each.{Each}
use Rattle.serde_json.specs.Data.{Data, Items}
use Rattle.serde_json.specs.Find.{as_array}
use Rattle.algebra.specs.Fraction.{Fraction, ℚ, rationals}
use Rattle.algebra.proofs.Fractions.{ℚ_field}
use Rattle.polynomials.specs.Order.{Rank, IsMonomialOrder}
use Rattle.polynomials.specs.Polynomial.{Arity, IsPolynomial}
use Rattle.polynomials.specs.Terms.{Terms, Same}
use Rattle.machines.specs.Collect.{collect}
use Rattle.machines.proofs.Collecting.{collect-is}
use Rattle.frac128.specs.declared.fraction.Frac.{Frac}
use Rattle.poly.specs.declared.Term.{Term}
use Rattle.poly_text.specs.Seen.{read_terms}
use Rattle.cert_form.specs.Form.{on, expect, shape, polynomial}
use Rattle.full_cert.specs.Raw.{every, has_term_form, terms_of, raw_in, raw_at}

pub arity_of_read : (m : ℕ) (ts : List (Term Frac)) → All (λ (t : Term Frac). length t.mono ≡ m) ts
    → Arity m (read_terms ts)
unfolding Each
arity_of_read m [] a = tt
arity_of_read m (t ∷ ts) a =
    let long : Term Frac → Type 0 = λ u. length u.mono ≡ m in
    (All-head long t ts a, arity_of_read m ts (All-tail long t ts a))

module _ (O : Rank) (m : ℕ) (path : List ℕ) (ds : Items) where
  of_form : (b : Bool) → every has_term_form ds ≡ b
      → raw_in O m path ds ≡ expect b path
      (on (λ p. Ok (collect rationals O p)) (ok_or (terms_of m ds) (polynomial path)))
  of_form b is = ap (λ x. expect x path
      (on (λ p. Ok (collect rationals O p)) (ok_or (terms_of m ds) (polynomial path)))) is

  with_terms : (o : Option (Terms Fraction)) → every has_term_form ds ≡ true → o ≡ terms_of m ds
      → raw_in O m path ds ≡ on (λ p. Ok (collect rationals O p)) (ok_or o (polynomial path))
  with_terms o form is = of_form true form
      ∙ ap (λ x. on (λ p. Ok (collect rationals O p)) (ok_or x (polynomial path))) (sym is)

  pub raw_is : (d : Data) → as_array d ≡ Some ds → IsMonomialOrder O
      → every has_term_form ds ≡ true → (ts p : Terms Fraction)
      → Some ts ≡ terms_of m ds → Arity m ts → IsPolynomial ℚ O m p → Same ℚ p ts
      → raw_at O m path d ≡ Ok p
  raw_is d list o form ts p is a h s =
      ap (λ x. on (raw_in O m path) (ok_or x (shape path))) list
      ∙ with_terms (Some ts) form is ∙ ap Ok (sym (collect-is ℚ_field O o m ts p a h s))
