-- A polynomial that is written is read as itself.
--   term_back      a term
--   raw_back       a polynomial, in each order of monomials
use Rattle.std.proofs.Common.{◌≡◌, ◌≢◌, ℕ, ◌≤◌, Bool, true, false, ◌&&◌, List, [], ◌∷◌, ◌++◌, length, map, refl, sym, ap, ap₂, subst, ◌∙◌, append_assoc, Ok}
use Rattle.std.specs.Prelude.{All, not, if◌then◌else◌, Some, None, option_map, option_and_then}
use Rattle.std.proofs.lemmas.Bool.{eq-eqb, le-leb, or_from}
use Rattle.std.proofs.lemmas.List.{append-nil}
use Rattle.std.proofs.lemmas.List.Elements.{All-head, All-tail}
use Rattle.serde_json.specs.Data.{Items}
use Rattle.serde_json.specs.View.{items_of}
use Rattle.algebra.specs.Each.{Each}
use Rattle.algebra.proofs.Each.{each-right}
use Rattle.algebra.proofs.Basics.{not_both}
use Rattle.algebra.specs.Fraction.{Fraction, ℚ, is_zero}
use Rattle.algebra.proofs.Fractions.{zero_is}
use Rattle.polynomials.specs.Order.{Rank, IsMonomialOrder}
use Rattle.polynomials.specs.Exponent.{same}
use Rattle.polynomials.specs.Polynomial.{Arity, HasNoZero, IsDistinct, IsPolynomial}
use Rattle.polynomials.specs.Terms.{Terms}
use Rattle.polynomials.proofs.Distinct.{distinct_falls}
use Rattle.polynomials.proofs.Exponent.{same_refl}
use Rattle.polynomials.proofs.Same.{Same-refl}
use Rattle.loop_model.proofs.Places.{bytes_apart}
use Rattle.poly_text.specs.Flat.{most_power, stands}
use Rattle.poly_text.specs.Narrow.{IsNarrow}
use Rattle.full_cert.specs.Raw.{every, is_number_value, has_term_form, exponent_of, exponents_of, valid_term, pair_of, term_of, terms_after, raw_at}
use Rattle.full_cert.specs.RawWritten.{exponent_data, term_data, raw_data}
use Rattle.full_cert.proofs.Polynomials.{raw_is}
use Rattle.full_cert.proofs.NumberBack.{number_back, is_number_back}

exponent_back : (n : ℕ) → n ≤ most_power → exponent_of (exponent_data n) ≡ Some n
exponent_back n few = ap (λ b. if b then Some n else None) (le-leb n most_power few)

exponents_back : (e : List ℕ) → All (λ n. n ≤ most_power) e
    → exponents_of (items_of (map exponent_data e)) ≡ Some e
exponents_back [] h = refl
exponents_back (n ∷ e) h =
    ap (option_and_then (λ k. option_map (λ es. k ∷ es)
    (exponents_of (items_of (map exponent_data e)))))
    (exponent_back n (All-head (λ k. k ≤ most_power) n e h))
    ∙ ap (option_map (λ es. n ∷ es)) (exponents_back e (All-tail (λ k. k ≤ most_power) n e h))

numbers_there : (e : List ℕ) → every is_number_value (items_of (map exponent_data e)) ≡ true
numbers_there [] = refl
numbers_there (n ∷ e) = numbers_there e

pub term_back : (m : ℕ) (t : List ℕ × Fraction) → IsNarrow t → length t.0 ≡ m → t.1 ≢ ℚ.zero
    → term_of m (term_data t) ≡ Some t
term_back m t narrow long nonzero =
    ap (option_and_then (valid_term m))
    (ap₂ pair_of (number_back t.1 narrow.numerator narrow.denominator)
    (exponents_back t.0 narrow.exponents))
    ∙ ap₂ (λ a b. if not a && b then Some t else None) (not_zero (is_zero t.1) refl)
    (eq-eqb (length t.0) m long)
  where
    not_zero : (b : Bool) → is_zero t.1 ≡ b → is_zero t.1 ≡ false
    not_zero true e = absurd (nonzero ((zero_is t.1).0 e))
    not_zero false e = e

form_back : (t : List ℕ × Fraction) → IsNarrow t → has_term_form (term_data t) ≡ true
form_back t narrow =
    ap₂ ◌&&◌ (is_number_back t.1 narrow.numerator narrow.denominator) (numbers_there t.0)

forms_back : (p : Terms Fraction) → All IsNarrow p
    → every has_term_form (items_of (map term_data p)) ≡ true
forms_back [] h = refl
forms_back (t ∷ p) h =
    ap₂ ◌&&◌ (form_back t (All-head IsNarrow t p h)) (forms_back p (All-tail IsNarrow t p h))

new_term : (found : Terms Fraction) (t : List ℕ × Fraction) (p : Terms Fraction)
    → IsDistinct (found ++ t ∷ p) → stands found t.0 ≡ false
unfolding IsDistinct Each
new_term [] t p distinct = refl
new_term (s ∷ found) t p distinct =
    let apart : same s.0 t.0 ≡ false = (each-right (λ (u : List ℕ × Fraction). same s.0 u.0 ≡ false)
    found (t ∷ p) distinct.0).0 in
    or_from _ (stands found t.0)
    (bytes_apart s.0 t.0 (λ is. not_both (same s.0 t.0) (ap (same s.0) (sym is) ∙ same_refl s.0)
    apart)) (new_term found t p distinct.1)

terms_back : (m : ℕ) (found p : Terms Fraction) → All IsNarrow p → Arity m p → HasNoZero ℚ p
    → IsDistinct (found ++ p) → terms_after m found (items_of (map term_data p)) ≡ Some (found ++ p)
unfolding Each
terms_back m found [] h a z d = ap Some (sym (append-nil found))
terms_back m found (t ∷ p) h a z d =
    let rest : Items = items_of (map term_data p) in
    ap (option_and_then (λ u. if stands found u.0 then None
    else terms_after m (found ++ u ∷ []) rest))
    (term_back m t (All-head IsNarrow t p h) a.0 z.0)
    ∙ ap (λ b. if b then None else terms_after m (found ++ t ∷ []) rest) (new_term found t p d)
    ∙ terms_back m (found ++ t ∷ []) p (All-tail IsNarrow t p h) a.1 z.1
    (subst IsDistinct (sym (append_assoc found (t ∷ []) p)) d)
    ∙ ap Some (append_assoc found (t ∷ []) p)

pub raw_back : (O : Rank) (m : ℕ) (path : List ℕ) (p : Terms Fraction) → IsMonomialOrder O
    → IsPolynomial ℚ O m p → All IsNarrow p → raw_at O m path (raw_data p) ≡ Ok p
raw_back O m path p o is narrow =
    raw_is O m path (items_of (map term_data p)) (raw_data p) refl o (forms_back p narrow) p p
    (sym (terms_back m [] p narrow is.arity is.nonzero (distinct_falls O o p is.falls)))
    is.arity is (Same-refl ℚ p)
