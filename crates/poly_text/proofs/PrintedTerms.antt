-- The terms of a polynomial, printed one after the other.
use Rattle.std.proofs.Common.{◌≡◌, ℕ, ◌≤◌, Bool, true, false, List, [], ◌∷◌, ◌++◌, length, sym, ap, ◌∙◌, append_assoc, append-nil}
use Rattle.std.specs.Prelude.{if◌then◌else◌, codes, unsigned_abs, All}
use Rattle.std.specs.Int.{is_negative}
use Rattle.std.proofs.lemmas.List.Elements.{All-cons, All-same, All-rest}
use Rattle.algebra.specs.Fraction.{Fraction}
use Rattle.frac128.specs.declared.fraction.Frac.{Frac}
use Rattle.frac128.specs.FracMeaning.{fraction_of}
use Rattle.poly.specs.declared.Term.{Term}
use Rattle.poly.specs.View.{term_of, terms_of}
use Rattle.poly_text.specs.Printed.{is_bare, powers, fraction_text, product_text, term_text, later_text, polynomial_text}
use Rattle.poly_text.specs.PrintedParts.{joined_behind}
use Rattle.poly_text.specs.Narrow.{IsNarrow}

module _ (names : List (List ℕ)) (t : List ℕ × Fraction) (e : List ℕ) (are : e ≡ t.0)
    (old : List ℕ) where
  abbrev size : List ℕ
  size = fraction_text (unsigned_abs t.1.num) t.1.den

  abbrev joined_if : Bool → List ℕ
  joined_if bare = product_text (if bare then powers names t.0 else size ∷ powers names t.0)

  pub put_bare : is_bare t ≡ true → (news : List ℕ)
      → news ≡ old ++ joined_behind false (powers names e) → news ≡ old ++ term_text names t
  put_bare bare news put = put
      ∙ ap (λ bs. old ++ bs) (ap (λ e. joined_behind false (powers names e)) are
      ∙ sym (ap joined_if bare))

  pub put_full : is_bare t ≡ false → (mid news : List ℕ) → mid ≡ old ++ size
      → news ≡ mid ++ joined_behind true (powers names e) → news ≡ old ++ term_text names t
  put_full full mid news front put =
      put ∙ ap (λ bs. bs ++ joined_behind true (powers names e)) front
      ∙ append_assoc old size (joined_behind true (powers names e))
      ∙ ap (λ bs. old ++ bs) (ap (λ e. size ++ joined_behind true (powers names e)) are
      ∙ sym (ap joined_if full))

abbrev pub IsNarrowTerm : Term Frac → Type 0
IsNarrowTerm t = IsNarrow (term_of fraction_of t)

abbrev pub IsWithin : ℕ → Term Frac → Type 0
IsWithin n t = length t.mono ≤ n

module _ (t : Term Frac) (rest ts : List (Term Frac)) (are : ts ≡ t ∷ rest) where
  -- the first term was printed, and then those behind it
  pub printed_first : (names : List (List ℕ)) (old mid news : List ℕ)
      → mid ≡ old ++ ((if is_negative (fraction_of t.coef).num then codes "-" else [])
      ++ term_text names (term_of fraction_of t))
      → news ≡ mid ++ later_text names (terms_of fraction_of rest)
      → news ≡ old ++ polynomial_text names (terms_of fraction_of ts)
  unfolding polynomial_text
  printed_first names old mid news first later =
      let later_bytes : List ℕ = later_text names (terms_of fraction_of rest) in
      let first_bytes : List ℕ = (if is_negative (fraction_of t.coef).num then codes "-" else [])
      ++ term_text names (term_of fraction_of t) in
      later ∙ ap (λ bs. bs ++ later_bytes) first ∙ append_assoc old first_bytes later_bytes
      ∙ ap (λ us. old ++ polynomial_text names (terms_of fraction_of us)) (sym are)

  pub narrow_first : IsNarrowTerm t → All IsNarrowTerm rest → All IsNarrowTerm ts
  narrow_first fits all = All-same IsNarrowTerm ts (t ∷ rest) are (All-cons IsNarrowTerm t rest fits
      all)

-- the text and the terms that are left are the whole
pub record TermsGoOn (names : List (List ℕ)) (all rest : List (Term Frac))
    (text whole : List ℕ) : Type 0 where
  pub so_far : text ++ later_text names (terms_of fraction_of rest) ≡ whole
  pub narrow : All IsNarrowTerm rest → All IsNarrowTerm all
  pub within : All (IsWithin (length names)) rest

module _ {names : List (List ℕ)} {all rest : List (Term Frac)} {text whole : List ℕ}
    (go : TermsGoOn names all rest text whole) where
  pub terms_more : (t : Term Frac) (later : List (Term Frac)) → rest ≡ t ∷ later → (news : List ℕ)
      → news ≡ text ++ ((if is_negative (fraction_of t.coef).num then codes " - " else codes " + ")
      ++ term_text names (term_of fraction_of t))
      → IsNarrowTerm t → TermsGoOn names all later news whole
  unfolding later_text
  terms_more t later are news put fits =
      let bytes : List ℕ = later_text names (terms_of fraction_of later) in
      let mark : List ℕ = if is_negative (fraction_of t.coef).num then codes " - "
      else codes " + " in
      record {
        so_far = ap (λ bs. bs ++ bytes) put
            ∙ append_assoc text (mark ++ term_text names (term_of fraction_of t)) bytes
            ∙ ap (λ us. text ++ later_text names (terms_of fraction_of us)) (sym are) ∙ go.so_far;
        narrow = λ more. go.narrow (narrow_first t later rest are fits more);
        within = All-rest (IsWithin (length names)) t later rest are go.within;
      }

  pub terms_end : rest ≡ [] → text ≡ whole
  unfolding later_text
  terms_end none = sym (append-nil text)
      ∙ ap (λ us. text ++ later_text names (terms_of fraction_of us)) (sym none) ∙ go.so_far
