-- What flat polynomials are over.
--   flat_is        what is read is what a text leads to; flat_from: and back
--   flat_over      the terms of a flat polynomial have an exponent for each name
use Rattle.std.proofs.Common.{◌≡◌, ℕ, List, [], ◌∷◌, refl, ap, subst, ◌∙◌, length}
use Rattle.std.specs.Prelude.{⊤, true, false, Some}
use Rattle.std.proofs.lemmas.List.{length-set}
use Rattle.algebra.specs.Fraction.{Fraction}
use Rattle.polynomials.specs.Terms.{Terms}
use Rattle.algebra.specs.Each.{Each}
use Rattle.polynomials.specs.Polynomial.{Arity}
use Rattle.polynomials.proofs.Arity.{arity-append, length-zeros}
use Rattle.grammars.specs.Reader.{ReadResult, read, at_text_end, reads}
use Rattle.grammars.specs.Spelled.{IsRead}
use Rattle.grammars.proofs.Kept.{Keeps, KeepAll, read_kept}
use Rattle.poly_text.specs.Lexemes.{Lexeme, tokens}
use Rattle.poly_text.specs.Reasons.{Reason}
use Rattle.poly_text.specs.Told.{told}
use Rattle.poly_text.specs.Flat.{FlatContext, FlatState, FlatRule, Rule, an_exponent, fits, with_power, with_item, signed_over, raising, rule_says, power, item, whole_flat, flat_language, no_exponents, start, terms_told, flat_of}
use Rattle.poly_text.proofs.FlatChecked.{said_if, flat_read}

module _ (names : List (List ℕ)) (bytes : List ℕ) (p : Terms Fraction) where
  pub flat_is : flat_of names bytes ≡ Some p → (end : FlatState)
      × IsRead flat_language whole_flat (start names) (tokens bytes) end × (end.context.found ≡ p)
  unfolding flat_of
  flat_is e = go (read flat_language whole_flat (start names) (tokens bytes)) refl e
    where
      go : (a : ReadResult Lexeme FlatContext ⊤ Reason)
          → read flat_language whole_flat (start names)
          (tokens bytes) ≡ a → terms_told (told (at_text_end flat_language a)) ≡ Some p
          → (end : FlatState) × IsRead flat_language whole_flat (start names) (tokens bytes) end
          × (end.context.found ≡ p)
      go (reads t []) h e =
          (t, (flat_read (tokens bytes) (start names) t).0 (ap (at_text_end flat_language) h), cc)
      go a h e = absurd (cc)

  pub flat_from : (end : FlatState) → IsRead flat_language whole_flat (start names) (tokens bytes)
      end → end.context.found ≡ p → flat_of names bytes ≡ Some p
  unfolding flat_of
  flat_from end is says = ap (λ a. terms_told (told a))
      ((flat_read (tokens bytes) (start names) end).1 is) ∙ ap Some says

module _ (names : List (List ℕ)) where
  abbrev Over : FlatState → Type 0
  Over s = (s.context.names ≡ names) × (length s.context.exponents ≡ length names)
      × Arity (length names) s.context.found

  abbrev Keep : Rule → Type 0
  Keep g = Keeps flat_language Over g

  raised_over : (s : FlatState) (n : ℕ) → Over s
      → Over (record s { context = with_power s.context n })
  raised_over s n o = (o.0, length-set s.context.exponents s.context.place _ ∙ o.1, o.2)

  raising_keeps : Keep raising
  raising_keeps = ((λ s x o k e. o), (λ s x o k e. raised_over s _ o))

  rules_keep : (n : FlatRule) (c : FlatContext) → Keep (rule_says n c)
  rules_keep an_exponent c = elim (fits c.exponents c.place 1) as (λ b. Keep (said_if b)) [
    | true
        ↦ (raising_keeps, λ s o. raised_over s 1 o)
    | false ↦ raising_keeps
  ]

  power_keeps : Keep power
  power_keeps = ((λ s x o k e. o), tt)

  item_keeps : Keep item
  item_keeps = (
    (((λ s x o k e. o), (((λ s x o k e. o), (λ s x o k e. o)), (λ s o. o))), power_keeps),
    ((λ s x o k e. o), power_keeps),
  )

  found_over : (s : FlatState) → Over s → Arity (length names) (with_item s.context).found
  unfolding Each
  found_over s o = arity-append (length names) s.context.found
      ((
        s.context.exponents,
        signed_over s.context.negative s.context.numerator
            s.context.denominator,
      ) ∷ []) o.2 (o.1, tt)

  none_long : (ns : List (List ℕ)) → ns ≡ names → length (no_exponents ns) ≡ length names
  none_long ns e = length-zeros (length ns) ∙ ap length e

  whole_keeps : KeepAll flat_language Over whole_flat
  whole_keeps = (
    (
      ((λ s x o k e. o), (λ s o. o)),
      (
        item_keeps,
        ((λ s x o k e. (o.0, none_long s.context.names o.0, found_over s o)), item_keeps),
      ),
    ),
    ((λ s x o k e. (o.0, o.1, found_over s o)), tt),
  )

  pub flat_over : (bytes : List ℕ) (p : Terms Fraction) → flat_of names bytes ≡ Some p
      → Arity (length names) p
  unfolding Each
  flat_over bytes p e =
      let text = flat_is names bytes p e in
      subst (Arity (length names)) text.2 (read_kept flat_language Over rules_keep whole_flat
      (start names) text.0 (tokens bytes) text.1 whole_keeps (refl, none_long names refl, tt)).2
