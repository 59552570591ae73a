-- The text of a printed polynomial says that polynomial.
--   terms_say        the lexemes of its terms lead to them
--   printed_reads    so what was printed is read as the polynomial
use Rattle.std.proofs.Common.{◌≡◌, ◌≢◌, ℕ, List, [], ◌∷◌, ◌++◌, map, length, replicate, refl, sym, ap, subst, ◌∙◌, true, false, arith, append_assoc, append-nil}
use Rattle.std.specs.Prelude.{Bool, cond, codes, if◌then◌else◌, Some, None, IsSomeAnd}
use Rattle.std.specs.List.{All, AllPairs}
use Rattle.std.specs.Int.{is_negative}
use Rattle.std.specs.Str.{bytes_eq}
use Rattle.std.proofs.lemmas.Fmt.{decimal_digit}
use Rattle.std.proofs.lemmas.Bool.{or_from}
use Rattle.std.proofs.lemmas.List.Elements.{All-head, All-tail}
use Rattle.algebra.specs.Fraction.{Fraction, fraction, ℚ}
use Rattle.algebra.proofs.RatioLaws.{frac_zero, zero-value, reduce_value_is}
use Rattle.algebra.proofs.Fractions.{ℚ_ring}
use Rattle.polynomials.specs.Exponent.{same}
use Rattle.algebra.specs.Each.{Each}
use Rattle.algebra.specs.Sum.{sum_over}
use Rattle.algebra.proofs.Basics.{same_tail, not_both}
use Rattle.algebra.proofs.Each.{each-right}
use Rattle.polynomials.specs.Algebra as Algebra
use Rattle.polynomials.specs.Terms.{Terms, Same}
use Rattle.polynomials.specs.Polynomial.{Arity, IsDistinct, IsPolynomial}
use Rattle.polynomials.proofs.Exponent.{same_refl}
use Rattle.polynomials.proofs.Distinct.{distinct_falls}
use Rattle.polynomials.specs.Order.{grevlex}
use Rattle.polynomials.proofs.Orders.{grevlex_order}
use Rattle.loop_model.proofs.Places.{bytes_apart}
use Rattle.grammars.specs.Grammar.{Placed, many}
use Rattle.grammars.specs.Derivation.{Derives, derives_nothing, derives_sequence, derives_left, derives_right, derives_change, derives_none, derives_more}
use Rattle.grammars.specs.FirstFault.{symbols_in, lexemes_of, sounds}
use Rattle.grammars.proofs.Offsets.{marks_at, moved}
use Rattle.poly_text.specs.Lexemes.{Lexeme, number, sign, the_end, tokens, lexemes}
use Rattle.poly_text.specs.Kinds.{an_end, a_number, a_sign}
use Rattle.poly_text.specs.Reasons.{twice}
use Rattle.poly_text.specs.Flat.{FlatState, Rule, stands, with_item, at_item, operator_token, item, next_item, the_end as flat_end, flat_language, whole_flat, start, flat_of}
use Rattle.poly_text.specs.FlatReads.{state_of}
use Rattle.poly_text.specs.Printed.{term_text, later_text, polynomial_text}
use Rattle.poly_text.specs.Narrow.{IsNarrow}
use Rattle.poly_text.proofs.PrintedLexing.{lex, lex-nil, blank_lexed, sign_lexed, Ends, end_ends, blank_ends, number_lexed}
use Rattle.poly_text.proofs.FlatOver.{flat_from}
use Rattle.poly_text.proofs.FlatSteps.{number_kind}
use Rattle.poly_text.proofs.PrintedItems.{spell, Spelled, sound, regrouped, ArePlain, behind_term, item_found, item_says}

-- ---- lexemes at their offsets
spelled-lexemes : (ls : List Lexeme) → lexemes_of (symbols_in (map spell ls)) ≡ ls
spelled-lexemes [] = refl
spelled-lexemes (l ∷ ls) = ap (λ ks. l ∷ ks) (spelled-lexemes ls)

marks-spelled : (xs : List (Placed Lexeme)) (ls : List Lexeme) → lexemes_of xs ≡ ls
    → marks_at xs (map spell ls) ≡ sounds xs
marks-spelled [] ls e = refl
marks-spelled (x ∷ xs) [] e = absurd (cc)
marks-spelled (x ∷ xs) (l ∷ ls) e = ap (λ ms. record { symbol = x; fault = None } ∷ ms)
    (marks-spelled xs ls (same_tail e))

-- bytes that lead to a polynomial
record Leads (gs : List Rule) (s : FlatState) (bytes : List ℕ) (p : Terms Fraction) : Type 0 where
  end : FlatState
  derivation : Spelled gs s.context bytes end
  says : end.context.found ≡ p

leads_reads : (names : List (List ℕ)) (bytes : List ℕ) (p : Terms Fraction)
    → Leads whole_flat (start names) bytes p → flat_of names bytes ≡ Some p
leads_reads names bytes p lead =
    let m = moved flat_language lead.derivation (tokens bytes)
    (sym (spelled-lexemes (lexemes bytes))) tt in
    flat_from names bytes p (state_of lead.end.context)
    (subst (λ ms. Derives flat_language whole_flat (start names) ms (state_of lead.end.context))
    (marks-spelled (tokens bytes) (lexemes bytes) refl) m.derivation) lead.says

-- ---- terms
is_new : (found : Terms Fraction) (t : List ℕ × Fraction) (p : Terms Fraction)
    → IsDistinct (found ++ t ∷ p) → stands found t.0 ≡ false
unfolding IsDistinct Each
is_new [] t p distinct = refl
is_new (s ∷ found) t p distinct =
    let apart : same s.0 t.0 ≡ false = (each-right (λ (u : List ℕ × Fraction). same s.0 u.0 ≡ false)
    found (t ∷ p) distinct.0).0 in
    or_from (bytes_eq s.0 t.0) (stands found t.0)
    (bytes_apart s.0 t.0 (λ is. not_both (same s.0 t.0) (ap (same s.0) (sym is) ∙ same_refl s.0)
    apart)) (is_new found t p distinct.1)

-- a term with the number 0 is no term
nothing : (e : List ℕ) → Same ℚ ((e, ℚ.zero) ∷ []) []
unfolding Algebra.coefficient sum_over
nothing e = record {
  at = λ d. elim (same d e) as (λ b. ℚ.add (cond b ℚ.zero ℚ.zero) ℚ.zero
      ≡ ℚ.zero) [ true ↦ ℚ_ring.add-zero ℚ.zero | false ↦ ℚ_ring.add-zero ℚ.zero ];
}

module _ (names : List (List ℕ)) (plain : ArePlain names) (differ : AllPairs (λ (v w : List ℕ).
    v ≢ w) names) where
  abbrev more : List Rule
  more = many next_item ∷ flat_end ∷ []

  later_ends : (p : Terms Fraction) → Ends (later_text names p)
  unfolding later_text
  later_ends [] = end_ends
  later_ends (t ∷ p) = elim (is_negative t.1.num) as (λ negative.
      Ends ((if negative then codes " - " else codes " + ") ++ term_text names t
      ++ later_text names p)) [ true ↦ blank_ends _ | false ↦ blank_ends _ ]

  -- the end, and an operator, behind the term q, which isn't one of those that were found
  module _ (found : Terms Fraction) (q : List ℕ × Fraction) (new : stands found q.0 ≡ false) where
    free : (if stands found q.0 then Some twice else None) ≡ None
    free = ap (λ b. if b then Some twice else None) new

    ended : Spelled (flat_end ∷ []) (behind_term names found q) []
        (state_of (with_item (behind_term names found q)))
    ended = sound (an_end ∷ []) _ _ _ (behind_term names found q) the_end [] _ _ lex-nil refl free
        derives_nothing

    joined_by : (negative : Bool) (bytes : List ℕ) (u : FlatState)
        → Spelled (item ∷ more) (at_item names (found ++ q ∷ []) negative) bytes u
        → Spelled (operator_token ∷ item ∷ more) (behind_term names found q)
        ((if negative then codes " - " else codes " + ") ++ bytes) u
    joined_by true bytes u w =
        sound (a_sign 43 ∷ a_sign 45 ∷ []) _ _ _ (behind_term names found q) (sign 45) (lex 0 bytes)
        _ u (blank_lexed (45 ∷ 32 ∷ bytes) ∙ sign_lexed 45 (32 ∷ bytes) refl
        ∙ ap (λ ls. sign 45 ∷ ls) (blank_lexed bytes)) refl free
        (subst (λ f. Spelled (item ∷ more) (at_item names f true) bytes u)
        (sym (item_found names found q)) w)
    joined_by false bytes u w =
        sound (a_sign 43 ∷ a_sign 45 ∷ []) _ _ _ (behind_term names found q) (sign 43) (lex 0 bytes)
        _ u (blank_lexed (43 ∷ 32 ∷ bytes) ∙ sign_lexed 43 (32 ∷ bytes) refl
        ∙ ap (λ ls. sign 43 ∷ ls) (blank_lexed bytes)) refl free
        (subst (λ f. Spelled (item ∷ more) (at_item names f false) bytes u)
        (sym (item_found names found q)) w)

  terms_say : (p found : Terms Fraction) (q : List ℕ × Fraction) → All IsNarrow p
      → Arity (length names) p → IsDistinct (found ++ q ∷ p)
      → Leads more (state_of (behind_term names found q)) (later_text names p) (found ++ q ∷ p)
  unfolding later_text Each
  terms_say [] found q narrow arity distinct =
      record {
        end = state_of (with_item (behind_term names found q));
        derivation = derives_none (ended found q (is_new found q [] distinct));
        says = item_found names found q;
      }
  terms_say (t ∷ p) found q narrow arity distinct =
      let grouped = append_assoc found (q ∷ []) (t ∷ p) in
      let rest = terms_say p (found ++ q ∷ []) t (All-tail IsNarrow t p narrow) arity.1
      (subst (λ (p : Terms Fraction). IsDistinct p) (sym grouped) distinct) in
      let item = item_says names differ plain (found ++ q ∷ []) t (All-head IsNarrow t p narrow)
      arity.0 more (later_text names p) (later_ends p) rest.end rest.derivation in
      record {
        end = rest.end;
        derivation =
            derives_more (derives_sequence (regrouped _ _ rest.end _ (term_text names t)
            (later_text names p) (joined_by found q (is_new found q (t ∷ p) distinct)
            (is_negative t.1.num) _ rest.end item)));
        says = rest.says ∙ grouped;
      }

  first_says : (negative : Bool) (bytes : List ℕ) (u : FlatState)
      → Spelled (item ∷ more) (at_item names [] negative) bytes u
      → Spelled whole_flat (at_item names [] false) ((if negative then codes "-" else []) ++ bytes)
      u
  first_says true bytes u w =
      derives_sequence (derives_left (sound (a_sign 45 ∷ []) _ _ _ _ (sign 45) (lex 0 bytes) _ u
      (sign_lexed 45 bytes refl) refl refl (derives_sequence w)))
  first_says false bytes u w =
      derives_sequence (derives_right (derives_change (derives_sequence w)))

  some_reads : (t : List ℕ × Fraction) (p : Terms Fraction) → IsPolynomial ℚ grevlex (length names)
      (t ∷ p) → All IsNarrow (t ∷ p) → flat_of names (polynomial_text names (t ∷ p)) ≡ Some (t ∷ p)
  unfolding Each polynomial_text
  some_reads t p is narrow =
      let rest = terms_say p [] t (All-tail IsNarrow t p narrow) is.arity.1
      (distinct_falls grevlex grevlex_order (t ∷ p) is.falls) in
      let item = item_says names differ plain [] t (All-head IsNarrow t p narrow) is.arity.0 more
      (later_text names p) (later_ends p) rest.end rest.derivation in
      leads_reads names (polynomial_text names (t ∷ p)) (t ∷ p) (record {
        end = rest.end;
        derivation = regrouped _ _ rest.end _ (term_text names t) (later_text names p)
            (first_says (is_negative t.1.num) _ rest.end item);
        says = rest.says;
      })

  zero_lexed : lex 0 (codes "0") ≡ number 0 ∷ lex 0 []
  zero_lexed = ap (λ ds. lex 0 ds) (sym (append-nil (codes "0")))
      ∙ ap (λ ds. lex 0 (ds ++ [])) (sym (decimal_digit 0 (omega arith)))
      ∙ number_lexed 0 [] (omega arith) end_ends

  zero_reads : flat_of names (polynomial_text names []) ≡ Some ((replicate (length names) 0, ℚ.zero)
      ∷ [])
  unfolding polynomial_text
  zero_reads = leads_reads names (polynomial_text names []) _ (record {
    end = _;
    derivation =
        derives_sequence
        (derives_right
        (derives_change
        (derives_sequence
        (derives_sequence
        (derives_left (derives_sequence (sound (a_number ∷ []) _ _ _ _ (number 0) (lex 0 [])
        (codes "0") _ zero_lexed (number_kind 0 (omega arith)) refl
        (derives_right
        (derives_change
        (derives_none (derives_none (sound (an_end ∷ []) _ _ _ _ the_end [] [] _ lex-nil
        refl refl derives_nothing))))))))))));
    says = ap (λ (a : Fraction). (replicate (length names) 0, a) ∷ [])
        (ap fraction (reduce_value_is frac_zero zero-value));
  })

  -- what was printed is read as the polynomial
  pub printed_reads : (p : Terms Fraction) → IsPolynomial ℚ grevlex (length names) p
      → All IsNarrow p
      → IsSomeAnd (flat_of names (polynomial_text names p)) (λ q. Same ℚ q p)
  printed_reads [] is narrow = subst (λ o. IsSomeAnd o (λ q. Same ℚ q [])) (sym zero_reads)
      (nothing (replicate (length names) 0))
  printed_reads (t ∷ p) is narrow = subst (λ o. IsSomeAnd o (λ q. Same ℚ q (t ∷ p)))
      (sym (some_reads t p is narrow)) (record { at = λ e. refl })
