-- The bytes of a printed term are an item of the grammar.
--   Spelled gs c bytes t   the grammars gs derive the lexemes of the bytes from the context c, none of them at fault, and lead to the state t
--   sound                  one token more
--   item_says              a term: behind it the grammar has its exponents and its number
--   item_found             so it is the term that is found
use Rattle.std.proofs.Common.{◌≡◌, ◌≢◌, ℕ, zero, suc, ◌+◌, ◌-◌, ◌<◌, ◌≤◌, List, [], ◌∷◌, ◌++◌, map, length, get_or, set, replicate, refl, sym, ap, subst, ◌∙◌, true, false, arith, append_assoc, length-append, inl, inr}
use Rattle.std.proofs.Math.Seq.{get_or-append_seam}
use Rattle.std.specs.Prelude.{Bool, if◌then◌else◌, ◌&&◌, not, ltb, ◌==◌, nat_le, sum, unsigned_abs, codes, decimal, ℤ, pos, negsuc, Option, Some, None, unwrap_or, is_some, IsTrue}
use Rattle.std.specs.List.{All, AllPairs}
use Rattle.std.specs.Str.{bytes_eq}
use Rattle.std.specs.Int.{is_negative}
use Rattle.std.proofs.lemmas.Bool.{cases_order, eqb-true, eqb-false, not-true, and_parts}
use Rattle.std.proofs.lemmas.Bool.Decides.{nat_tests}
use Rattle.std.proofs.lemmas.List.{set-append_right}
use Rattle.std.proofs.lemmas.List.Folds.{list_any_at}
use Rattle.std.proofs.lemmas.List.Elements.{All-head, All-tail}
use Rattle.std.proofs.lemmas.List.Sums.{sum_by-cons}
use Rattle.frac128.specs.Sums.{negate_if}
use Rattle.algebra.specs.Fraction.{Fraction, fraction, over}
use Rattle.algebra.proofs.RatioLaws.{reduce_value_is}
use Rattle.algebra.proofs.Fractions.{facts, some, fraction-ratio}
use Rattle.polynomials.specs.Terms.{Terms}
use Rattle.loop_model.specs.Names.{place_of}
use Rattle.loop_model.specs.Words.{is_plain_word}
use Rattle.loop_model.proofs.Places.{place_there, place_within, place_stands, bytes_eq-refl}
use Rattle.grammars.specs.Kinds.{has}
use Rattle.grammars.specs.Grammar.{either, many, rule}
use Rattle.grammars.specs.Derivation.{Mark, Derives, derives_token, derives_change, derives_sequence, derives_left, derives_right, derives_none, derives_more, derives_rule}
use Rattle.poly_text.specs.Lexemes.{Lexeme, Placed, name, number, sign}
use Rattle.poly_text.specs.Kinds.{Kind, a_name, a_number, a_sign, same, kind_of}
use Rattle.poly_text.specs.Reasons.{Reason, limit, unknown, divisor, unless}
use Rattle.poly_text.specs.Flat.{FlatContext, FlatState, Rule, an_exponent, takes, fits, raise, signed_over, with_item, at_item, raising, power, factor, coefficient, item, flat_language}
use Rattle.poly_text.specs.FlatReads.{state_of}
use Rattle.poly_text.specs.Printed.{fraction_text, power_text, powers, is_bare, product_text, term_text}
use Rattle.poly_text.specs.PrintedParts.{joined_behind}
use Rattle.poly_text.specs.Narrow.{IsNarrow}
use Rattle.poly_text.proofs.PrintedLexing.{lex, sign_lexed, Ends, slash_ends, caret_ends, star_ends, name_lexed, number_lexed}
use Rattle.poly_text.proofs.FlatChecked.{said_if}
use Rattle.poly_text.proofs.FlatSteps.{number_kind, name_kind}

abbrev pub spell : Lexeme → Mark Placed Reason
spell l = record { symbol = record { at = 0; lexeme = l }; fault = None }

abbrev pub Spelled : List Rule → FlatContext → List ℕ → FlatState → Type 0
Spelled gs c bytes t = Derives flat_language gs (state_of c) (map spell (lex 0 bytes)) t

pub sound : (ks : List Kind) (fault : FlatContext → Lexeme → Option Reason) (next : FlatContext
    → Lexeme → FlatContext) (gs : List Rule) (c : FlatContext) (l : Lexeme) (ls : List Lexeme)
    (bytes : List ℕ) (t : FlatState)
    → lex 0 bytes ≡ l ∷ ls → has same ks (kind_of l) ≡ true → fault c l ≡ None
    → Derives flat_language gs (state_of (next c l)) (map spell ls) t
    → Spelled (takes ks fault next ∷ gs) c bytes t
sound ks fault next gs c l ls bytes t lexed kind none w =
    subst (λ ls. Derives flat_language (takes ks fault next ∷ gs) (state_of c) (map spell ls) t)
    (sym lexed)
    (subst (λ f. Derives flat_language (takes ks fault next ∷ gs) (state_of c)
    (record { symbol = record { at = 0; lexeme = l }; fault = f } ∷ map spell ls) t) none
    (derives_token {x = record { at = 0; lexeme = l }} kind w))

-- the same bytes, with brackets elsewhere
pub regrouped : (gs : List Rule) (c : FlatContext) (t : FlatState) (a b d : List ℕ)
    → Spelled gs c (a ++ (b ++ d)) t → Spelled gs c ((a ++ b) ++ d) t
regrouped gs c t a b d w = subst (λ bytes. Spelled gs c bytes t) (sym (append_assoc a b d)) w

abbrev pub ArePlain : List (List ℕ) → Type 0
ArePlain names = All (λ w. IsTrue (is_plain_word w)) names

abbrev AreSmall : List ℕ → Type 0
AreSmall e = All (λ n. n ≤ 65535) e

starred_ends : (fs : List (List ℕ)) (rest : List ℕ) → Ends rest
    → Ends (joined_behind true fs ++ rest)
starred_ends [] rest ends = ends
starred_ends (f ∷ fs) rest ends = star_ends _

-- ---- powers
-- the exponents f, and behind them one more and e
raise_seam : (f e : List ℕ) (n : ℕ) → raise (f ++ 0 ∷ e) (length f) n ≡ f ++ n ∷ e
raise_seam f e n =
    let first : length f - length f ≡ 0 = omega arith in
    let alone : 0 + n ≡ n = omega arith in
    ap (λ k. set (f ++ 0 ∷ e) (length f) (k + n)) (get_or-append_seam f 0 e 0)
    ∙ ap (set (f ++ 0 ∷ e) (length f)) alone
    ∙ set-append_right f (0 ∷ e) (length f) (length f) n refl (omega arith)
    ∙ ap (λ k. f ++ set (0 ∷ e) k n) first

fits_seam : (f e : List ℕ) (n : ℕ) → n ≤ 65535 → fits (f ++ 0 ∷ e) (length f) n ≡ true
fits_seam f e n small = ap (λ k. nat_le (k + n) 65535) (get_or-append_seam f 0 e 0)
    ∙ grind (arith, nat_tests)

module _ (names : List (List ℕ)) (differ : AllPairs (λ (v w : List ℕ). v ≢ w) names) where
  one_place : (i j : ℕ) → i < length names → j < length names
      → get_or names i [] ≡ get_or names j [] → i ≡ j
  one_place i j h k e = elim (cases_order i j) [
    | inl is ↦ is
    | inr (inl less)
        ↦ absurd (differ i j [] less k e)
    | inr (inr more) ↦ absurd (differ j i [] more h (sym e))
  ]

  place_at : (before : List (List ℕ)) (x : List ℕ) (ns : List (List ℕ)) → names ≡ before ++ x ∷ ns
      → place_of names x ≡ Some (length before)
  place_at before x ns are =
      let within : length before < length names =
      omega (arith, ap (λ (l : List (List ℕ)). length l) are, length-append before (x ∷ ns)) in
      let here : get_or names (length before) [] ≡ x = ap (λ l. get_or l (length before) []) are
      ∙ get_or-append_seam before x ns [] in
      let found = place_there names x (list_any_at (λ n. bytes_eq n x) names (length before) []
      within (ap (λ n. bytes_eq n x) here ∙ bytes_eq-refl x)) in
      found.1 ∙ ap Some (one_place found.0 (length before) (place_within names x found.0 found.1)
      within (place_stands names x found.0 found.1 ∙ sym here))

  module _ (c : FlatContext) (t : FlatState) where
    -- behind an item's powers the grammars gs derive the bytes
    abbrev Behind : List Rule → List ℕ → List ℕ → Type 0
    Behind gs e bytes = Spelled gs (record c { names = names; exponents = e; place = 0 }) bytes t

    module _ (x : List ℕ) (n : ℕ) (f e : List ℕ) (plain : IsTrue (is_plain_word x))
        (placed : place_of names x ≡ Some (length f)) (small : n ≤ 65535) (gs : List Rule)
        (rest : List ℕ) (ends : Ends rest)
        (w : Behind gs (f ++ n ∷ e) rest) where
      abbrev at_name : FlatContext
      at_name = record c { names = names; exponents = f ++ 0 ∷ e; place = length f }

      -- the name, and what is behind it
      named : (bytes : List ℕ) → Ends bytes
          → Spelled (said_if (fits (f ++ 0 ∷ e) (length f) 1) ∷ gs) at_name bytes t
          → Behind (power ∷ gs) (f ++ 0 ∷ e) (x ++ bytes)
      named bytes stop v =
          derives_sequence (sound (a_name ∷ []) _ _ _ _ (name x) (lex 0 bytes) _ t
          (name_lexed x bytes plain stop) (name_kind x plain)
          (ap (λ o. unless (is_some o) unknown) placed)
          (subst (λ o. Spelled (rule an_exponent ∷ gs) (record at_name { place = unwrap_or o 0 })
          bytes t) (sym placed) (derives_rule v)))

      powered : Behind gs (raise (f ++ 0 ∷ e) (length f) n) rest
      powered = subst (λ e. Behind gs e rest) (sym (raise_seam f e n)) w

      raised : Spelled (raising ∷ gs) at_name (94 ∷ (decimal n ++ rest)) t
      raised = derives_sequence (sound (a_sign 94 ∷ []) _ _ _ at_name (sign 94)
          (lex 0 (decimal n ++ rest)) _ t (sign_lexed 94 (decimal n ++ rest) refl) refl refl
          (sound (a_number ∷ []) _ _ gs at_name (number n) (lex 0 rest) _ t
          (number_lexed n rest (omega arith) ends) (number_kind n (omega arith))
          (ap (λ b. unless b limit) (fits_seam f e n small)) powered))

      power_says : Behind (power ∷ gs) (f ++ 0 ∷ e) (power_text x n ++ rest)
      unfolding power_text
      power_says = go (n == 1) refl
        where
          go : (one : Bool) → (n == 1) ≡ one
              → Behind (power ∷ gs) (f ++ 0 ∷ e) ((if one then x else x ++ codes "^" ++ decimal n)
              ++ rest)
          go true one = named rest ends (subst (λ b. Spelled (said_if b ∷ gs) at_name rest t)
              (sym (fits_seam f e 1 (omega arith)))
              (derives_right
              (derives_change (subst (λ m. Behind gs (raise (f ++ 0 ∷ e) (length f) m) rest)
              (eqb-true n 1 one) powered))))
          go false other =
              let either_way = elim (fits (f ++ 0 ∷ e) (length f) 1) as
              (λ b. Spelled (said_if b ∷ gs) at_name (94 ∷ (decimal n ++ rest)) t) [
                | true
                    ↦ derives_left raised
                | false ↦ raised
              ] in
              regrouped _ _ t (x ++ codes "^") (decimal n) rest (regrouped _ _ t x (codes "^")
              (decimal n ++ rest) (named (94 ∷ (decimal n ++ rest))
              (caret_ends (decimal n ++ rest)) either_way))

    module _ (gs : List Rule) (rest : List ℕ) (ends : Ends rest) where
      -- powers, of which the first is behind a * or not
      abbrev heads : Bool → List Rule
      heads true = many factor ∷ gs
      heads false = power ∷ many factor ∷ gs

      abbrev Powers : Bool → List (List ℕ) → List ℕ → Type 0
      Powers behind ns es = (f : List ℕ) (before : List (List ℕ)) → names ≡ before ++ ns
          → length f ≡ length before → length es ≡ length ns → ArePlain ns → AreSmall es
          → Behind gs (f ++ es) rest → Behind (heads behind) (f ++ replicate (length ns) 0)
          (joined_behind behind (powers ns es) ++ rest)

      module _ (x : List ℕ) (n : ℕ) (ns : List (List ℕ)) (es f : List ℕ) (before : List (List ℕ))
          (are : names ≡ before ++ x ∷ ns) (long : length f ≡ length before) (same : length (n ∷ es)
          ≡ length (x ∷ ns))
          (plain : ArePlain (x ∷ ns)) (small : AreSmall (n ∷ es))
          (w : Behind gs (f ++ n ∷ es) rest) where
        -- behind one exponent more
        further : (behind : Bool) → Powers behind ns es
            → Behind (heads behind) (f ++ n ∷ replicate (length ns) 0)
            (joined_behind behind (powers ns es) ++ rest)
        further behind say =
            subst (λ e. Behind (heads behind) e (joined_behind behind (powers ns es) ++ rest))
            (append_assoc f (n ∷ []) (replicate (length ns) 0))
            (say (f ++ n ∷ []) (before ++ x ∷ []) (are ∙ sym (append_assoc before (x ∷ []) ns))
            (omega (arith, length-append f (n ∷ []), length-append before (x ∷ [])))
            (omega arith)
            (All-tail (λ w. IsTrue (is_plain_word w)) x ns plain) (All-tail (λ n. n ≤ 65535) n es
            small) (subst (λ e. Behind gs e rest) (sym (append_assoc f (n ∷ []) es)) w))

        first_says : Powers true ns es
            → Behind (power ∷ many factor ∷ gs) (f ++ 0 ∷ replicate (length ns) 0)
            ((power_text x n ++ joined_behind true (powers ns es)) ++ rest)
        first_says say =
            regrouped _ _ t (power_text x n) (joined_behind true (powers ns es)) rest
            (power_says x n f (replicate (length ns) 0) (All-head (λ w. IsTrue (is_plain_word w)) x
            ns plain) (place_at before x ns are ∙ ap Some (sym long))
            (All-head (λ n. n ≤ 65535) n es small)
            (many factor ∷ gs) (joined_behind true (powers ns es) ++ rest)
            (starred_ends (powers ns es) rest ends) (further true say))

      powers_say : (behind : Bool) (ns : List (List ℕ)) (es : List ℕ)
          → (behind ≡ false → sum es ≢ 0) → Powers behind ns es
      unfolding powers
      powers_say true [] [] any f before are long same plain small w = derives_none w
      powers_say false [] [] any f before are long same plain small w = absurd (any refl refl)
      powers_say behind [] (n ∷ es) any f before are long same plain small w = absurd (omega arith)
      powers_say behind (x ∷ ns) [] any f before are long same plain small w = absurd (omega arith)
      powers_say behind (x ∷ ns) (zero ∷ es) any f before are long same plain small w =
          further x 0 ns es f before are long same plain small w behind (powers_say behind ns es
          (λ bare none. any bare (sum_by-cons (λ k. k) 0 es ∙ omega arith)))
      powers_say true (x ∷ ns) (suc n ∷ es) any f before are long same plain small w =
          derives_more (derives_sequence (sound (a_sign 42 ∷ []) _ _ _ _ (sign 42) _ _ t
          (sign_lexed 42 ((power_text x (suc n) ++ joined_behind true (powers ns es))
          ++ rest) refl) refl refl
          (first_says x (suc n) ns es f before are long same plain small w (powers_say true ns es
          (λ bare. absurd (cc))))))
      powers_say false (x ∷ ns) (suc n ∷ es) any f before are long same plain small w =
          first_says x (suc n) ns es f before are long same plain small w (powers_say true ns es
          (λ bare. absurd (cc)))

-- ---- numbers
sign_put : (z : ℤ) → negate_if (is_negative z) (pos (unsigned_abs z)) ≡ z
sign_put (pos n) = let no : ltb n 0 ≡ false = grind (arith, nat_tests) in
    ap (λ b. negate_if b (pos n)) no
sign_put (negsuc n) = refl

number_put : (a : Fraction) → signed_over (is_negative a.num) (unsigned_abs a.num) a.den ≡ a
number_put a = ap (λ z. over z a.den) (sign_put a.num)
    ∙ ap fraction (reduce_value_is a.ratio (facts a)) ∙ fraction-ratio a

-- ---- terms
-- behind the term t, whose sign was read
abbrev pub behind_term : List (List ℕ) → Terms Fraction → List ℕ × Fraction → FlatContext
behind_term names found t = record (at_item names found (is_negative t.1.num)) {
  numerator = unsigned_abs t.1.num;
  denominator = t.1.den;
  exponents = t.0;
}

pub item_found : (names : List (List ℕ)) (found : Terms Fraction) (t : List ℕ × Fraction)
    → (with_item (behind_term names found t)).found ≡ found ++ t ∷ []
item_found names found t = ap (λ a. found ++ (t.0, a) ∷ []) (number_put t.1)

module _ (names : List (List ℕ)) (differ : AllPairs (λ (v w : List ℕ). v ≢ w) names)
    (plain : ArePlain names) (found : Terms Fraction) (t : List ℕ × Fraction) (narrow : IsNarrow t)
    (long : length t.0 ≡ length names)
    (gs : List Rule) (rest : List ℕ) (ends : Ends rest) (u : FlatState)
    (w : Spelled gs (behind_term names found t) rest u) where
  abbrev n : ℕ
  n = unsigned_abs t.1.num

  abbrev at_number : ℕ → ℕ → FlatContext
  at_number n d = record (at_item names found (is_negative t.1.num)) {
    numerator = n;
    denominator = d;
  }

  -- the powers behind the number, and the rest
  abbrev tail : List ℕ
  tail = joined_behind true (powers names t.0) ++ rest

  number_says : Spelled (either coefficient power ∷ many factor ∷ gs)
      (at_item names found (is_negative t.1.num)) (fraction_text n t.1.den ++ tail) u
  unfolding fraction_text
  number_says = go (t.1.den == 1) refl
    where
      factors : Spelled (many factor ∷ gs) (at_number n t.1.den) tail u
      factors = powers_say names differ (at_number n t.1.den) u gs rest ends true names t.0 (λ bare.
          absurd (cc)) [] [] refl refl long plain narrow.exponents w

      tail_ends : Ends tail
      tail_ends = starred_ends (powers names t.0) rest ends

      go : (one : Bool) → (t.1.den == 1) ≡ one
          → Spelled (either coefficient power ∷ many factor ∷ gs)
          (at_item names found (is_negative t.1.num)) ((if one then decimal n
          else decimal n ++ codes "/" ++ decimal t.1.den) ++ tail) u
      go true is =
          derives_left (derives_sequence (sound (a_number ∷ []) _ _ _ _ (number n) (lex 0 tail) _ u
          (number_lexed n tail narrow.numerator tail_ends) (number_kind n narrow.numerator)
          refl
          (derives_right
          (derives_change (subst (λ d. Spelled (many factor ∷ gs) (at_number n d) tail u)
          (eqb-true t.1.den 1 is) factors)))))
      go false is =
          let above : nat_le 1 t.1.den ≡ true = grind (arith, nat_tests, some t.1) in
          let slash : List ℕ = 47 ∷ (decimal t.1.den ++ tail) in
          regrouped _ _ u (decimal n ++ codes "/") (decimal t.1.den) tail
          (regrouped _ _ u (decimal n) (codes "/") (decimal t.1.den ++ tail)
          (derives_left (derives_sequence (sound (a_number ∷ []) _ _ _ _ (number n) (lex 0 slash) _
          u (number_lexed n slash narrow.numerator (slash_ends _))
          (number_kind n narrow.numerator) refl
          (derives_left (derives_sequence (sound (a_sign 47 ∷ []) _ _ _ _ (sign 47)
          (lex 0 (decimal t.1.den ++ tail)) _ u (sign_lexed 47 (decimal t.1.den ++ tail)
          refl) refl refl
          (sound (a_number ∷ []) _ _ _ (at_number n 1) (number t.1.den) (lex 0 tail) _ u
          (number_lexed t.1.den tail narrow.denominator tail_ends)
          (number_kind t.1.den narrow.denominator) (ap (λ b. unless b divisor) above)
          factors))))))))

  pub item_says : Spelled (item ∷ gs) (at_item names found (is_negative t.1.num)) (term_text names t
      ++ rest) u
  item_says = derives_sequence (go (is_bare t) refl)
    where
      go : (bare : Bool) → is_bare t ≡ bare
          → Spelled (either coefficient power ∷ many factor ∷ gs)
          (at_item names found (is_negative t.1.num)) (product_text (if bare
          then powers names t.0 else fraction_text n t.1.den ∷ powers names t.0) ++ rest) u
      go true bare =
          let one = and_parts (n == 1) (t.1.den == 1 && not (sum t.0 == 0)) bare in
          let whole = and_parts (t.1.den == 1) (not (sum t.0 == 0)) one.1 in
          derives_right (powers_say names differ (at_number 1 1) u gs rest ends false names t.0
          (λ none. eqb-false (sum t.0) 0 (not-true (sum t.0 == 0) whole.1)) [] [] refl refl
          long plain narrow.exponents
          (subst (λ d. Spelled gs (record (at_number 1 d) { exponents = t.0 }) rest u)
          (eqb-true t.1.den 1 whole.0)
          (subst (λ n. Spelled gs (record (at_number n t.1.den) { exponents = t.0 }) rest u)
          (eqb-true n 1 one.0) w)))
      go false bare = regrouped _ _ u (fraction_text n t.1.den)
          (joined_behind true (powers names t.0)) rest number_says
