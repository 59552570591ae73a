-- A printed polynomial stands in one line.
--   is_line text       no byte of it is a line feed
--   first_line         two texts that begin with a line have the same first line and the same rest
--   join_lines         texts without one, one behind the other
--   decimal_line, printed_line       a number and a printed polynomial are lines
use Rattle.std.proofs.Common.{◌≡◌, ℕ, zero, suc, ◌+◌, List, [], ◌∷◌, ◌++◌, refl, sym, ap, ap₂, subst, ◌∙◌, true, false, arith}
use Rattle.std.specs.Prelude.{Bool, if◌then◌else◌, ◌&&◌, not, ◌==◌, ◌/◌, ◌%◌, nat_lt, codes, decimal, unsigned_abs, is_none, IsTrue, All}
use Rattle.std.specs.List.{flat_map, list_all}
use Rattle.std.specs.Int.{is_negative}
use Rattle.std.specs.Char.{is_ascii_alphabetic}
use Rattle.std.specs.Fmt.{digits, digits_onto, digit_glyph}
use Rattle.std.proofs.lemmas.Bool.{eqb-true, and_parts}
use Rattle.std.proofs.lemmas.Bool.Decides.{nat_tests}
use Rattle.std.proofs.lemmas.List.Elements.{All-head, All-tail}
use Rattle.std.proofs.lemmas.List.Folds.{list_all-append}
use Rattle.algebra.proofs.Basics.{same_head, same_tail}
use Rattle.algebra.specs.Fraction.{Fraction}
use Rattle.polynomials.specs.Terms.{Terms}
use Rattle.loop_model.specs.Words.{is_word, is_word_text, keyword_of, is_plain_word}
use Rattle.poly_text.proofs.Lexing.{is_word-letter}
use Rattle.poly_text.specs.Printed.{fraction_text, power_text, powers, is_bare, product_text, term_text, later_text, polynomial_text}

abbrev pub is_line : List ℕ → Bool
is_line text = list_all (λ c. not (c == 10)) text

-- ---- the first line
not_feed : (c : ℕ) (more : Bool) → 10 ≡ c → (not (c == 10) && more) ≡ true → ⊥
not_feed c more same is = let no : not (10 == 10) ≡ true = subst (λ k. not (k == 10) ≡ true)
    (sym same) (and_parts (not (c == 10)) more is).0 in let z : false ≡ true = no in cc

pub first_line : (xs ys us vs : List ℕ) → is_line xs ≡ true → is_line ys ≡ true
    → xs ++ 10 ∷ us ≡ ys ++ 10 ∷ vs → (xs ≡ ys) × (us ≡ vs)
first_line [] [] us vs h k e = (refl, same_tail e)
first_line [] (y ∷ ys) us vs h k e = absurd (not_feed y (is_line ys) (same_head e) k)
first_line (x ∷ xs) [] us vs h k e = absurd (not_feed x (is_line xs) (sym (same_head e)) h)
first_line (x ∷ xs) (y ∷ ys) us vs h k e =
    let rest = first_line xs ys us vs (and_parts (not (x == 10)) (is_line xs) h).1
    (and_parts (not (y == 10)) (is_line ys) k).1 (same_tail e) in
    (ap₂ ◌∷◌ (same_head e) rest.0, rest.1)

pub join_lines : (xs ys : List ℕ) → is_line xs ≡ true → is_line ys ≡ true
    → is_line (xs ++ ys) ≡ true
join_lines xs ys h k = list_all-append (λ c. not (c == 10)) xs ys ∙ ap₂ ◌&&◌ h k

-- ---- numbers
glyph_line : (d : ℕ) → not (digit_glyph false d == 10) ≡ true
glyph_line d = go (nat_lt d 10)
  where
    go : (b : Bool) → not ((if b then 48 + d else 87 + d) == 10) ≡ true
    go true = let other : (48 + d == 10) ≡ false = grind (arith, nat_tests) in ap not other
    go false = let other : (87 + d == 10) ≡ false = grind (arith, nat_tests) in ap not other

onto_line : (k n : ℕ) (acc : List ℕ) → is_line acc ≡ true → is_line (digits_onto k 10 false n acc)
    ≡ true
onto_line zero n acc h = h
onto_line (suc k) n acc h =
    go (n / 10 == 0) front (onto_line k (n / 10) (digit_glyph false (n % 10) ∷ acc) front)
  where
    front : is_line (digit_glyph false (n % 10) ∷ acc) ≡ true
    front = ap₂ ◌&&◌ (glyph_line (n % 10)) h

    go : (b : Bool) → is_line (digit_glyph false (n % 10) ∷ acc) ≡ true
        → is_line (digits_onto k 10 false (n / 10) (digit_glyph false (n % 10) ∷ acc)) ≡ true
        → is_line (if b then digit_glyph false (n % 10) ∷ acc
        else digits_onto k 10 false (n / 10) (digit_glyph false (n % 10) ∷ acc)) ≡ true
    go true one more = one
    go false one more = more

pub decimal_line : (n : ℕ) → is_line (decimal n) ≡ true
unfolding digits
decimal_line n = onto_line 64 n [] refl

-- ---- words
word_line : (c : ℕ) → is_word c ≡ true → not (c == 10) ≡ true
word_line c word = go (c == 10) refl
  where
    go : (b : Bool) → (c == 10) ≡ b → not b ≡ true
    go true is = absurd (let z : false ≡ true = subst (λ k. is_word k ≡ true) (eqb-true c 10 is)
        word in cc)
    go false is = refl

words_line : (cs : List ℕ) → list_all is_word cs ≡ true → is_line cs ≡ true
words_line [] are = refl
words_line (c ∷ cs) are = let parts = and_parts (is_word c) (list_all is_word cs) are in
    ap₂ ◌&&◌ (word_line c parts.0) (words_line cs parts.1)

name_line : (w : List ℕ) → IsTrue (is_plain_word w) → is_line w ≡ true
name_line [] plain = refl
name_line (c ∷ cs) plain =
    let parts = and_parts (is_word_text (c ∷ cs)) (is_none (keyword_of (c ∷ cs))) plain in
    let word = and_parts (is_ascii_alphabetic c) (list_all is_word cs) parts.0 in
    ap₂ ◌&&◌ (word_line c (is_word-letter c word.0)) (words_line cs word.1)

-- ---- terms
power_line : (x : List ℕ) (n : ℕ) → is_line x ≡ true → is_line (power_text x n) ≡ true
unfolding power_text
power_line x n is = go (n == 1)
  where
    go : (one : Bool) → is_line (if one then x else x ++ codes "^" ++ decimal n) ≡ true
    go true = is
    go false = join_lines (x ++ codes "^") (decimal n) (join_lines x (codes "^") is refl)
        (decimal_line n)

fraction_line : (n d : ℕ) → is_line (fraction_text n d) ≡ true
unfolding fraction_text
fraction_line n d = go (d == 1)
  where
    go : (one : Bool) → is_line (if one then decimal n else decimal n ++ codes "/" ++ decimal d)
        ≡ true
    go true = decimal_line n
    go false = join_lines (decimal n ++ codes "/") (decimal d) (join_lines (decimal n) (codes "/")
        (decimal_line n) refl) (decimal_line d)

module _ (names : List (List ℕ)) where
  abbrev pub ArePlain : List (List ℕ) → Type 0
  ArePlain ns = All (λ w. IsTrue (is_plain_word w)) ns

  powers_lines : (ns : List (List ℕ)) (e : List ℕ) → ArePlain ns → list_all is_line (powers ns e)
      ≡ true
  unfolding powers
  powers_lines [] e are = refl
  powers_lines (x ∷ ns) [] are = refl
  powers_lines (x ∷ ns) (zero ∷ e) are = powers_lines ns e (All-tail (λ w. IsTrue (is_plain_word w))
      x ns are)
  powers_lines (x ∷ ns) (suc n ∷ e) are =
      ap₂ ◌&&◌ (power_line x (suc n) (name_line x (All-head (λ w. IsTrue (is_plain_word w)) x ns
      are))) (powers_lines ns e (All-tail (λ w. IsTrue (is_plain_word w)) x ns are))

  starred_line : (fs : List (List ℕ)) → list_all is_line fs ≡ true
      → is_line (flat_map (λ f. codes "*" ++ f) fs) ≡ true
  starred_line [] h = refl
  starred_line (f ∷ fs) h =
      let parts = and_parts (is_line f) (list_all is_line fs) h in
      join_lines (codes "*" ++ f) (flat_map (λ g. codes "*" ++ g) fs) (join_lines (codes "*") f refl
      parts.0) (starred_line fs parts.1)

  joined_line : (fs : List (List ℕ)) → list_all is_line fs ≡ true → is_line (product_text fs) ≡ true
  joined_line [] h = refl
  joined_line (f ∷ fs) h = let parts = and_parts (is_line f) (list_all is_line fs) h in
      join_lines f (flat_map (λ g. codes "*" ++ g) fs) parts.0 (starred_line fs parts.1)

  module _ (plain : ArePlain names) where
    term_line : (t : List ℕ × Fraction) → is_line (term_text names t) ≡ true
    term_line t = go (is_bare t)
      where
        go : (b : Bool)
            → is_line (product_text (if b then powers names t.0
            else fraction_text (unsigned_abs t.1.num) t.1.den ∷ powers names t.0)) ≡ true
        go true = joined_line (powers names t.0) (powers_lines names t.0 plain)
        go false = joined_line (fraction_text (unsigned_abs t.1.num) t.1.den ∷ powers names t.0)
            (ap₂ ◌&&◌ (fraction_line (unsigned_abs t.1.num) t.1.den) (powers_lines names t.0 plain))

    between_line : (b : Bool) → is_line (if b then codes " - " else codes " + ") ≡ true
    between_line true = refl
    between_line false = refl

    front_line : (b : Bool) → is_line (if b then codes "-" else []) ≡ true
    front_line true = refl
    front_line false = refl

    later_line : (p : Terms Fraction) → is_line (later_text names p) ≡ true
    unfolding later_text
    later_line [] = refl
    later_line (t ∷ p) =
        join_lines ((if is_negative t.1.num then codes " - " else codes " + ") ++ term_text names t)
        (later_text names p)
        (join_lines (if is_negative t.1.num then codes " - " else codes " + ") (term_text names t)
        (between_line (is_negative t.1.num)) (term_line t)) (later_line p)

    pub printed_line : (p : Terms Fraction) → is_line (polynomial_text names p) ≡ true
    unfolding polynomial_text
    printed_line [] = refl
    printed_line (t ∷ p) =
        join_lines ((if is_negative t.1.num then codes "-" else []) ++ term_text names t)
        (later_text names p)
        (join_lines (if is_negative t.1.num then codes "-" else []) (term_text names t)
        (front_line (is_negative t.1.num)) (term_line t)) (later_line p)
