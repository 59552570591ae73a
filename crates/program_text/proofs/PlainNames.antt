-- No name of a program is that of an unknown.
--   unknown_is_no_name     the name of an unknown is no plain word
--   none_unknown           so no plain name is one
use Rattle.std.proofs.Common.{◌≡◌, ℕ, zero, suc, ◌+◌, ◌<◌, List, [], ◌∷◌, refl, ap, ap₂, sym, ◌∙◌, arith, Bool, true, false, ◌==◌, ◌&&◌, ◌/◌, ◌%◌, nat_lt, if◌then◌else◌, Option, Some, None, All, codes, is_none, is_some}
use Rattle.std.proofs.Math.Bool.{and-false}
use Rattle.std.specs.Str.{bytes_eq, all_ascii_digits}
use Rattle.std.specs.Fmt.{decimal, digits, digits_onto, digit_glyph}
use Rattle.std.specs.Char.{is_ascii_digit}
use Rattle.std.proofs.lemmas.Bool.Decides.{nat_tests}
use Rattle.algebra.proofs.Basics.{not_both}
use Rattle.loop_model.specs.Names.{place_of}
use Rattle.loop_model.specs.Words as words
use Rattle.loop_model.proofs.Places.{place_within, place_stands}
use Rattle.program_model.specs.Names.{unknown_name, HasNoUnknown}
use Rattle.program_text.specs.Words.{vars_word, if_word, else_word, while_word, for_word, assume_word, assert_word, any_word, unknown_word, loop_word, is_unknown_word, keyword_of, is_word_text, is_plain_word}

-- ---- digits
glyph_digit : (d : ℕ) → d < 10 → is_ascii_digit (digit_glyph false d) ≡ true
glyph_digit d l = go (nat_lt d 10) refl
  where
    go : (b : Bool) → nat_lt d 10 ≡ b → is_ascii_digit (if b then 48 + d else 87 + d) ≡ true
    go true e = grind (arith, nat_tests)
    go false e = absurd (grind (arith, nat_tests))

onto_digits : (k n : ℕ) (acc : List ℕ) → all_ascii_digits acc ≡ true
    → all_ascii_digits (digits_onto k 10 false n acc) ≡ true
onto_digits zero n acc h = h
onto_digits (suc k) n acc h =
    go (n / 10 == 0) front (onto_digits k (n / 10) (digit_glyph false (n % 10) ∷ acc) front)
  where
    front : all_ascii_digits (digit_glyph false (n % 10) ∷ acc) ≡ true
    front = ap₂ ◌&&◌ (glyph_digit (n % 10) (omega arith)) h

    go : (b : Bool) → all_ascii_digits (digit_glyph false (n % 10) ∷ acc) ≡ true
        → all_ascii_digits (digits_onto k 10 false (n / 10) (digit_glyph false (n % 10) ∷ acc))
        ≡ true
        → all_ascii_digits (if b then digit_glyph false (n % 10) ∷ acc
        else digits_onto k 10 false (n / 10) (digit_glyph false (n % 10) ∷ acc)) ≡ true
    go true one more = one
    go false one more = more

decimal_digits : (n : ℕ) → all_ascii_digits (decimal n) ≡ true
unfolding digits
decimal_digits n = onto_digits 64 n [] refl

unknown_word_is : (k : ℕ) → is_unknown_word (unknown_name k) ≡ true
unknown_word_is k = decimal_digits (suc k)

some_keyword : (w : List ℕ) → is_unknown_word w ≡ true → is_none (keyword_of w) ≡ false
unfolding keyword_of
some_keyword w e =
    go (bytes_eq w (codes "vars")) (bytes_eq w (codes "if")) (bytes_eq w (codes "else"))
    (bytes_eq w (codes "while")) (bytes_eq w (codes "for")) (bytes_eq w (codes "assume"))
    (bytes_eq w (codes "assert")) (bytes_eq w (codes "any")) (is_unknown_word w)
    (is_some (words.keyword_of w)) e
  where
    go : (a b c d f g h i u l : Bool) → u ≡ true
        → is_none (if a then Some vars_word
        else (if b then Some if_word
        else (if c then Some else_word
        else (if d then Some while_word
        else (if f then Some for_word
        else (if g then Some assume_word
        else (if h then Some assert_word
        else (if i then Some any_word
        else (if u then Some unknown_word
        else (if l then Some loop_word else None)))))))))) ≡ false
    go true b c d f g h i u l e = refl
    go false true c d f g h i u l e = refl
    go false false true d f g h i u l e = refl
    go false false false true f g h i u l e = refl
    go false false false false true g h i u l e = refl
    go false false false false false true h i u l e = refl
    go false false false false false false true i u l e = refl
    go false false false false false false false true u l e = refl
    go false false false false false false false false true l e = refl
    go false false false false false false false false false l e = absurd (cc)

unknown_is_no_name : (k : ℕ) → is_plain_word (unknown_name k) ≡ false
unknown_is_no_name k =
    ap (λ b. is_word_text (unknown_name k) && b) (some_keyword (unknown_name k) (unknown_word_is k))
    ∙ and-false (is_word_text (unknown_name k))

pub none_unknown : (names : List (List ℕ)) → All (λ w. is_plain_word w ≡ true) names
    → HasNoUnknown names
none_unknown names plain k = go (place_of names (unknown_name k)) refl
  where
    go : (o : Option ℕ) → place_of names (unknown_name k) ≡ o → o ≡ None
    go None e = refl
    go (Some i) e =
        absurd (not_both (is_plain_word (unknown_name k))
        (ap is_plain_word (sym (place_stands names (unknown_name k) i e))
        ∙ plain i [] (place_within names (unknown_name k) i e)) (unknown_is_no_name k))
