-- What tokens take.
use Rattle.std.proofs.Common.{◌≡◌, ◌≢◌, ◌∙◌, ℕ, ◌+◌, ◌-◌, ◌<◌, ◌≤◌, List, [], ◌∷◌, true, false, refl, sym, ap, get_or, subst, length, take, drop, arith, Some, None, IsTrue, nat_lt, ◌^◌, Option, Bool, if◌then◌else◌, take_while, slice_get}
use Rattle.std.proofs.lemmas.List.{get_or-drop, length-drop}
use Rattle.std.proofs.lemmas.List.Folds.{length-prefix_len}
use Rattle.std.proofs.lemmas.List.Sums.{prefix_len_passes, prefix_len_stops, take_while-cons}
use Rattle.std.specs.List.{prefix_len, list_all}
use Rattle.std.specs.Char.{is_ascii_alphabetic, is_ascii_digit}
use Rattle.std.specs.Str.{all_ascii_digits}
use Rattle.std.specs.Str.Parse.{digits_value}
use Rattle.std.specs.Option.{option_map_or}
use Rattle.poly_text.specs.Tokens.{is_sign, start_of, len_at, word_at, digits_at, IsLongestRun}
use Rattle.poly_text.specs.Lexemes.{Lexeme, name, keyword, number, large, sign, bad, the_end, word_of, number_of, lexeme_at}
use Rattle.poly_text.specs.NextToken.{seen_lexeme, IsShaped}
use Rattle.poly_text.specs.declared.lexemes.Lexeme as code
use Rattle.poly_text.specs.declared.lexemes.Lexeme.TheVariants as code_lexeme
use Rattle.loop_model.specs.Words.{Keyword, keyword_of, is_word, is_word_text}
use Rattle.poly_text.proofs.Lexing.{take-length-take, len_some, lexeme_cons, is_word-letter}
use Rattle.std.proofs.lemmas.Bool.{and_from, cond-true, cond_both}

is_longest : (p : ℕ → Bool) (text : List ℕ) (start : ℕ)
    → IsLongestRun p text start (start + length (take_while p (drop start text)))
is_longest p text start = record {
  pass = λ k from below.
      let e : start + (k - start) ≡ k = omega arith in
      let here : k - start < prefix_len p (drop start text) =
      omega (arith, length-prefix_len p (drop start text)) in
      subst (λ n. p (get_or text n 0) ≡ true) e
      (subst (λ c. p c ≡ true) (get_or-drop start text (k - start) 0)
      (prefix_len_passes p (drop start text) (k - start) 0 here));
  stop = λ within.
      let e : length (take_while p (drop start text)) ≡ prefix_len p (drop start text) =
      length-prefix_len p (drop start text) in
      let here : prefix_len p (drop start text) < length (drop start text) =
      omega (arith, length-drop start text) in
      subst (λ n. p (get_or text (start + n) 0) ≡ false) (sym e)
      (subst (λ c. p c ≡ false) (get_or-drop start text (prefix_len p (drop start text)) 0)
      (prefix_len_stops p (drop start text) 0 here));
}

module _ (text : List ℕ) (start end : ℕ) where
  word_shaped : (o : Option Keyword) (w : List ℕ) → IsLongestRun is_word text start end
      → IsShaped text start end (option_map_or keyword o (name w))
  word_shaped None w run = run
  word_shaped (Some k) w run = run

  number_shaped : (fits : Bool) (n : ℕ) → IsLongestRun is_ascii_digit text start end
      → IsShaped text start end (if fits then number n else large)
  number_shaped true n run = run
  number_shaped false n run = run

shape_here : (text : List ℕ) (start : ℕ) (here : List ℕ) → drop start text ≡ here
    → start ≤ length text → IsShaped text start (start + len_at here) (lexeme_at here)
unfolding lexeme_at
shape_here text start [] is within = let none : length (drop start text) ≡ 0 = ap length is in
    (omega (arith, length-drop start text), omega (arith, length-drop start text))
shape_here text start (c ∷ cs) is within = go (is_ascii_alphabetic c) (is_ascii_digit c) (is_sign c)
  where
    run : (p : ℕ → Bool) → IsLongestRun p text start (start + length (take_while p (c ∷ cs)))
    run p = subst (λ xs. IsLongestRun p text start (start + length (take_while p xs))) is
        (is_longest p text start)

    go : (letter digit known : Bool)
        → IsShaped text start (start + (if letter then length (word_at (c ∷ cs))
        else (if digit then length (digits_at (c ∷ cs)) else 1)))
        (if letter then word_of (word_at (c ∷ cs))
        else (if digit then number_of (digits_value 10 (digits_at (c ∷ cs)))
        else (if known then sign c else bad)))
    go true digit known = word_shaped text start _ (keyword_of (word_at (c ∷ cs)))
        (word_at (c ∷ cs)) (run is_word)
    go false true known = number_shaped text start _ (nat_lt (digits_value 10 (digits_at (c ∷ cs)))
        (2 ^ 127)) (digits_value 10 (digits_at (c ∷ cs))) (run is_ascii_digit)
    go false false true = refl
    go false false false = refl

pub token-shaped : (text : List ℕ) (at n : ℕ) (x : Lexeme) → at ≤ length text
    → x ≡ lexeme_at (drop at text) → n ≡ len_at (drop at text) → IsShaped text at (at + n) x
token-shaped text at n x within lexeme len = subst (λ n. IsShaped text at (at + n) x) (sym len)
    (subst (IsShaped text at (at + len_at (drop at text))) (sym lexeme)
    (shape_here text at (drop at text) refl within))

-- a token that isn't the end takes a byte
pub token-moves : (text : List ℕ) (from at n : ℕ) (l : code.Lexeme) → at ≡ start_of text from
    → seen_lexeme l ≡ lexeme_at (drop at text) → n ≡ len_at (drop at text) → l ≢ code_lexeme.End
    → from < at + n
unfolding lexeme_at
token-moves text from at n l is lexeme len more = go (drop at text) lexeme len
  where
    no_end : (l : code.Lexeme) → l ≢ code_lexeme.End → seen_lexeme l ≡ the_end → ⊥
    no_end code_lexeme.End more e = more refl
    no_end l more e = absurd (cc)

    go : (here : List ℕ) → seen_lexeme l ≡ lexeme_at here → n ≡ len_at here → from < at + n
    go [] e len = absurd (no_end l more e)
    go (c ∷ cs) e len = let some = len_some c cs in omega (arith, some, is, len)

run_passes : (p : ℕ → Bool) (cs : List ℕ) → list_all p (take_while p cs) ≡ true
run_passes p [] = refl
run_passes p (c ∷ cs) = subst (λ w. list_all p w ≡ true) (sym (take_while-cons p c cs))
    (cond_both (p c) (c ∷ take_while p cs) [] (λ w. list_all p w ≡ true)
    (λ e. and_from (p c) (list_all p (take_while p cs)) e (run_passes p cs)) (λ e. refl))

-- ---- the token that a text begins with
pub run_taken : (p : ℕ → Bool) (text : List ℕ) (n : ℕ) → n ≡ length (take_while p text)
    → take n text ≡ take_while p text
run_taken p text n len = ap (λ n. take n text) len ∙ take-length-take (prefix_len p text) text

pub digits_pass : (text : List ℕ) → IsTrue (all_ascii_digits (digits_at text))
digits_pass text = run_passes is_ascii_digit text

pub lexeme_none : (text : List ℕ) → None ≡ slice_get text 0 → the_end ≡ lexeme_at text
unfolding lexeme_at
lexeme_none [] is = refl
lexeme_none (c ∷ cs) is = absurd (cc)

pub word_passes : (text : List ℕ) (c : ℕ) → Some c ≡ slice_get text 0 → is_ascii_alphabetic c ≡ true
    → IsTrue (is_word_text (word_at text))
word_passes [] c is letter = absurd (cc)
word_passes (x ∷ xs) c is letter =
    let same : c ≡ x = cc in
    let first = ap is_ascii_alphabetic (sym same) ∙ letter in
    subst (λ w. is_word_text w ≡ true) (sym (take_while-cons is_word x xs
    ∙ cond-true (is_word x) (x ∷ word_at xs) [] (is_word-letter x first)))
    (and_from (is_ascii_alphabetic x) (list_all is_word (word_at xs)) first (run_passes is_word xs))

pub lexeme_by : (text : List ℕ) (c : ℕ) → Some c ≡ slice_get text 0 → (letter digit known : Bool)
    → is_ascii_alphabetic c ≡ letter → is_ascii_digit c ≡ digit → is_sign c ≡ known
    → (if letter then word_of (word_at text)
    else (if digit then number_of (digits_value 10 (digits_at text))
    else (if known then sign c else bad))) ≡ lexeme_at text
lexeme_by [] c is letter digit known e f g = absurd (cc)
lexeme_by (x ∷ xs) c is letter digit known e f g =
    let same : c ≡ x = cc in
    subst (λ x. (if letter then word_of (word_at (x ∷ xs))
    else (if digit then number_of (digits_value 10 (digits_at (x ∷ xs)))
    else (if known then sign c else bad))) ≡ lexeme_at (x ∷ xs)) same
    (sym (lexeme_cons c xs letter digit known e f g))
