-- From an offset to the token that stands there and those behind it.
--   Ends ts, behind_ends     the end of a text is its last token, and no other
--   tokens_from-at           the tokens from an offset on are the next one and those behind it; guard_from-at, guard_from-end: in a guard
--   is_word-letter           a letter may stand in a word
use Rattle.std.proofs.Common.{subst, ◌≢◌, ℕ, zero, suc, ◌-◌, List, [], ◌∷◌, Some, None, ◌≡◌, ◌+◌, ◌<◌, ◌≤◌, true, false, refl, sym, ap, ap₂, get_or, ◌∙◌, length, take, drop, arith, drop-drop, drop_of_length-le, Bool, not, ◌==◌, nat_lt, ◌^◌, Option, if◌then◌else◌, ◌||◌, take_while, slice_index}
use Rattle.std.proofs.lemmas.List.Sums.{take_while-cons}
use Rattle.std.proofs.lemmas.Bool.{cond_both, cond-true}
use Rattle.std.specs.Option.{option_map_or}
use Rattle.std.specs.Char.{is_ascii_alphabetic, is_ascii_digit}
use Rattle.std.specs.Str.Parse.{digits_value}
use Rattle.poly_text.specs.Tokens.{is_blank, is_sign, comment_len, word_at, digits_at, len_at, blank_len, start_of}
use Rattle.loop_model.specs.Words.{Keyword, keyword_of, is_word, when_word}
use Rattle.poly_text.specs.Lexemes.{Lexeme, name, keyword, large, bad, the_end, Placed, is_item, lexeme_at, item_of, opens_guard, placed_behind, sign, word_of, number_of, item, tokens_from, guard_from}
use Rattle.std.proofs.lemmas.List.{length-take, take_min, get_or-drop, length-drop}
use Rattle.std.specs.List.{prefix_len}
use Rattle.std.specs.Int.{is_in_range}
use Rattle.poly_text.specs.NextToken.{tokens_behind, items_behind}

pub data Ends : List Placed → Type 0 where
  ends_here : {at : ℕ} → Ends (record { at = at; lexeme = the_end } ∷ [])
  ends_later : {t : Placed} {ts : List Placed} → t.lexeme ≢ the_end → Ends ts → Ends (t ∷ ts)

if_goes_on : (b : Bool) (x y : Lexeme) → x ≢ the_end → y ≢ the_end → (if b then x else y) ≢ the_end
if_goes_on true x y h k = h
if_goes_on false x y h k = k

word_goes_on : (w : List ℕ) (o : Option Keyword) → option_map_or keyword o (name w) ≢ the_end
word_goes_on w None e = cc
word_goes_on w (Some k) e = cc

pub lexeme_goes_on : (c : ℕ) (cs : List ℕ) → lexeme_at (c ∷ cs) ≢ the_end
unfolding lexeme_at
lexeme_goes_on c cs =
    if_goes_on (is_ascii_alphabetic c) _ _ (word_goes_on (word_at (c ∷ cs))
    (keyword_of (word_at (c ∷ cs))))
    (if_goes_on (is_ascii_digit c) _ _
    (if_goes_on (nat_lt (digits_value 10 (digits_at (c ∷ cs))) (2 ^ 127)) _ large (λ e. cc)
    (λ e. cc)) (if_goes_on (is_sign c) _ bad (λ e. cc) (λ e. cc)))

item_goes_on : (c : ℕ) → item_of c ≢ the_end
item_goes_on c = if_goes_on (c == 123) _ _ (λ e. cc) (if_goes_on (is_item c) _ bad (λ e. cc)
    (λ e. cc))

pub behind_ends : (g : Bool) (at k : ℕ) (text : List ℕ) → Ends (placed_behind g at k text)
unfolding placed_behind
behind_ends g at k [] = ends_here
behind_ends g at (suc k) (c ∷ cs) = behind_ends g (suc at) k cs
behind_ends false at zero (c ∷ cs) =
    cond_both (is_blank c) _ _ Ends (λ e. behind_ends false (suc at) 0 cs)
    (λ e. cond_both (c == 35) _ _ Ends (λ e. behind_ends false (suc at) (comment_len cs) cs)
    (λ e. ends_later (lexeme_goes_on c cs) (behind_ends (opens_guard (lexeme_at (c ∷ cs))) (suc at)
    (len_at (c ∷ cs) - 1) cs)))
behind_ends true at zero (c ∷ cs) =
    cond_both (is_blank c) _ _ Ends (λ e. behind_ends true (suc at) 0 cs)
    (λ e. cond_both (c == 35) _ _ Ends (λ e. behind_ends true (suc at) (comment_len cs) cs)
    (λ e. ends_later (item_goes_on c) (behind_ends (not (c == 123)) (suc at) 0 cs)))

-- the tokens of a text that begins with a token, at the offset at; g says whether a guard goes on
abbrev pub lexeme_in : Bool → ℕ → List ℕ → Lexeme
lexeme_in false c cs = lexeme_at (c ∷ cs)
lexeme_in true c cs = item_of c

abbrev pub goes_on : Bool → ℕ → List ℕ → Bool
goes_on false c cs = opens_guard (lexeme_at (c ∷ cs))
goes_on true c cs = not (c == 123)

abbrev pub skipped : Bool → ℕ → List ℕ → ℕ
skipped false c cs = len_at (c ∷ cs) - 1
skipped true c cs = 0

abbrev pub placed_here : Bool → ℕ → List ℕ → List Placed
placed_here g at [] = record { at = at; lexeme = the_end } ∷ []
placed_here g at (c ∷ cs) = record { at = at; lexeme = lexeme_in g c cs } ∷ placed_behind
    (goes_on g c cs) (suc at) (skipped g c cs) cs

pub placed_behind-zero : (g : Bool) (at c : ℕ) (cs : List ℕ) → placed_behind g at 0 (c ∷ cs)
    ≡ (if is_blank c then placed_behind g (suc at) 0 cs
    else (if c == 35 then placed_behind g (suc at) (comment_len cs) cs
    else placed_here g at (c ∷ cs)))
unfolding placed_behind
placed_behind-zero false at c cs = refl
placed_behind-zero true at c cs = refl

pub placed_behind-suc : (g : Bool) (at k c : ℕ) (cs : List ℕ) → placed_behind g at (suc k) (c ∷ cs)
    ≡ placed_behind g (suc at) k cs
unfolding placed_behind
placed_behind-suc g at k c cs = refl

pub placed_behind-nil : (g : Bool) (at k : ℕ) → placed_behind g at k [] ≡ record {
  at = at;
  lexeme = the_end;
} ∷ []
unfolding placed_behind
placed_behind-nil g at k = refl

placed_behind-drop : (g : Bool) (at k : ℕ) (text : List ℕ) → k ≤ length text
    → placed_behind g at k text ≡ placed_behind g (at + k) 0 (drop k text)
placed_behind-drop g at zero text within = let e : at ≡ at + 0 = omega arith in
    ap (λ n. placed_behind g n 0 text) e
placed_behind-drop g at (suc k) [] within = absurd (omega arith)
placed_behind-drop g at (suc k) (c ∷ cs) within = let e : suc at + k ≡ at + suc k = omega arith in
    placed_behind-suc g at k c cs ∙ placed_behind-drop g (suc at) k cs (omega arith)
    ∙ ap (λ n. placed_behind g n 0 (drop k cs)) e

-- ---- blanks have no tokens, and what stands behind them is a token or the end
abbrev Stands : Bool → ℕ → List ℕ → Type 0
Stands g n text = (at : ℕ) → placed_behind g at n text ≡ placed_here g (at + n) (drop n text)

record Seen (g : Bool) (text : List ℕ) (n : ℕ) : Type 0 where
  tokens : (at : ℕ) → placed_behind g at 0 text ≡ placed_here g (at + n) (drop n text)
  behind : Stands g n text

at_once : (g : Bool) (at : ℕ) (text : List ℕ) → placed_here g at text ≡ placed_here g (at + 0) text
at_once g at text = let e : at ≡ at + 0 = omega arith in ap (λ k. placed_here g k text) e

one_later : (g : Bool) (at n c : ℕ) (cs : List ℕ) → placed_here g (suc at + n) (drop n cs)
    ≡ placed_here g (at + suc n) (drop (suc n) (c ∷ cs))
one_later g at n c cs = let e : suc at + n ≡ at + suc n = omega arith in
    ap (λ k. placed_here g k (drop n cs)) e

stands_later : (g : Bool) (n c : ℕ) (cs : List ℕ) → Stands g n cs → Stands g (suc n) (c ∷ cs)
stands_later g n c cs h = λ at. placed_behind-suc g at n c cs ∙ h (suc at) ∙ one_later g at n c cs

seen_by : (g blank hash : Bool) (n m c : ℕ) (cs : List ℕ) → Seen g cs n → Stands g m cs
    → ((at : ℕ) → placed_behind g at 0 (c ∷ cs) ≡ (if blank then placed_behind g (suc at) 0 cs
    else (if hash then placed_behind g (suc at) m cs else placed_here g at (c ∷ cs))))
    → Seen g (c ∷ cs) (if blank then suc n else (if hash then suc m else 0))
seen_by g true hash n m c cs blanks comment is = record {
  tokens = λ at. is at
      ∙ blanks.tokens (suc at) ∙ one_later g at n c cs;
  behind = stands_later g n c cs blanks.behind;
}
seen_by g false true n m c cs blanks comment is = record {
  tokens = λ at. is at ∙ comment (suc at)
      ∙ one_later g at m c cs;
  behind = stands_later g m c cs comment;
}
seen_by g false false n m c cs blanks comment is = record {
  tokens = λ at. is at
      ∙ at_once g at (c ∷ cs);
  behind = λ at. is at ∙ at_once g at (c ∷ cs);
}

seen : (g : Bool) (text : List ℕ) → Seen g text (blank_len text) × Stands g (comment_len text) text
seen g [] = let nothing = λ (at : ℕ). placed_behind-nil g at 0 ∙ at_once g at [] in
    (record { tokens = nothing; behind = nothing }, nothing)
seen g (c ∷ cs) = let (blanks, comment) = seen g cs in (
  seen_by g (is_blank c) (c == 35) (blank_len cs) (comment_len cs) c cs blanks comment
      (λ at. placed_behind-zero g at c cs),
  cond_both (c == 10) (suc (blank_len cs)) (suc (comment_len cs)) (λ n. Stands g n (c ∷ cs))
      (λ e. stands_later g (blank_len cs) c cs blanks.behind) (λ e. stands_later g (comment_len cs)
      c cs comment),
)

-- the token at the front and what follows it
pub take-length-take : (n : ℕ) (xs : List ℕ) → take (length (take n xs)) xs ≡ take n xs
take-length-take n xs = ap (λ k. take k xs) (length-take n xs) ∙ take_min n xs

pub takes_one : (p : ℕ → Bool) (c : ℕ) (cs : List ℕ) → p c ≡ true
    → 0 < length (take_while p (c ∷ cs))
takes_one p c cs passes = subst (λ w. 0 < length w) (sym (take_while-cons p c cs
    ∙ cond-true (p c) (c ∷ take_while p cs) [] passes)) (omega arith)

takes_few : (p : ℕ → Bool) (xs : List ℕ) → length (take_while p xs) ≤ length xs
takes_few p xs = omega (arith, length-take (prefix_len p xs) xs)

pub is_word-letter : (c : ℕ) → is_ascii_alphabetic c ≡ true → is_word c ≡ true
is_word-letter c letter = go (is_in_range 48 57 c) (is_in_range 65 90 c) (is_in_range 97 122 c)
    (c == 95) letter
  where
    go : (digit upper lower underscore : Bool) → (upper || lower) ≡ true
        → ((digit || upper) || lower || underscore) ≡ true
    go true upper lower underscore is = refl
    go false true lower underscore is = refl
    go false false true underscore is = refl
    go false false false underscore is = absurd (cc)

len_by : (P : ℕ → Type 0) (c : ℕ) (cs : List ℕ) → (is_ascii_alphabetic c ≡ true
    → P (length (word_at (c ∷ cs)))) → (is_ascii_digit c ≡ true → P (length (digits_at (c ∷ cs))))
    → P 1 → P (len_at (c ∷ cs))
len_by P c cs word digits one = cond_both (is_ascii_alphabetic c) _ _ P word
    (λ e. cond_both (is_ascii_digit c) _ _ P digits (λ e. one))

pub len_some : (c : ℕ) (cs : List ℕ) → 0 < len_at (c ∷ cs)
len_some c cs = len_by (λ n. 0 < n) c cs (λ letter.
    takes_one is_word c cs (is_word-letter c letter)) (λ digit. takes_one is_ascii_digit c cs
    digit) (omega arith)

len_within : (c : ℕ) (cs : List ℕ) → len_at (c ∷ cs) ≤ suc (length cs)
len_within c cs = len_by (λ n. n ≤ suc (length cs)) c cs (λ letter. takes_few is_word (c ∷ cs))
    (λ digit. takes_few is_ascii_digit (c ∷ cs)) (omega arith)

module _ (text : List ℕ) (start c : ℕ) (cs : List ℕ) (is : drop start text ≡ c ∷ cs) where
  rest : (g : Bool) (n : ℕ) → 0 < n → n ≤ suc (length cs) → placed_behind g (suc start) (n - 1) cs
      ≡ placed_behind g (start + n) 0 (drop (start + n) text)
  rest g zero some within = absurd (omega arith)
  rest g (suc n) some within =
      let e : suc n - 1 ≡ n = omega arith in let f : suc start + n ≡ start + suc n = omega arith in
      ap (λ k. placed_behind g (suc start) k cs) e ∙ placed_behind-drop g (suc start) n cs
      (omega arith) ∙ ap (λ k. placed_behind g k 0 (drop n cs)) f
      ∙ ap (λ xs. placed_behind g (start + suc n) 0 (drop (suc n) xs)) (sym is)
      ∙ ap (λ xs. placed_behind g (start + suc n) 0 xs) (drop-drop (suc n) start text)

  first : slice_index text start ≡ c
  first = let e : start ≡ start + 0 = omega arith in ap (λ k. get_or text k 0) e
      ∙ sym (get_or-drop start text 0 0) ∙ ap (λ xs. get_or xs 0 0) is

  -- no token is the end
  behind_token : (x : Lexeme) (end : ℕ) → x ≢ the_end
      → placed_behind (opens_guard x) end 0 (drop end text) ≡ tokens_behind text x end
  behind_token the_end end more = absurd (more refl)
  behind_token (keyword when_word) end more = refl
  behind_token x end more = refl

  token_here : record { at = start; lexeme = lexeme_at (c ∷ cs) } ∷ placed_behind
      (opens_guard (lexeme_at (c ∷ cs))) (suc start) (len_at (c ∷ cs) - 1) cs
      ≡ record { at = start; lexeme = lexeme_at (c ∷ cs) } ∷ tokens_behind text (lexeme_at (c ∷ cs))
      (start + len_at (c ∷ cs))
  token_here = ap (λ ts. record { at = start; lexeme = lexeme_at (c ∷ cs) } ∷ ts)
      (rest (opens_guard (lexeme_at (c ∷ cs))) (len_at (c ∷ cs)) (len_some c cs) (len_within c cs)
      ∙ behind_token (lexeme_at (c ∷ cs)) (start + len_at (c ∷ cs)) (lexeme_goes_on c cs))

-- by the tests of its first byte
pub lexeme_cons : (c : ℕ) (cs : List ℕ) (letter digit known : Bool) → is_ascii_alphabetic c ≡ letter
    → is_ascii_digit c ≡ digit → is_sign c ≡ known
    → lexeme_at (c ∷ cs) ≡ (if letter then word_of (word_at (c ∷ cs))
    else (if digit then number_of (digits_value 10 (digits_at (c ∷ cs)))
    else (if known then sign c else bad)))
unfolding lexeme_at
lexeme_cons c cs letter digit known e f g =
    ap (λ b. if b then word_of (word_at (c ∷ cs))
    else (if is_ascii_digit c then number_of (digits_value 10 (digits_at (c ∷ cs)))
    else (if is_sign c then sign c else bad))) e
    ∙ ap₂ (λ b k. if letter then word_of (word_at (c ∷ cs))
    else (if b then number_of (digits_value 10 (digits_at (c ∷ cs)))
    else (if k then sign c else bad))) f g

pub len_cons : (c : ℕ) (cs : List ℕ) (letter digit : Bool) → is_ascii_alphabetic c ≡ letter
    → is_ascii_digit c ≡ digit
    → len_at (c ∷ cs) ≡ (if letter then length (word_at (c ∷ cs))
    else (if digit then length (digits_at (c ∷ cs)) else 1))
len_cons c cs letter digit e f = ap₂ (λ b d. if b then length (word_at (c ∷ cs))
    else (if d then length (digits_at (c ∷ cs)) else 1)) e f

at_front : (text : List ℕ) (start : ℕ) (here : List ℕ) → drop start text ≡ here
    → placed_here false start here ≡ record { at = start; lexeme = lexeme_at here } ∷ tokens_behind
    text (lexeme_at here) (start + len_at here)
unfolding lexeme_at
at_front text start [] is = refl
at_front text start (c ∷ cs) is = token_here text start c cs is

item_at_front : (text : List ℕ) (start : ℕ) (here : List ℕ) → drop start text ≡ here
    → start < length text → (x : Lexeme) → x ≡ item_of (slice_index text start)
    → placed_here true start here ≡ record { at = start; lexeme = x } ∷ items_behind text x
    (start + 1)
item_at_front text start [] is within x lexeme = let none : length (drop start text) ≡ 0 =
    ap length is in absurd (omega (arith, length-drop start text))
item_at_front text start (c ∷ cs) is within x lexeme =
    ap (λ ts. record { at = start; lexeme = item_of c } ∷ ts) (go (c == 123) (is_item c))
    ∙ sym (ap (λ y. record { at = start; lexeme = y } ∷ items_behind text y (start + 1)) (lexeme
    ∙ ap (λ b. item_of b) (first text start c cs is)))
  where
    go : (opens known : Bool) → placed_behind (not opens) (suc start) 0 cs ≡ items_behind text
        (if opens then sign c else (if known then item c else bad)) (start + 1)
    go true known = rest text start c cs is false 1 (omega arith) (omega arith)
    go false true = rest text start c cs is true 1 (omega arith) (omega arith)
    go false false = rest text start c cs is true 1 (omega arith) (omega arith)

-- from an offset to the token behind the blanks there
to_token : (g : Bool) (text : List ℕ) (from : ℕ) → placed_behind g from 0 (drop from text)
    ≡ placed_here g (start_of text from) (drop (start_of text from) text)
to_token g text from = (seen g (drop from text)).0.tokens from
    ∙ ap (placed_here g (start_of text from)) (drop-drop (blank_len (drop from text)) from text)

-- the tokens from an offset on are the next one and those behind it
pub tokens_from-at : (text : List ℕ) (from at n : ℕ) (x : Lexeme) → at ≡ start_of text from
    → x ≡ lexeme_at (drop at text) → n ≡ len_at (drop at text)
    → tokens_from text from ≡ record { at = at; lexeme = x } ∷ tokens_behind text x (at + n)
tokens_from-at text from at n x is lexeme len =
    to_token false text from ∙ ap (λ k. placed_here false k (drop k text)) (sym is)
    ∙ at_front text at (drop at text) refl
    ∙ sym (ap₂ (λ x n. record { at = at; lexeme = x } ∷ tokens_behind text x (at + n)) lexeme len)

pub guard_from-at : (text : List ℕ) (from at : ℕ) (x : Lexeme) → at ≡ start_of text from
    → at < length text → x ≡ item_of (slice_index text at)
    → guard_from text from ≡ record { at = at; lexeme = x } ∷ items_behind text x (at + 1)
guard_from-at text from at x is within lexeme = to_token true text from
    ∙ ap (λ k. placed_here true k (drop k text)) (sym is)
    ∙ item_at_front text at (drop at text) refl within x lexeme

pub guard_from-end : (text : List ℕ) (from at : ℕ) → at ≡ start_of text from → length text ≤ at
    → guard_from text from ≡ record { at = at; lexeme = the_end } ∷ []
guard_from-end text from at is past = to_token true text from
    ∙ ap (λ k. placed_here true k (drop k text)) (sym is)
    ∙ ap (placed_here true at) (drop_of_length-le text past)
