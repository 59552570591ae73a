-- Blanks behind a document change nothing.
--   blanks_read      a text that is what its tokens print as is read as the same value with blanks behind it
--   blanks_utf8      blanks are characters
use Rattle.std.proofs.Common.{◌≡◌, ℕ, Bool, true, false, cond, ◌&&◌, List, [], ◌∷◌, ◌++◌, refl, sym, ap, ap₂, ◌∙◌, append_assoc, append-nil, inl, inr, arith}
use Rattle.std.specs.Prelude.{option_and_then}
use Rattle.std.specs.Str.{IsAscii, IsUtf8}
use Rattle.std.proofs.lemmas.Str.{IsUtf8-append, IsUtf8-from_ascii}
use Rattle.std.proofs.lemmas.Str.Ascii.{IsAscii-cons}
use Rattle.json.specs.Token.{Token, begin_object, end_object, begin_array, end_array, key, string, number, boolean, null, bad}
use Rattle.json.specs.Word.{ends_word, word}
use Rattle.json.specs.Lex.{Lexeme, token, comma, colon, string_token, lex, between, fresh, punctuate, tokens}
use Rattle.json.specs.Print.{escape, quoted, token_text, begins, ends, separator, print_from, print, IsPrintableOrBad, ArePrintableOrBad}
use Rattle.json.specs.Json as json
use Rattle.json.proofs.Printed.Strings.{content-escape, lex-escape}
use Rattle.json.proofs.Printed.Numbers.{lex-number, in_word-ended}
use Rattle.json.proofs.Numbered.{ArePrintableOrBad-tokens}
use Rattle.serde_json.specs.Read.{read, of_json, max_depth}
use Rattle.cert_form.specs.Written.{AreBlanks}

abbrev token_lexemes : Token → List Lexeme
token_lexemes begin_object = token begin_object ∷ []
token_lexemes end_object = token end_object ∷ []
token_lexemes begin_array = token begin_array ∷ []
token_lexemes end_array = token end_array ∷ []
token_lexemes (key s) = token (string s) ∷ colon ∷ []
token_lexemes (string s) = token (string s) ∷ []
token_lexemes (number s) = token (number s) ∷ []
token_lexemes (boolean b) = token (boolean b) ∷ []
token_lexemes null = token null ∷ []
token_lexemes bad = []

lex_quoted : (s r : List ℕ) → lex between (quoted s ++ r) ≡ token (string s) ∷ lex between r
unfolding lex
lex_quoted s r =
    let e = append_assoc (escape s) (34 ∷ []) r in
    ap (λ l. lex between (34 ∷ l)) e ∙ ap₂ (λ o l. token (string_token o) ∷ l) (content-escape s r)
    (lex-escape s r)

lex_token : (t : Token) (r : List ℕ) → IsPrintableOrBad t → (ends t ≡ true → ends_word r ≡ true)
    → lex between (token_text t ++ r) ≡ token_lexemes t ++ lex between r
unfolding lex word
lex_token begin_object r h ended = refl
lex_token end_object r h ended = refl
lex_token begin_array r h ended = refl
lex_token end_array r h ended = refl
lex_token (key s) r h ended = ap (lex between) (append_assoc (quoted s) (58 ∷ []) r)
    ∙ lex_quoted s (58 ∷ r)
lex_token (string s) r h ended = lex_quoted s r
lex_token (number s) r h ended = lex-number s r h (ended refl)
lex_token (boolean true) r h ended = ap₂ (λ b l. token (cond b (boolean true) bad) ∷ l) (ended refl)
    (in_word-ended r (ended refl))
lex_token (boolean false) r h ended = ap₂ (λ b l. token (cond b (boolean false) bad) ∷ l)
    (ended refl) (in_word-ended r (ended refl))
lex_token null r h ended = ap₂ (λ b l. token (cond b null bad) ∷ l) (ended refl)
    (in_word-ended r (ended refl))
lex_token bad r h ended = refl

lex_separator : (b : Bool) (r : List ℕ) → lex between (cond b (44 ∷ []) [] ++ r)
    ≡ cond b (comma ∷ []) [] ++ lex between r
unfolding lex
lex_separator true r = refl
lex_separator false r = refl

-- behind a value stands a comma, a closing bracket or what stands behind the tokens
ends_before : (ts : List Token) (g : List ℕ) → ends_word g ≡ true
    → ends_word (print_from true ts ++ g) ≡ true
unfolding print_from
ends_before [] g h = h
ends_before (begin_object ∷ ts) g h = refl
ends_before (end_object ∷ ts) g h = refl
ends_before (begin_array ∷ ts) g h = refl
ends_before (end_array ∷ ts) g h = refl
ends_before (key s ∷ ts) g h = refl
ends_before (string s ∷ ts) g h = refl
ends_before (number s ∷ ts) g h = refl
ends_before (boolean b ∷ ts) g h = refl
ends_before (null ∷ ts) g h = refl
ends_before (bad ∷ ts) g h = refl

-- the lexemes of tokens, the first behind a value or not
abbrev lexemes : Bool → List Token → List Lexeme
lexemes c [] = []
lexemes c (t ∷ ts) =
    cond (c && begins t) (comma ∷ []) [] ++ (token_lexemes t ++ lexemes (ends t) ts)

blanks_lexed : (g : List ℕ) → AreBlanks g → lex between g ≡ []
unfolding lex
blanks_lexed [] h = refl
blanks_lexed (x ∷ g) (inl e, h) = rw e (blanks_lexed g h)
blanks_lexed (x ∷ g) (inr e, h) = rw e (blanks_lexed g h)

blanks_end : (g : List ℕ) → AreBlanks g → ends_word g ≡ true
blanks_end [] h = refl
blanks_end (x ∷ g) (inl is, h) = rw is
blanks_end (x ∷ g) (inr is, h) = rw is

module _ (g : List ℕ) (blanks : AreBlanks g) where
  lexed : (c : Bool) (ts : List Token) → ArePrintableOrBad ts
      → lex between (print_from c ts ++ g) ≡ lexemes c ts
  unfolding print_from lex
  lexed c [] h = blanks_lexed g blanks
  lexed c (t ∷ ts) h =
      let rest : List ℕ = print_from (ends t) ts in
      ap (lex between) (append_assoc (separator c t) (token_text t ++ rest) g
      ∙ ap (λ l. separator c t ++ l) (append_assoc (token_text t) rest g))
      ∙ lex_separator (c && begins t) (token_text t ++ (rest ++ g))
      ∙ ap (λ l. cond (c && begins t) (comma ∷ []) [] ++ l)
      (lex_token t (rest ++ g) h.0 (λ e. ap (λ b. ends_word (print_from b ts ++ g)) e
      ∙ ends_before ts g (blanks_end g blanks))
      ∙ ap (λ l. token_lexemes t ++ l) (lexed (ends t) ts h.1))

  text_lexed : (text : List ℕ) → text ≡ print (tokens text)
      → lex between (text ++ g) ≡ lexemes false (tokens text)
  text_lexed text printed = ap (λ s. lex between (s ++ g)) printed
      ∙ lexed false (tokens text) (ArePrintableOrBad-tokens text)

pub blanks_read : (g : List ℕ) → AreBlanks g → (text : List ℕ) → text ≡ print (tokens text)
    → read (text ++ g) ≡ read text
blanks_read g blanks text printed = ap (λ ls. option_and_then of_json (option_and_then (λ p.
    json.if_last p.0 p.1) (json.value max_depth (punctuate fresh ls))))
    (text_lexed g blanks text printed ∙ sym (text_lexed [] tt text printed)
    ∙ ap (lex between) (append-nil text))

blanks_ascii : (g : List ℕ) → AreBlanks g → IsAscii g
blanks_ascii [] h = λ i. omega arith
blanks_ascii (x ∷ g) (inl e, h) = IsAscii-cons x g (omega (arith, e)) (blanks_ascii g h)
blanks_ascii (x ∷ g) (inr e, h) = IsAscii-cons x g (omega (arith, e)) (blanks_ascii g h)

pub blanks_utf8 : (text g : List ℕ) → IsUtf8 text → AreBlanks g → IsUtf8 (text ++ g)
blanks_utf8 text g utf8 blanks = IsUtf8-append text g utf8 (IsUtf8-from_ascii g
    (blanks_ascii g blanks))
