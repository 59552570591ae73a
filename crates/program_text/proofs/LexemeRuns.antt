-- Texts that bytes spell: those whose kinds run through the lexer's places up to the end.
--   Place: outside, guarded, behind      outside of guards, in a guard, behind the end; `moves` leads from one to the next by the kind of a lexeme
--   alike              whether two places are the same
--   texts_spelled      grammars that lead from outside to behind the end have such texts
use Rattle.std.proofs.Common.{◌≡◌, ℕ, ◌^◌, List, [], ◌∷◌, ◌++◌, map, refl, subst, sym, ap, ap₂, ◌∙◌, Bool, true, false, not, ◌&&◌, ◌||◌, ◌==◌, nat_le, nat_lt, if◌then◌else◌, codes, decimal, Option, Some, None}
use Rattle.std.proofs.lemmas.Bool.{and_parts, eqb-true, leb-true, ltb-true}
use Rattle.loop_model.specs.Words as loop_words
use Rattle.program_text.specs.Words.{Keyword, vars_word, if_word, else_word, while_word, for_word, assume_word, assert_word, any_word, unknown_word, loop_word, keyword_of, is_plain_word}
use Rattle.grammars.specs.Kinds.{IsExact}
use Rattle.grammars.specs.Grammar.{Placed, State, Grammar, Language}
use Rattle.grammars.specs.Derivation.{Mark}
use Rattle.grammars.specs.FirstFault.{symbols_in, lexemes_of}
use Rattle.grammars.specs.Spelled.{AreSpelled}
use Rattle.grammars.proofs.Automata.{leads, leads_of, Runs, runs}
use Rattle.poly_text.specs.Tokens.{is_sign, comment_len}
use Rattle.program_text.specs.Lexemes.{Lexeme, name, keyword, number, large, sign, double, item, bad, the_end, is_item, item_of, lexeme_at, opens_guard, placed_behind, tokens, lexemes}
use Rattle.program_text.specs.Kinds.{Kind, a_name, a_number, a_large, an_item, an_end, no_kind, a_sign, a_double, a_keyword, kind_of}
use Rattle.program_text.proofs.Lexing.{placed_behind-zero}
use Rattle.program_text.proofs.SpelledLexing.{at_free, lexemes_in, lex-nil, no_blank, blank_ends, blank_lexed, sign_lexed, double_spelling, double_lexed, name_lexed, number_lexed}

pub data Place : Type 0 where
  outside guarded behind : Place

abbrev pub alike : Place → Place → Bool
alike outside outside = true
alike guarded guarded = true
alike behind behind = true
alike p q = false

pub alike_exact : IsExact alike
alike_exact = record { reflexive = reflexive; exact = exact }
  where
    reflexive : (p : Place) → alike p p ≡ true
    reflexive outside = refl
    reflexive guarded = refl
    reflexive behind = refl

    exact : (p q : Place) → alike p q ≡ true → p ≡ q
    exact outside outside e = refl
    exact guarded guarded e = refl
    exact behind behind e = refl
    exact p q e = absurd (cc)

abbrev pub moves : Place → Kind → Option Place
moves outside a_name = Some outside
moves outside a_number = Some outside
moves outside a_large = Some outside
moves outside an_end = Some behind
moves outside (a_sign c) = Some outside
moves outside (a_double d) = Some outside
moves outside (a_keyword if_word) = Some guarded
moves outside (a_keyword while_word) = Some guarded
moves outside (a_keyword k) = Some outside
moves guarded an_item = Some guarded
moves guarded (a_sign c) = if c == 123 then Some outside else None
moves p k = None

-- what bytes can't spell leads nowhere
genuine : (p : Place) (t : Bool) (k : Kind) (q : Place) → moves p (if t then k else no_kind)
    ≡ Some q → (t ≡ true) × (moves p k ≡ Some q)
genuine p true k q e = (refl, e)
genuine outside false k q e = absurd (cc)
genuine guarded false k q e = absurd (cc)
genuine behind false k q e = absurd (cc)

-- ---- one lexeme in front of a blank
large_lexed : (rest : List ℕ) → lexemes (codes "170141183460469231731687303715884105728" ++ 32
    ∷ rest) ≡ large ∷ lexemes (32 ∷ rest)
unfolding placed_behind lexeme_at
large_lexed rest = ap (λ ls. large ∷ ls) (at_free (32 ∷ rest) false 39 0 0)

abbrev spelling : Keyword → List ℕ
spelling vars_word = codes "vars"
spelling if_word = codes "if"
spelling else_word = codes "else"
spelling while_word = codes "while"
spelling for_word = codes "for"
spelling assume_word = codes "assume"
spelling assert_word = codes "assert"
spelling any_word = codes "any"
spelling unknown_word = codes "any1"
spelling loop_word = codes "init"

-- behind if and while stands a guard
keyword_lexed : (k : Keyword) (rest : List ℕ) → lexemes (spelling k ++ 32 ∷ rest) ≡ keyword k
    ∷ lexemes_in (placed_behind (opens_guard (keyword k)) 0 0 (32 ∷ rest))
unfolding placed_behind lexeme_at keyword_of loop_words.keyword_of
keyword_lexed vars_word rest = ap (λ ls. keyword vars_word ∷ ls)
    (at_free (32 ∷ rest) false 4 0 0)
keyword_lexed if_word rest = ap (λ ls. keyword if_word ∷ ls)
    (at_free (32 ∷ rest) true 2 0 0)
keyword_lexed else_word rest = ap (λ ls. keyword else_word ∷ ls)
    (at_free (32 ∷ rest) false 4 0 0)
keyword_lexed while_word rest = ap (λ ls. keyword while_word ∷ ls)
    (at_free (32 ∷ rest) true 5 0 0)
keyword_lexed for_word rest = ap (λ ls. keyword for_word ∷ ls)
    (at_free (32 ∷ rest) false 3 0 0)
keyword_lexed assume_word rest = ap (λ ls. keyword assume_word ∷ ls)
    (at_free (32 ∷ rest) false 6 0 0)
keyword_lexed assert_word rest = ap (λ ls. keyword assert_word ∷ ls)
    (at_free (32 ∷ rest) false 6 0 0)
keyword_lexed any_word rest = ap (λ ls. keyword any_word ∷ ls)
    (at_free (32 ∷ rest) false 3 0 0)
keyword_lexed unknown_word rest = ap (λ ls. keyword unknown_word ∷ ls)
    (at_free (32 ∷ rest) false 4 0 0)
keyword_lexed loop_word rest = ap (λ ls. keyword loop_word ∷ ls)
    (at_free (32 ∷ rest) false 4 0 0)

-- ---- bytes in a guard
abbrev guard_lexemes : List ℕ → List Lexeme
guard_lexemes bytes = lexemes_in (placed_behind true 0 0 bytes)

guard_blank : (rest : List ℕ) → guard_lexemes (32 ∷ rest) ≡ guard_lexemes rest
guard_blank rest = ap lexemes_in (placed_behind-zero true 0 32 rest) ∙ at_free rest true 1 0 0

none_of : (a b c d : Bool) → not (a || (b || (c || d))) ≡ true → (a ≡ false) × (d ≡ false)
none_of false false false false e = (refl, refl)
none_of a b c d e = absurd (cc)

item_lexed : (c : ℕ) (cs : List ℕ) → is_item c ≡ true → guard_lexemes (c ∷ cs) ≡ item c
    ∷ guard_lexemes cs
item_lexed c cs is =
    let range =
    and_parts (nat_le 33 c)
    (nat_le c 126 && not (c == 123 || (c == 125 || (c == 59 || c == 35)))) is in
    let apart = none_of (c == 123) (c == 125) (c == 59) (c == 35)
    (and_parts (nat_le c 126) (not (c == 123 || (c == 125 || (c == 59 || c == 35))))
    range.1).1 in
    let blank = no_blank c (leb-true 33 c range.0) in
    let here : List (Placed Lexeme) = record { at = 0; lexeme = item_of c } ∷ placed_behind
    (not (c == 123)) 1 0 cs in
    ap lexemes_in (placed_behind-zero true 0 c cs)
    ∙ ap (λ b. lexemes_in (if b then placed_behind true 1 0 cs
    else (if c == 35 then placed_behind true 1 (comment_len cs) cs else here))) blank
    ∙ ap (λ b. lexemes_in (if b then placed_behind true 1 (comment_len cs) cs else here)) apart.1
    ∙ ap (λ b. (if b then sign c else (if is_item c then item c else bad))
    ∷ lexemes_in (placed_behind (not b) 1 0 cs)) apart.0
    ∙ ap (λ b. (if b then item c else bad) ∷ lexemes_in (placed_behind true 1 0 cs)) is
    ∙ ap (λ ls. item c ∷ ls) (at_free cs true 1 0 0)

brace_lexed : (cs : List ℕ) → guard_lexemes (123 ∷ cs) ≡ sign 123 ∷ lexemes cs
brace_lexed cs = ap lexemes_in (placed_behind-zero true 0 123 cs)
    ∙ ap (λ ls. sign 123 ∷ ls) (at_free cs false 1 0 0)

-- ---- bytes from a place on
abbrev IsLexed : Place → List ℕ → List Lexeme → Type 0
IsLexed outside bytes ls = lexemes bytes ≡ ls
IsLexed guarded bytes ls = guard_lexemes bytes ≡ ls
IsLexed behind bytes ls = [] ≡ ls

abbrev Bytes : Place → List Lexeme → Type 0
Bytes p ls = (bytes : List ℕ) × IsLexed p bytes ls

module _ (ls : List Lexeme) where
  arrived : (p q : Place) → Some p ≡ Some q → Bytes q ls → Bytes p ls
  arrived p q e b = let same : q ≡ p = cc in subst (λ p. Bytes p ls) same b

  in_front : (x : Lexeme) (bs : List ℕ)
      → ((rest : List ℕ) → lexemes (bs ++ 32 ∷ rest) ≡ x ∷ lexemes (32 ∷ rest)) → Bytes outside ls
      → Bytes outside (x ∷ ls)
  in_front x bs h (bytes, is) = (
    bs ++ 32 ∷ bytes,
    h bytes ∙ ap (λ ls. x ∷ ls) (blank_lexed bytes
        ∙ is),
  )

  from_outside : (x : Lexeme) (p : Place) → moves outside (kind_of x) ≡ Some p → Bytes p ls
      → Bytes outside (x ∷ ls)
  from_outside (name w) p e b = let (plain, leads) = genuine outside (is_plain_word w) a_name p e in
      in_front (name w) w (λ rest. name_lexed w (32 ∷ rest) plain (blank_ends rest))
      (arrived outside p leads b)
  from_outside (keyword if_word) p e b = let (bytes, is) = arrived guarded p e b in (
    spelling if_word ++ 32 ∷ bytes,
    keyword_lexed if_word bytes
        ∙ ap (λ ls. keyword if_word ∷ ls) (guard_blank bytes ∙ is),
  )
  from_outside (keyword while_word) p e b = let (bytes, is) = arrived guarded p e b in (
    spelling while_word ++ 32 ∷ bytes,
    keyword_lexed while_word bytes
        ∙ ap (λ ls. keyword while_word ∷ ls) (guard_blank bytes ∙ is),
  )
  from_outside (keyword vars_word) p e b = in_front (keyword vars_word) (spelling vars_word)
      (keyword_lexed vars_word) (arrived outside p e b)
  from_outside (keyword else_word) p e b = in_front (keyword else_word) (spelling else_word)
      (keyword_lexed else_word) (arrived outside p e b)
  from_outside (keyword for_word) p e b = in_front (keyword for_word) (spelling for_word)
      (keyword_lexed for_word) (arrived outside p e b)
  from_outside (keyword assume_word) p e b = in_front (keyword assume_word) (spelling assume_word)
      (keyword_lexed assume_word) (arrived outside p e b)
  from_outside (keyword assert_word) p e b = in_front (keyword assert_word) (spelling assert_word)
      (keyword_lexed assert_word) (arrived outside p e b)
  from_outside (keyword any_word) p e b = in_front (keyword any_word) (spelling any_word)
      (keyword_lexed any_word) (arrived outside p e b)
  from_outside (keyword unknown_word) p e b = in_front (keyword unknown_word)
      (spelling unknown_word)
      (keyword_lexed unknown_word) (arrived outside p e b)
  from_outside (keyword loop_word) p e b = in_front (keyword loop_word) (spelling loop_word)
      (keyword_lexed loop_word) (arrived outside p e b)
  from_outside (number n) p e b =
      let (fits, leads) = genuine outside (nat_lt n (2 ^ 127)) a_number p e in
      in_front (number n) (decimal n) (λ rest.
      number_lexed n (32 ∷ rest) (ltb-true n (2 ^ 127) fits) (blank_ends rest))
      (arrived outside p leads b)
  from_outside large p e b = in_front large (codes "170141183460469231731687303715884105728")
      large_lexed (arrived outside p e b)
  from_outside (sign c) p e b = let (is, leads) = genuine outside (is_sign c) (a_sign c) p e in
      in_front (sign c) (c ∷ []) (λ rest. sign_lexed c rest is) (arrived outside p leads b)
  from_outside (double d) p e b = in_front (double d) (double_spelling d) (double_lexed d)
      (arrived outside p e b)
  from_outside (item c) p e b = let (is, leads) = genuine outside (is_item c) an_item p e in
      absurd (cc)
  from_outside bad p e b = absurd (cc)
  from_outside the_end p e b = let (bytes, is) = arrived behind p e b in
      ([], lex-nil ∙ ap (λ ls. the_end ∷ ls) is)

  from_guarded : (x : Lexeme) (p : Place) → moves guarded (kind_of x) ≡ Some p → Bytes p ls
      → Bytes guarded (x ∷ ls)
  from_guarded (name w) p e b = let (plain, leads) = genuine guarded (is_plain_word w) a_name p e in
      absurd (cc)
  from_guarded (number n) p e b = let (fits, leads) = genuine guarded (nat_lt n (2 ^ 127)) a_number
      p e in absurd (cc)
  from_guarded (sign c) p e b = let (is, leads) = genuine guarded (is_sign c) (a_sign c) p e in
      go (c == 123) refl leads
    where
      go : (t : Bool) → (c == 123) ≡ t → (if t then Some outside else None) ≡ Some p
          → Bytes guarded (sign c ∷ ls)
      go true h e = let (bytes, is) = arrived outside p e b in (
        123 ∷ bytes,
        brace_lexed bytes
            ∙ ap₂ (λ c ls. sign c ∷ ls) (sym (eqb-true c 123 h)) is,
      )
      go false h e = absurd (cc)
  from_guarded (item c) p e b = let (is, leads) = genuine guarded (is_item c) an_item p e in
      let (bytes, lexed) = arrived guarded p leads b in (
        c ∷ bytes,
        item_lexed c bytes is
            ∙ ap (λ ls. item c ∷ ls) lexed,
      )
  from_guarded x p e b = absurd (cc)

-- ---- whole texts
module _ {N C V R : Type 0} (L : Language N Kind Lexeme C V R) (declared : N → Place
    → Option Place) where
  abbrev RunsOn : Place → List Lexeme → Type 0
  RunsOn p ls = Runs L moves alike declared p (map kind_of ls) behind

  bytes_from : (ls : List Lexeme) (p : Place) → RunsOn p ls → Bytes p ls
  bytes_from [] outside e = absurd (let no : outside ≡ behind = e in cc)
  bytes_from [] guarded e = absurd (let no : guarded ≡ behind = e in cc)
  bytes_from [] behind e = ([], refl)
  bytes_from (x ∷ ls) outside (p, is, rest) = from_outside ls x p is (bytes_from ls p rest)
  bytes_from (x ∷ ls) guarded (p, is, rest) = from_guarded ls x p is (bytes_from ls p rest)
  bytes_from (x ∷ ls) behind (p, is, rest) = absurd (cc)

  module _ (kinds : IsExact L.same) (kind : (x : Lexeme) → L.kind x ≡ kind_of x)
      (rules_lead : (n : N) (c : C) (p q : Place) → declared n p ≡ Some q
      → leads L moves alike declared (L.says n c) p ≡ Some q) where
    kinds_map : (ms : List (Mark (Placed Lexeme) R))
        → map (λ (m : Mark (Placed Lexeme) R). L.kind m.symbol.lexeme) ms
        ≡ map kind_of (lexemes_of (symbols_in ms))
    kinds_map [] = refl
    kinds_map (m ∷ ms) = ap₂ (λ k ks. k ∷ ks) (kind m.symbol.lexeme) (kinds_map ms)

    pub texts_spelled : (gs : List (Grammar N Kind Lexeme C V R))
        → leads_of L moves alike declared gs outside ≡ Some behind → (s : State C V)
        → AreSpelled L gs s tokens
    texts_spelled gs e s text =
        let r = runs L moves alike declared kinds alike_exact rules_lead text.derivation outside
        behind e in
        bytes_from (lexemes_of (symbols_in text.marks)) outside (rw (sym (kinds_map text.marks)) r)
