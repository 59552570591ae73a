-- Each text of the family is a loop.
--   pieces b i k       the text of a loop with this base and these powers, in pieces
--   each_read          it is read, for each base and the powers from 1 to 8
--   texts_read         so each text of the family is
use Rattle.std.proofs.Common.{◌≡◌, ℕ, zero, suc, ◌+◌, ◌-◌, ◌*◌, ◌/◌, ◌%◌, ◌^◌, ◌<◌, ◌≤◌, List, [], ◌∷◌, map, refl, sym, ap, subst, ◌∙◌, Bool, true, false, ◌&&◌, nat_lt, Ok, arith, append-nil, append_assoc, inl, inr, if◌then◌else◌, codes}
use Rattle.std.specs.Prelude.{None}
use Rattle.std.specs.List.{list_all}
use Rattle.std.proofs.Math.Nat.{div-le_self, mod-lt}
use Rattle.std.proofs.lemmas.Bool.{and_parts, and_from, lt-ltb, cases_lt}
use Rattle.loops.specs.Limits.{most_names, most_bytes, most_branches, most_statements, most_operators, most_exponent}
use Rattle.loops.specs.Program.{Expr, Program}
use Rattle.loops.specs.WellFormed.{local_places}
use Rattle.algebra.proofs.Basics.{same_tail}
use Rattle.grammars.specs.Grammar.{Placed}
use Rattle.grammars.specs.Derivation.{Derives}
use Rattle.grammars.specs.FirstFault.{symbols_in, lexemes_of, sounds}
use Rattle.grammars.specs.Reader.{ReadResult, reads, read}
use Rattle.grammars.specs.Spelled.{IsRead}
use Rattle.grammars.proofs.Offsets.{marks_at, moved}
use Rattle.grammars.proofs.Reading.{read_is_derived}
use Rattle.loop_model.specs.Words.{vars_word, init_word, branch_word, keyword_of}
use Rattle.poly_text.specs.Lexemes.{Lexeme, number, tokens, lexemes}
use Rattle.poly_text.specs.Kinds as kinds
use Rattle.poly_text.specs.Kinds.{Kind, no_kind, kind_of}
use Rattle.poly_text.specs.Reasons.{Reason}
use Rattle.poly_text.specs.Sums.{most_depth}
use Rattle.loop_text.specs.Loops.{LoopContext, LoopValue, LoopState, loop_language, whole_loop, nothing}
use Rattle.loop_text.specs.LoopReader.{program_in, loop_of}
use Rattle.loop_text.proofs.LoopLaws.{loop_read}
use Rattle.loop_text.specs.Family.{powers, base, loop_text, most_loops}
use Rattle.loop_text.proofs.OtherKinds.{with_kinds, AreKinds, by_kinds}
use Rattle.loop_text.proofs.Pieces.{Piece, a_blank, a_keyword, a_name, a_sign, a_digit, a_number, written, said, is_well, pieces_lexed}

-- ---- the text in pieces
abbrev x : Piece
x = a_name (codes "x")

abbrev y : Piece
y = a_name (codes "y")

abbrev z : Piece
z = a_name (codes "z")

abbrev w : Piece
w = a_name (codes "w")

abbrev comma : Piece
comma = a_sign 44

abbrev equals : Piece
equals = a_sign 61

abbrev semicolon : Piece
semicolon = a_sign 59

abbrev caret : Piece
caret = a_sign 94

abbrev star : Piece
star = a_sign 42

abbrev plus : Piece
plus = a_sign 43

abbrev opening : Piece
opening = a_sign 123

abbrev closing : Piece
closing = a_sign 125

-- a start; a statement by a power; and one by a sum; with what follows
abbrev sets : Piece → ℕ → List Piece → List Piece
sets v d ps = v ∷ equals ∷ a_digit d ∷ ps

abbrev multiplies : Piece → ℕ → ℕ → List Piece → List Piece
multiplies v b i ps =
    v ∷ equals ∷ a_number b ∷ caret ∷ a_number i ∷ star ∷ v ∷ semicolon ∷ a_blank ∷ ps

abbrev adds : Piece → Piece → List Piece → List Piece
adds v p ps = v ∷ equals ∷ v ∷ plus ∷ p ∷ semicolon ∷ a_blank ∷ ps

abbrev and_next : List Piece → List Piece
and_next ps = comma ∷ a_blank ∷ ps

abbrev pieces : ℕ → ℕ → ℕ → List Piece
pieces b i k =
    a_keyword vars_word ∷ x ∷ and_next (y ∷ and_next (z ∷ and_next (w ∷ semicolon ∷ a_blank
    ∷ a_keyword init_word
    ∷ sets x 1 (and_next (sets y 1 (and_next (sets z 0 (and_next (sets w 0 (semicolon ∷ a_blank
    ∷ a_keyword branch_word ∷ opening ∷ a_blank
    ∷ multiplies x b i (multiplies y b k (adds w z (adds z (a_digit 1) (closing ∷ []))))))))))))))

-- ---- numbers fit
abbrev is_small : Lexeme → Bool
is_small (number n) = nat_lt n (2 ^ 127)
is_small l = true

abbrev kind_free : Lexeme → Kind
kind_free (number n) = kinds.a_number
kind_free l = kind_of l

same_kind : (l : Lexeme) → is_small l ≡ true → kind_free l ≡ kind_of l
same_kind (number n) h = sym (ap (λ t. if t then kinds.a_number else no_kind) h)
same_kind l h = refl

are_kinds : (ts : List (Placed Lexeme)) → list_all (λ (t : Placed Lexeme). is_small t.lexeme) ts
    ≡ true
    → AreKinds loop_language kind_free (sounds {R = Reason} ts)
are_kinds [] h = tt
are_kinds (t ∷ ts) h =
    let both = and_parts (is_small t.lexeme) (list_all (λ (t : Placed Lexeme). is_small t.lexeme)
    ts) h in
    (same_kind t.lexeme both.0, are_kinds ts both.1)

-- ---- each is read, whatever the base
abbrev is_all_read : ReadResult Lexeme LoopContext LoopValue Reason → Bool
is_all_read (reads s []) = true
is_all_read a = false

all_read : (a : ReadResult Lexeme LoopContext LoopValue Reason) → is_all_read a ≡ true
    → (s : LoopState) × ◌≡◌ {A = ReadResult Lexeme LoopContext LoopValue Reason} a (reads s [])
all_read (reads s []) h = (s, refl)
all_read a h = absurd (cc)

abbrev at_front : List Lexeme → List (Placed Lexeme)
at_front ls = map (λ l. record { at = 0; lexeme = l }) ls

abbrev all_below : (ℕ → Bool) → ℕ → Bool
all_below p zero = true
all_below p (suc n) = p n && all_below p n

at_below : (p : ℕ → Bool) (n k : ℕ) → all_below p n ≡ true → k < n → p k ≡ true
at_below p zero k all less = absurd (omega (arith, less))
at_below p (suc n) k all less =
    let both = and_parts (p n) (all_below p n) all in
    elim (cases_lt k n) [
      | inl below ↦ at_below p n k both.1 below
      | inr not ↦ let same : n ≡ k = omega (arith, less, not) in subst (λ j. p j ≡ true) same both.0
    ]

abbrev answer_to : ℕ → ℕ → ℕ → ReadResult Lexeme LoopContext LoopValue Reason
answer_to b i k =
    read (with_kinds loop_language kind_free) whole_loop nothing (at_front (said (pieces b i k)))

each_read : (b : ℕ) → all_below (λ i. all_below (λ k. is_all_read (answer_to b (1 + i) (1 + k)))
    powers) powers
    ≡ true
unfolding read keyword_of most_names most_bytes most_branches most_statements most_operators
    most_exponent most_depth local_places
each_read b = refl

-- ---- so are the bytes
marks-sounds : (xs ys : List (Placed Lexeme)) → lexemes_of xs ≡ lexemes_of ys
    → marks_at {R = Reason} xs (sounds ys) ≡ sounds xs
marks-sounds [] ys e = refl
marks-sounds (t ∷ xs) [] e = absurd (cc)
marks-sounds (t ∷ xs) (u ∷ ys) e =
    ap (λ ms. record { symbol = t; fault = None } ∷ ms) (marks-sounds xs ys (same_tail e))

front-lexemes : (ls : List Lexeme) → lexemes_of (at_front ls) ≡ ls
front-lexemes [] = refl
front-lexemes (l ∷ ls) = ap (λ ks. l ∷ ks) (front-lexemes ls)

symbols-sounds : (ts : List (Placed Lexeme)) → symbols_in {R = Reason} (sounds ts) ≡ ts
symbols-sounds [] = refl
symbols-sounds (t ∷ ts) = ap (λ us. t ∷ us) (symbols-sounds ts)

abbrev Says : List ℕ → Type 0
Says bytes = (l : Program (Expr ℕ)) × (loop_of bytes ≡ Ok l)

module _ (bytes : List ℕ) (ls : List Lexeme) (s : LoopState) (lexed : lexemes bytes ≡ ls)
    (small : list_all (λ (t : Placed Lexeme). is_small t.lexeme) (at_front ls) ≡ true)
    (is : ◌≡◌ {A = ReadResult Lexeme LoopContext LoopValue Reason}
    (read (with_kinds loop_language kind_free) whole_loop nothing (at_front ls)) (reads s [])) where
  at_zero : IsRead (with_kinds loop_language kind_free) whole_loop nothing (at_front ls) s
  at_zero =
      let p = read_is_derived (with_kinds loop_language kind_free) (at_front ls) whole_loop nothing
      s [] is in
      subst (λ ts. IsRead (with_kinds loop_language kind_free) whole_loop nothing ts s)
      (sym (p.tokens ∙ append-nil p.front)) p.derivation

  same : lexemes_of (tokens bytes) ≡ lexemes_of (at_front ls)
  same = lexed ∙ sym (front-lexemes ls)

  bytes_read : Says bytes
  bytes_read =
      let text = by_kinds loop_language kind_free at_zero (are_kinds (at_front ls) small) in
      let m = moved loop_language text (tokens bytes)
      (same ∙ ap lexemes_of (sym (symbols-sounds (at_front ls)))) nothing.value in
      let end : LoopState = record { context = s.context; value = m.end } in
      let derivation : IsRead loop_language whole_loop nothing (tokens bytes) end =
      subst (λ ms. Derives loop_language whole_loop nothing ms end)
      (marks-sounds (tokens bytes) (at_front ls) same) m.derivation in
      (program_in end, (loop_read bytes (program_in end)).1 (end, derivation, refl))

module _ (j : ℕ) (few : j ≤ most_loops) where
  abbrev i : ℕ
  i = (j - 1) % powers

  abbrev k : ℕ
  k = ((j - 1) / powers) % powers

  abbrev ps : List Piece
  ps = pieces (base j) (1 + i) (1 + k)

  i_below : i < powers
  i_below = mod-lt (j - 1) (omega arith)

  k_below : k < powers
  k_below = mod-lt ((j - 1) / powers) (omega arith)

  base_fits : nat_lt (base j) (2 ^ 127) ≡ true
  base_fits =
      let less = div-le_self (j - 1) (powers * powers) in
      lt-ltb (base j) (2 ^ 127) (omega (arith, less, few))

  power_fits : (n : ℕ) → n < powers → nat_lt (1 + n) (2 ^ 127) ≡ true
  power_fits n less = lt-ltb (1 + n) (2 ^ 127) (omega (arith, less))

  all_fit : (nat_lt (base j) (2 ^ 127) && (nat_lt (1 + i) (2 ^ 127)
      && (nat_lt (base j) (2 ^ 127) && (nat_lt (1 + k) (2 ^ 127) && true)))) ≡ true
  all_fit =
      and_from _ _ base_fits (and_from _ _ (power_fits i i_below)
      (and_from _ _ base_fits (and_from _ _ (power_fits k k_below) refl)))

  well : is_well ps ≡ true
  unfolding keyword_of
  well = all_fit

  small : list_all (λ (t : Placed Lexeme). is_small t.lexeme) (at_front (said ps)) ≡ true
  small = all_fit

  same_text : written ps ≡ loop_text j
  same_text = simp append_assoc

  pub texts_read : Says (loop_text j)
  texts_read =
      let answer = all_read (answer_to (base j) (1 + i) (1 + k))
      (at_below (λ k. is_all_read (answer_to (base j) (1 + i) (1 + k))) powers k
      (at_below (λ i. all_below (λ k. is_all_read (answer_to (base j) (1 + i) (1 + k))) powers)
      powers i
      (each_read (base j)) i_below) k_below) in
      bytes_read (loop_text j) (said ps) answer.0
      (subst (λ text. lexemes text ≡ said ps) same_text (pieces_lexed ps well)) small answer.1
