-- What is read of tokens that stand in a text outside of guards leaves such tokens; and a token that is refused stands at its offset.
--   no_guard g      no token of the grammar g is the keyword that opens a guard
--   left_tokens     what is left;  refused_there: what is refused
use Rattle.std.proofs.Common.{◌≡◌, inl, inr, ℕ, suc, ◌+◌, ◌≤◌, ◌==◌, take_while, drop-drop, Bool, true, false, not, nat_lt, ◌&&◌, Ok, if◌then◌else◌, List, [], ◌∷◌, length, drop, arith, refl, sym, ap, ap₂, subst, ◌∙◌, Some, None}
use Rattle.std.proofs.lemmas.Bool.{and_parts}
use Rattle.std.proofs.lemmas.List.{length-drop, length-take}
use Rattle.std.specs.List.{prefix_len}
use Rattle.std.specs.Char.{is_ascii_alphabetic, is_ascii_digit}
use Rattle.algebra.proofs.Basics.{same_head, same_tail}
use Rattle.grammars.specs.Grammar.{token, change, sequence, either, many, rule, after_change}
use Rattle.grammars.specs.Kinds.{has}
use Rattle.grammars.specs.First.{first}
use Rattle.grammars.specs.Reader.{Move, takes, leaves, refuses, Opening, ReadResult, reads, refused, unended, on, closed, opened, move, by_move, read, parsed}
use Rattle.loop_model.specs.Ascii.{hash, line_feed}
use Rattle.loop_model.specs.Words.{when_word, is_word}
use Rattle.poly_text.specs.Lexemes as lexemes
use Rattle.poly_text.specs.Lexemes.{Lexeme, Placed, tokens_from, lexeme_at}
use Rattle.poly_text.specs.NextToken.{tokens_behind}
use Rattle.poly_text.specs.Kinds.{Kind, a_keyword, same, kind_of}
use Rattle.poly_text.specs.Reasons.{Reason}
use Rattle.poly_text.specs.Tokens.{is_blank, len_at, word_at, digits_at, start_of, blank_len, comment_len}
use Rattle.poly_text.proofs.Lexing.{tokens_from-at}
use Rattle.loop_text.specs.Seqs.{SeqContext, SeqValue, SeqState, SeqRule, of_values, of_nexts, a_value, more_nexts, Rule, seq_language}
use Rattle.loop_text.proofs.SeqChecked.{by_value, by_next}
use Rattle.poly_text.specs.Sums.{a_sum, a_factor}
use Rattle.poly_text.specs.Telling as telling
use Rattle.poly_text.specs.Told.{told}
use Rattle.loops.specs.Limits.{most_names}
use Rattle.loop_text.specs.SequenceStates.{reading}
use Rattle.loop_text.specs.Telling.{first_of, next_in}
use Rattle.loop_text.specs.Standing.{AreTokens}

abbrev pub opens : Lexeme → Bool
opens (lexemes.keyword when_word) = true
opens x = false

abbrev pub no_guard : Rule → Bool
no_guard (token ks fault next build) = not (has same ks (a_keyword when_word))
no_guard (change next build) = true
no_guard (sequence g h) = no_guard g && no_guard h
no_guard (either g h) = no_guard g && no_guard h
no_guard (many g) = no_guard g
no_guard (rule n) = true

abbrev pub no_guards : List Rule → Bool
no_guards [] = true
no_guards (g ∷ gs) = no_guard g && no_guards gs

abbrev M : Type 0
M = Move SeqRule Kind Lexeme SeqContext SeqValue Reason

-- a token that is taken opens no guard
abbrev IsFine : Placed → M → Type 0
IsFine x (takes f u hs) = (opens x.lexeme ≡ false) × (no_guards hs ≡ true)
IsFine x (leaves t) = Unit {0}
IsFine x refuses = Unit {0}

both : (a b : Bool) → a ≡ true → b ≡ true → a && b ≡ true
both true b h k = k
both false b h k = absurd (cc)

not_so : (b : Bool) → not b ≡ true → b ≡ true → ⊥
not_so true h k = absurd (cc)
not_so false h k = absurd (cc)

no_opening : (ks : List Kind) (x : Lexeme) → not (has same ks (a_keyword when_word)) ≡ true
    → has same ks (kind_of x) ≡ true → opens x ≡ false
no_opening ks (lexemes.keyword when_word) h k =
    absurd (not_so (has same ks (a_keyword when_word)) h k)
no_opening ks x h k = refl

module _ (x : Placed) where
  fine_if : (b : Bool) (d e : M) → (b ≡ true → IsFine x d) → (b ≡ false → IsFine x e)
      → IsFine x (if b then d else e)
  fine_if true d e f g = f refl
  fine_if false d e f g = g refl

  abbrev OpensFine : Opening seq_language → Type 0
  OpensFine inner = (n : SeqRule) (gs : List Rule) (s : SeqState) (skip : SeqState → M)
      → no_guards gs ≡ true → ((u : SeqState) → IsFine x (skip u)) → IsFine x (inner n gs s x skip)

  module _ (inner : Opening seq_language) (rules : OpensFine inner) where
    on_fine : (g : Rule) (gs : List Rule) (s : SeqState) (skip : SeqState → M)
        → no_guard g ≡ true → no_guards gs ≡ true → ((u : SeqState) → IsFine x (skip u))
        → IsFine x (on seq_language inner g gs s x skip)
    on_fine (token ks fault next build) gs s skip h k e =
        fine_if (has same ks (kind_of x.lexeme)) _ _ (λ i. (no_opening ks x.lexeme h i, k))
        (λ i. tt)
    on_fine (change next build) gs s skip h k e = e (after_change next build s)
    on_fine (sequence g f) gs s skip h k e =
        let p = and_parts (no_guard g) (no_guard f) h in
        on_fine g (f ∷ gs) s (λ t. on seq_language inner f gs t x skip) p.0
        (both (no_guard f) (no_guards gs) p.1 k) (λ u. on_fine f gs u skip p.1 k e)
    on_fine (either g f) gs s skip h k e =
        let p = and_parts (no_guard g) (no_guard f) h in
        fine_if (has same (first seq_language g) (kind_of x.lexeme)) _ _
        (λ i. on_fine g gs s skip p.0 k e) (λ i. on_fine f gs s skip p.1 k e)
    on_fine (many g) gs s skip h k e =
        fine_if (has same (first seq_language g) (kind_of x.lexeme)) _ _
        (λ i. on_fine g (many g ∷ gs) s skip h (both (no_guard g) (no_guards gs) h k) e) (λ i. e s)
    on_fine (rule n) gs s skip h k e = rules n gs s skip k e

  closed_fine : OpensFine (closed seq_language)
  closed_fine n gs s skip k e = tt

  module _ (says : (n : SeqRule) (c : SeqContext) → no_guard (seq_language.says n c) ≡ true) where
    opened_fine : OpensFine (opened seq_language)
    opened_fine n gs s skip k e =
        on_fine (closed seq_language) closed_fine (seq_language.says n s.context) gs s skip
        (says n s.context) k e

    move_fine : (gs : List Rule) (s : SeqState) → no_guards gs ≡ true
        → IsFine x (move seq_language gs s x)
    move_fine [] s k = tt
    move_fine (g ∷ gs) s k =
        let p = and_parts (no_guard g) (no_guards gs) k in
        on_fine (opened seq_language) opened_fine g gs s (λ t. move seq_language gs t x) p.0 p.1
        (λ u. move_fine gs u p.1)

-- ---- tokens of a text
module _ (text : List ℕ) where
  pub record IsThere (x : Placed) : Type 0 where
    pub lexeme : next_in text x.at ≡ x.lexeme
    pub within : x.at ≤ length text

  record Stood (x : Placed) (xs : List Placed) : Type 0 where
    there : IsThere x
    behind : opens x.lexeme ≡ false → AreTokens text xs

  abbrev pub Found : ReadResult Lexeme SeqContext SeqValue Reason → Type 0
  Found (reads t rest) = AreTokens text rest
  Found (refused x why) = IsThere x
  Found unended = Unit {0}

  -- ---- blanks end where a token begins
  blanks_end : (t : List ℕ) → (blank_len (drop (blank_len t) t) ≡ 0)
      × (blank_len (drop (comment_len t) t) ≡ 0)
  blanks_end [] = (refl, refl)
  blanks_end (c ∷ cs) = let (blanks, comment) = blanks_end cs in (
    in_blanks (is_blank c) (c == hash) refl refl blanks comment,
    in_comment (c == line_feed) blanks comment,
  )
    where
      in_blanks : (b h : Bool) → is_blank c ≡ b → (c == hash) ≡ h
          → blank_len (drop (blank_len cs) cs) ≡ 0 → blank_len (drop (comment_len cs) cs) ≡ 0
          → blank_len (drop (if b then suc (blank_len cs)
          else (if h then suc (comment_len cs) else 0)) (c ∷ cs)) ≡ 0
      in_blanks true h e f blanks comment = blanks
      in_blanks false true e f blanks comment = comment
      in_blanks false false e f blanks comment =
          ap₂ (λ b h. if b then suc (blank_len cs) else (if h then suc (comment_len cs) else 0)) e f

      in_comment : (b : Bool) → blank_len (drop (blank_len cs) cs) ≡ 0
          → blank_len (drop (comment_len cs) cs) ≡ 0
          → blank_len (drop (if b then suc (blank_len cs) else suc (comment_len cs)) (c ∷ cs)) ≡ 0
      in_comment true blanks comment = blanks
      in_comment false blanks comment = comment

  blanks_within : (t : List ℕ) → (blank_len t ≤ length t) × (comment_len t ≤ length t)
  blanks_within [] = (omega arith, omega arith)
  blanks_within (c ∷ cs) = let (blanks, comment) = blanks_within cs in (
    in_blanks (is_blank c) (c == hash) blanks comment,
    in_comment (c == line_feed) blanks comment,
  )
    where
      in_blanks : (b h : Bool) → blank_len cs ≤ length cs → comment_len cs ≤ length cs
          → (if b then suc (blank_len cs) else (if h then suc (comment_len cs) else 0))
          ≤ suc (length cs)
      in_blanks true h blanks comment = omega (arith, blanks)
      in_blanks false true blanks comment = omega (arith, comment)
      in_blanks false false blanks comment = omega arith

      in_comment : (b : Bool) → blank_len cs ≤ length cs → comment_len cs ≤ length cs
          → (if b then suc (blank_len cs) else suc (comment_len cs)) ≤ suc (length cs)
      in_comment true blanks comment = omega (arith, blanks)
      in_comment false blanks comment = omega (arith, comment)

  few : (p : ℕ → Bool) (xs : List ℕ) → length (take_while p xs) ≤ length xs
  few p xs = omega (arith, length-take (prefix_len p xs) xs)

  len_within : (t : List ℕ) → len_at t ≤ length t
  len_within [] = omega arith
  len_within (c ∷ cs) = go (is_ascii_alphabetic c) (is_ascii_digit c)
    where
      go : (b d : Bool) → (if b then length (word_at (c ∷ cs))
          else (if d then length (digits_at (c ∷ cs)) else 1)) ≤ suc (length cs)
      go true d = few is_word (c ∷ cs)
      go false true = few is_ascii_digit (c ∷ cs)
      go false false = omega arith

  -- ---- from an offset on
  at_start : (from : ℕ) → start_of text (start_of text from) ≡ start_of text from
  at_start from =
      let e : drop (start_of text from) text ≡ drop (blank_len (drop from text)) (drop from text) =
      sym (drop-drop (blank_len (drop from text)) from text) in
      let z : blank_len (drop (start_of text from) text) ≡ 0 =
      ap blank_len e ∙ (blanks_end (drop from text)).0 in
      omega (arith, z)

  abbrev token_at : ℕ → Placed
  token_at from = record {
    at = start_of text from;
    lexeme = lexeme_at (drop (start_of text from) text);
  }

  abbrev end_at : ℕ → ℕ
  end_at from = start_of text from + len_at (drop (start_of text from) text)

  tokens_are : (from : ℕ) → tokens_from text from
      ≡ token_at from ∷ tokens_behind text (token_at from).lexeme (end_at from)
  tokens_are from = tokens_from-at text from (start_of text from)
      (len_at (drop (start_of text from) text)) (lexeme_at (drop (start_of text from) text))
      refl refl refl

  start_within : (from : ℕ) → from ≤ length text → start_of text from ≤ length text
  start_within from l =
      let a = (blanks_within (drop from text)).0 in
      let b = length-drop from text in omega (arith, a, b, l)

  end_within : (from : ℕ) → from ≤ length text → end_at from ≤ length text
  end_within from l =
      let a = start_within from l in
      let b = len_within (drop (start_of text from) text) in
      let c = length-drop (start_of text from) text in omega (arith, a, b, c)

  is_there : (from : ℕ) → from ≤ length text → IsThere (token_at from)
  is_there from l = record {
    lexeme = ap first_of (tokens_are (start_of text from))
        ∙ ap (λ k. lexeme_at (drop k text)) (at_start from);
    within = start_within from l;
  }

  behind_it : (x : Lexeme) (end : ℕ) → end ≤ length text → opens x ≡ false
      → AreTokens text (tokens_behind text x end)
  behind_it lexemes.the_end end l o = inl refl
  behind_it (lexemes.keyword when_word) end l o = absurd (cc)
  behind_it x end l o = inr (record { from = end; within = l; is = refl })

  stood : (x : Placed) (xs : List Placed) → AreTokens text (x ∷ xs) → Stood x xs
  stood x xs (inl e) = absurd (cc)
  stood x xs (inr s) =
      let is : ◌≡◌ {A = List Placed} (x ∷ xs)
      (token_at s.from ∷ tokens_behind text (token_at s.from).lexeme (end_at s.from)) =
      s.is ∙ tokens_are s.from in
      let here : x ≡ token_at s.from = same_head is in
      let rest : xs ≡ tokens_behind text (token_at s.from).lexeme (end_at s.from) =
      same_tail is in
      record {
        there = subst IsThere (sym here) (is_there s.from s.within);
        behind = λ o. subst (AreTokens text) (sym rest)
            (behind_it (token_at s.from).lexeme (end_at s.from) (end_within s.from s.within)
            (ap (λ (y : Placed). opens y.lexeme) (sym here) ∙ o));
      }

  -- ---- reading
  module _ (says : (n : SeqRule) (c : SeqContext) → no_guard (seq_language.says n c) ≡ true) where
    found : (ts : List Placed) (gs : List Rule) (s : SeqState) → AreTokens text ts
        → no_guards gs ≡ true → Found (read seq_language gs s ts)
    unfolding read
    found [] [] s h k = inl refl
    found [] (g ∷ gs) s h k = tt
    found (x ∷ xs) gs s h k =
        go (move seq_language gs s x) (move_fine x says gs s k) (stood x xs h)
        (λ hs t i j. found xs hs t i j)
      where
        go : (d : M) → IsFine x d → Stood x xs
            → ((hs : List Rule) (t : SeqState) → AreTokens text xs
            → no_guards hs ≡ true → Found (read seq_language hs t xs))
            → Found (by_move seq_language d x xs (λ t hs. read seq_language hs t xs))
        go (takes None t hs) fine st later = later hs t (st.behind fine.0) fine.1
        go (takes (Some why) t hs) fine st later = st.there
        go (leaves t) fine st later = h
        go refuses fine st later = st.there

-- ---- the language of sequences opens no guard
rules_open_none : (n : SeqRule) (c : SeqContext) → no_guard (seq_language.says n c) ≡ true
rules_open_none (of_values a_sum) c = refl
rules_open_none (of_values a_factor) c = refl
rules_open_none (of_nexts a_sum) c = refl
rules_open_none (of_nexts a_factor) c = refl
rules_open_none a_value c =
    by_value (λ g. no_guard g ≡ true) refl refl (nat_lt (length c.variables) most_names)
rules_open_none more_nexts c =
    by_next (λ g. no_guard g ≡ true) refl refl (nat_lt c.nexts (length c.sequences))

module _ (text : List ℕ) (g : Rule) (open_none : no_guard g ≡ true) (s : SeqState)
    (ts : List Placed) (stand : AreTokens text ts) where
  pub parsed_found : Found text (parsed seq_language g s ts)
  parsed_found = found text rules_open_none ts (g ∷ []) s stand
      (both (no_guard g) true open_none refl)

  pub left_tokens : (t : SeqState) (us : List Placed) → Ok (t, us) ≡ reading g s ts
      → AreTokens text us
  unfolding telling.reading
  left_tokens t us e = go (parsed seq_language g s ts) parsed_found e
    where
      go : (a : ReadResult Lexeme SeqContext SeqValue Reason) → Found text a → Ok (t, us) ≡ told a
          → AreTokens text us
      go (reads u vs) h e =
          let same : ◌≡◌ {A = SeqState × List Placed} (t, us) (u, vs) = cc in
          subst (AreTokens text) (sym (ap (λ p. p.1) same)) h
      go (refused x why) h e = absurd (cc)
      go unended h e = absurd (cc)
