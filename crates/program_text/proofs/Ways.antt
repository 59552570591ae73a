-- Which statement a token begins.
--   statement_barred         a token that begins none
--   way_X                    a name, a parenthesis, a keyword
--   statement_due            the next statement of a block; statements_end: the } behind them
use Rattle.std.proofs.Common.{◌≡◌, [], ◌∷◌, List, refl, ap, sym, ◌∙◌, Bool, true, false, None}
use Rattle.std.proofs.lemmas.Bool.{or_parts, or_from}
use Rattle.grammars.specs.Kinds.{has}
use Rattle.grammars.specs.Grammar.{sequence, either, many, rule}
use Rattle.poly_text.specs.Reasons.{syntax}
use Rattle.program_text.specs.Lexemes as lexemes
use Rattle.program_text.specs.Lexemes.{Lexeme, is_sign_of}
use Rattle.program_text.specs.Words.{Keyword, if_word, while_word, for_word, assume_word, assert_word}
use Rattle.program_text.specs.NextToken.{seen_lexeme}
use Rattle.program_text.specs.Kinds.{Kind, a_name, a_sign, a_keyword, same, kind_of}
use Rattle.program_text.specs.CursorView.{rest, behind}
use Rattle.program_text.specs.declared.cursor.Cursor.{Cursor}
use Rattle.program_text.specs.declared.lexemes.Lexeme as code
use Rattle.program_text.specs.declared.lexemes.Lexeme.TheVariants as code_lexeme
use Rattle.program_text.proofs.KindTests.{by_shape, no_sign}
use Rattle.program_text.proofs.Paths.{in_parts, reading_rule}
use Rattle.program_text.proofs.CursorReads.{sign_here, named_here, fault_at, here, token_barred, no_first, at_left, at_right}
use Rattle.program_text.proofs.ProgramChecked.{programs_checked}
use Rattle.program_text.proofs.ListReads.{due, none_due}
use Rattle.program_text.proofs.TokenReads.{keyword_is, no_keyword_kind, sign_barred}
use Rattle.program_text.specs.Programs.{ProgramState, Rule, a_statement, statement, single, several, if_statement, while_loop, for_loop, assumption_of, assertion, head_word, begins_statement, statements, block_closing, close_block, keep, comparison, claim_end, program_language}
use Rattle.program_text.specs.Sums.{equal_signs}
use Rattle.program_text.specs.States.{reading, is_keyword_of, is_named}

abbrev words_from : Rule
words_from = either if_statement (either while_loop (either for_loop (either assumption_of
    assertion)))

named_kind : (c : Cursor) → is_named (seen_lexeme c.token.lexeme) ≡ true
    → has same (a_name ∷ []) (kind_of (seen_lexeme c.token.lexeme)) ≡ true
named_kind c e = by_lexeme c.token.lexeme refl e
  where
    by_lexeme : (l : code.Lexeme) → c.token.lexeme ≡ l → is_named (seen_lexeme l) ≡ true
        → has same (a_name ∷ []) (kind_of (seen_lexeme c.token.lexeme)) ≡ true
    by_lexeme (code_lexeme.Name w) is e = named_here c w is
    by_lexeme l is e = absurd (cc)

unnamed_kind : (x : Lexeme) → is_named x ≡ false → has same (a_name ∷ []) (kind_of x) ≡ false
unnamed_kind (lexemes.name w) e = absurd (cc)
unnamed_kind (lexemes.keyword k) e = refl
unnamed_kind (lexemes.double d) e = refl
unnamed_kind x e = by_shape (a_name ∷ []) x refl refl

module _ (s : ProgramState) (c : Cursor) where
  abbrev x : Lexeme
  x = seen_lexeme c.token.lexeme

  as_rule : reading (rule a_statement) s (rest c) ≡ reading statement s (rest c)
  as_rule = reading_rule program_language programs_checked a_statement s (rest c)

  pub way_single : is_named x ≡ true → reading (rule a_statement) s (rest c) ≡ reading single s
      (rest c)
  way_single e = as_rule ∙ at_left program_language single (either several words_from) s c
      (named_kind c e)

  behind_name : is_named x ≡ false → reading (rule a_statement) s (rest c)
      ≡ reading (either several words_from) s (rest c)
  behind_name e = as_rule ∙ at_right program_language single (either several words_from) s c
      (unnamed_kind x e)

  pub way_several : is_sign_of x 40 ≡ true → reading (rule a_statement) s (rest c)
      ≡ reading several s (rest c)
  way_several e =
      let is = sign_here c 40 e in
      behind_name (ap is_named is)
      ∙ at_left program_language several words_from s c
      (ap (λ x. has same (a_sign 40 ∷ []) (kind_of x)) is)

  module _ (k : Keyword) (e : is_keyword_of x k ≡ true) where
    to_words : reading (rule a_statement) s (rest c) ≡ reading words_from s (rest c)
    to_words =
        let is = keyword_is x k e in
        behind_name (ap is_named is)
        ∙ at_right program_language several words_from s c
        (ap (λ x. has same (a_sign 40 ∷ []) (kind_of x)) is)

  abbrev starts_with : Keyword → Bool
  starts_with k = has same (a_keyword k ∷ []) (kind_of x)

  module _ (k : Keyword) (e : is_keyword_of x k ≡ true) where
    here_is : (j : Keyword) → starts_with j ≡ has same (a_keyword j ∷ []) (a_keyword k)
    here_is j = ap (λ x. has same (a_keyword j ∷ []) (kind_of x)) (keyword_is x k e)

  abbrev from_assume : Rule
  from_assume = either assumption_of assertion

  abbrev from_for : Rule
  from_for = either for_loop from_assume

  abbrev from_while : Rule
  from_while = either while_loop from_for

  pub way_if : is_keyword_of x if_word ≡ true → reading (rule a_statement) s (rest c)
      ≡ reading if_statement s (rest c)
  way_if e = to_words if_word e
      ∙ at_left program_language if_statement from_while s c (here_is if_word e if_word)

  pub way_while : is_keyword_of x while_word ≡ true → reading (rule a_statement) s (rest c)
      ≡ reading while_loop s (rest c)
  way_while e =
      to_words while_word e
      ∙ at_right program_language if_statement from_while s c (here_is while_word e if_word)
      ∙ at_left program_language while_loop from_for s c (here_is while_word e while_word)

  pub way_for : is_keyword_of x for_word ≡ true → reading (rule a_statement) s (rest c)
      ≡ reading for_loop s (rest c)
  way_for e =
      to_words for_word e
      ∙ at_right program_language if_statement from_while s c (here_is for_word e if_word)
      ∙ at_right program_language while_loop from_for s c (here_is for_word e while_word)
      ∙ at_left program_language for_loop from_assume s c (here_is for_word e for_word)

  pub way_assume : is_keyword_of x assume_word ≡ true → reading (rule a_statement) s (rest c)
      ≡ reading assumption_of s (rest c)
  way_assume e =
      to_words assume_word e
      ∙ at_right program_language if_statement from_while s c (here_is assume_word e if_word)
      ∙ at_right program_language while_loop from_for s c (here_is assume_word e while_word)
      ∙ at_right program_language for_loop from_assume s c (here_is assume_word e for_word)
      ∙ at_left program_language assumption_of assertion s c (here_is assume_word e assume_word)

  pub way_assert : is_keyword_of x assert_word ≡ true → reading (rule a_statement) s (rest c)
      ≡ reading assertion s (rest c)
  way_assert e =
      to_words assert_word e
      ∙ at_right program_language if_statement from_while s c (here_is assert_word e if_word)
      ∙ at_right program_language while_loop from_for s c (here_is assert_word e while_word)
      ∙ at_right program_language for_loop from_assume s c (here_is assert_word e for_word)
      ∙ at_right program_language assumption_of assertion s c (here_is assert_word e assume_word)

  -- ---- none
  abbrev past_assume : List Kind
  past_assume = a_keyword assert_word ∷ []

  abbrev past_for : List Kind
  past_for = a_keyword assume_word ∷ past_assume

  abbrev past_while : List Kind
  past_while = a_keyword for_word ∷ past_for

  abbrev past_if : List Kind
  past_if = a_keyword while_word ∷ past_while

  abbrev keywords_begin : List Kind
  keywords_begin = a_keyword if_word ∷ past_if

  abbrev words_begin : List Kind
  words_begin = a_sign 40 ∷ keywords_begin

  one_of : (k : Kind) (ks : List Kind) → has same (k ∷ ks) (kind_of x) ≡ false
      → (has same (k ∷ []) (kind_of x) ≡ false) × (has same ks (kind_of x) ≡ false)
  one_of k ks e = let both = or_parts (same k (kind_of x)) (has same ks (kind_of x)) e in
      (or_from (same k (kind_of x)) false both.0 refl, both.1)

  pub statement_barred : has same begins_statement (kind_of x) ≡ false
      → fault_at syntax c.token.at ≡ reading (rule a_statement) s (rest c)
  statement_barred e =
      let a = one_of a_name words_begin e in
      let b = one_of (a_sign 40) keywords_begin a.1 in
      let i = one_of (a_keyword if_word) past_if b.1 in
      let w = one_of (a_keyword while_word) past_while i.1 in
      let f = one_of (a_keyword for_word) past_for w.1 in
      let m = one_of (a_keyword assume_word) past_assume f.1 in
      no_first program_language (head_word assert_word)
      (sequence (comparison equal_signs) claim_end) s (rest c) _
      (token_barred program_language (head_word assert_word) refl s c m.1)
      ∙ sym (as_rule
      ∙ at_right program_language single (either several words_from) s c a.0
      ∙ at_right program_language several words_from s c b.0
      ∙ at_right program_language if_statement from_while s c i.0
      ∙ at_right program_language while_loop from_for s c w.0
      ∙ at_right program_language for_loop from_assume s c f.0
      ∙ at_right program_language assumption_of assertion s c m.0)

  pub none_begins : is_named x ≡ false → is_sign_of x 40 ≡ false → is_keyword_of x if_word ≡ false
      → is_keyword_of x while_word ≡ false → is_keyword_of x for_word ≡ false
      → is_keyword_of x assume_word ≡ false → is_keyword_of x assert_word ≡ false
      → has same begins_statement (kind_of x) ≡ false
  none_begins a b i w f m t =
      let kind = kind_of x in
      let first = λ (k : Kind) (e : has same (k ∷ []) kind ≡ false). (or_parts (same k kind) false
      e).0 in
      or_from (same a_name kind) _ (first a_name (unnamed_kind x a))
      (or_from (same (a_sign 40) kind) _ (first (a_sign 40) (no_sign 40 x b))
      (or_from (same (a_keyword if_word) kind) _ (first (a_keyword if_word)
      (no_keyword_kind if_word x i))
      (or_from (same (a_keyword while_word) kind) _ (first (a_keyword while_word)
      (no_keyword_kind while_word x w))
      (or_from (same (a_keyword for_word) kind) _ (first (a_keyword for_word)
      (no_keyword_kind for_word x f))
      (or_from (same (a_keyword assume_word) kind) _ (first (a_keyword assume_word)
      (no_keyword_kind assume_word x m))
      (no_keyword_kind assert_word x t))))))

  -- ---- the statements of a block
  pub statement_due : is_sign_of x 125 ≡ false → reading statements s (rest c)
      ≡ reading (sequence (rule a_statement) statements) s (rest c)
  statement_due other =
      due (rule a_statement) block_closing refl s (here c) (behind c) (record {
        reason = syntax;
        at = c.token.at;
      }) (λ e. sym (statement_barred e))
      (sym (sign_barred 125 (λ c. None) close_block keep s c other))
      ∙ in_parts program_language (rule a_statement) (many (rule a_statement)) s (rest c)
      block_closing

  pub statements_end : is_sign_of x 125 ≡ true → reading statements s (rest c)
      ≡ reading block_closing s (rest c)
  statements_end is = none_due (rule a_statement) block_closing refl s (here c) (behind c)
      (ap (λ x. has same begins_statement (kind_of x)) (sign_here c 125 is))
