-- One token of a program's text.
--   X_read, X_at_fault, X_barred     a sign or a keyword is taken, is at fault, or is another
--   keyword_kind, no_keyword_kind    the kind of a keyword, and of another token
--   end_read, end_barred         the end of the text; sign_no_end, keyword_no_end: what isn't it
use Rattle.std.proofs.Common.{◌≡◌, ◌≢◌, ℕ, List, [], ◌∷◌, refl, ap, sym, ◌∙◌, true, false, true≢false, ◌||◌, IsTrue, Option, Some, None, Ok}
use Rattle.program_text.specs.Words.{Keyword}
use Rattle.grammars.specs.Kinds.{has}
use Rattle.grammars.specs.Grammar.{after_change}
use Rattle.program_text.specs.Lexemes as lexemes
use Rattle.program_text.specs.Lexemes.{Lexeme, Placed, tokens_from, is_sign_of, is_end_of}
use Rattle.program_text.specs.NextToken.{seen_lexeme, tokens_behind}
use Rattle.program_text.specs.Kinds.{an_end, a_sign, a_keyword, same, kind_of}
use Rattle.poly_text.specs.Reasons.{Reason, syntax}
use Rattle.poly_text.specs.Tokens.{is_sign}
use Rattle.program_text.specs.CursorView.{rest, behind}
use Rattle.program_text.specs.declared.lexemes.Lexeme as code
use Rattle.program_text.specs.declared.lexemes.Lexeme.TheVariants as code_lexeme
use Rattle.program_text.specs.declared.cursor.Cursor.{Cursor}
use Rattle.program_text.proofs.KindTests.{by_shape, shape, no_sign, a_sign_kind}
pub use Rattle.program_text.proofs.KindTests.{end_is, no_end, sign_no_end}
use Rattle.program_text.proofs.CursorReads.{fault_at, here, taken, faulty, token_read, token_faulty, token_barred, sign_here}
use Rattle.program_text.proofs.SumChecked.{kinds_exact}
use Rattle.program_text.specs.Programs.{ProgramContext, ProgramValue, ProgramState, Rule, token_of, noted, note, the_end, program_language}
use Rattle.program_text.specs.States.{reading, is_keyword_of}

module _ (b : ℕ) (fault : ProgramContext → Option Reason) (next : ProgramContext → ProgramContext)
    (build : ProgramContext → ProgramValue → ProgramValue) (s : ProgramState) (c : Cursor) where
  abbrev the_sign : Rule
  the_sign = token_of (a_sign b) fault next build

  module _ (known : IsTrue (is_sign b)) (is : is_sign_of (seen_lexeme c.token.lexeme) b
      ≡ true) where
    pub sign_read : fault s.context ≡ None → (d : Cursor) → tokens_from c.text.now c.token.end
        ≡ rest d → Ok (after_change next build s, rest d) ≡ reading the_sign s (rest c)
    sign_read free d e = token_read program_language the_sign refl s c (lexemes.sign b)
        (sign_here c b is) (a_sign_kind b known) d e free

    pub sign_at_fault : (why : Reason) → fault s.context ≡ Some why → fault_at why c.token.at
        ≡ reading the_sign s (rest c)
    sign_at_fault why e = token_faulty program_language the_sign refl s c (lexemes.sign b)
        (sign_here c b is) (a_sign_kind b known) why e

  pub sign_barred : is_sign_of (seen_lexeme c.token.lexeme) b ≡ false → fault_at syntax c.token.at
      ≡ reading the_sign s (rest c)
  sign_barred other = token_barred program_language the_sign refl s c
      (no_sign b (seen_lexeme c.token.lexeme) other)

-- ---- keywords
pub keyword_is : (x : Lexeme) (k : Keyword) → is_keyword_of x k ≡ true → x ≡ lexemes.keyword k
keyword_is (lexemes.keyword j) k e = let same = kinds_exact.exact (a_keyword k) (a_keyword j) e in
    cc
keyword_is x k e = absurd (cc)

pub keyword_kind : (k : Keyword) (x : Lexeme) → is_keyword_of x k ≡ true
    → has same (a_keyword k ∷ []) (kind_of x) ≡ true
keyword_kind k (lexemes.keyword j) e = ap (λ b. b || false) e
keyword_kind k x e = absurd (cc)

no_keyword : (x : Lexeme) (k : Keyword) → is_keyword_of x k ≡ false
    → has same (a_keyword k ∷ []) (shape x) ≡ false
no_keyword (lexemes.keyword j) k e = ap (λ b. b || false) e
no_keyword x k e = refl

pub no_keyword_kind : (k : Keyword) (x : Lexeme) → is_keyword_of x k ≡ false
    → has same (a_keyword k ∷ []) (kind_of x) ≡ false
no_keyword_kind k x e = by_shape (a_keyword k ∷ []) x refl (no_keyword x k e)

module _ (k : Keyword) (c : Cursor) (fault : ProgramContext → Option Reason) (next : ProgramContext
    → ProgramContext) (build : ProgramContext → ProgramValue → ProgramValue)
    (s : ProgramState) where
  abbrev the_keyword : Rule
  the_keyword = token_of (a_keyword k) fault next build

  module _ (is : is_keyword_of (seen_lexeme c.token.lexeme) k ≡ true) where
    pub keyword_read : fault s.context ≡ None → (us : List Placed)
        → tokens_behind c.text.now (lexemes.keyword k) c.token.end ≡ us
        → Ok (after_change next build s, us) ≡ reading the_keyword s (rest c)
    keyword_read free us e =
        ap (λ ts. Ok (after_change next build s, ts))
        (sym (ap (λ x. tokens_behind c.text.now x c.token.end)
        (keyword_is (seen_lexeme c.token.lexeme) k is) ∙ e))
        ∙ taken program_language the_keyword s (here c) (behind c) refl
        (keyword_kind k (seen_lexeme c.token.lexeme) is) free

    pub keyword_at_fault : (why : Reason) → fault s.context ≡ Some why → fault_at why c.token.at
        ≡ reading the_keyword s (rest c)
    keyword_at_fault why e = faulty program_language the_keyword s (here c) (behind c) why refl
        (keyword_kind k (seen_lexeme c.token.lexeme) is) e

  pub keyword_barred : is_keyword_of (seen_lexeme c.token.lexeme) k ≡ false
      → fault_at syntax c.token.at ≡ reading the_keyword s (rest c)
  keyword_barred other = token_barred program_language the_keyword refl s c
      (no_keyword_kind k (seen_lexeme c.token.lexeme) other)

-- a keyword whose offset waits
module _ (k : Keyword) (fault : ProgramContext → Option Reason)
    (next : ProgramContext → ProgramContext) (s : ProgramState) (c : Cursor)
    (is : is_keyword_of (seen_lexeme c.token.lexeme) k ≡ true) where
  abbrev the_noted : Rule
  the_noted = noted (a_keyword k ∷ []) fault next

  pub noted_read : fault s.context ≡ None → (us : List Placed)
      → tokens_behind c.text.now (lexemes.keyword k) c.token.end ≡ us
      → Ok (record { context = next s.context; value = note c.token.at s.value }, us)
      ≡ reading the_noted s (rest c)
  noted_read free us e =
      ap (λ ts. Ok (record { context = next s.context; value = note c.token.at s.value }, ts))
      (sym (ap (λ x. tokens_behind c.text.now x c.token.end)
      (keyword_is (seen_lexeme c.token.lexeme) k is) ∙ e))
      ∙ taken program_language the_noted s (here c) (behind c) refl
      (keyword_kind k (seen_lexeme c.token.lexeme) is) free

  pub noted_at_fault : (why : Reason) → fault s.context ≡ Some why → fault_at why c.token.at
      ≡ reading the_noted s (rest c)
  noted_at_fault why e = faulty program_language the_noted s (here c) (behind c) why refl
      (keyword_kind k (seen_lexeme c.token.lexeme) is) e

-- ---- the end
pub end_read : (s : ProgramState) (c : Cursor) → is_end_of (seen_lexeme c.token.lexeme) ≡ true
    → Ok (s, []) ≡ reading the_end s (rest c)
end_read s c e =
    let ended = end_is (seen_lexeme c.token.lexeme) e in
    ap (λ ts. Ok (s, ts)) (sym (ap (λ x. tokens_behind c.text.now x c.token.end) ended))
    ∙ taken program_language the_end s (here c) (behind c) refl
    (ap (λ x. has same (an_end ∷ []) (kind_of x)) ended) refl

pub end_barred : (s : ProgramState) (c : Cursor) → is_end_of (seen_lexeme c.token.lexeme) ≡ false
    → fault_at syntax c.token.at ≡ reading the_end s (rest c)
end_barred s c e = token_barred program_language the_end refl s c
    (by_shape (an_end ∷ []) (seen_lexeme c.token.lexeme) refl (no_end (seen_lexeme c.token.lexeme)
    e))

-- ---- what isn't the end
pub keyword_no_end : (l : code.Lexeme) (k : Keyword) → is_keyword_of (seen_lexeme l) k ≡ true
    → l ≢ code_lexeme.End
keyword_no_end l k e h = true≢false (sym e ∙ ap (λ l. is_keyword_of (seen_lexeme l) k) h)
