-- The guard of a branch, byte by byte, and what stands before its statements.
--   guard_begins                   when, and the bytes behind it
--   guard_more, guard_goes_on      a byte of it, and what comes behind that; guard_barred: another token
--   guard_ends                     the { behind it
--   head_guarded, head_bare        with a guard, and without one
use Rattle.std.proofs.Common.{◌≡◌, ℕ, List, [], ◌∷◌, refl, ap, sym, subst, ◌∙◌, true, false, if◌then◌else◌, IsTrue, None, Ok}
use Rattle.loop_model.specs.Words.{when_word}
use Rattle.grammars.specs.Kinds.{has}
use Rattle.grammars.specs.Grammar.{sequence, many, some}
use Rattle.poly_text.specs.Lexemes.{Placed, tokens_from, guard_from, is_sign_of, is_item}
use Rattle.poly_text.specs.NextToken.{seen_lexeme, items_behind, is_genuine}
use Rattle.poly_text.specs.Kinds.{an_item, no_kind, a_sign, same, kind_of}
use Rattle.poly_text.specs.Reasons.{Fault, syntax}
use Rattle.poly_text.specs.CursorView.{rest, items}
use Rattle.poly_text.specs.declared.lexemes.Lexeme.TheVariants as code_lexeme
use Rattle.poly_text.specs.declared.cursor.Cursor.{Cursor}
use Rattle.poly_text.proofs.KindTests.{no_sign, unlike}
use Rattle.poly_text.proofs.Paths.{then_on, in_parts}
use Rattle.poly_text.proofs.CursorReads.{sign_here, fault_at, here, taken, amiss, no_first, at_left, at_right}
use Rattle.loop_text.specs.Loops.{LoopState, Rule, keep, sign, keyword, the_item, guard, head, loop_language}
use Rattle.loop_text.specs.States.{reading, is_keyword_of}
use Rattle.loop_text.proofs.ListReads.{due, none_due}
use Rattle.loop_text.proofs.TokenReads.{keyword_read, keyword_kind, no_keyword_kind}

item_kind : (c : Cursor) (b : ℕ) → c.token.lexeme ≡ code_lexeme.Item b
    → has same (an_item ∷ []) (kind_of (seen_lexeme c.token.lexeme)) ≡ true
item_kind c b is =
    let fits : IsTrue (is_item b) = subst (λ l. IsTrue (is_genuine l)) is c.genuine in
    ap (λ l. has same (an_item ∷ []) (kind_of (seen_lexeme l))) is
    ∙ ap (λ t. has same (an_item ∷ []) (if t then an_item else no_kind)) fits

-- the bytes of a guard and the { behind them, where one is due, and where one was read
abbrev pub items_due : Rule
items_due = sequence (some the_item) (sign 123)

abbrev pub items_read : Rule
items_read = sequence (many the_item) (sign 123)

module _ (s : LoopState) (c : Cursor) where
  abbrev behind_item : List Placed
  behind_item = items_behind c.text.now (seen_lexeme c.token.lexeme) c.token.end

  pub guard_begins : is_keyword_of (seen_lexeme c.token.lexeme) when_word ≡ true → (d : Cursor)
      → guard_from c.text.now c.token.end ≡ items d → reading (sequence guard (sign 123)) s (rest c)
      ≡ reading items_due s (items d)
  guard_begins is d e =
      in_parts loop_language (keyword when_word) (some the_item) s (rest c) (sign 123)
      ∙ then_on loop_language (keyword when_word) items_due s (rest c) s (items d)
      (keyword_read when_word c (λ c. None) (λ c. c) keep s is refl (items d) e)

  pub guard_more : (b : ℕ) → c.token.lexeme ≡ code_lexeme.Item b → (d : Cursor)
      → guard_from c.text.now c.token.end ≡ items d → reading items_due s (items c)
      ≡ reading items_read s (items d)
  guard_more b is d e =
      let behind : behind_item ≡ items d =
      ap (λ l. items_behind c.text.now (seen_lexeme l) c.token.end) is ∙ e in
      in_parts loop_language the_item (many the_item) s (items c) (sign 123)
      ∙ then_on loop_language the_item items_read s (items c) s (items d)
      (ap (λ ts. Ok (s, ts)) (sym behind) ∙ taken loop_language the_item s (here c) behind_item refl
      (item_kind c b is) refl)

  no_item_here : has same (an_item ∷ []) (kind_of (seen_lexeme c.token.lexeme)) ≡ false
      → fault_at syntax c.token.at ≡ reading the_item s (items c)
  no_item_here other = amiss loop_language the_item s (here c) behind_item refl other

  pub guard_goes_on : is_sign_of (seen_lexeme c.token.lexeme) 123 ≡ false
      → reading items_read s (items c) ≡ reading items_due s (items c)
  guard_goes_on other = due the_item (sign 123) refl s (here c) behind_item
      (record { reason = syntax; at = c.token.at }) (λ e. sym (no_item_here e))
      (sym (amiss loop_language (sign 123) s (here c) behind_item refl
      (no_sign 123 (seen_lexeme c.token.lexeme) other)))

  pub guard_barred : ((b : _) → c.token.lexeme ≡ code_lexeme.Item b → ⊥)
      → fault_at syntax c.token.at ≡ reading items_due s (items c)
  guard_barred other =
      let f : Fault = record { reason = syntax; at = c.token.at } in
      no_first loop_language (some the_item) (sign 123) s (items c) f
      (no_first loop_language the_item (many the_item) s (items c) f
      (no_item_here (unlike (an_item ∷ []) c.token.lexeme refl (other, tt))))

  pub guard_ends : is_sign_of (seen_lexeme c.token.lexeme) 123 ≡ true → (d : Cursor)
      → tokens_from c.text.now c.token.end ≡ rest d → Ok (s, rest d) ≡ reading items_read s
      (items c)
  guard_ends is d e =
      let x = sign_here c 123 is in
      let behind : behind_item ≡ rest d = ap (λ x. items_behind c.text.now x c.token.end) x ∙ e in
      ap (λ ts. Ok (s, ts)) (sym behind)
      ∙ sym (none_due the_item (sign 123) refl s (here c) behind_item
      (ap (λ x. has same (an_item ∷ []) (kind_of x)) x)
      ∙ sym (taken loop_language (sign 123) s (here c) behind_item refl
      (ap (λ x. has same (a_sign 123 ∷ []) (kind_of x)) x) refl))

  -- ---- before the statements
  pub head_guarded : is_keyword_of (seen_lexeme c.token.lexeme) when_word ≡ true
      → reading head s (rest c) ≡ reading (sequence guard (sign 123)) s (rest c)
  head_guarded is = at_left loop_language (sequence guard (sign 123)) (sign 123) s c
      (keyword_kind when_word (seen_lexeme c.token.lexeme) is)

  pub head_bare : is_keyword_of (seen_lexeme c.token.lexeme) when_word ≡ false
      → reading head s (rest c) ≡ reading (sign 123) s (rest c)
  head_bare other = at_right loop_language (sequence guard (sign 123)) (sign 123) s c
      (no_keyword_kind when_word (seen_lexeme c.token.lexeme) other)
