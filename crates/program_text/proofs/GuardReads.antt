-- The text of a guard, byte by byte, and the { behind it.
--   guard_more, guard_goes_on      a byte of it, and what comes behind that; guard_barred: another token
--   guard_ends                     the { behind it is due
use Rattle.std.proofs.Common.{◌≡◌, ℕ, List, [], ◌∷◌, ◌++◌, ◌-◌, length, refl, ap, sym, subst, ◌∙◌, true, false, if◌then◌else◌, IsTrue, Ok}
use Rattle.grammars.specs.Kinds.{has}
use Rattle.grammars.specs.Grammar.{sequence, many, some}
use Rattle.program_text.specs.Lexemes.{Placed, guard_from, is_sign_of, is_item}
use Rattle.program_text.specs.NextToken.{seen_lexeme, tokens_behind, items_behind, is_genuine}
use Rattle.program_text.specs.Kinds.{an_item, no_kind, same, kind_of}
use Rattle.poly_text.specs.Reasons.{Fault, syntax}
use Rattle.program_text.specs.Guards.{blanks, byte_in}
use Rattle.program_text.specs.CursorView.{rest, items}
use Rattle.program_text.specs.declared.lexemes.Lexeme.TheVariants as code_lexeme
use Rattle.program_text.specs.declared.cursor.Cursor.{Cursor}
use Rattle.program_text.proofs.KindTests.{no_sign, unlike}
use Rattle.program_text.proofs.Paths.{then_on, in_parts}
use Rattle.program_text.proofs.CursorReads.{sign_here, fault_at, here, taken, amiss, no_first}
use Rattle.program_text.specs.Programs.{ProgramState, Rule, the_item, guard_end, program_language}
use Rattle.program_text.specs.GuardReads.{with_text}
use Rattle.program_text.specs.States.{reading}
use Rattle.program_text.proofs.ListReads.{due, none_due}

item_kind : (c : Cursor) (b : ℕ) → c.token.lexeme ≡ code_lexeme.Item b
    → has same (an_item ∷ []) (kind_of (seen_lexeme c.token.lexeme)) ≡ true
item_kind c b is =
    let fits : IsTrue (is_item b) = subst (λ l. IsTrue (is_genuine l)) is c.genuine in
    ap (λ l. has same (an_item ∷ []) (kind_of (seen_lexeme l))) is
    ∙ ap (λ t. has same (an_item ∷ []) (if t then an_item else no_kind)) fits

-- the bytes of a guard and the { behind them, where one is due, and where one was read
abbrev pub items_due : Rule
items_due = sequence (some the_item) guard_end

abbrev pub items_read : Rule
items_read = sequence (many the_item) guard_end

module _ (s : ProgramState) (c : Cursor) where
  abbrev behind_item : List Placed
  behind_item = items_behind c.text.now (seen_lexeme c.token.lexeme) c.token.end

  pub guard_more : (text : List ℕ) (b : ℕ) → c.token.lexeme ≡ code_lexeme.Item b → (d : Cursor)
      → guard_from c.text.now c.token.end ≡ items d
      → reading items_due (with_text text s) (items c)
      ≡ reading items_read (with_text (text ++ blanks (c.token.at - length text) ++ b ∷ []) s)
      (items d)
  guard_more text b is d e =
      let t = with_text (text ++ blanks (c.token.at - length text) ++ b ∷ []) s in
      let behind : behind_item ≡ items d =
      ap (λ l. items_behind c.text.now (seen_lexeme l) c.token.end) is ∙ e in
      in_parts program_language the_item (many the_item) (with_text text s) (items c) guard_end
      ∙ then_on program_language the_item items_read (with_text text s) (items c) t (items d)
      (ap (λ ts. Ok (t, ts)) (sym behind)
      ∙ ap (λ l. Ok (
        with_text (text ++ blanks (c.token.at - length text) ++ byte_in (seen_lexeme l) ∷ []) s,
        behind_item,
      )) (sym is)
      ∙ taken program_language the_item (with_text text s) (here c) behind_item refl
      (item_kind c b is) refl)

  no_item_here : has same (an_item ∷ []) (kind_of (seen_lexeme c.token.lexeme)) ≡ false
      → fault_at syntax c.token.at ≡ reading the_item s (items c)
  no_item_here other = amiss program_language the_item s (here c) behind_item refl other

  pub guard_goes_on : is_sign_of (seen_lexeme c.token.lexeme) 123 ≡ false
      → reading items_read s (items c) ≡ reading items_due s (items c)
  guard_goes_on other = due the_item guard_end refl s (here c) behind_item
      (record { reason = syntax; at = c.token.at }) (λ e. sym (no_item_here e))
      (sym (amiss program_language guard_end s (here c) behind_item refl
      (no_sign 123 (seen_lexeme c.token.lexeme) other)))

  pub guard_barred : ((b : _) → c.token.lexeme ≡ code_lexeme.Item b → ⊥)
      → fault_at syntax c.token.at ≡ reading items_due s (items c)
  guard_barred other =
      let f : Fault = record { reason = syntax; at = c.token.at } in
      no_first program_language (some the_item) guard_end s (items c) f
      (no_first program_language the_item (many the_item) s (items c) f
      (no_item_here (unlike (an_item ∷ []) c.token.lexeme refl (other, tt))))

  pub guard_ends : is_sign_of (seen_lexeme c.token.lexeme) 123 ≡ true
      → reading items_read s (items c) ≡ reading guard_end s (rest c)
  guard_ends is =
      let x = sign_here c 123 is in
      none_due the_item guard_end refl s (here c) behind_item
      (ap (λ x. has same (an_item ∷ []) (kind_of x)) x)
      ∙ ap (λ ts. reading guard_end s (here c ∷ ts))
      (ap (λ x. items_behind c.text.now x c.token.end) x
      ∙ sym (ap (λ x. tokens_behind c.text.now x c.token.end) x))
