-- The names behind `vars`.
--   plain_too                a word of programs that is no keyword is none of loops
--   declared_is              why a name is at fault, by three tests
--   name_fails, name_reads   a name that is at fault, and one that is read; name_barred: another token
use Rattle.std.proofs.Common.{◌≡◌, ℕ, suc, Bool, true, false, ◌&&◌, nat_le, if◌then◌else◌, List, [], ◌∷◌, ◌++◌, length, is_some, is_none, refl, ap, ap₂, ◌∙◌, Option, Some, None, Ok}
use Rattle.loops.specs.Limits.{most_bytes}
use Rattle.loop_model.specs.Names.{place_of}
use Rattle.loop_model.specs.Words as loop_words
use Rattle.poly_text.specs.Reasons.{Reason, syntax, limit, twice, unless, or_else}
use Rattle.program_text.specs.Words as words
use Rattle.program_text.specs.Words.{is_plain_word, is_word_text, Keyword, vars_word, if_word, else_word, while_word, for_word, assume_word, assert_word, any_word, unknown_word, loop_word}
use Rattle.program_text.specs.Lexemes as lexemes
use Rattle.program_text.specs.Lexemes.{tokens_from}
use Rattle.program_text.specs.Kinds.{a_name}
use Rattle.program_text.specs.NextToken.{seen_lexeme}
use Rattle.program_text.specs.CursorView.{rest}
use Rattle.program_text.specs.declared.cursor.Cursor.{Cursor}
use Rattle.program_text.specs.declared.lexemes.Lexeme.TheVariants as code_lexeme
use Rattle.program_text.specs.Programs.{most_names, declared_fault, declared_name, outside, program_language}
use Rattle.program_text.specs.States.{reading, named_so}
use Rattle.program_text.proofs.CursorReads.{fault_at, token_read, token_faulty, token_barred, no_name_here}
use Rattle.program_text.proofs.PartSteps.{name_kind}

abbrev chain : Bool → Bool → Bool → Bool → Bool → Bool → Bool → Bool → Bool → Bool → Option Keyword
chain a b c d e f g h i j = if a then Some vars_word
    else (if b then Some if_word
    else (if c then Some else_word
    else (if d then Some while_word
    else (if e then Some for_word
    else (if f then Some assume_word
    else (if g then Some assert_word
    else (if h then Some any_word
    else (if i then Some unknown_word
    else (if j then Some loop_word else None)))))))))

last_none : (a b c d e f g h i j : Bool) → is_none (chain a b c d e f g h i j) ≡ true → j ≡ false
last_none false false false false false false false false false false n = refl
last_none a b c d e f g h i false n = refl
last_none true b c d e f g h i true n = absurd (cc)
last_none false true c d e f g h i true n = absurd (cc)
last_none false false true d e f g h i true n = absurd (cc)
last_none false false false true e f g h i true n = absurd (cc)
last_none false false false false true f g h i true n = absurd (cc)
last_none false false false false false true g h i true n = absurd (cc)
last_none false false false false false false true h i true n = absurd (cc)
last_none false false false false false false false true i true n = absurd (cc)
last_none false false false false false false false false true true n = absurd (cc)
last_none false false false false false false false false false true n = absurd (cc)

no_loop_word : (w : List ℕ) → is_none (words.keyword_of w) ≡ true
    → is_some (loop_words.keyword_of w) ≡ false
unfolding words.keyword_of
no_loop_word w n = last_none _ _ _ _ _ _ _ _ _ (is_some (loop_words.keyword_of w)) n

some_none : {A : Type 0} (o : Option A) → is_some o ≡ false → is_none o ≡ true
some_none None e = refl
some_none (Some x) e = absurd (cc)

and_parts : (a b : Bool) → a && b ≡ true → (a ≡ true) × (b ≡ true)
and_parts true b h = (refl, h)
and_parts false b h = absurd (cc)

pub plain_too : (w : List ℕ) → is_plain_word w ≡ true → loop_words.is_plain_word w ≡ true
plain_too w plain =
    let p = and_parts (is_word_text w) (is_none (words.keyword_of w)) plain in
    ap₂ ◌&&◌ p.0 (some_none (loop_words.keyword_of w) (no_loop_word w p.1))

module _ (names : List (List ℕ)) (w : List ℕ) where
  abbrev by_tests : Bool → Bool → Bool → Option Reason
  by_tests few short there = or_else (unless few limit) (or_else (unless short limit)
      (if there then Some twice else None))

  pub declared_is : (few short there : Bool) → nat_le (suc (length names)) 16 ≡ few
      → nat_le (length w) 32 ≡ short → is_some (place_of names w) ≡ there
      → declared_fault (outside names) w ≡ by_tests few short there
  unfolding most_names most_bytes
  declared_is few short there e h k =
      ap₂ (λ b d. by_tests b d (is_some (place_of names w))) e h ∙ ap (by_tests few short) k

module _ (names : List (List ℕ)) (c : Cursor) where
  module _ (w : _) (is : c.token.lexeme ≡ code_lexeme.Name w) where
    pub name_fails : (why : Reason) → declared_fault (outside names) w.now ≡ Some why
        → fault_at why c.token.at ≡ reading declared_name (named_so names) (rest c)
    name_fails why e = token_faulty program_language declared_name refl (named_so names) c
        (lexemes.name w.now) (ap seen_lexeme is) (name_kind (a_name ∷ []) c w is) why e

    pub name_reads : declared_fault (outside names) w.now ≡ None → (d : Cursor)
        → tokens_from c.text.now c.token.end ≡ rest d
        → Ok (named_so (names ++ w.now ∷ []), rest d) ≡ reading declared_name (named_so names)
        (rest c)
    name_reads free d e = token_read program_language declared_name refl (named_so names) c
        (lexemes.name w.now) (ap seen_lexeme is) (name_kind (a_name ∷ []) c w is) d e free

  pub name_barred : ((w : _) → c.token.lexeme ≡ code_lexeme.Name w → ⊥)
      → fault_at syntax c.token.at ≡ reading declared_name (named_so names) (rest c)
  name_barred other = token_barred program_language declared_name refl (named_so names) c
      (no_name_here c other)
