-- Names in a loop's text.
--   word_goes, word_fails, word_barred     a name that is taken, that is at fault, and another token
--   left_X                      what a name on a left side is at fault for; left_fails, left_reads: so it is read
--   new_X                       what a name that is declared is at fault for; new_fails, new_reads: so it is read; none_behind: a new one among all names is one among the last
use Rattle.std.proofs.Common.{◌≡◌, ℕ, suc, ◌<◌, ◌≤◌, ◌⊎◌, inl, inr, List, [], ◌∷◌, ◌++◌, length, refl, ap, ap₂, sym, ◌∙◌, le-leb, Bool, true, false, nat_le, if◌then◌else◌, Option, Some, None, unwrap_or, Ok, arith}
use Rattle.std.specs.Option.{option_map_or, is_some}
use Rattle.std.proofs.lemmas.Bool.{lt-leb}
use Rattle.loops.specs.Limits.{most_names, most_bytes}
use Rattle.std.specs.List.{list_any}
use Rattle.std.specs.Str.{bytes_eq}
use Rattle.std.proofs.lemmas.Bool.{or_parts}
use Rattle.std.proofs.lemmas.List.Folds.{list_any-append, list_any_at}
use Rattle.std.proofs.lemmas.List.Quantifiers.{position-Some}
use Rattle.loop_model.proofs.Places.{no_place}
use Rattle.loop_model.specs.Names.{place_of}
use Rattle.poly_text.specs.Lexemes.{tokens_from}
use Rattle.poly_text.specs.NextToken.{seen_lexeme}
use Rattle.poly_text.specs.Kinds.{word_in, is_name}
use Rattle.poly_text.specs.NameFaults.{has}
use Rattle.poly_text.specs.Reasons.{Reason, syntax, limit, twice, unknown, init_uses, unless, or_else}
use Rattle.poly_text.specs.CursorView.{rest}
use Rattle.poly_text.specs.declared.cursor.Cursor.{Cursor}
use Rattle.poly_text.specs.declared.lexemes.Lexeme.TheVariants as code_lexeme
use Rattle.poly_text.proofs.CursorReads.{fault_at, token_read, token_faulty, token_barred, behind_name}
pub use Rattle.poly_text.proofs.CursorReads.{named_here, word_here, no_name_here}
use Rattle.loop_text.specs.Loops.{LoopContext, LoopState, new_fault, word, loop_language}
use Rattle.loop_text.specs.States.{reading, left_fault, IsLeft, IsDeclaration}

module _ (fault : LoopContext → List ℕ → Option Reason) (next : LoopContext → List ℕ → LoopContext)
    (s : LoopState) (c : Cursor) where
  abbrev w : List ℕ
  w = word_in (seen_lexeme c.token.lexeme)

  pub word_goes : is_name (seen_lexeme c.token.lexeme) ≡ true → fault s.context w ≡ None
      → (d : Cursor) → tokens_from c.text.now c.token.end ≡ rest d
      → Ok (record { context = next s.context w; value = s.value }, rest d)
      ≡ reading (word fault next) s (rest c)
  word_goes named free d e = token_read loop_language (word fault next) refl s c
      (seen_lexeme c.token.lexeme) refl named d (behind_name c.text.now (seen_lexeme c.token.lexeme)
      c.token.end named ∙ e) free

  pub word_fails : (why : Reason) → is_name (seen_lexeme c.token.lexeme) ≡ true
      → fault s.context w ≡ Some why → fault_at why c.token.at ≡ reading (word fault next) s
      (rest c)
  word_fails why named faulty = token_faulty loop_language (word fault next) refl s c
      (seen_lexeme c.token.lexeme) refl named why faulty

  pub word_barred : is_name (seen_lexeme c.token.lexeme) ≡ false → fault_at syntax c.token.at
      ≡ reading (word fault next) s (rest c)
  word_barred other = token_barred loop_language (word fault next) refl s c other

-- ---- names on left sides
module _ (names : List (List ℕ)) (taken used w : List ℕ) where
  abbrev left_by : Bool → Option ℕ → Option Reason
  left_by short o = or_else (unless short limit) (option_map_or (λ i. if has taken i then Some twice
      else (if has used i then Some init_uses else None)) o (Some unknown))

  pub left_long : 32 < length w → left_fault names taken used w ≡ Some limit
  unfolding most_bytes
  left_long h = ap (λ short. left_by short (place_of names w)) (lt-leb (length w) 32 h)

  pub left_short : length w ≤ 32 → (o : Option ℕ) → place_of names w ≡ o
      → left_fault names taken used w ≡ left_by true o
  unfolding most_bytes
  left_short h o e = ap₂ left_by (le-leb (length w) 32 h) e

  pub left_found : length w ≤ 32 → (i : ℕ) → place_of names w ≡ Some i → (t u : Bool)
      → has taken i ≡ t → has used i ≡ u → left_fault names taken used w ≡ (if t then Some twice
      else (if u then Some init_uses else None))
  left_found h i e t u is_taken is_used = left_short h (Some i) e ∙ ap₂ (λ t u. if t then Some twice
      else (if u then Some init_uses else None)) is_taken is_used

module _ {names : List (List ℕ)} {taken used : List ℕ} {fault : LoopContext → List ℕ
    → Option Reason} {next : LoopContext → List ℕ → LoopContext} {s : LoopState} {after : ℕ
    → LoopState}
    (left : IsLeft names taken used fault next s after) (c : Cursor) (w : _) (is : c.token.lexeme
    ≡ code_lexeme.Name w) where
  fault_here : fault s.context (word_in (seen_lexeme c.token.lexeme)) ≡ left_fault names taken used
      w.now
  fault_here = left.faults (word_in (seen_lexeme c.token.lexeme))
      ∙ ap (left_fault names taken used) (word_here c w is)

  pub left_fails : (why : Reason) → left_fault names taken used w.now ≡ Some why
      → fault_at why c.token.at ≡ reading (word fault next) s (rest c)
  left_fails why e = word_fails fault next s c why (named_here c w is) (fault_here ∙ e)

  pub left_reads : (i : ℕ) → place_of names w.now ≡ Some i → left_fault names taken used w.now
      ≡ None → (d : Cursor) → tokens_from c.text.now c.token.end ≡ rest d
      → Ok (after i, rest d) ≡ reading (word fault next) s (rest c)
  left_reads i e free d behind =
      ap (λ (t : LoopState). Ok (t, rest d)) (sym (left.goes (word_in (seen_lexeme c.token.lexeme))
      ∙ ap (λ w. after (unwrap_or (place_of names w) 0)) (word_here c w is)
      ∙ ap (λ o. after (unwrap_or o 0)) e))
      ∙ word_goes fault next s c (named_here c w is) (fault_here ∙ free) d behind

-- ---- names that are declared
module _ (others known : List (List ℕ)) (w : List ℕ) where
  new_is : (few short there : Bool) → nat_le (suc (length others)) 12 ≡ few
      → nat_le (length w) 32 ≡ short → is_some (place_of known w) ≡ there
      → new_fault others known w ≡ or_else (unless few limit) (or_else (unless short limit)
      (if there then Some twice else None))
  unfolding most_names most_bytes
  new_is few short there e h k =
      ap₂ (λ b d. or_else (unless b limit) (or_else (unless d limit) (if is_some (place_of known w)
      then Some twice else None))) e h
      ∙ ap (λ b. or_else (unless few limit) (or_else (unless short limit) (if b then Some twice
      else None))) k

  pub new_limit : (12 ≤ length others) ⊎ ((length others < 12) × (32 < length w))
      → new_fault others known w ≡ Some limit
  new_limit (inl many) = new_is false (nat_le (length w) 32) (is_some (place_of known w))
      (lt-leb (suc (length others)) 12 (omega arith)) refl refl
  new_limit (inr h) = new_is true false (is_some (place_of known w)) (le-leb (suc (length others))
      12 (omega (arith, h.0))) (lt-leb (length w) 32 h.1) refl

  -- where it isn't too long
  pub new_short : length others < 12 → length w ≤ 32 → (there : Bool) → is_some (place_of known w)
      ≡ there → new_fault others known w ≡ (if there then Some twice else None)
  new_short few short there e =
      new_is true true there (le-leb (suc (length others)) 12 (omega arith))
      (le-leb (length w) 32 short) e

module _ {others known : List (List ℕ)} {fault : LoopContext → List ℕ → Option Reason}
    {next : LoopContext → List ℕ → LoopContext} {s : LoopState} {after : List (List ℕ) → LoopState}
    (new : IsDeclaration others known fault next s after) (c : Cursor) (w : _) (is : c.token.lexeme
    ≡ code_lexeme.Name w) where
  new_here : fault s.context (word_in (seen_lexeme c.token.lexeme)) ≡ new_fault others known w.now
  new_here = new.faults (word_in (seen_lexeme c.token.lexeme))
      ∙ ap (new_fault others known) (word_here c w is)

  pub new_fails : (why : Reason) → new_fault others known w.now ≡ Some why → fault_at why c.token.at
      ≡ reading (word fault next) s (rest c)
  new_fails why e = word_fails fault next s c why (named_here c w is) (new_here ∙ e)

  pub new_reads : new_fault others known w.now ≡ None → (d : Cursor)
      → tokens_from c.text.now c.token.end ≡ rest d → Ok (after (others ++ w.now ∷ []), rest d)
      ≡ reading (word fault next) s (rest c)
  new_reads free d behind =
      ap (λ (t : LoopState). Ok (t, rest d)) (sym (new.goes (word_in (seen_lexeme c.token.lexeme))
      ∙ ap (λ w. after (others ++ w ∷ [])) (word_here c w is)))
      ∙ word_goes fault next s c (named_here c w is) (new_here ∙ free) d behind

-- a name that is none of some is none of the last of them
pub none_behind : (xs ys : List (List ℕ)) (w : List ℕ) → place_of (xs ++ ys) w ≡ None
    → place_of ys w ≡ None
none_behind xs ys w h = go (place_of ys w) refl
  where
    go : (o : Option ℕ) → place_of ys w ≡ o → place_of ys w ≡ None
    go None e = e
    go (Some i) e =
        let found = position-Some (λ n. bytes_eq n w) ys i [] e in
        let there : list_any (λ n. bytes_eq n w) ys ≡ true = list_any_at (λ n. bytes_eq n w) ys i []
        found.0 found.1 in
        let none = sym (list_any-append (λ n. bytes_eq n w) xs ys) ∙ no_place (xs ++ ys) w h in
        let apart : list_any (λ n. bytes_eq n w) ys ≡ false =
        (or_parts (list_any (λ n. bytes_eq n w) xs) (list_any (λ n. bytes_eq n w) ys) none).1 in
        let no : true ≡ false = sym there ∙ apart in absurd (cc)
