-- What the functions that read chains say of the answers of those that they call.
--   then_goes, then_fails, then_other, then_barred    the word `then`, at fault or not; another word; another token
--   whole_read, whole_fails, whole_fails_last         what is read up to the end of the text, and an error on the way
--   no_more, one_more          behind the branches of a loop: the text ends, or another loop is due
--   no_code, do_other, do_goes, code_taken     code, or none
--   same_stages                a chain's first loop has the branches that were read first
use Rattle.std.proofs.Common.{◌≡◌, ℕ, List, [], ◌∷◌, ◌++◌, refl, sym, ap, subst, ◌∙◌, true, false, Bool, Option, Some, None, Result, Ok, Err, IfSome, option_map, if◌then◌else◌}
use Rattle.std.specs.Prelude.{codes}
use Rattle.std.specs.Str.{bytes_eq}
use Rattle.loops.specs.Program.{Expr, Program, Statement}
use Rattle.grammars.specs.Grammar.{change, sequence, many, optional, some}
use Rattle.grammars.specs.Kinds.{has}
use Rattle.poly_text.specs.CursorView.{rest, behind}
use Rattle.poly_text.specs.Faults.{fault_of}
use Rattle.poly_text.specs.Kinds.{an_end, a_name, same, kind_of, word_in}
use Rattle.poly_text.specs.Lexemes as lexemes
use Rattle.poly_text.specs.Lexemes.{Lexeme, Placed, tokens_from, is_end_of}
use Rattle.poly_text.specs.NextToken.{seen_lexeme, tokens_behind}
use Rattle.poly_text.specs.Reasons.{Reason, syntax, limit, unless, Fault}
use Rattle.poly_text.specs.declared.cursor.Cursor.{Cursor}
use Rattle.poly_text.specs.declared.error.TextError.{TextError}
use Rattle.poly_text.specs.declared.lexemes.Lexeme.TheVariants as code_lexeme
use Rattle.poly_text.proofs.CursorReads.{fault_at, here, taken, token_read, token_faulty, token_barred, no_first, named_here, word_here, no_name_here, behind_name}
use Rattle.poly_text.proofs.KindTests.{by_shape, end_is, no_end}
use Rattle.poly_text.proofs.Paths.{IsFault, fault_passes, stopped, GoesOn, start, on, over, reading_sequence, reading_change, reading_left, reading_right, reading_more, reading_none, then_on, in_first, in_parts}
use Rattle.poly_text.proofs.WholeTexts.{whole_told, whole_reading}
use Rattle.loops.specs.Chain.{Chain, Stage}
use Rattle.loop_text.specs.Chains.{ChainState, Rule, loop_limit, then_fault, do_fault, begin_loop, begin_code, end_code, with_loop, taken_code, then_token, do_token, code, code_end, stage, further, chain_end, chain_language}
use Rattle.loop_text.specs.ChainReader.{of_stages, chain_in, chain_or_fault}
use Rattle.loop_text.specs.ChainStates.{reading, whole}
use Rattle.loop_text.proofs.ChainChecked.{chains_checked}
use Rattle.loop_text.proofs.Raised.{up}
use Rattle.loop_text.specs.Loops.{block}

-- ---- `then`
module _ (s : ChainState) (c : Cursor) where
  pub then_barred : ((w : _) → c.token.lexeme ≡ code_lexeme.Name w → ⊥) → fault_at syntax c.token.at
      ≡ reading then_token s (rest c)
  then_barred other = token_barred chain_language then_token refl s c (no_name_here c other)

  module _ (w : _) (is : c.token.lexeme ≡ code_lexeme.Name w) where
    abbrev by_word : Bool → Option Reason
    by_word b = if b then loop_limit s.context.loops else Some syntax

    fault_is : then_fault s.context (word_in (seen_lexeme c.token.lexeme))
        ≡ by_word (bytes_eq w.now (codes "then"))
    fault_is = ap (then_fault s.context) (word_here c w is)

    pub then_other : bytes_eq w.now (codes "then") ≡ false → fault_at syntax c.token.at
        ≡ reading then_token s (rest c)
    then_other e = token_faulty chain_language then_token refl s c (seen_lexeme c.token.lexeme) refl
        (named_here c w is) syntax (fault_is ∙ ap by_word e)

    module _ (e : bytes_eq w.now (codes "then") ≡ true) where
      pub then_fails : loop_limit s.context.loops ≡ Some limit → fault_at limit c.token.at
          ≡ reading then_token s (rest c)
      then_fails f = token_faulty chain_language then_token refl s c (seen_lexeme c.token.lexeme)
          refl (named_here c w is) limit (fault_is ∙ ap by_word e ∙ f)

      pub then_goes : loop_limit s.context.loops ≡ None → (d : Cursor)
          → tokens_from c.text.now c.token.end ≡ rest d
          → Ok (record { context = begin_loop s.context; value = with_loop s.value }, rest d)
          ≡ reading then_token s (rest c)
      then_goes f d next =
          token_read chain_language then_token refl s c (seen_lexeme c.token.lexeme) refl
          (named_here c w is) d
          (behind_name c.text.now (seen_lexeme c.token.lexeme) c.token.end (named_here c w is)
          ∙ next) (fault_is ∙ ap by_word e ∙ f)

-- ---- up to the end
module _ (g : Rule) (s : ChainState) (ts : List Placed) where
  whole_is : whole g s ts ≡ chain_or_fault (whole_told (reading (sequence g chain_end) s ts))
  whole_is = ap chain_or_fault (whole_reading chain_language g chain_end s ts)

  pub whole_read : (t : ChainState) → Ok (t, []) ≡ reading (sequence g chain_end) s ts
      → Ok (chain_in t) ≡ whole g s ts
  whole_read t e = ap (λ r. chain_or_fault (whole_told r)) e ∙ sym whole_is

  pub whole_fails_last : {h : Rule} {t : ChainState} {us : List Placed}
      → GoesOn chain_language (sequence g chain_end) s ts h t us → (e : TextError)
      → IsFault e (reading h t us)
      → IfSome (option_map Err (fault_of e)) (λ (r : Result (Chain (Expr ℕ)) Fault).
      r ≡ whole g s ts)
  whole_fails_last path e p =
      fault_passes (fault_of e) (reading (sequence g chain_end) s ts) (whole g s ts) (λ f h.
      ap (λ r. chain_or_fault (whole_told r)) h ∙ sym whole_is)
      (subst (IsFault e) (sym path.same) p)

  pub whole_fails : {f h : Rule} {t : ChainState} {us : List Placed}
      → GoesOn chain_language (sequence g chain_end) s ts (sequence f h) t us → (e : TextError)
      → IsFault e (reading f t us)
      → IfSome (option_map Err (fault_of e)) (λ (r : Result (Chain (Expr ℕ)) Fault).
      r ≡ whole g s ts)
  whole_fails {f = f} {h = h} {t = t} {us = us} path e p =
      whole_fails_last path e (stopped chain_language f h t us e p)

  pub whole_through : (h : Rule) (t : ChainState) (us : List Placed)
      → GoesOn chain_language (sequence g chain_end) s ts (sequence h chain_end) t us
      → whole h t us ≡ whole g s ts
  whole_through h t us path = ap chain_or_fault (whole_reading chain_language h chain_end t us)
      ∙ ap (λ r. chain_or_fault (whole_told r)) (sym path.same) ∙ sym whole_is

-- the end of the text
pub chain_ended : (s : ChainState) (c : Cursor) → is_end_of (seen_lexeme c.token.lexeme) ≡ true
    → Ok (s, []) ≡ reading chain_end s (rest c)
chain_ended s c e =
    let ended = end_is (seen_lexeme c.token.lexeme) e in
    ap (λ ts. Ok (s, ts)) (sym (ap (λ x. tokens_behind c.text.now x c.token.end) ended))
    ∙ taken chain_language chain_end s (here c) (behind c) refl
    (ap (λ x. has same (an_end ∷ []) (kind_of x)) ended) refl

-- ---- further loops
module _ (s : ChainState) (x : Placed) (ts : List Placed) where
  more_due : has same (a_name ∷ []) (kind_of x.lexeme) ≡ true
      → reading (sequence (many further) chain_end) s (x ∷ ts)
      ≡ reading (sequence (some further) chain_end) s (x ∷ ts)
  more_due e =
      in_first chain_language (many further) chain_end s (x ∷ ts) (some further) s (x ∷ ts)
      (reading_more chain_language chains_checked further refl s x ts e
      ∙ sym (reading_sequence chain_language further (many further) s (x ∷ ts)))

  none_due : has same (a_name ∷ []) (kind_of x.lexeme) ≡ false
      → reading (sequence (many further) chain_end) s (x ∷ ts) ≡ reading chain_end s (x ∷ ts)
  none_due e = then_on chain_language (many further) chain_end s (x ∷ ts) s (x ∷ ts)
      (sym (reading_none chain_language chains_checked further refl s x ts e))

module _ (s : ChainState) (c : Cursor) where
  -- the text ends behind the branches of a loop
  pub no_more : is_end_of (seen_lexeme c.token.lexeme) ≡ true
      → Ok (s, []) ≡ reading (sequence (many further) chain_end) s (rest c)
  no_more e = chain_ended s c e
      ∙ sym (none_due s (here c) (behind c) (ap (λ x. has same (a_name ∷ []) (kind_of x))
      (end_is (seen_lexeme c.token.lexeme) e)))

  not_ended : is_end_of (seen_lexeme c.token.lexeme) ≡ false → fault_at syntax c.token.at
      ≡ reading chain_end s (rest c)
  not_ended e = token_barred chain_language chain_end refl s c
      (by_shape (an_end ∷ []) (seen_lexeme c.token.lexeme) refl (no_end (seen_lexeme c.token.lexeme)
      e))

  -- or it doesn't: what can't begin a further loop can't stand at the end either
  pub one_more : is_end_of (seen_lexeme c.token.lexeme) ≡ false
      → reading (sequence (many further) chain_end) s (rest c)
      ≡ reading
      (sequence then_token (sequence stage (sequence (many further) chain_end))) s
      (rest c)
  one_more other = go (has same (a_name ∷ []) (kind_of (seen_lexeme c.token.lexeme))) refl
    where
      in_iteration : reading (sequence (some further) chain_end) s (rest c)
          ≡ reading
          (sequence then_token (sequence stage (sequence (many further) chain_end))) s
          (rest c)
      in_iteration = in_parts chain_language further (many further) s (rest c) chain_end
          ∙ in_parts chain_language then_token stage s (rest c)
          (sequence (many further) chain_end)

      go : (b : Bool) → has same (a_name ∷ []) (kind_of (seen_lexeme c.token.lexeme)) ≡ b
          → reading (sequence (many further) chain_end) s (rest c)
          ≡ reading
          (sequence then_token (sequence stage (sequence (many further) chain_end))) s
          (rest c)
      go true e = more_due s (here c) (behind c) e ∙ in_iteration
      go false e =
          none_due s (here c) (behind c) e ∙ sym (not_ended other)
          ∙ no_first chain_language then_token
          (sequence stage (sequence (many further) chain_end)) s (rest c) _
          (token_barred chain_language then_token refl s c e)

-- ---- `do`
module _ (s : ChainState) (c : Cursor) where
  -- no name comes: there is no code
  pub no_code : ((w : _) → c.token.lexeme ≡ code_lexeme.Name w → ⊥)
      → Ok (s, rest c) ≡ reading (optional code) s (rest c)
  no_code other =
      sym (reading_right chain_language code (change (λ x. x) (λ x v. v)) s (here c) (behind c)
      (no_name_here c other)
      ∙ reading_change chain_language (λ x. x) (λ x v. v) s (here c) (behind c))

  module _ (w : _) (is : c.token.lexeme ≡ code_lexeme.Name w) where
    some_code : reading (optional code) s (rest c) ≡ reading code s (rest c)
    some_code = reading_left chain_language code (change (λ x. x) (λ x v. v)) s (here c)
        (behind c) (named_here c w is)

    pub do_other : bytes_eq w.now (codes "do") ≡ false
        → fault_at syntax c.token.at ≡ reading (optional code) s (rest c)
    do_other e =
        no_first chain_language do_token (sequence (up block) code_end) s (rest c) _
        (token_faulty chain_language do_token refl s c (seen_lexeme c.token.lexeme) refl
        (named_here c w is) syntax
        (ap do_fault (word_here c w is) ∙ ap (λ b. unless b syntax) e))
        ∙ sym some_code

    module _ (e : bytes_eq w.now (codes "do") ≡ true) (d : Cursor)
        (next : tokens_from c.text.now c.token.end ≡ rest d) where
      pub do_goes : GoesOn chain_language (optional code) s (rest c) (sequence (up block) code_end)
          (record { context = begin_code s.context; value = s.value }) (rest d)
      do_goes =
          on (over (start chain_language _ _ _) _ _ _ some_code)
          (token_read chain_language do_token refl s c (seen_lexeme c.token.lexeme) refl
          (named_here c w is) d
          (behind_name c.text.now (seen_lexeme c.token.lexeme) c.token.end (named_here c w is)
          ∙ next) (ap do_fault (word_here c w is) ∙ ap (λ b. unless b syntax) e))

-- behind the braces
pub code_taken : (s : ChainState) (x : Placed) (xs : List Placed)
    → Ok (record { context = end_code s.context; value = taken_code s.value }, x ∷ xs)
    ≡ reading code_end s (x ∷ xs)
code_taken s x xs = sym (reading_change chain_language end_code (λ c v. taken_code v) s x xs)

-- ---- what was read
-- the branches of a program are those that are read for it
pub same_stages : {E : Type 0} (p : Program E) (b : List (List (Statement E))) (x : Stage E)
    (gs : List (Stage E))
    → of_stages (record p { branches = b }) (gs ++ x ∷ []) ≡ of_stages p (gs ++ x ∷ [])
same_stages p b x [] = refl
same_stages p b x (g ∷ gs) = refl
