-- How what the functions of a reader of sums say goes into one another's.
--   operand                 what surrounds the part behind an operator
--   factor_rule             a factor, as the rule says
--   uncounted               behind a part of a sum: one operator too many
--   operand_fails, operand_done     an operator and the part behind it, which is combined with the part before
--   Chains, chain_X         a part, and any number of ways to go on behind it: the first is refused, is read; a way is refused, is taken; there is none more
use Rattle.std.proofs.Common.{◌≡◌, ℕ, List, ap, sym, subst, ◌∙◌, Ok, Err, Result, IfSome, IsTrue}
use Rattle.loops.specs.Program.{Expr}
use Rattle.loop_model.specs.ExpressionView.{expr_of}
use Rattle.grammars.specs.Grammar.{sequence, many, rule}
use Rattle.program_text.specs.Lexemes as lexemes
use Rattle.program_text.specs.Lexemes.{Placed}
use Rattle.program_text.specs.NextToken.{seen_lexeme}
use Rattle.poly_text.specs.Tokens.{is_sign}
use Rattle.program_text.specs.CursorView.{rest}
use Rattle.program_text.specs.declared.cursor.Cursor.{Cursor}
use Rattle.program_text.specs.declared.error.ProgramTextError.{ProgramTextError}
use Rattle.program_text.specs.declared.sums.Part.{Part}
use Rattle.program_text.specs.declared.sums.SumReader.{SumReader}
use Rattle.program_text.specs.Sums.{SumContext, SumValue, SumState, Rule, a_factor, sum_language, factor, operator, combine, push, note}
use Rattle.program_text.specs.Told.{Told}
use Rattle.program_text.specs.Telling.{reading, answer_by}
use Rattle.program_text.specs.Reads.{Progress, progress_of, counted, Around, around, state_in, state_behind, behind_expr, with_operator, Counts, ReadsPart, ReadsBehind}
use Rattle.program_text.proofs.SumChecked.{sums_checked}
use Rattle.program_text.proofs.Paths.{reading_rule, GivesError, GoesOn, start, on, over, ends, stops}
use Rattle.program_text.proofs.PartSteps.{combine_done}

abbrev pub operand : Part → Cursor → Around → Around
operand p k a = with_operator (behind_expr a (expr_of p.value.value)) k.token.at

module _ (r : SumReader) (depth : ℕ) where
  pub factor_rule : (n : Progress) (k : Cursor) (result : Result (Part × Cursor) ProgramTextError)
      → ReadsPart r depth factor n k result → ReadsPart r depth (rule a_factor) n k result
  factor_rule n k result h = λ v.
      let a = around r depth v in
      subst (λ y. IfSome (answer_by (state_behind a) result) (λ (told : Told SumContext SumValue).
      told ≡ y)) (sym (reading_rule sum_language sums_checked a_factor (state_in a n)
      (rest k))) (h v)

  -- ---- an operator and the part behind it, combined with the part before
  module _ (p : Part) (k : Cursor) (b : ℕ) (known : IsTrue (is_sign b))
      (is : seen_lexeme k.token.lexeme ≡ lexemes.sign b) where
    abbrev d : Expr ℕ
    d = expr_of p.value.value

    pub uncounted : (h : Rule) {error : ProgramTextError} {result : Result (Part × Cursor)
        ProgramTextError}
        → Counts p.progress.operators k (Err error) → GivesError result error
        → ReadsBehind r depth (sequence (operator b) h) p k result
    uncounted h counts gives = λ v.
        let a = around r depth v in
        stops (start sum_language (sequence (operator b) h) (state_behind a p) (rest k))
        (state_behind a) gives (counts (behind_expr a d) (progress_of p.progress).divisors b known
        is)

    module _ (h : Rule) (f : ℕ → Expr ℕ → Expr ℕ → Expr ℕ) (next : Cursor)
        (counts : Counts p.progress.operators k (Ok next)) where
      abbrev joins : Rule
      joins = sequence (operator b) (sequence h (combine f))

      behind_operator : (a : Around) → GoesOn sum_language joins (state_behind a p) (rest k)
          (sequence h (combine f)) (state_in (operand p k a) (counted (progress_of p.progress)))
          (rest next)
      behind_operator a = on (start sum_language joins (state_behind a p) (rest k))
          (counts (behind_expr a d) (progress_of p.progress).divisors b known is)

      pub operand_fails : {error : ProgramTextError} {result : Result (Part × Cursor)
          ProgramTextError}
          → ReadsPart r depth h (counted (progress_of p.progress)) next (Err error)
          → GivesError result error → ReadsBehind r depth joins p k result
      operand_fails reads gives = λ v. let a = around r depth v in
          stops (behind_operator a) (state_behind a) gives
          (reads (note k.token.at (push d v)))

      pub operand_done : (q w : Part) (end : Cursor)
          → ReadsPart r depth h (counted (progress_of p.progress)) next (Ok (q, end))
          → expr_of w.value.value ≡ f k.token.at d (expr_of q.value.value)
          → w.progress ≡ q.progress
          → ReadsBehind r depth joins p k (Ok (w, end))
      operand_done q w end reads value count = λ v.
          let a = around r depth v in
          let e = expr_of q.value.value in
          ap (λ e. Ok (state_in (behind_expr a e) (progress_of w.progress), rest end)) value
          ∙ ap (λ n. Ok (state_in (behind_expr a (f k.token.at d e)) (progress_of n), rest end))
          count
          ∙ ends (on (behind_operator a) (reads (note k.token.at (push d v))))
          (combine_done a (progress_of q.progress) k.token.at d f e end)

  -- ---- a part, and what follows it
  -- g reads what `more` reads, any number of times, behind the part p, at the cursor c
  abbrev pub Chains : Progress → Cursor → Rule → Rule → Part → Cursor → Type 0
  Chains n k g more p c = (v : SumValue) → let a = around r depth v in
      GoesOn sum_language g (state_in a n) (rest k) (many more) (state_behind a p) (rest c)

  module _ (n : Progress) (k : Cursor) (g h more : Rule) (says : (s : SumState) (ts : List Placed)
      → reading sum_language g s ts ≡ reading sum_language (sequence h (many more)) s ts) where
    begins : (a : Around) → GoesOn sum_language g (state_in a n) (rest k) (sequence h (many more))
        (state_in a n) (rest k)
    begins a = over (start sum_language g (state_in a n) (rest k)) (sequence h (many more))
        (state_in a n) (rest k) (says (state_in a n) (rest k))

    pub chain_fails : {error : ProgramTextError} {result : Result (Part × Cursor) ProgramTextError}
        → ReadsPart r depth h n k (Err error) → GivesError result error
        → ReadsPart r depth g n k result
    chain_fails reads gives = λ v. let a = around r depth v in
        stops (begins a) (state_behind a) gives (reads v)

    pub chain_begins : (p : Part) (c : Cursor) → ReadsPart r depth h n k (Ok (p, c))
        → Chains n k g more p c
    chain_begins p c reads = λ v. on (begins (around r depth v)) (reads v)

    pub chain_ends : (p : Part) (c : Cursor) → Chains n k g more p c
        → ((s : SumState) → Ok (s, rest c) ≡ reading sum_language (many more) s (rest c))
        → ReadsPart r depth g n k (Ok (p, c))
    chain_ends p c chains none = λ v.
        ends (chains v) (none (state_behind (around r depth v) p))

    module _ (way : Rule) (p : Part) (c : Cursor) (chains : Chains n k g more p c)
        (goes : (s : SumState) → reading sum_language (many more) s (rest c) ≡ reading sum_language
        (sequence way (many more)) s (rest c)) where
      takes : (v : SumValue) → let a = around r depth v in
          GoesOn sum_language g (state_in a n) (rest k) (sequence way (many more))
          (state_behind a p) (rest c)
      takes v = let s = state_behind (around r depth v) p in
          over (chains v) (sequence way (many more)) s (rest c) (goes s)

      pub way_fails : {error : ProgramTextError} {result : Result (Part × Cursor) ProgramTextError}
          → ReadsBehind r depth way p c (Err error) → GivesError result error
          → ReadsPart r depth g n k result
      way_fails reads gives = λ v. stops (takes v) (state_behind (around r depth v)) gives
          (reads v)

      pub way_goes : (q : Part) (d : Cursor) → ReadsBehind r depth way p c (Ok (q, d))
          → Chains n k g more q d
      way_goes q d reads = λ v. on (takes v) (reads v)
