-- Sums in programs.
--   sum_read, sum_fault       what the reader of sums reads is what the language of programs reads
--   right_side_read           a right side of an assignment
use Rattle.std.proofs.Common.{◌≡◌, ℕ, suc, List, [], ◌∷◌, ◌++◌, length, Bool, true, refl, ap, sym, ◌∙◌, Ok, Err, arith}
use Rattle.std.proofs.lemmas.List.{length_push}
use Rattle.loops.specs.Program.{Expr}
use Rattle.grammars.specs.Grammar.{change, sequence, rule, after_change}
use Rattle.grammars.specs.Reader as answer
use Rattle.grammars.specs.Reader.{ReadResult, parsed}
use Rattle.grammars.specs.Embedded.{lift, part, with_part, answer_in}
use Rattle.grammars.proofs.Lifted.{lifted_read}
use Rattle.poly_text.specs.Reasons.{Reason}
use Rattle.program_text.specs.Lexemes.{Lexeme, Placed}
use Rattle.program_text.specs.Faults.{fault_of}
use Rattle.program_text.specs.Sums.{Rule as SumGrammar, SumContext, SumValue, SumState, a_sum, sum_language}
use Rattle.program_text.specs.CursorView.{rest, behind}
use Rattle.program_text.specs.Reads.{Progress, progress, Around, state_in, behind_expr}
use Rattle.program_model.specs.Program.{Divisor}
use Rattle.program_text.specs.Telling as telling
use Rattle.program_text.specs.Told.{Told, told}
use Rattle.program_text.specs.declared.error.ProgramTextError.{ProgramTextError}
use Rattle.program_text.specs.declared.cursor.Cursor.{Cursor}
use Rattle.program_text.specs.Programs.{ProgramContext, ProgramValue, ProgramState, sum, begin_value, keep, end_value, with_value, right_side, sums_in_programs, program_language}
use Rattle.program_text.specs.States.{reading, in_set}
use Rattle.poly_text.proofs.Paths.{fault_passes}
use Rattle.program_text.proofs.Paths.{IsFault, reading_change, GoesOn, start, on, ends}
use Rattle.program_text.proofs.CursorReads.{here}
use Rattle.program_text.proofs.ProgramChecked.{sums_embedded}

-- ---- what is read
module _ (s : ProgramState) (ts : List Placed) where
  abbrev in_program : Told SumContext SumValue → Told ProgramContext ProgramValue
  in_program (Ok r) = Ok (with_part sums_in_programs r.0 s, r.1)
  in_program (Err f) = Err f

  told_in : (a : ReadResult Lexeme SumContext SumValue Reason)
      → told (answer_in sums_in_programs a s) ≡ in_program (told a)
  told_in (answer.reads t rest) = refl
  told_in (answer.refused x why) = refl
  told_in answer.unended = refl

  module _ (g : SumGrammar) where
    abbrev told_sum : Told SumContext SumValue
    told_sum = telling.reading sum_language g (part sums_in_programs s) ts

    lifted_reading : reading (lift sums_in_programs g) s ts ≡ in_program told_sum
    unfolding telling.reading
    lifted_reading = ap told (lifted_read sums_in_programs sum_language program_language
        sums_embedded g s ts) ∙ told_in (parsed sum_language g (part sums_in_programs s) ts)

    pub lifted_reads : (t : SumState) (us : List Placed) → Ok (t, us) ≡ told_sum
        → Ok (with_part sums_in_programs t s, us) ≡ reading (lift sums_in_programs g) s ts
    lifted_reads t us e = ap in_program e ∙ sym lifted_reading

    pub lifted_fault : (e : ProgramTextError) → IsFault e told_sum
        → IsFault e (reading (lift sums_in_programs g) s ts)
    lifted_fault e h = fault_passes (fault_of e) told_sum (reading (lift sums_in_programs g) s ts)
        (λ f h. ap in_program h ∙ sym lifted_reading) h

  abbrev sum_told : Told SumContext SumValue
  sum_told = telling.reading sum_language (rule a_sum) (part sums_in_programs s) ts

  pub sum_read : (t : SumState) (us : List Placed) → Ok (t, us) ≡ sum_told
      → Ok (with_part sums_in_programs t s, us) ≡ reading sum s ts
  sum_read t us e = lifted_reads (rule a_sum) t us e

  pub sum_fault : (e : ProgramTextError) → IsFault e sum_told → IsFault e (reading sum s ts)
  sum_fault e h = lifted_fault (rule a_sum) e h

-- ---- right sides
abbrev pub in_sum : List (List ℕ) → Bool → SumValue → Around
in_sum names free v = record { names = names; free = free; depth = 0; value = v }

module _ (names : List (List ℕ)) (n k : ℕ) (w : ProgramValue) (is : List ℕ) (es : List (Expr ℕ))
    (ds : List (Divisor (Expr ℕ))) (c : Cursor) where
  abbrev pub side_state : ProgramState
  side_state = after_change begin_value keep (in_set names n k w is es ds)

  pub side_begins : GoesOn program_language right_side (in_set names n k w is es ds) (rest c)
      (sequence sum (change end_value with_value)) side_state (rest c)
  side_begins = on (start program_language right_side (in_set names n k w is es ds) (rest c))
      (sym (reading_change program_language begin_value keep (in_set names n k w is es ds) (here c)
      (behind c)))

  pub right_side_read : (e : Expr ℕ) (m : Progress) (d : Cursor)
      → Ok (state_in (behind_expr (in_sum names true w.sum) e) m, rest d)
      ≡ telling.reading sum_language (rule a_sum)
      (state_in (in_sum names true w.sum) (progress 0 ds)) (rest c)
      → Ok (in_set names n k w is (es ++ e ∷ []) m.divisors, rest d)
      ≡ reading right_side (in_set names n k w is es ds) (rest c)
  right_side_read e m d reads =
      let t = with_part sums_in_programs (state_in (behind_expr (in_sum names true w.sum) e) m)
      side_state in
      let one_more : length (es ++ e ∷ []) ≡ suc (length es) = length_push es e ∙ omega arith in
      ap (λ l. Ok (
        record {
          context = record (in_set names n k w is (es ++ e ∷ []) m.divisors).context { values = l };
          value = (in_set names n k w is (es ++ e ∷ []) m.divisors).value;
        },
        rest d,
      )) one_more
      ∙ ends (on side_begins
      (sum_read side_state (rest c) (state_in (behind_expr (in_sum names true w.sum) e) m) (rest d)
      reads)) (sym (reading_change program_language end_value with_value t (here d) (behind d)))
