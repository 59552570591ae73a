use Rattle.std.proofs.Common.{◌≡◌, ℕ, List, [], inr, refl, ap, sym, subst, ◌∙◌, arith, Err, Result, IfSome, option_map}
use Rattle.std.proofs.lemmas.Result.{err_from_is_err_and}
use Rattle.loops.specs.Program.{Expr}
use Rattle.grammars.specs.Grammar.{sequence, rule}
use Rattle.poly_text.specs.Faults.{fault_of}
use Rattle.poly_text.specs.Lexemes.{tokens}
use Rattle.poly_text.specs.CursorView.{rest}
use Rattle.poly_text.specs.Reasons.{Fault}
use Rattle.poly_text.specs.declared.cursor.Cursor.{Cursor}
use Rattle.poly_text.specs.declared.error.TextError.{TextError}
use Rattle.poly_text.proofs.Paths.{GoesOn, start, on, over, ends, in_parts}
use Rattle.loops.specs.Sequences.{Sequence}
use Rattle.loop_text.specs.Seqs.{Rule, seqs, opening, firsts, more_nexts, the_end, nothing, seq_language}
use Rattle.loop_text.specs.SeqReader.{sequences_in, sequences_of}
use Rattle.loop_text.specs.Standing.{AreTokens}
use Rattle.loop_text.specs.SequenceStates.{whole}
use Rattle.loop_text.specs.Firsts.{behind_all}
use Rattle.loop_text.proofs.Standing.{left_tokens}
use Rattle.loop_text.proofs.SequenceWholeReads.{whole_read, whole_fails, whole_fails_last}
use Rattle.loop_text.proofs.sequences.read_seqs.Goals as goal
use Rattle.loop_text.proofs.sequences.read_seqs.Goals.{In_ok-opened, In_ok-firsts, In_ok-iteration}

abbrev all : Rule
all = sequence seqs the_end

abbrev Told : TextError → Result (List (Sequence (Expr ℕ))) Fault → Type 0
Told e x = IfSome (option_map Err (fault_of e))
    (λ (r : Result (List (Sequence (Expr ℕ))) Fault). r ≡ x)

-- from the text's tokens on
from : (bytes : List ℕ) (k : Cursor) → rest k ≡ tokens bytes → AreTokens bytes (rest k)
from bytes k e = inr (record { from = 0; within = omega arith; is = e })

at_text : (bytes : List ℕ) (k : Cursor) (e : TextError) → rest k ≡ tokens bytes
    → Told e (whole seqs nothing (rest k)) → Told e (sequences_of bytes)
at_text bytes k e all_ h = subst (λ ts. Told e (whole seqs nothing ts)) all_ h

opened_on : (c : In_ok-opened) → GoesOn seq_language (sequence seqs the_end) nothing
    (rest c.new.result) (sequence firsts (sequence (rule more_nexts) the_end)) nothing
    (rest c.in_ok-opened.opened)
opened_on c =
    let ts = rest c.new.result in
    let us = rest c.in_ok-opened.opened in
    over (on (over (start seq_language (sequence seqs the_end) nothing ts) _ _ _
    (in_parts seq_language opening (sequence firsts (rule more_nexts)) nothing ts the_end))
    (c.in_ok-opened.ensures.goes nothing)) _ _ _
    (in_parts seq_language firsts (rule more_nexts) nothing us the_end)

stand_opened : (c : In_ok-opened) → AreTokens c.args.bytes.now (rest c.in_ok-opened.opened)
stand_opened c = left_tokens c.args.bytes.now opening refl nothing (rest c.new.result)
    (from c.args.bytes.now c.new.result c.new.ensures) nothing (rest c.in_ok-opened.opened)
    (c.in_ok-opened.ensures.goes nothing)

pub returns-in_err-opened : goal.returns-in_err-opened
returns-in_err-opened c =
    let p = err_from_is_err_and c.from_residual.result c.from_residual.ensures.1 in
    let ts = rest c.new.result in
    let e = c.in_err-opened.field-0.0 in
    rw (p.1, p.2) (at_text c.args.bytes.now c.new.result e c.new.ensures
    (whole_fails seqs nothing ts
    (over (start seq_language (sequence seqs the_end) nothing ts) _ _ _
    (in_parts seq_language opening (sequence firsts (rule more_nexts)) nothing ts the_end))
    e (c.in_err-opened.ensures.goes nothing)))

pub read_firsts-requires : goal.read_firsts-requires
read_firsts-requires c =
    record { tokens = stand_opened (goal.at-read_firsts-requires c).In_ok-opened }

pub returns-in_err-firsts : goal.returns-in_err-firsts
returns-in_err-firsts c =
    let p = err_from_is_err_and c.from_residual-in_err-firsts.result
    c.from_residual-in_err-firsts.ensures.1 in
    let e = c.in_err-firsts.field-0.0 in
    rw (p.1, p.2) (at_text c.args.bytes.now c.new.result e c.new.ensures
    (whole_fails seqs nothing (rest c.new.result)
    (opened_on (goal.at-returns-in_err-firsts c).In_ok-opened) e c.in_err-firsts.ensures.reads))

firsts_on : (c : In_ok-firsts) → GoesOn seq_language (sequence seqs the_end) nothing
    (rest c.new.result) (sequence (rule more_nexts) the_end)
    (behind_all c.in_ok-firsts.firsts []) (rest c.in_ok-firsts.behind)
firsts_on c =
    let ts = rest c.new.result in
    let us = rest c.in_ok-opened.opened in
    on (over (on (over (start seq_language (sequence seqs the_end) nothing ts) _ _ _
    (in_parts seq_language opening (sequence firsts (rule more_nexts)) nothing ts the_end))
    (c.in_ok-opened.ensures.goes nothing)) _ _ _
    (in_parts seq_language firsts (rule more_nexts) nothing us the_end))
    c.in_ok-firsts.ensures.reads

pub read_nexts-requires-clause-tokens : goal.read_nexts-requires-clause-tokens
read_nexts-requires-clause-tokens c =
    left_tokens c.args.bytes.now firsts refl nothing (rest c.in_ok-opened.opened)
    (left_tokens c.args.bytes.now opening refl nothing (rest c.new.result)
    (from c.args.bytes.now c.new.result c.new.ensures) nothing (rest c.in_ok-opened.opened)
    (c.in_ok-opened.ensures.goes nothing))
    (behind_all c.in_ok-firsts.firsts []) (rest c.in_ok-firsts.behind)
    c.in_ok-firsts.ensures.reads

pub returns-in_err-iteration : goal.returns-in_err-iteration
returns-in_err-iteration c =
    let p = err_from_is_err_and c.from_residual-in_err-iteration.result
    c.from_residual-in_err-iteration.ensures.1 in
    let e = c.in_err-iteration.field-0.0 in
    rw (p.1, p.2) (at_text c.args.bytes.now c.new.result e c.new.ensures
    (whole_fails seqs nothing (rest c.new.result)
    (firsts_on (goal.at-returns-in_err-iteration c).In_ok-firsts) e c.in_err-iteration.ensures))

iteration_on : (c : In_ok-iteration) → GoesOn seq_language (sequence seqs the_end) nothing
    (rest c.new.result) the_end (behind_all c.in_ok-firsts.firsts c.in_ok-iteration.ensures.nexts)
    (rest c.in_ok-iteration.end)
iteration_on c =
    let ts = rest c.new.result in
    let us = rest c.in_ok-opened.opened in
    on (on (over (on (over (start seq_language (sequence seqs the_end) nothing ts) _ _ _
    (in_parts seq_language opening (sequence firsts (rule more_nexts)) nothing ts the_end))
    (c.in_ok-opened.ensures.goes nothing)) _ _ _
    (in_parts seq_language firsts (rule more_nexts) nothing us the_end))
    c.in_ok-firsts.ensures.reads) c.in_ok-iteration.ensures.goes

pub returns-in_err-expect_end : goal.returns-in_err-expect_end
returns-in_err-expect_end c =
    let p = err_from_is_err_and c.from_residual-in_err-expect_end.result
    c.from_residual-in_err-expect_end.ensures.1 in
    let e = c.in_err-expect_end.field-0.0 in
    let s = behind_all c.in_ok-firsts.firsts c.in_ok-iteration.ensures.nexts in
    rw (p.1, p.2) (at_text c.args.bytes.now c.new.result e c.new.ensures
    (whole_fails_last seqs nothing (rest c.new.result)
    (iteration_on (goal.at-returns-in_err-expect_end c).In_ok-iteration) e
    (c.in_err-expect_end.ensures.err s)))

pub returns-in-Ok : goal.returns-in-Ok
returns-in-Ok c =
    let ns = c.in_ok-iteration.ensures.nexts in
    let s = behind_all c.in_ok-firsts.firsts ns in
    record {
      sequences = sequences_in s;
      said = sym (whole_read seqs nothing (rest c.new.result) s
          (ends (iteration_on (goal.at-returns-in-Ok c).In_ok-iteration)
          (c.in_ok-expect_end.ensures.ok s))
          ∙ ap (whole seqs nothing) c.new.ensures);
      is = c.in-Ok.ensures ns c.in_ok-iteration.ensures.iteration;
    }
