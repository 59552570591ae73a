use Rattle.std.proofs.Common.{length, nat_le, true, false, refl, ap, sym, ◌∙◌}
use Rattle.loops.specs.Limits.{most_bytes}
use Rattle.poly_text.specs.Reasons.{syntax, unknown}
use Rattle.poly_text.specs.Kinds.{word_in}
use Rattle.poly_text.specs.NextToken.{seen_lexeme}
use Rattle.poly_text.specs.declared.error.TextError.TheVariants.{Syntax, Unknown}
use Rattle.loop_text.specs.Seqs.{is_sequences, in_nexts}
use Rattle.loop_text.specs.Telling.{first_of, next_in}
use Rattle.loop_text.proofs.ToldSums.{keeps_nexts, told_so, told_same, nexts_syntax, nexts_unknown, nexts_same, no_sequences, no_length, short_word, long_word}
use Rattle.loop_text.proofs.sequence_sums.in_nexts.Goals as goal

pub returns-then-is_sequences : goal.returns-then-is_sequences
returns-then-is_sequences c =
    let next = ap first_of c.next_lexeme.ensures.tokens in
    let word = ap word_in next ∙ ap (λ l. word_in (seen_lexeme l)) c.in-Name.is in
    told_so in_nexts keeps_nexts c.args.text.now c.args.error c.in-Some.at (sym c.offset.ensures
    ∙ c.in-Some.is) (Syntax c.in-Some.at) syntax refl
    (λ why other. nexts_syntax (next_in c.args.text.now c.in-Some.at) why other
    (ap is_sequences word ∙ sym c.is_sequences.ensures ∙ c.if-is_sequences.true))

pub returns-then-word-gt-MOST_BYTES : goal.returns-then-word-gt-MOST_BYTES
returns-then-word-gt-MOST_BYTES c =
    let next = ap first_of c.next_lexeme.ensures.tokens in
    let word = ap word_in next ∙ ap (λ l. word_in (seen_lexeme l)) c.in-Name.is in
    let again = ap word_in next ∙ ap (λ l. word_in (seen_lexeme l)) c.in-Name.is in
    told_so in_nexts keeps_nexts c.args.text.now c.args.error c.in-Some.at (sym c.offset.ensures
    ∙ c.in-Some.is) (Unknown c.in-Some.at) unknown refl
    (λ why other. nexts_unknown (next_in c.args.text.now c.in-Some.at) why other
    (ap is_sequences word ∙ sym c.is_sequences.ensures ∙ c.if-is_sequences.false)
    (ap (λ w. nat_le (length w) most_bytes) again
    ∙ long_word c.in-Name.word.now c.if-word-gt-MOST_BYTES.true))

pub returns : goal.returns
returns c =
    let next = ap first_of c.next_lexeme.ensures.tokens in
    let word = ap word_in next ∙ ap (λ l. word_in (seen_lexeme l)) c.in-Name.is in
    let again = ap word_in next ∙ ap (λ l. word_in (seen_lexeme l)) c.in-Name.is in
    told_same in_nexts keeps_nexts c.args.text.now c.args.error c.in-Some.at (sym c.offset.ensures
    ∙ c.in-Some.is)
    (λ why other. nexts_same (next_in c.args.text.now c.in-Some.at) why other (ap is_sequences word
    ∙ sym c.is_sequences.ensures ∙ c.if-is_sequences.false)
    (ap (λ w. nat_le (length w) most_bytes) again
    ∙ short_word c.in-Name.word.now c.if-word-gt-MOST_BYTES.false))

pub returns-in_default-lexeme : goal.returns-in_default-lexeme
returns-in_default-lexeme c =
    let next = ap first_of c.next_lexeme.ensures.tokens in
    let l = c.next_lexeme.result.lexeme in
    told_same in_nexts keeps_nexts c.args.text.now c.args.error c.in-Some.at (sym c.offset.ensures
    ∙ c.in-Some.is)
    (λ why other. nexts_same (next_in c.args.text.now c.in-Some.at) why other
    (ap (λ x. is_sequences (word_in x)) next ∙ no_sequences l c.in_default-lexeme.not-Name)
    (ap (λ x. nat_le (length (word_in x)) most_bytes) next
    ∙ no_length l c.in_default-lexeme.not-Name))
