use Rattle.std.proofs.Common.{true, false, refl, ap, sym, ◌∙◌}
use Rattle.poly_text.specs.Reasons.{syntax}
use Rattle.poly_text.specs.Kinds.{word_in}
use Rattle.poly_text.specs.NextToken.{seen_lexeme}
use Rattle.poly_text.specs.declared.error.TextError.TheVariants.{Syntax}
use Rattle.loop_text.specs.Seqs.{is_sequences, in_values}
use Rattle.loop_text.specs.Telling.{first_of, next_in}
use Rattle.loop_text.proofs.ToldSums.{keeps_values, told_so, told_same, values_syntax, values_same, no_sequences}
use Rattle.loop_text.proofs.sequence_sums.in_values.Goals as goal

pub returns-then-is_sequences : goal.returns-then-is_sequences
returns-then-is_sequences c =
    let next = ap first_of c.next_lexeme.ensures.tokens in
    let word = ap word_in next ∙ ap (λ l. word_in (seen_lexeme l)) c.in-Name.is in
    told_so in_values keeps_values c.args.text.now c.args.error c.in-Some.at (sym c.offset.ensures
    ∙ c.in-Some.is) (Syntax c.in-Some.at) syntax refl
    (λ why other. values_syntax (next_in c.args.text.now c.in-Some.at) why (ap is_sequences word
    ∙ sym c.is_sequences.ensures ∙ c.if-is_sequences.true))

pub returns : goal.returns
returns c =
    let next = ap first_of c.next_lexeme.ensures.tokens in
    let word = ap word_in next ∙ ap (λ l. word_in (seen_lexeme l)) c.in-Name.is in
    told_same in_values keeps_values c.args.text.now c.args.error c.in-Some.at (sym c.offset.ensures
    ∙ c.in-Some.is)
    (λ why other. values_same (next_in c.args.text.now c.in-Some.at) why (ap is_sequences word
    ∙ sym c.is_sequences.ensures ∙ c.if-is_sequences.false))

pub returns-in_default-lexeme : goal.returns-in_default-lexeme
returns-in_default-lexeme c =
    let next = ap first_of c.next_lexeme.ensures.tokens in
    told_same in_values keeps_values c.args.text.now c.args.error c.in-Some.at (sym c.offset.ensures
    ∙ c.in-Some.is)
    (λ why other. values_same (next_in c.args.text.now c.in-Some.at) why
    (ap (λ x. is_sequences (word_in x)) next
    ∙ no_sequences c.next_lexeme.result.lexeme c.in_default-lexeme.not-Name))
