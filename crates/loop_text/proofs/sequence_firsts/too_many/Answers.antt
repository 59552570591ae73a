use Rattle.std.proofs.Common.{true, false, refl, sym, ap, ◌∙◌}
use Rattle.loop_text.specs.Seqs.{is_sequences}
use Rattle.loop_text.proofs.ToldSums.{no_sequences}
use Rattle.loop_text.proofs.SequenceWordReads.{word_here}
use Rattle.loop_text.proofs.SequenceValueReads.{begun_told, other_told, begun_name, begun_number, begun_large, begun_sign, sign_no_word, not_begun}
use Rattle.loop_text.proofs.sequence_firsts.too_many.Goals as goal

pub returns-then-is_sign : goal.returns-then-is_sign
returns-then-is_sign c = λ s full. let k = c.args.cursor in
    begun_told k s full (begun_sign k 40 (sym c.if-is_sign.ensures) refl) false
    (sign_no_word k 40 (sym c.if-is_sign.ensures))

pub returns-then-is_sign-2 : goal.returns-then-is_sign-2
returns-then-is_sign-2 c = λ s full. let k = c.args.cursor in
    begun_told k s full (begun_sign k 45 (sym c.if-is_sign-2.ensures) refl) false
    (sign_no_word k 45 (sym c.if-is_sign-2.ensures))

pub returns-then-is_sequences : goal.returns-then-is_sequences
returns-then-is_sequences c = λ s full. let k = c.args.cursor in
    begun_told k s full (begun_name k c.in-Name.word c.in-Name.is) true
    (ap is_sequences (word_here k c.in-Name.word c.in-Name.is) ∙ sym c.if-is_sequences.ensures)

pub returns-else-is_sequences : goal.returns-else-is_sequences
returns-else-is_sequences c = λ s full. let k = c.args.cursor in
    begun_told k s full (begun_name k c.in-Name.word c.in-Name.is) false
    (ap is_sequences (word_here k c.in-Name.word c.in-Name.is) ∙ sym c.if-is_sequences.ensures)

pub returns-in-Number : goal.returns-in-Number
returns-in-Number c = λ s full. let k = c.args.cursor in
    begun_told k s full (begun_number k c.in-Number.field-0 c.in-Number.is) false
    (no_sequences k.token.lexeme (λ w e. let z = sym e ∙ c.in-Number.is in cc))

pub returns-in-Large : goal.returns-in-Large
returns-in-Large c = λ s full. let k = c.args.cursor in
    begun_told k s full (begun_large k c.in-Large.is) false
    (no_sequences k.token.lexeme (λ w e. let z = sym e ∙ c.in-Large.is in cc))

pub returns-in_default : goal.returns-in_default
returns-in_default c = λ s full. let k = c.args.cursor in
    other_told k s full
    (not_begun k (sym c.if-is_sign.ensures) (sym c.if-is_sign-2.ensures) c.in_default.not-Name
    c.in_default.not-Number c.in_default.not-Large)
