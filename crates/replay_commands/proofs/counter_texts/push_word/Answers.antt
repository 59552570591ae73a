use Rattle.std.proofs.Common.{◌≡◌, ◌++◌, rules, string_bytes, arith, take, get_or, sym, ap, ◌∙◌, append_assoc}
use Rattle.std.specs.Prelude.{codes, decimal}
use Rattle.std.proofs.lemmas.List.{append-nil}
use Rattle.std.proofs.lemmas.Result.{on_ok_weaker}
use Rattle.replay_commands.specs.CounterTexts.{letters_text}
use Rattle.replay_commands.proofs.CounterLetters.{letter_pushed, word_pushed}
use Rattle.replay_commands.proofs.counter_texts.push_word.Goals as goal

pub loop-letter-init : goal.loop-letter-init
loop-letter-init c = sym (append-nil (string_bytes c.push_str.new.self))

pub loop-letter-preserved : goal.loop-letter-preserved
loop-letter-preserved c =
    letter_pushed (string_bytes c.push_str.new.self) (string_bytes c.loop-letter.text) _
    c.args.word.now c.loop-letter.letter-index 0 (omega arith) c.loop-letter.invariant
    (c.in_ok-push_letter.ensures
    ∙ append_assoc (string_bytes c.loop-letter.text) (codes " ")
    (decimal (get_or c.args.word.now c.loop-letter.letter-index 0)))

pub returns : goal.returns
returns c =
    let part : string_bytes c.push_str.new.self ≡ string_bytes c.args.text.now ++ c.args.part.now =
    search rules in
    on_ok_weaker c.push.result
    (word_pushed (string_bytes c.args.text.now) c.args.part.now (string_bytes c.loop-letter.text) _
    c.args.word.now c.loop-letter.letter-index (omega arith)
    (c.loop-letter.invariant
    ∙ ap (λ t. t ++ letters_text (take c.loop-letter.letter-index c.args.word.now)) part))
    (search rules)
