use Rattle.std.proofs.Common.{rules, tests, ◌==◌, ap, ◌∙◌, min, sum_by, ◌^◌, ◌-◌}
use Rattle.std.proofs.lemmas.Iterator.Consumers.{YieldsList-end}
use Rattle.std.proofs.lemmas.Iterator.Splits.{YieldsList-from_slice_split}
use Rattle.loop_model.specs.Ascii.{slash}
use Rattle.replay_commands.specs.ChainrunArguments.{letter_count}
use Rattle.replay_commands.proofs.ChainRunArguments.{letters_more}
use Rattle.replay_commands.proofs.chainrun_letters.letters_in.Goals as goal

pub loop-word-preserved : goal.loop-word-preserved
loop-word-preserved c =
    letters_more c.loop-word.letters _ c.letter_count.result (2 ^ 64 - 1) c.loop-word.yielded
    c.in-Some.word c.loop-word.invariant c.letter_count.ensures (search rules)

pub returns : goal.returns
returns c =
    let all = YieldsList-end
    (YieldsList-from_slice_split _ (λ x. x == slash) c.args.text.now (search rules)
    (search rules) (search rules) (λ x b q k. search (rules, tests))) c.loop-word.yielded _
    c.loop-word.yielded_by _ _ c.in-None.is c.next.ensures.steps in
    c.loop-word.invariant ∙ ap (λ ps. min (sum_by letter_count ps) (2 ^ 64 - 1)) all.0
