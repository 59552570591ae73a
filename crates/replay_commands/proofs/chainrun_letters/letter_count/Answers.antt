use Rattle.std.proofs.Common.{rules, tests, ◌==◌, ◌∙◌, ◌≤◌, length, arith}
use Rattle.std.proofs.lemmas.Bool.Decides.{nat_tests}
use Rattle.std.proofs.lemmas.Iterator.Consumers.{count_from_yields_List}
use Rattle.std.proofs.lemmas.Iterator.Splits.{YieldsList-from_slice_split}
use Rattle.loop_model.specs.Ascii.{comma}
use Rattle.replay_commands.proofs.ChainRunArguments.{counts}
use Rattle.replay_commands.proofs.chainrun_letters.letter_count.Goals as goal

pub returns : goal.returns
returns c =
    let some : 1 ≤ length c.args.word.now = grind (arith, nat_tests, c.if-is_empty.ensures) in
    count_from_yields_List c.split.result _ c.count.ensures.ran
    (YieldsList-from_slice_split _
    (λ x. x == comma) c.args.word.now c.split.ensures.rest c.split.ensures.done
    c.split.ensures.closure (λ x b q k. search (rules, tests)))
    ∙ counts c.args.word.now some
