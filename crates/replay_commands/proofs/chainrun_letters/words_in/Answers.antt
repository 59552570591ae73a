use Rattle.std.proofs.Common.{rules, tests, subst, ◌==◌, map}
use Rattle.std.proofs.lemmas.Iterator.Consumers.{YieldsList-end}
use Rattle.std.proofs.lemmas.Iterator.Splits.{YieldsList-from_slice_split}
use Rattle.loop_model.specs.Ascii.{slash}
use Rattle.command_parts.specs.Lookup.{IsFound}
use Rattle.command_parts.specs.Numerals.{each_of, letters_of}
use Rattle.loop_runs.specs.ChainRunsSeen.{words_of}
use Rattle.replay_commands.proofs.ChainRunArguments.{words_more}
use Rattle.replay_commands.proofs.chainrun_letters.words_in.Goals as goal

pub loop-word-preserved : goal.loop-word-preserved
loop-word-preserved c =
    words_more c.with_word-found.result c.loop-word.yielded c.in-Some.word
    (c.with_word-found.ensures
    (each_of letters_of (map (λ word. word.now) c.loop-word.yielded))
    (letters_of c.in-Some.word.now) c.loop-word.invariant c.read_letters.ensures)

pub returns : goal.returns
returns c =
    let all = YieldsList-end
    (YieldsList-from_slice_split _ (λ x. x == slash) c.args.text.now (search rules)
    (search rules) (search rules) (λ x b q k. search (rules, tests))) c.loop-word.yielded _
    c.loop-word.yielded_by _ _ c.in-None.is c.next.ensures.steps in
    subst (λ parts. IsFound (λ found. words_of found.items) c.loop-word.found
    (each_of letters_of parts)) all.0 c.loop-word.invariant
