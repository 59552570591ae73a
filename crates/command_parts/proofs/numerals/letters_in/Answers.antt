use Rattle.std.proofs.Common.{rules, tests, subst, ◌==◌}
use Rattle.std.proofs.lemmas.Iterator.Consumers.{YieldsList-end}
use Rattle.std.proofs.lemmas.Iterator.Splits.{YieldsList-from_slice_split}
use Rattle.command_parts.specs.Lookup.{IsFound}
use Rattle.loop_model.specs.Ascii.{comma}
use Rattle.command_parts.specs.Numerals.{each_of, letter_of}
use Rattle.command_parts.proofs.Growing.{letters_more}
use Rattle.command_parts.proofs.numerals.letters_in.Goals as goal

pub loop-part-preserved : goal.loop-part-preserved
loop-part-preserved c =
    letters_more c.loop-part.letters c.with_part-letters.result c.letter.result c.loop-part.yielded
    c.in-Some.part c.loop-part.invariant c.letter.ensures c.with_part-letters.ensures

pub returns : goal.returns
returns c =
    let all = YieldsList-end
    (YieldsList-from_slice_split _ (λ x. x == comma) c.args.text.now (search rules)
    (search rules) (search rules) (λ x b q k. search (rules, tests))) c.loop-part.yielded _
    c.loop-part.yielded_by _ _ c.in-None.is c.next.ensures.steps in
    subst (λ parts. IsFound (λ letters. letters.items) c.loop-part.letters
    (each_of letter_of parts)) all.0 c.loop-part.invariant
