use Rattle.std.proofs.Common.{map, rules, tests, subst, ◌==◌}
use Rattle.std.proofs.lemmas.Iterator.Consumers.{YieldsList-end}
use Rattle.std.proofs.lemmas.Iterator.Splits.{YieldsList-from_slice_split}
use Rattle.frac128.specs.FracMeaning.{fraction_of}
use Rattle.command_parts.specs.Lookup.{IsFound}
use Rattle.loop_model.specs.Ascii.{comma}
use Rattle.poly_text.specs.Number.{number_of}
use Rattle.command_parts.specs.Numerals.{each_of}
use Rattle.command_parts.proofs.Growing.{values_more}
use Rattle.command_parts.proofs.numerals.values_in.Goals as goal

pub loop-part-preserved : goal.loop-part-preserved
loop-part-preserved c =
    values_more c.loop-part.values c.with_part-values.result c.read_number.result
    c.loop-part.yielded
    c.in-Some.part c.loop-part.invariant c.read_number.ensures c.with_part-values.ensures

pub returns : goal.returns
returns c =
    let all = YieldsList-end
    (YieldsList-from_slice_split _ (λ x. x == comma) c.args.text.now (search rules)
    (search rules) (search rules) (λ x b q k. search (rules, tests))) c.loop-part.yielded _
    c.loop-part.yielded_by _ _ c.in-None.is c.next.ensures.steps in
    subst (λ parts. IsFound (λ values. map fraction_of values.items) c.loop-part.values
    (each_of number_of parts)) all.0 c.loop-part.invariant
