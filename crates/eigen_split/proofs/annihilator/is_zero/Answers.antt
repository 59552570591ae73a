use Rattle.std.proofs.Common.{All, rules, subst}
use Rattle.std.proofs.lemmas.List.{take_all}
use Rattle.std.proofs.lemmas.List.Elements.{All-more}
use Rattle.eigen_split.specs.Residues.{IsNone}
use Rattle.eigen_split.proofs.annihilator.is_zero.Goals as goal

pub loop-number-preserved : goal.loop-number-preserved
loop-number-preserved c =
    All-more IsNone c.args.row.now c.loop-number.number-index c.number-item.result
    c.loop-number-test.true c.loop-number.invariant (subst IsNone c.number-item.is
    (c.is_none.ensures (search rules)))

pub returns : goal.returns
returns c = λ t. subst (All IsNone) (take_all c.loop-number.number-index c.args.row.now
    c.loop-number-test.false) c.loop-number.invariant
