use Rattle.std.proofs.Common.{pos, subst, arith}
use Rattle.std.proofs.lemmas.List.{take_all}
use Rattle.loop_model.specs.View.{program_of}
use Rattle.residue_rows.specs.Modulus.{modulus}
use Rattle.residue_rows.specs.Numbers.{numbers_of}
use Rattle.closing.specs.Samples.{IsSampleState}
use Rattle.closing.proofs.Letters.{letter_goes, index_within}
use Rattle.closing.proofs.samples.end_state.Goals as goal

pub index-requires : goal.index-requires
index-requires c =
    omega (
      arith,
      index_within _ c.args.word.now _ _ c.loop-letter-test.true c.requires.word
          c.requires.maps.branches,
      c.args.maps.now.branches.ok.0,
    )

pub loop-letter-preserved : goal.loop-letter-preserved
loop-letter-preserved c = λ ns begun.
    letter_goes _ ns c.args.word.now _ _ c.index.result.now c.deref.result.now
    c.loop-letter.state.items c.in_ok-state.state.items c.loop-letter-test.true c.requires.word
    c.requires.maps.branches c.index.ensures c.deref.ensures.value
    c.deref-in-loop-letter.ensures.value (c.loop-letter.invariant ns begun) c.in_ok-state.ensures

pub returns : goal.returns
returns c = λ ns begun.
    subst (λ w. IsSampleState (program_of c.args.lp.now) (pos modulus) ns w
    (numbers_of c.loop-letter.state.items)) (take_all _ _ c.loop-letter-test.false)
    (c.loop-letter.invariant ns begun)
