use Rattle.std.proofs.Common.{◌<◌, ◌^◌, ◌∷◌, length, ap, subst, sym, ◌∙◌, arith}
use Rattle.std.proofs.Math.Facts.{Fits-of_lt}
use Rattle.monos.specs.Lanes.{AreSmall}
use Rattle.monos.proofs.Words.{small_rest}
use Rattle.monos.proofs.LaneSteps.{word_none, fewer, word_more, word_fits}
use Rattle.monos.proofs.lanes.+word_of.Goals as goal

pub word_of-requires : goal.word_of-requires
word_of-requires t c =
    let is = c.in-Some.ensures.cases.0 in
    let count = ap length is in
    let less = fewer c.args.room c.in-Some.exponent.now c.in-Some.others.now c.args.exponents.now is
    c.requires.fits in (
      omega (arith, count),
      (
        c.requires.room,
        (
          omega (arith, less),
          small_rest c.args.room c.in-Some.exponent.now c.in-Some.others.now
              (subst (AreSmall c.args.room) is c.requires.small),
        ),
      ),
    )

pub overflow_add-result-in-Some : goal.overflow_add-result-in-Some
overflow_add-result-in-Some t c =
    let is = c.in-Some.ensures.cases.0 ∙ ap (λ k. k ∷ c.in-Some.others.now) (sym c.from.ensures) in
    Fits-of_lt
    (subst (λ w. w < 2 ^ 128) (sym (word_more c.args.room c.from.result c.in-Some.others.now
    c.args.exponents.now c.word_of.result is c.requires.fits c.requires.small c.word_of.ensures))
    (word_fits c.args.room c.args.exponents.now c.requires.fits c.requires.small))

pub returns-in-Some : goal.returns-in-Some
returns-in-Some t c =
    let is = c.in-Some.ensures.cases.0 ∙ ap (λ k. k ∷ c.in-Some.others.now) (sym c.from.ensures) in
    word_more c.args.room c.from.result c.in-Some.others.now c.args.exponents.now c.word_of.result
    is
    c.requires.fits c.requires.small c.word_of.ensures

pub returns-in-None : goal.returns-in-None
returns-in-None t c = word_none c.args.room c.args.exponents.now c.in-None.ensures.cases
