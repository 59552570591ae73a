use Rattle.std.proofs.Common.{rules, sym, subst}
use Rattle.frac128.specs.FracMeaning.{fraction_of}
use Rattle.poly.specs.Seen.{terms_each}
use Rattle.poly.specs.View.{term_of}
use Rattle.counter_run.specs.Combination.{IsPowerProduct, AreMonomialImages}
use Rattle.counter_run.proofs.Combining.{found_image, adds_term, adds_known}
use Rattle.counter_run.proofs.combination.with_term.Goals as goal

pub returns-in-Some-clause-sum : goal.returns-in-Some-clause-sum
returns-in-Some-clause-sum c =
    let images = c.args.images.now.items in
    let known = subst (AreMonomialImages c.args.arity (terms_each images))
    (sym c.deref.ensures.value) c.requires.known in
    adds_known c.args.arity images c.requires.images (term_of fraction_of c.args.term.now)
    c.requires.nonzero c.in-Some.image.now c.args.so_far
    (found_image c.args.arity (terms_each images) c.deref.result.now c.args.term.now.mono
    c.in-Some.image.now known c.in-Some.ensures) c.with_multiple.result c.with_multiple.ensures

pub returns-clause-sum : goal.returns-clause-sum
returns-clause-sum c =
    let images = c.args.images.now.items in
    let formed : IsPowerProduct c.args.arity (terms_each images) c.args.term.now.mono
    c.in_ok-image.image = search rules in
    adds_term c.args.arity images c.requires.images (term_of fraction_of c.args.term.now)
    c.requires.nonzero c.in_ok-image.image c.args.so_far formed c.in_ok-next.next
    c.in_ok-next.ensures
