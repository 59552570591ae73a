use Rattle.std.proofs.Common.{refl}
use Rattle.std.proofs.lemmas.Result.{err_from_is_err_and}
use Rattle.counter_run.proofs.Starting.{images_count, images_arities, images_past, images_zero_with}
use Rattle.counter_run.proofs.starts.is_zero_with.Goals as goal

pub compose-requires-clause-count : goal.compose-requires-clause-count
compose-requires-clause-count c =
    images_count c.args.polynomial.now.arity c.args.polynomial.now refl c.requires.some
    c.args.numbers.now.items c.requires.within c.in_ok-images.images.items c.arity.result
    c.arity.ensures.arity c.in_ok-images.ensures.images

pub compose-requires-clause-arities : goal.compose-requires-clause-arities
compose-requires-clause-arities c =
    images_arities c.args.polynomial.now.arity c.args.polynomial.now refl c.requires.some
    c.args.numbers.now.items c.requires.within c.in_ok-images.images.items c.arity.result
    c.arity.ensures.arity c.in_ok-images.ensures.images

pub returns-in_err-compose-clause-wide : goal.returns-in_err-compose-clause-wide
returns-in_err-compose-clause-wide c =
    let p = err_from_is_err_and c.from_residual-in_err-compose.result
    c.from_residual-in_err-compose.ensures.1 in
    (λ w. images_past c.args.polynomial.now.arity c.args.polynomial.now refl c.requires.some
    c.args.numbers.now.items c.requires.within c.in_ok-images.images.items c.arity.result
    c.arity.ensures.arity c.in_ok-images.ensures.images
    (c.in_err-compose.ensures.wide (cc (p.1, p.2))))

pub returns-clause-is_zero : goal.returns-clause-is_zero
returns-clause-is_zero c =
    images_zero_with c.args.polynomial.now.arity c.args.polynomial.now refl c.requires.some
    c.args.numbers.now.items c.requires.within c.in_ok-images.images.items c.arity.result
    c.arity.ensures.arity c.in_ok-images.ensures.images
    c.in_ok-compose.field-0 c.is_zero.result c.in_ok-compose.ensures.composition c.is_zero.ensures
