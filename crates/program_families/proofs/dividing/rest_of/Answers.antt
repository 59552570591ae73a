use Rattle.std.proofs.lemmas.Result.{err_from_is_err_and}
use Rattle.poly.specs.Seen.{terms_in, terms_each}
use Rattle.program_families.proofs.Divided.{division_along, division_ends, division_stops}
use Rattle.program_families.proofs.dividing.rest_of.Goals as goal

pub returns-in_err-division-clause-divides : goal.returns-in_err-division-clause-divides
returns-in_err-division-clause-divides c = λ n j at is start task told h.
    let e = err_from_is_err_and c.from_residual-in_err-division.result
    c.from_residual-in_err-division.ensures.1 in
    rw (e.1, e.2)
    (division_stops n j (terms_each c.args.basis.now.items) at is start task c.args.place told
    (terms_in c.args.polynomial.now) c.args.meter.now c.begin.new.self c.divide.new.meter
    c.in_ok-begin.ensures.ok h _ c.in_err-division.field-0.0
    (division_along c.args.polynomial.now c.deref.ensures.value _ _ _ _
    c.in_err-division.ensures.ran))

pub returns-clause-divides : goal.returns-clause-divides
returns-clause-divides c = λ n j at is start task told h.
    division_ends n j (terms_each c.args.basis.now.items) at is start task c.args.place told
    (terms_in c.args.polynomial.now) c.args.meter.now c.begin.new.self c.divide.new.meter
    c.in_ok-begin.ensures.ok h _ c.in_ok-division.division _ (λ s g. g.remainder)
    (division_along c.args.polynomial.now c.deref.ensures.value _ _ _ _
    c.in_ok-division.ensures.ran)

pub returns-clause-arity : goal.returns-clause-arity
returns-clause-arity c = c.in_ok-division.ensures.ran.to.gives.remainder_arity
