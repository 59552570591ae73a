use Rattle.std.proofs.Common.{sym, subst, refl}
use Rattle.std.proofs.lemmas.Result.{err_from_is_err_and}
use Rattle.divide.specs.Current.{AreDivisors}
use Rattle.invariant_fix.proofs.Answering.{IsAsked, elements_of, asked_within, has_asked, asked_wide, asked_out, says_yes, says_no, cofactors_over, yes_member, no_member, yes_answered, no_answered, yes_invariant, no_invariant}
use Rattle.invariant_fix.proofs.membership.member.Goals.{After-deref}
use Rattle.invariant_fix.proofs.membership.member.Goals as goal

pub divide-requires-clause-divisors : goal.divide-requires-clause-divisors
divide-requires-clause-divisors c =
    subst (AreDivisors _ c.args.p.now.arity) (sym c.deref.ensures.value)
    (elements_of _ _ c.requires.arity c.args.analysis.now.reduced)

asked : (c : After-deref) → IsAsked c.args.p.now c.args.analysis.now.basis.items c.deref.result.now
    c.args.meter.now c.begin.new.self
asked c = record { same = c.deref.ensures.value; begun = c.in_ok-begin.ensures.ok }

pub returns-in_err-division-clause-limit : goal.returns-in_err-division-clause-limit
returns-in_err-division-clause-limit c =
    asked_within (asked (goal.at.returns-in_err-division-clause-limit c).After-deref) _
    c.in_err-division.ensures.ran

pub returns-in_err-division-clause-work : goal.returns-in_err-division-clause-work
returns-in_err-division-clause-work c =
    has_asked (asked (goal.at.returns-in_err-division-clause-work c).After-deref) _
    c.in_err-division.ensures.ran

pub returns-in_err-division-clause-wide : goal.returns-in_err-division-clause-wide
returns-in_err-division-clause-wide c = λ w.
    (let p = err_from_is_err_and c.from_residual-in_err-division.result
    c.from_residual-in_err-division.ensures.1 in
    asked_wide (asked (goal.at.returns-in_err-division-clause-wide c).After-deref) _
    c.in_err-division.ensures.ran (cc (p.1, p.2, w)))

pub returns-in_err-division-clause-budget : goal.returns-in_err-division-clause-budget
returns-in_err-division-clause-budget c = λ w.
    (let p = err_from_is_err_and c.from_residual-in_err-division.result
    c.from_residual-in_err-division.ensures.1 in
    asked_out (asked (goal.at.returns-in_err-division-clause-budget c).After-deref) _
    c.in_err-division.ensures.ran (cc (p.1, p.2, w)))

pub returns-in-Some-clause-limit : goal.returns-in-Some-clause-limit
returns-in-Some-clause-limit c =
    asked_within (asked (goal.at.returns-in-Some-clause-limit c).After-deref) _
    c.in_ok-division.ensures.ran

pub returns-in-Some-clause-work : goal.returns-in-Some-clause-work
returns-in-Some-clause-work c =
    has_asked (asked (goal.at.returns-in-Some-clause-work c).After-deref) _
    c.in_ok-division.ensures.ran

pub returns-in-None-clause-limit : goal.returns-in-None-clause-limit
returns-in-None-clause-limit c =
    asked_within (asked (goal.at.returns-in-None-clause-limit c).After-deref) _
    c.in_ok-division.ensures.ran

pub returns-in-None-clause-work : goal.returns-in-None-clause-work
returns-in-None-clause-work c =
    has_asked (asked (goal.at.returns-in-None-clause-work c).After-deref) _
    c.in_ok-division.ensures.ran

pub returns-in-Some-clause-ok : goal.returns-in-Some-clause-ok
returns-in-Some-clause-ok c =
    let s = c.in-Some.ensures.some in
    says_yes (asked (goal.at.returns-in-Some-clause-ok c).After-deref)
    c.in_ok-division.ensures.ran.to s.0 s.1

pub returns-in-Some-clause-member : goal.returns-in-Some-clause-member
returns-in-Some-clause-member c =
    let s = c.in-Some.ensures.some in
    yes_member (asked (goal.at.returns-in-Some-clause-member c).After-deref)
    c.in_ok-division.ensures.ran.to s.0 s.1 c.in_ok-division.ensures.sum

pub returns-in-Some-clause-cofactors : goal.returns-in-Some-clause-cofactors
returns-in-Some-clause-cofactors c =
    cofactors_over (asked (goal.at.returns-in-Some-clause-cofactors c).After-deref)
    c.in_ok-division.ensures.ran.to c.in-Some.ensures.some.1

pub returns-in-Some-clause-invariant : goal.returns-in-Some-clause-invariant
returns-in-Some-clause-invariant c = λ program k w over done.
    yes_invariant (asked (goal.at.returns-in-Some-clause-invariant c).After-deref)
    c.in_ok-division.ensures.ran.to k done w over c.in-Some.ensures.some.0

pub returns-in-Some-clause-answered : goal.returns-in-Some-clause-answered
returns-in-Some-clause-answered c = λ program k done.
    (let s = c.in-Some.ensures.some in
    yes_answered (asked (goal.at.returns-in-Some-clause-answered c).After-deref)
    c.in_ok-division.ensures.ran.to k done s.0 s.1)

pub returns-in-None-clause-ok : goal.returns-in-None-clause-ok
returns-in-None-clause-ok c =
    says_no (asked (goal.at.returns-in-None-clause-ok c).After-deref)
    c.in_ok-division.ensures.ran.to (c.in-None.ensures.none.0 refl)

pub returns-in-None-clause-member : goal.returns-in-None-clause-member
returns-in-None-clause-member c =
    no_member (asked (goal.at.returns-in-None-clause-member c).After-deref)
    c.in_ok-division.ensures.ran.to
    (c.in-None.ensures.none.0 refl) c.requires.arity c.args.analysis.now.reduced

pub returns-in-None-clause-invariant : goal.returns-in-None-clause-invariant
returns-in-None-clause-invariant c = λ program k w over done.
    no_invariant (asked (goal.at.returns-in-None-clause-invariant c).After-deref)
    c.in_ok-division.ensures.ran.to k done w over (c.in-None.ensures.none.0 refl)

pub returns-in-None-clause-answered : goal.returns-in-None-clause-answered
returns-in-None-clause-answered c = λ program k done.
    no_answered (asked (goal.at.returns-in-None-clause-answered c).After-deref)
    c.in_ok-division.ensures.ran.to k done (c.in-None.ensures.none.0 refl)
