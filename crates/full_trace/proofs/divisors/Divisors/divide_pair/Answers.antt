use Rattle.std.proofs.Common.{refl, ap}
use Rattle.machines.specs.Journal.{Journal}
use Rattle.poly.specs.Seen.{terms_each}
use Rattle.full_trace.proofs.RowsMade.{passed}
use Rattle.full_trace.proofs.PairsMade.{unmade, unnoted, pair_stops, pair_ends}
use Rattle.full_trace.proofs.divisors.Divisors.divide_pair.Goals as goal

pub returns-in_err-p-clause-refused : goal.returns-in_err-p-clause-refused
returns-in_err-p-clause-refused g c =
    unmade (g.O.Order.order c.args.self.now.order) (terms_each c.args.self.now.list.now)
    c.args.pair.now refl c.from_residual.result c.in_err-p.field-0.0
    c.from_residual.ensures.1 (λ q. c.in_err-p.ensures.wide (cc q))

pub returns-in_err-note-clause-refused : goal.returns-in_err-note-clause-refused
returns-in_err-note-clause-refused g c =
    unnoted (g.O.Order.order c.args.self.now.order) (terms_each c.args.self.now.list.now)
    c.args.pair.now c.in_err-note.ensures.err
    c.from_residual-in_err-note.result c.in_err-note.field-0.0
    c.from_residual-in_err-note.ensures.1 (λ q. (c.in_err-note.ensures.budget.0 (cc q)).1)

pub returns-in_err-division-clause-refused : goal.returns-in_err-division-clause-refused
returns-in_err-division-clause-refused g c =
    passed _ _ _ c.from_residual-in_err-division.ensures.1
    (pair_stops _ _ c.in_ok-p.p c.in_ok-p.ensures.like.0
    c.in_ok-p.ensures.terms c.args.meter.now _ _
    (ap (λ (j : Journal). j.entries) c.in_ok-note.ensures.ok) _ c.in_err-division.ensures.ran)

pub returns-clause-divided : goal.returns-clause-divided
returns-clause-divided g c =
    pair_ends _ _ c.in_ok-p.p c.in_ok-p.ensures.like.0 c.in_ok-p.ensures.terms c.args.meter.now _ _
    (ap (λ (j : Journal). j.entries) c.in_ok-note.ensures.ok) c.in_ok-division.division
    c.in_ok-division.ensures.ran
