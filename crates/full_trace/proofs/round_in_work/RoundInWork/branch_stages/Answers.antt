use Rattle.std.proofs.Common.{sym, subst}
use Rattle.poly.specs.Seen.{terms_each}
use Rattle.task_lists.specs.View.{stage_in}
use Rattle.corollaries.specs.Rounds.{within, MeetBegins}
use Rattle.corollaries.proofs.Rounds.{orbit_at, meet_at, met_at}
use Rattle.full_trace.proofs.RowsMade.{passed}
use Rattle.full_trace.proofs.RoundsMade.{place_inside, knows_later}
use Rattle.full_trace.proofs.round_in_work.RoundInWork.branch_stages.Goals as goal

pub meet-requires-clause-so_far : goal.meet-requires-clause-so_far
meet-requires-clause-so_far c =
    knows_later c.orbit.new.meter c.in_ok-turned.ensures.units c.requires.so_far

pub returns-in_err-turned-clause-refused : goal.returns-in_err-turned-clause-refused
returns-in_err-turned-clause-refused c = λ R d bs A i a.
    let hs = terms_each c.args.so_far.now in
    passed _ _ _ c.from_residual.ensures.1 (c.in_err-turned.ensures.refused R (within d bs a.stage)
    hs A i (orbit_at A R d _ c.args.self.now.round _ _ bs hs a (place_inside A i _
    c.requires.place)))

pub returns-in_err-met-clause-refused : goal.returns-in_err-met-clause-refused
returns-in_err-met-clause-refused c = λ R d bs A i a.
    let w = c.args.self.now in
    let gs = terms_each w.basis.now.items in
    let hs = terms_each c.args.so_far.now in
    let s = stage_in c.in_ok-turned.turned in
    let o = c.in_ok-turned.ensures.next R (within d bs a.stage) hs A i (orbit_at A R d _ w.round gs
    _ bs hs a (place_inside A i _ c.requires.place)) in
    passed _ _ _ c.from_residual-in_err-met.ensures.1 (c.in_err-met.ensures.refused R
    (within d bs s) gs A i (subst (λ vs. MeetBegins A R (within d bs s) c.orbit.new.meter.entries
    w.round c.args.place gs hs (terms_each vs))
    (sym c.deref.ensures.value) (meet_at A R d _ w.round gs _ c.requires.behind bs hs a.stage s o)))

pub returns-clause-next : goal.returns-clause-next
returns-clause-next c = λ R d bs A i a.
    let w = c.args.self.now in
    let gs = terms_each w.basis.now.items in
    let hs = terms_each c.args.so_far.now in
    let s = stage_in c.in_ok-turned.turned in
    let o = c.in_ok-turned.ensures.next R (within d bs a.stage) hs A i (orbit_at A R d _ w.round gs
    _ bs hs a (place_inside A i _ c.requires.place)) in
    met_at A R d _ w.round gs _ bs hs _ s _ (c.in_ok-met.ensures.met R (within d bs s) gs A i
    (subst (λ vs. MeetBegins A R (within d bs s) c.orbit.new.meter.entries w.round c.args.place gs
    hs (terms_each vs)) (sym c.deref.ensures.value) (meet_at A R d _ w.round gs _ c.requires.behind
    bs hs a.stage s o)))
