use Rattle.std.proofs.Common.{◌⊎◌, inl, inr, length, sym, ap, arith}
use Rattle.std.proofs.lemmas.List.{length-map}
use Rattle.rounds.proofs.Lawful.{kept-nothing}
use Rattle.poly.specs.Seen.{terms_in, terms_each}
use Rattle.polynomials.specs.Order.{grevlex}
use Rattle.machines.specs.Journal.{Journal}
use Rattle.algebra.specs.Fraction.{fractions}
use Rattle.machines.specs.Machine.{Refusal, Stops}
use Rattle.machines.specs.Machines as machines
use Rattle.corollaries.specs.Making.{IsStartRefused, IsListMade, IsOutMade, IsRefusedAtLinks}
use Rattle.corollaries.proofs.Sizes.{out_within}
use Rattle.full_trace.proofs.RowsMade.{passed}
use Rattle.full_trace.proofs.StageMade.{list_made, out_made}
use Rattle.full_trace.proofs.start.trace_start.Goals as goal
use Rattle.full_trace.proofs.start.trace_start.Goals.{In_ok-list, In_ok-out}

list_here : (c : In_ok-list) → IsListMade grevlex (terms_each c.args.starts.now)
    (terms_each c.in_ok-list.list.items) c.args.meter.now.entries c.complete_in.new.meter.entries
list_here c = list_made c.args.starts.now c.in_ok-list.ensures.ran c.in_ok-list.ensures.basis

out_here : (c : In_ok-out) → IsOutMade (terms_each c.in_ok-list.list.items)
    (terms_each c.in_ok-out.out.items) c.complete_in.new.meter.entries c.tidy_in.new.meter.entries
out_here c = out_made c.args.arity _ c.in_ok-out.ensures.ran (ap terms_each c.deref.ensures.value)

behind_list : (c : In_ok-list) {after : Journal} {r : Refusal} → Stops (machines.tidying fractions
    grevlex (terms_each c.in_ok-list.list.items)) c.complete_in.new.meter after r
    ⊎ IsRefusedAtLinks (terms_each c.args.starts.now) after r (terms_each c.in_ok-list.list.items)
    c.complete_in.new.meter.entries
    → IsStartRefused (terms_each c.args.starts.now) after r c.args.meter.now
behind_list c x = inr (record {
  list = terms_each c.in_ok-list.list.items;
  listed = c.complete_in.new.meter;
  made = list_here c;
  refused = x;
})

pub returns-in_err-out-clause-refused : goal.returns-in_err-out-clause-refused
returns-in_err-out-clause-refused c =
    passed _ _ _ c.from_residual-in_err-out.ensures.1
    (behind_list (goal.at.returns-in_err-out-clause-refused c).In_ok-list
    (inl (rw c.deref.ensures.value at c.in_err-out.ensures.ran.to)))

pub divide_each-requires-clause-few : goal.divide_each-requires-clause-few
divide_each-requires-clause-few c =
    let at = goal.at.divide_each-requires-clause-few c in
    let a = out_within 0 _ _ _ _ _ _ _ _ (list_here at.In_ok-list) (omega arith) _
    (sym (kept-nothing _)) (out_here at.In_ok-out) in
    let b = length-map c.args.starts.now terms_in in
    let d = length-map c.in_ok-out.out.items terms_in in
    let e = ap length c.deref-2.ensures.value in
    omega (
      arith,
      a,
      b,
      d,
      e,
      c.requires.few,
      c.within_limit.ensures.within,
      c.within_limit.ensures.few,
    )

pub returns-in_err-links-clause-refused : goal.returns-in_err-links-clause-refused
returns-in_err-links-clause-refused c =
    let at = goal.at.returns-in_err-links-clause-refused c in
    passed _ _ _ c.from_residual-in_err-links.ensures.1 (behind_list at.In_ok-list (inr
    (record {
      out = terms_each c.in_ok-out.out.items;
      tidied = c.tidy_in.new.meter.entries;
      made = out_here at.In_ok-out;
      refused = rw c.deref-2.ensures.value at c.in_err-links.ensures.refused;
    })))
