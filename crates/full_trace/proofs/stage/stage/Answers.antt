use Rattle.std.proofs.Common.{◌≡◌, ◌⊎◌, inl, inr, ℕ, ◌≤◌, List, length, refl, sym, ap, ◌∙◌, arith}
use Rattle.std.proofs.lemmas.List.{length-map}
use Rattle.algebra.specs.Fraction.{fractions}
use Rattle.polynomials.specs.Order.{grevlex}
use Rattle.machines.specs.Elimination.{free_part}
use Rattle.machines.specs.Journal.{Journal, units_of}
use Rattle.machines.specs.Machine.{Refusal, Stops}
use Rattle.machines.specs.Machines as machines
use Rattle.poly.specs.Seen.{terms_in, terms_each}
use Rattle.corollaries.specs.Representation.{pairs_of}
use Rattle.corollaries.specs.Stage.{block_order}
use Rattle.corollaries.specs.Rows.{AreDivided, ArePairsDivided, IsRefusedInPairs}
use Rattle.corollaries.specs.Making.{
  IsListMade,
  IsOutMade,
  IsStageRefused,
  IsRefusedBehindPairs,
  IsRefusedBehindOut,
}
use Rattle.corollaries.proofs.Sizes.{rows_units, pair_rows_units, out_within}
use Rattle.task_lists.specs.Rows.{rows_of}
use Rattle.full_trace.proofs.RowsMade.{passed}
use Rattle.full_trace.proofs.StageMade.{
  list_made,
  free_divisors,
  free_short,
  pairs_inside,
  out_made,
}
use Rattle.full_trace.proofs.stage.stage.Goals as goal
use Rattle.full_trace.proofs.stage.stage.Goals.{
  In_ok-list,
  In-Ok,
  In-Ok-free_elements,
  In_ok-gens,
  In_ok-pairs,
  In_ok-out,
}

-- ---- what is made, by what the code has done
list_here : (c : In_ok-list) → IsListMade (block_order c.args.front) (terms_each c.args.begin.now)
    (terms_each c.in_ok-list.list.items) c.args.meter.now.entries c.complete_in.new.meter.entries
list_here c = list_made c.args.begin.now c.in_ok-list.ensures.ran c.in_ok-list.ensures.basis

places_here : (c : In-Ok) → c.in-Ok.places.items ≡ pairs_of (length c.in_ok-list.list.items)
places_here c = c.in-Ok.ensures ∙ ap pairs_of (omega (arith, c.len.ensures, c.in_ok-list.list.ok.0))

free_here : (c : In-Ok-free_elements) → terms_each c.in-Ok-free_elements.free.items
    ≡ free_part c.args.front (terms_each c.in_ok-list.list.items)
free_here c = rw c.deref.ensures.value at c.in-Ok-free_elements.ensures.kept

gens_here : (c : In_ok-gens) → AreDivided (block_order c.args.front)
    (terms_each c.in_ok-list.list.items) (terms_each c.args.begin.now)
    (rows_of c.in_ok-gens.gens.items) c.complete_in.new.meter.entries
    c.divide_each.new.meter.entries
gens_here c = rw c.deref-2.ensures.value at c.in_ok-gens.ensures.divided

pairs_are : (c : In_ok-gens) {ab : List (ℕ × ℕ)} → ab ≡ c.in-Ok.places.items
    → ab ≡ pairs_of (length (terms_each c.in_ok-list.list.items))
pairs_are c e = e ∙ places_here (goal.at.In_ok-gens c).In-Ok
    ∙ ap pairs_of (sym (length-map c.in_ok-list.list.items terms_in))

pairs_here : (c : In_ok-pairs) → ArePairsDivided (block_order c.args.front)
    (terms_each c.in_ok-list.list.items) (pairs_of (length (terms_each c.in_ok-list.list.items)))
    (rows_of c.in_ok-pairs.pairs.items) c.divide_each.new.meter.entries
    c.divide_pairs.new.meter.entries
pairs_here c = rw (
  c.deref-2.ensures.value,
  pairs_are (goal.at.In_ok-pairs c).In_ok-gens
      c.deref-3.ensures.value,
) at c.in_ok-pairs.ensures.divided

out_here : (c : In_ok-out) → IsOutMade
    (free_part c.args.front (terms_each c.in_ok-list.list.items)) (terms_each c.in_ok-out.out.items)
    c.divide_pairs.new.meter.entries c.tidy_in.new.meter.entries
out_here c = out_made c.args.variables _ c.in_ok-out.ensures.ran
    (ap terms_each c.deref-4.ensures.value ∙ free_here (goal.at.In_ok-out c).In-Ok-free_elements)

-- ---- refusals
behind_gens : (c : In_ok-gens) {after : Journal} {r : Refusal}
    → IsRefusedInPairs (block_order c.args.front) (terms_each c.in_ok-list.list.items)
    (pairs_of (length (terms_each c.in_ok-list.list.items))) c.divide_each.new.meter.entries after r
    ⊎ IsRefusedBehindPairs c.args.front (terms_each c.args.begin.now) after r
    (terms_each c.in_ok-list.list.items) c.divide_each.new.meter.entries
    → IsStageRefused c.args.front (terms_each c.args.begin.now) after r c.args.meter.now
behind_gens c x = inr (record {
  list = terms_each c.in_ok-list.list.items;
  listed = c.complete_in.new.meter.entries;
  made = list_here (goal.at.In_ok-gens c).In_ok-list;
  refused = inr (inr (record {
    gens = rows_of c.in_ok-gens.gens.items;
    divided = c.divide_each.new.meter.entries;
    made = gens_here c;
    refused = x;
  }));
})

behind_pairs : (c : In_ok-pairs) {after : Journal} {r : Refusal}
    → Stops (machines.tidying fractions grevlex (free_part c.args.front
    (terms_each c.in_ok-list.list.items))) c.divide_pairs.new.meter after r
    ⊎ IsRefusedBehindOut c.args.front (terms_each c.args.begin.now) after r
    (terms_each c.in_ok-list.list.items) c.divide_pairs.new.meter.entries
    → IsStageRefused c.args.front (terms_each c.args.begin.now) after r c.args.meter.now
behind_pairs c x = behind_gens (goal.at.In_ok-pairs c).In_ok-gens (inr (record {
  pairs = rows_of c.in_ok-pairs.pairs.items;
  paired = c.divide_pairs.new.meter;
  made = pairs_here c;
  refused = x;
}))

-- ---- the goals
pub divide_pairs-requires-clause-inside : goal.divide_pairs-requires-clause-inside
divide_pairs-requires-clause-inside c =
    pairs_inside _ (c.deref-3.ensures.value
    ∙ places_here (goal.at.divide_pairs-requires-clause-inside c).In-Ok
    ∙ ap pairs_of (ap length (sym c.deref-2.ensures.value)))

pub returns-in_err-pairs-clause-refused : goal.returns-in_err-pairs-clause-refused
returns-in_err-pairs-clause-refused c =
    let at = (goal.at.returns-in_err-pairs-clause-refused c).In_ok-gens in
    passed _ _ _ c.from_residual-in_err-pairs.ensures.1 (behind_gens at (inl
    (rw (c.deref-2.ensures.value, pairs_are at c.deref-3.ensures.value) at
    c.in_err-pairs.ensures.refused)))

pub tidy_in-requires-clause-divisors : goal.tidy_in-requires-clause-divisors
tidy_in-requires-clause-divisors c = rw c.deref-4.ensures.value (free_divisors c.args.front _ _
    (free_here (goal.at.tidy_in-requires-clause-divisors c).In-Ok-free_elements) _
    c.in_ok-list.ensures.basis.monic c.in-Ok-free_elements.ensures.arity)

pub tidy_in-requires-clause-few : goal.tidy_in-requires-clause-few
tidy_in-requires-clause-few c = rw c.deref-4.ensures.value (free_short c.args.front _ _
    (free_here (goal.at.tidy_in-requires-clause-few c).In-Ok-free_elements)
    (omega (arith, length-map c.in_ok-list.list.items terms_in, c.in_ok-list.ensures.few)))

pub returns-in_err-out-clause-refused : goal.returns-in_err-out-clause-refused
returns-in_err-out-clause-refused c =
    let at = goal.at.returns-in_err-out-clause-refused c in
    passed _ _ _ c.from_residual-in_err-out.ensures.1 (behind_pairs at.In_ok-pairs (inl
    (rw (c.deref-4.ensures.value, free_here at.In-Ok-free_elements) at
    c.in_err-out.ensures.ran.to)))

pub divide_each-requires-2-clause-few : goal.divide_each-requires-2-clause-few
divide_each-requires-2-clause-few c =
    let at = goal.at.divide_each-requires-2-clause-few c in
    let l : units_of c.complete_in.new.meter.entries ≤ units_of c.divide_pairs.new.meter.entries =
    (let a = rows_units _ _ _ _ _ _ (gens_here at.In_ok-gens) in
    let b = pair_rows_units _ _ _ _ _ _ (pairs_here at.In_ok-pairs) in omega (arith, a, b)) in
    let a = out_within c.args.front _ _ _ _ _ _ _ _ (list_here at.In_ok-list) l _ refl
    (out_here at.In_ok-out) in
    let b = length-map c.args.begin.now terms_in in
    let d = length-map c.in_ok-out.out.items terms_in in
    let e = ap length c.deref-5.ensures.value in
    omega (
      arith,
      a,
      b,
      d,
      e,
      c.requires.few,
      c.within_limit.ensures.within,
      c.within_limit.ensures.few,
    )

pub returns-in_err-links-clause-refused : goal.returns-in_err-links-clause-refused
returns-in_err-links-clause-refused c =
    let at = goal.at.returns-in_err-links-clause-refused c in
    passed _ _ _ c.from_residual-in_err-links.ensures.1 (behind_pairs at.In_ok-pairs (inr
    (record {
      out = terms_each c.in_ok-out.out.items;
      tidied = c.tidy_in.new.meter.entries;
      made = out_here at.In_ok-out;
      refused = rw (
        c.deref-5.ensures.value,
        c.deref-6.ensures.value,
        free_here at.In-Ok-free_elements,
      ) at c.in_err-links.ensures.refused;
    })))
