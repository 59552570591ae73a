use Rattle.std.proofs.Common.{inl, sym, ap, subst, ◌∙◌, arith}
use Rattle.machines.specs.Journal.{Journal}
use Rattle.poly.specs.Seen.{terms_each}
use Rattle.invariant_fix.specs.Steps.{Awaits, Knows, branching}
use Rattle.invariant_fix.proofs.Lists.{known_later}
use Rattle.invariant_fix.proofs.Branching.{round_begun, round_unit, come_at, branch_at, closing_at}
use Rattle.invariant_fix.proofs.round.next_basis.Goals as goal

pub first_list-requires-clause-at : goal.first_list-requires-clause-at
first_list-requires-clause-at c =
    let u = round_unit c.args.setting.now c.args.round c.args.basis.now c.args.meter.now
    c.begin.new.self c.in_ok-begin.ensures.ok in
    record {
      fits = c.requires.fits;
      place = c.requires.fits.some_branch;
      basis = known_later _ _ c.requires.basis (omega (arith, u));
    }

pub first_list-requires-clause-next : goal.first_list-requires-clause-next
first_list-requires-clause-next c = round_begun c.args.setting.now c.args.round c.args.basis.now
    c.args.meter.now c.begin.new.self c.requires.next c.in_ok-begin.ensures.ok

pub loop-place-init : goal.loop-place-init
loop-place-init c =
    let s = c.args.setting.now in
    let k = c.args.round in
    let gs = c.args.basis.now in
    let ok = c.in_ok-begin.ensures.ok in
    let u = round_unit s k gs c.args.meter.now c.begin.new.self ok in
    let v = c.in_ok-so_far.ensures.units in
    record {
      limit = c.first_list.ensures.limit ∙ ap (λ (j : Journal). j.limit) ok;
      from = omega arith;
      known = known_later _ _ c.requires.basis (omega (arith, u, v));
      so_far = c.in_ok-so_far.ensures.list;
      next = come_at s k gs 0 _ (omega arith) c.in_ok-so_far.ensures.next;
      units = omega (arith, u, v);
    }

pub list_behind-requires-clause-at : goal.list_behind-requires-clause-at
list_behind-requires-clause-at c = record {
  fits = c.requires.fits;
  place = (let x = c.loop-place-test.true in let y = c.len-place-end.ensures in
      let z = c.args.setting.now.branches.ok.0 in omega (arith, x, y, z));
  basis = c.loop-place.invariant.known;
}

pub list_behind-requires-clause-meets : goal.list_behind-requires-clause-meets
list_behind-requires-clause-meets c = let i = c.loop-place.invariant.from in inl (omega (arith, i))

pub list_behind-requires-clause-so_far : goal.list_behind-requires-clause-so_far
list_behind-requires-clause-so_far c = subst (Knows c.args.setting.now c.loop-place.meter)
    (sym c.deref.ensures.value) c.loop-place.invariant.so_far

pub list_behind-requires-clause-next : goal.list_behind-requires-clause-next
list_behind-requires-clause-next c =
    let s = c.args.setting.now in
    let i = c.loop-place.invariant in
    subst (λ hs. Awaits s c.loop-place.meter
    (branching s c.args.round c.loop-place.place c.args.basis.now (terms_each hs)))
    (sym c.deref.ensures.value)
    (branch_at s _ _ _ _ i.from (let x = c.loop-place-test.true in let y =
    c.len-place-end.ensures in let z = s.branches.ok.0 in omega (arith, x, y, z)) i.next)

pub loop-place-preserved : goal.loop-place-preserved
loop-place-preserved c =
    let s = c.args.setting.now in
    let k = c.args.round in
    let gs = c.args.basis.now in
    let i = c.loop-place.invariant in
    record {
      limit = c.list_behind.ensures.limit ∙ i.limit;
      from = (let o = i.from in omega (arith, o));
      known = known_later _ _ i.known c.in_ok-so_far-2.ensures.units;
      so_far = c.in_ok-so_far-2.ensures.list;
      next = come_at s k gs c.loop-place.place _ (omega arith) c.in_ok-so_far-2.ensures.next;
      units = (let u = i.units in let v = c.in_ok-so_far-2.ensures.units in omega (arith, u, v));
    }

pub returns-clause-next : goal.returns-clause-next
returns-clause-next c =
    let i = c.loop-place.invariant in
    closing_at c.args.setting.now _ _ _ _ i.from (let x = c.loop-place-test.false in
    let y = c.len-place-end.ensures in let z = c.args.setting.now.branches.ok.0 in
    omega (arith, x, y, z)) i.next
