use Rattle.std.proofs.Common.{◌≡◌, ◌+◌, ◌∷◌, inl, inr, suc, [], length, All, refl, sym, ap, subst, ◌∙◌, arith}
use Rattle.std.specs.Global.{Vec}
use Rattle.std.proofs.lemmas.List.{length-append}
use Rattle.std.proofs.lemmas.List.Elements.{All-nil, All-push}
use Rattle.std.proofs.lemmas.Result.{err_from_is_err_and}
use Rattle.poly.specs.Seen.{terms_each}
use Rattle.closures.proofs.Proving.{proof_begins}
use Rattle.loop_model.specs.FracPoly.{FracPoly}
use Rattle.loop_model.proofs.BranchMaps.{inside_seen, past_seen}
use Rattle.closing.specs.LoopMaps.{program_in}
use Rattle.closing.specs.Proving.{seen_rows, AreRows, IsSquare}
use Rattle.closing.proofs.KeptMaps.{letter_of}
use Rattle.closing.proofs.Proved.{lists_alike, elements_fit, is_unproved, is_proved}
use Rattle.closing.proofs.Rows.{none_seen, pushed_seen, begun_branches, next_branch, done_branches}
use Rattle.closing.proofs.loop_maps.LoopMaps.proof_of.Goals as goal

pub elements_of-requires : goal.elements_of-requires
elements_of-requires c = record {
  alike =
      lists_alike c.args.polynomials.now _ c.requires.over c.requires.closure_over;
}

pub returns-in_err-elements-clause-unproved : goal.returns-in_err-elements-clause-unproved
returns-in_err-elements-clause-unproved c =
    let e = err_from_is_err_and c.from_residual.result c.from_residual.ensures.1 in
    rw (e.1, e.2) (inl c.requires.closes)

pub loop-place-init : goal.loop-place-init
loop-place-init c =
    let program = program_in c.args.self.now in
    let none = c.new-steps.ensures.items in
    record {
      limit = refl;
      within = omega arith;
      count = ap length none;
      each = none_seen (λ (rows : Vec (Vec FracPoly)). seen_rows rows.items)
          (λ b rows. AreRows program c.args.closure.now c.in_ok-elements.elements (suc b) rows) []
          none;
      squares =
          subst (All (λ (rows : Vec (Vec FracPoly)). IsSquare (length program.names)
          (length c.in_ok-elements.elements.list.items) rows.items)) (sym none) (All-nil _);
      awaits =
          begun_branches program (terms_each c.args.polynomials.now) (terms_each c.args.closure.now)
          _ c.args.meter.now.entries _ (proof_begins program _ _
          (terms_each c.in_ok-elements.elements.list.items) _ c.requires.closes);
    }

pub branch_rows-requires-clause-letter : goal.branch_rows-requires-clause-letter
branch_rows-requires-clause-letter c =
    letter_of (program_in c.args.self.now) _
    (inside_seen _ _ _ _ c.branches-place-end.ensures.branches c.loop-place-test.true)

pub branch_rows-requires-clause-work : goal.branch_rows-requires-clause-work
branch_rows-requires-clause-work c =
    let program = program_in c.args.self.now in
    let e = c.in_ok-elements.ensures in
    elements_fit program c.args.polynomials.now c.args.closure.now c.requires.over
    c.requires.closure_over c.args.meter.now.entries c.requires.closes c.in_ok-elements.elements
    e.list e.stand e.count
    (e.over (length program.names) c.requires.over c.requires.closure_over) e.few c.requires.few

pub returns-in_err-branch_rows-clause-unproved : goal.returns-in_err-branch_rows-clause-unproved
returns-in_err-branch_rows-clause-unproved c =
    let program = program_in c.args.self.now in
    let P = terms_each c.args.polynomials.now in
    let gs = terms_each c.args.closure.now in
    let r = c.in_ok-elements.ensures in
    let inside = inside_seen _ _ _ _ c.branches-place-end.ensures.branches c.loop-place-test.true in
    let e = err_from_is_err_and c.from_residual-in_err-branch_rows.result
    c.from_residual-in_err-branch_rows.ensures.1 in
    rw (e.1, e.2) (is_unproved program c.args.polynomials.now c.args.closure.now c.requires.over
    c.requires.closure_over c.args.meter.now.entries c.requires.closes c.in_ok-elements.elements
    r.list r.stand r.count (r.over (length program.names) c.requires.over c.requires.closure_over) _
    _ _ (c.in_err-branch_rows.ensures.passes P _ (next_branch program P gs _
    c.loop-place.meter.entries _ _ inside c.loop-place.invariant.awaits)))

pub returns-in_err-push-clause-unproved : goal.returns-in_err-push-clause-unproved
returns-in_err-push-clause-unproved c =
    let program = program_in c.args.self.now in
    let P = terms_each c.args.polynomials.now in
    let gs = terms_each c.args.closure.now in
    let r = c.in_ok-elements.ensures in
    let inside = inside_seen _ _ _ _ c.branches-place-end.ensures.branches c.loop-place-test.true in
    let e = err_from_is_err_and c.from_residual-in_err-push.result
    c.from_residual-in_err-push.ensures.1 in
    let a = c.in_ok-branch_rows.ensures.passes P _ (next_branch program P gs _
    c.loop-place.meter.entries _ _ inside c.loop-place.invariant.awaits) in
    rw (e.1, e.2)
    (inr (record {
      list = terms_each c.in_ok-elements.elements.list.items;
      is = r.list;
      stopped = record { state = a.state; follows = a.follows };
    }))

pub loop-place-preserved : goal.loop-place-preserved
loop-place-preserved c =
    let program = program_in c.args.self.now in
    let P = terms_each c.args.polynomials.now in
    let gs = terms_each c.args.closure.now in
    let inv = c.loop-place.invariant in
    let more = c.in_ok-push.ensures.items in
    let rows = c.in_ok-branch_rows.field-0 in
    let inside = inside_seen _ _ _ _ c.branches-place-end.ensures.branches c.loop-place-test.true in
    record {
      limit = c.branch_rows.ensures.limit ∙ inv.limit;
      within = omega (arith, inside);
      count = (let a = ap length more in
          let b = length-append c.loop-place.steps.items (rows ∷ []) in
          let d = inv.count in
          omega (arith, a, b, d));
      each = pushed_seen (λ (v : Vec (Vec FracPoly)). seen_rows v.items)
          (λ b v. AreRows program c.args.closure.now c.in_ok-elements.elements (suc b) v) [] _ rows
          inv.each (subst (λ k. AreRows program c.args.closure.now c.in_ok-elements.elements k
          (seen_rows rows.items))
          (let d = inv.count in
          let e : c.loop-place.place + 1 ≡ suc (length c.loop-place.steps.items) =
          omega (arith, d) in
          e) c.in_ok-branch_rows.ensures.rows) more;
      squares =
          subst (All (λ (v : Vec (Vec FracPoly)). IsSquare (length program.names)
          (length c.in_ok-elements.elements.list.items) v.items)) (sym more)
          (All-push (λ (v : Vec (Vec FracPoly)). IsSquare (length program.names)
          (length c.in_ok-elements.elements.list.items) v.items) _ rows
          inv.squares c.in_ok-branch_rows.ensures.square);
      awaits =
          c.in_ok-branch_rows.ensures.passes P _ (next_branch program P gs _
          c.loop-place.meter.entries _ _ inside inv.awaits);
    }

pub returns-clause-proof : goal.returns-clause-proof
returns-clause-proof c =
    let program = program_in c.args.self.now in
    let P = terms_each c.args.polynomials.now in
    let gs = terms_each c.args.closure.now in
    let r = c.in_ok-elements.ensures in
    let inv = c.loop-place.invariant in
    let past = past_seen _ _ _ _ c.branches-place-end.ensures.branches c.loop-place-test.false in
    is_proved program c.args.polynomials.now c.args.closure.now c.requires.over
    c.requires.closure_over c.args.meter.now.entries c.requires.closes c.in_ok-elements.elements
    r.list r.stand r.count (r.over (length program.names) c.requires.over c.requires.closure_over) _
    (record { list = c.in_ok-elements.elements.list; steps = c.loop-place.steps }) refl
    (done_branches program P gs _ c.loop-place.meter.entries _ c.loop-place.place past inv.awaits)
    (let a = inv.count in
    let b = inv.within in
    omega (arith, a, b, past)) inv.each

pub returns-clause-fits : goal.returns-clause-fits
returns-clause-fits c = record {
  arity =
      c.in_ok-elements.ensures.over (length (program_in c.args.self.now).names) c.requires.over
      c.requires.closure_over;
  squares = c.loop-place.invariant.squares;
}
