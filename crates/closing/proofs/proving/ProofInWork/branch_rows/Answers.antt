use Rattle.std.proofs.Common.{◌≡◌, ◌∷◌, [], get_or, length, All, refl, sym, ap, subst, ◌∙◌, arith}
use Rattle.std.specs.Global.{Vec}
use Rattle.std.proofs.lemmas.List.{length-append, length-map}
use Rattle.std.proofs.lemmas.List.Elements.{All-nil, All-push}
use Rattle.std.proofs.lemmas.Result.{err_from_is_err_and}
use Rattle.poly.specs.Seen.{terms_each}
use Rattle.ideal_ops.specs.Calls.{AreOver}
use Rattle.loop_model.specs.FracPoly.{FracPoly}
use Rattle.closures.specs.Certified.{IsRowOf}
use Rattle.closing.specs.Proving.{program_by, list_by, closure_by}
use Rattle.closing.proofs.Rows.{none_seen, pushed_seen, next_test, done_tests}
use Rattle.closing.proofs.proving.ProofInWork.branch_rows.Goals as goal

pub loop-place-init : goal.loop-place-init
loop-place-init c =
    let none = c.new-rows.ensures.items in
    record {
      limit = refl;
      within = omega arith;
      count = ap length none;
      each = none_seen (λ (v : Vec FracPoly). terms_each v.items)
          (λ i row. IsRowOf (program_by c.args.self.now) (closure_by c.args.self.now)
          c.args.self.now.elements.places.items (length (list_by c.args.self.now))
          c.args.letter (get_or (list_by c.args.self.now) i []) row) [] none;
      widths =
          subst (All (λ (v : Vec FracPoly).
          length v.items ≡ length c.args.self.now.elements.list.items)) (sym none) (All-nil _);
      arities =
          subst (All (λ (v : Vec FracPoly).
          AreOver (length (program_by c.args.self.now).names) v.items)) (sym none) (All-nil _);
      passes = λ P w a. a;
    }

pub returns-in_err-row-clause-limit : goal.returns-in_err-row-clause-limit
returns-in_err-row-clause-limit c = c.row.ensures.limit ∙ c.loop-place.invariant.limit

pub returns-in_err-row-clause-passes : goal.returns-in_err-row-clause-passes
returns-in_err-row-clause-passes c = λ P w a.
    let e = err_from_is_err_and c.from_residual.result c.from_residual.ensures.1 in
    rw (e.1, e.2) (c.in_err-row.ensures.passes P _ (next_test (program_by c.args.self.now) P
    (closure_by c.args.self.now) _ c.loop-place.meter.entries _ _ w
    (let t = c.loop-place-test.true in
    let n = c.len-place-end.ensures in
    omega (arith, t, n)) (c.loop-place.invariant.passes P w a)))

pub returns-in_err-push-clause-limit : goal.returns-in_err-push-clause-limit
returns-in_err-push-clause-limit c = c.row.ensures.limit ∙ c.loop-place.invariant.limit

pub returns-in_err-push-clause-passes : goal.returns-in_err-push-clause-passes
returns-in_err-push-clause-passes c = λ P w a.
    let e = err_from_is_err_and c.from_residual-in_err-push.result
    c.from_residual-in_err-push.ensures.1 in
    let b = c.in_ok-row.ensures.passes P _ (next_test (program_by c.args.self.now) P
    (closure_by c.args.self.now) _ c.loop-place.meter.entries _ _ w
    (let t = c.loop-place-test.true in
    let n = c.len-place-end.ensures in
    omega (arith, t, n)) (c.loop-place.invariant.passes P w a)) in
    rw (e.1, e.2) (record { state = b.state; follows = b.follows })

pub loop-place-preserved : goal.loop-place-preserved
loop-place-preserved c =
    let inv = c.loop-place.invariant in
    let bs = list_by c.args.self.now in
    let row = c.in_ok-row.field-0 in
    let more = c.in_ok-push.ensures.items in
    record {
      limit = c.row.ensures.limit ∙ inv.limit;
      within = (let l = c.loop-place-test.true in
          let n = c.len-place-end.ensures in
          omega (arith, l, n));
      count = (let a = ap length more in
          let b = length-append c.loop-place.rows.items (row ∷ []) in
          let d = inv.count in
          omega (arith, a, b, d));
      each = pushed_seen (λ (v : Vec FracPoly). terms_each v.items)
          (λ i r. IsRowOf (program_by c.args.self.now) (closure_by c.args.self.now)
          c.args.self.now.elements.places.items (length bs) c.args.letter (get_or bs i []) r) [] _
          row inv.each (subst (λ k. IsRowOf (program_by c.args.self.now)
          (closure_by c.args.self.now) c.args.self.now.elements.places.items (length bs)
          c.args.letter (get_or bs k []) (terms_each row.items)) (sym inv.count)
          c.in_ok-row.ensures.row) more;
      widths =
          subst (All (λ (v : Vec FracPoly). length v.items ≡ length
          c.args.self.now.elements.list.items)) (sym more) (All-push (λ (v : Vec FracPoly). length
          v.items ≡ length c.args.self.now.elements.list.items) _ row inv.widths
          c.in_ok-row.ensures.width);
      arities =
          subst (All (λ (v : Vec FracPoly). AreOver (length (program_by c.args.self.now).names)
          v.items)) (sym more) (All-push (λ (v : Vec FracPoly). AreOver
          (length (program_by c.args.self.now).names) v.items) _ row inv.arities
          c.in_ok-row.ensures.over);
      passes = λ P w a.
          c.in_ok-row.ensures.passes P _
          (next_test (program_by c.args.self.now) P (closure_by c.args.self.now) _
          c.loop-place.meter.entries _ _ w (let t = c.loop-place-test.true in
          let n = c.len-place-end.ensures in
          omega (arith, t, n)) (inv.passes P w a));
    }

pub returns-clause-rows : goal.returns-clause-rows
returns-clause-rows c =
    let inv = c.loop-place.invariant in
    record {
      count = (let a = length-map c.loop-place.rows.items (λ (v : Vec FracPoly).
          terms_each v.items) in
          let b = inv.count in
          let d = inv.within in
          let l = c.loop-place-test.false in
          let n = c.len-place-end.ensures in
          omega (arith, a, b, d, l, n));
      each = inv.each;
    }

pub returns-clause-square : goal.returns-clause-square
returns-clause-square c =
    let inv = c.loop-place.invariant in
    record {
      height = (let b = inv.count in
          let d = inv.within in
          let l = c.loop-place-test.false in
          let n = c.len-place-end.ensures in
          omega (arith, b, d, l, n));
      widths = inv.widths;
      arities = inv.arities;
    }

pub returns-clause-passes : goal.returns-clause-passes
returns-clause-passes c = λ P w a.
    done_tests (program_by c.args.self.now) P (closure_by c.args.self.now) _
    c.loop-place.meter.entries c.args.letter c.loop-place.place w
    (let l = c.loop-place-test.false in
    let n = c.len-place-end.ensures in
    omega (arith, l, n)) (c.loop-place.invariant.passes P w a)
