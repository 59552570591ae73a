use Rattle.std.proofs.Common.{◌≡◌, ◌<◌, ◌+◌, [], length, ap, sym, subst, ◌∙◌, arith, Vec, Global}
use Rattle.std.proofs.lemmas.List.{length_push}
use Rattle.std.proofs.lemmas.List.Elements.{All-nil, All-push, All-same}
use Rattle.frac128.specs.declared.fraction.Frac.{Frac}
use Rattle.solvable.proofs.Using.{FracPoly}
use Rattle.closed_forms.specs.ClassSetting.{IsClassSetting}
use Rattle.closed_forms.specs.ClassInWork.{base_in, over_class}
use Rattle.closed_forms.specs.Solved.{IsWithin}
use Rattle.closed_forms.proofs.Chaining.{each_at, next_begun, next_code, past_code}
use Rattle.closed_forms.proofs.Mixing.{wide_on}
use Rattle.closed_forms.proofs.class_in_work.ClassInWork.closed_forms.Goals as goal

pub loop-place-init : goal.loop-place-init
loop-place-init c =
    let none = c.new-done.ensures.items in (
      ap length none,
      All-same (λ (p : FracPoly). p.arity ≡ over_class c.args.self.now) _ [] none
          (All-nil (λ (p : FracPoly). p.arity ≡ over_class c.args.self.now)),
      next_begun c.args.self.now none,
    )

pub invariant_of-form : goal.invariant_of-form
invariant_of-form c =
    let w = c.args.self.now in
    let low : c.loop-place.place < length w.split.now.forms.items =
    omega (arith, c.loop-place-test.true, c.len-place-end.ensures, w.split.now.forms.ok.0) in
    let wide = ap (length {A = Frac}) c.as_slice.ensures.value
    ∙ ap (λ (v : Vec Frac Global). length v.items) c.index.ensures
    ∙ w.forms c.loop-place.place c.index.result.now low in
    record {
      within =
          each_at (IsWithin (base_in w)) _ _ (omega (arith, low, w.values))
          c.index-in-loop-place.ensures w.within;
      ready = subst (λ n. IsClassSetting (base_in w) n w.setting) (sym wide) w.ready;
    }

pub returns-in_err-next-clause-wide : goal.returns-in_err-next-clause-wide
returns-in_err-next-clause-wide c =
    let split = c.args.self.now.split.now in
    let low : c.loop-place.place < length split.forms.items =
    omega (arith, c.loop-place-test.true, c.len-place-end.ensures, split.forms.ok.0) in
    wide_on c.from_residual.ensures.1 (λ w. past_code c.args.self.now c.deref.ensures.value
    c.loop-place.invariant.0 low c.index.ensures c.as_slice.ensures.value
    c.index-in-loop-place.ensures c.loop-place.invariant.2 (c.in_err-next.ensures.wide w))

pub loop-place-preserved : goal.loop-place-preserved
loop-place-preserved c =
    let split = c.args.self.now.split.now in
    let low : c.loop-place.place < length split.forms.items =
    omega (arith, c.loop-place-test.true, c.len-place-end.ensures, split.forms.ok.0) in
    let done = c.loop-place.done.items in
    let next = c.in_ok-next.next in
    let more = c.in_ok-push.ensures.items in (
      ap length more ∙ length_push done next ∙ ap (λ k. k + 1) c.loop-place.invariant.0,
      All-same (λ (p : FracPoly). p.arity ≡ over_class c.args.self.now) _ _ more
          (All-push (λ (p : FracPoly). p.arity ≡ over_class c.args.self.now) done next
          c.loop-place.invariant.1 c.in_ok-next.ensures.arity),
      next_code c.args.self.now c.deref.ensures.value c.loop-place.invariant.0 low
          c.index.ensures c.as_slice.ensures.value c.index-in-loop-place.ensures next more
          c.loop-place.invariant.2 c.in_ok-next.ensures.normal c.in_ok-next.ensures.next,
    )
