use Rattle.std.proofs.Common.{◌≡◌, ◌<◌, ℕ, List, Bool, true, All, length, set, refl, ap, sym, subst, ◌∙◌, arith, rules}
use Rattle.std.proofs.lemmas.Result.{on_ok_weaker}
use mathlib.Core.Bool.{not}
use Rattle.std.proofs.lemmas.List.{length-set}
use Rattle.algebra.specs.Fraction.{Fraction}
use Rattle.polynomials.specs.Terms.{Terms}
use Rattle.poly.specs.Seen.{terms_in, terms_each}
use Rattle.solvable.proofs.Using.{FracPoly, arity_at}
use Rattle.expo.specs.declared.exponential.Expo.{Expo}
use Rattle.closed_forms.specs.Comparison.{list_at}
use Rattle.closed_forms.specs.Settling.{IsAt, IsMarked, KeptMarks}
use Rattle.closed_forms.proofs.Marks.{at_same, at_told, not_is, marked_here, marked_kept, class_first, kept_both, past_first, past_later}
use Rattle.closed_forms.proofs.Mixing.{head_all, ok_both, tail_all, wide_on}
use Rattle.closed_forms.proofs.StateLists.{listed}
use Rattle.closed_forms.proofs.begins.Comparison.+mark_class.Goals as goal
use Rattle.closed_forms.proofs.begins.Comparison.+mark_class.Goals.{After-mark_class}

pub returns-in_err-at_iteration-clause-wide : goal.returns-in_err-at_iteration-clause-wide
returns-in_err-at_iteration-clause-wide t c =
    let es = c.args.self.now.polys.now.items in
    wide_on c.from_residual.ensures.1 (λ w.
    past_first es c.args.iterations (list_at c.args.self.now c.args.iterations) c.args.group.now
    c.in-Some.group.now c.in-Some.variable.now c.index-2.result.now
    c.in-Some.ensures.cases.0 (head_all (λ i. i < length es) c.in-Some.ensures.cases.0
    c.requires.inside) c.index-2.ensures (c.in_err-at_iteration.ensures.wide w))

pub mark_class-requires : goal.mark_class-requires
mark_class-requires t c = (
  search rules,
  (
    tail_all (λ i. i < length c.args.self.now.polys.now.items) c.in-Some.ensures.cases.0
        c.requires.inside,
    (
      c.requires.within,
      length-set c.args.marks.now.items c.in-Some.variable.now (not c.eq-same.result)
          ∙ c.requires.count,
    ),
  ),
)

-- the marks with that of the first variable set
module _ (t : ℕ) (c : After-mark_class t) where
  abbrev mid : List Bool
  mid = set c.args.marks.now.items c.in-Some.variable.now (not c.eq-same.result)

  abbrev es : List Expo
  es = c.args.self.now.polys.now.items

  abbrev state : List (Terms Fraction)
  state = list_at c.args.self.now c.args.iterations

  low : c.in-Some.variable.now < length es
  low = head_all (λ i. i < length es) c.in-Some.ensures.cases.0 c.requires.inside

  state_is : terms_each c.as_slice-state.result.now ≡ state
  state_is = ap terms_each c.as_slice-state.ensures.value
      ∙ listed _ _ c.requires.within c.index.ensures

  long : c.in-Some.variable.now < length c.as_slice-state.result.now
  long =
      let r = c.args.self.now in
      let n = ap length c.as_slice-state.ensures.value ∙ ap (λ v. length v.items) c.index.ensures
      ∙ r.counts c.args.iterations c.index.result.now c.requires.within in
      let l = low in
      omega (arith, l, n)

  arity_is : c.index-state-variable.result.arity ≡ c.index-2.result.now.vars
  arity_is =
      let r = c.args.self.now in
      arity_at c.as_slice-state.result.now (length es) _ _ long c.index-state-variable.is
      (subst (λ (ps : List FracPoly). All (λ (p : FracPoly). p.arity ≡ length es) ps)
      (sym (c.as_slice-state.ensures.value
      ∙ ap {B = List FracPoly} (λ v. v.items) c.index.ensures))
      (r.arities c.args.iterations c.index.result.now c.requires.within))
      ∙ sym (ap (λ (e : Expo). e.vars) c.index-2.ensures
      ∙ r.vars c.in-Some.variable.now c.index-2.result.now low)

  decides : (c.eq-same.result ≡ true → IsAt c.index-2.result.now c.args.iterations
      (terms_in c.index-state-variable.result))
      × (IsAt c.index-2.result.now c.args.iterations (terms_in c.index-state-variable.result)
      → c.eq-same.result ≡ true)
  decides =
      let p = c.in_ok-at_iteration.field-0 in (
        (λ e. at_same c.index-2.result.now _ p c.in_ok-at_iteration.ensures.values
            (c.eq-same.ensures.same.0 e).1),
        (λ h. c.eq-same.ensures.same.1 (at_told c.index-2.result.now c.args.iterations p
            c.index-state-variable.result c.in_ok-at_iteration.ensures.iteration.arity arity_is
            c.in_ok-at_iteration.ensures.values h)),
      )

  here : IsMarked es c.args.iterations state mid c.in-Some.variable.now
  here =
      let k = c.requires.count in
      let l = low in
      subst (λ s. IsMarked es c.args.iterations s mid c.in-Some.variable.now) state_is
      (marked_here _ _ _ _ l long c.index-2.ensures
      c.index-state-variable.is _ decides _ mid _ (omega (arith, l, k))
      (not_is c.eq-same.result) refl)

  kept : KeptMarks es c.args.iterations state c.args.marks.now.items mid
  kept =
      let k = c.requires.count in
      let l = low in
      subst (λ s. KeptMarks es c.args.iterations s c.args.marks.now.items mid) state_is
      (marked_kept _ _ _ _ l long c.index-2.ensures
      c.index-state-variable.is _ decides _ mid _ (omega (arith, l, k))
      (not_is c.eq-same.result) refl)

pub returns-clause-kept : goal.returns-clause-kept
returns-clause-kept t c = on_ok_weaker c.mark_class.result
    (λ h. kept_both (es t c) c.args.iterations (state t c) _ (mid t c) _
    (kept t c) h) c.mark_class.ensures.kept

pub returns-clause-marked : goal.returns-clause-marked
returns-clause-marked t c = ok_both _ _ _ _
    (λ _ k h. class_first (es t c) c.args.iterations (state t c) (mid t c)
    c.mark_class.new.marks.items c.in-Some.ensures.cases.0 (here t c) k h)
    c.mark_class.ensures.kept c.mark_class.ensures.marked

pub returns-clause-wide : goal.returns-clause-wide
returns-clause-wide t c = λ w. past_later (es t c) c.args.iterations (state t c)
    c.args.group.now c.in-Some.group.now c.in-Some.variable.now
    c.in-Some.ensures.cases.0 (c.mark_class.ensures.wide w)
