use Rattle.std.proofs.Common.{◌≡◌, ◌+◌, ◌∷◌, ◌++◌, ℕ, List, [], Some, slice_get, IfSome, IsNone, refl, sym, ap, subst, length, ◌∙◌, arith}
use Rattle.std.specs.Global.{Vec}
use Rattle.algebra.specs.In.{In}
use Rattle.poly.specs.Seen.{terms_in, terms_each}
use Rattle.loop_model.specs.FracPoly.{FracPoly}
use Rattle.closing.proofs.Listed.{ElementsTo, elements_begun, element_known, element_new}
use Rattle.closing.proofs.listing.elements_of.Goals.{in-Some+in_ok-push-in-Some, in-None+in_ok-push-in-None+in_ok-copy-in-None+in_ok-push-in-None-2}
use Rattle.closing.proofs.listing.elements_of.Goals as goal

pub loop-element-init : goal.loop-element-init
loop-element-init c =
    elements_begun c.args.polynomials.now c.args.closure.now c.in_ok-list.list.items
    c.in_ok-list.ensures.terms c.in_ok-list.ensures.over c.new-places.ensures.items

pub loop-element-preserved : goal.loop-element-preserved
loop-element-preserved c =
    let ps = c.args.polynomials.now in
    let cs = c.args.closure.now in
    let e = c.element-item.result in
    let i = c.loop-element.element-index in
    let list = c.loop-element.list.items in
    let ks = c.loop-element.places.items in
    let js = c.match-place_in.places.items in
    elim c.match-place_in.branch [
      | in-Some+in_ok-push-in-Some w ↦
          subst (λ (v : Vec FracPoly). ElementsTo ps cs (i + 1) v.items js) (sym w.list-is)
          (element_known ps cs i list ks c.loop-element.invariant e c.loop-element-test.true
          c.element-item.is w.in-Some.place
          (subst (λ o. IfSome o (λ k. slice_get (terms_each ps) k ≡ Some (terms_in e)))
          w.in-Some.is c.place_in.ensures.some) js
          (ap {A = Vec ℕ} {B = List ℕ} (λ v. v.items) w.places-is
          ∙ w.in_ok-push-in-Some.ensures.items))
      | in-None+in_ok-push-in-None+in_ok-copy-in-None+in_ok-push-in-None-2 w ↦
          element_new ps cs i list ks c.loop-element.invariant e c.loop-element-test.true
          c.element-item.is (subst (λ o. IsNone o → In (terms_in e) (terms_each ps) → ⊥)
          w.in-None.is c.place_in.ensures.none refl) w.in_ok-copy-in-None.field-0
          w.in_ok-copy-in-None.ensures.terms w.in_ok-copy-in-None.ensures.arity
          (ap {A = Vec FracPoly} {B = List FracPoly} (λ v. v.items) w.list-is
          ∙ w.in_ok-push-in-None-2.ensures.items) js
          (ap {A = Vec ℕ} {B = List ℕ} (λ v. v.items) w.places-is
          ∙ w.in_ok-push-in-None.ensures.items
          ∙ ap {A = ℕ} {B = List ℕ} (λ n. ks ++ n ∷ [])
          (let a = c.loop-element.list.ok.0 in
          let b = w.len.ensures in
          let h : w.len.result ≡ length list = omega (arith, a, b) in
          h))
    ]
