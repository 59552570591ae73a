use Rattle.std.proofs.Common.{◌≡◌, ◌+◌, [], ◌∷◌, length, get_or, rules, arith, add-one, refl, sym, subst, None}
use Rattle.std.specs.Prelude.{pred}
use Rattle.std.proofs.lemmas.Result.{err_from_is_err_and}
use Rattle.poly.specs.Seen.{terms_each}
use Rattle.loop_model.specs.Maps.{IsBranchMap}
use Rattle.loop_model.proofs.BranchMaps.{maps_count, map_at}
use Rattle.loop_model.proofs.Items.{in_list, item_of, item_has}
use Rattle.counter_run.specs.Search.{loop_of, sought, word_in, IsComposedWord, IsImageOf, IfWordStops}
use Rattle.counter_run.proofs.Combining.{known_at}
use Rattle.counter_run.proofs.Searching.{behind_none, image_stopped, stop_here, hit_here, more_word}
use Rattle.counter_run.proofs.search.Search.extend_layer.Goals as goal

pub index-images-requires : goal.index-images-requires
index-images-requires c =
    let s = c.args.self.now in
    let count = maps_count (loop_of s) s.maps.now.branches.items c.requires.search.maps.branches in
    omega (arith, c.requires.branch, count, s.maps.now.branches.ok.0)

pub loop-suffix-init : goal.loop-suffix-init
loop-suffix-init c = record {
  appends =
      behind_none (loop_of c.args.self.now) (sought c.args.self.now) c.args.self.now.most
      (c.args.branch + 1) c.args.layer.now.items c.args.tried.words.items c.args.tried.cost
      c.args.tried refl refl c.requires.little;
  known = search rules;
  at_start = search rules;
}

pub with_first_letter-requires-clause-images : goal.with_first_letter-requires-clause-images
with_first_letter-requires-clause-images c =
    let s = c.args.self.now in
    subst (λ n. IsBranchMap (loop_of s) c.index-images.result.now
    (get_or (loop_of s).branches (pred n) [])) (sym (add-one c.args.branch))
    (map_at (loop_of s) s.maps.now.branches.items c.index-images.result.now c.args.branch
    c.requires.search.maps.branches c.requires.branch c.index-images.ensures)

pub returns-in_err-next-clause-stopped : goal.returns-in_err-next-clause-stopped
returns-in_err-next-clause-stopped c =
    let s = c.args.self.now in
    let program = loop_of s in
    let p = sought s in
    let ts = c.args.layer.now.items in
    let b = c.args.branch + 1 in
    let inside = in_list ts c.deref-suffix-items.result.now
    c.deref-suffix-items.ensures.value c.loop-suffix.suffix-index
    c.loop-suffix-test.true in
    let at = item_of ts c.deref-suffix-items.result.now
    c.deref-suffix-items.ensures.value c.loop-suffix.suffix-index
    c.suffix-item.result c.suffix-item.is in
    let composed = item_has ts c.deref-suffix-items.result.now
    c.deref-suffix-items.ensures.value c.loop-suffix.suffix-index
    (IsComposedWord program p) c.suffix-item.result c.requires.layer
    c.loop-suffix-test.true c.suffix-item.is in
    let e = err_from_is_err_and c.from_residual.result c.from_residual.ensures.1 in
    rw (e.1, e.2)
    (stop_here program p s.most b ts c.loop-suffix.suffix-index
    c.args.tried.words.items c.args.tried.cost c.loop-suffix.tried c.loop-suffix.invariant.appends
    c.suffix-item.result inside at c.in_err-next.field-0.0 (search rules)
    composed.letters
    (image_stopped program p s.most c.loop-suffix.tried.cost (b ∷ word_in c.suffix-item.result)
    c.in_err-next.field-0.0 c.in_err-next.ensures.stopped))

pub returns-in_err-test-clause-stopped : goal.returns-in_err-test-clause-stopped
returns-in_err-test-clause-stopped c =
    let s = c.args.self.now in
    let program = loop_of s in
    let p = sought s in
    let ts = c.args.layer.now.items in
    let b = c.args.branch + 1 in
    let inside = in_list ts c.deref-suffix-items.result.now
    c.deref-suffix-items.ensures.value c.loop-suffix.suffix-index
    c.loop-suffix-test.true in
    let at = item_of ts c.deref-suffix-items.result.now
    c.deref-suffix-items.ensures.value c.loop-suffix.suffix-index
    c.suffix-item.result c.suffix-item.is in
    let composed = item_has ts c.deref-suffix-items.result.now
    c.deref-suffix-items.ensures.value c.loop-suffix.suffix-index
    (IsComposedWord program p) c.suffix-item.result c.requires.layer
    c.loop-suffix-test.true c.suffix-item.is in
    let e = err_from_is_err_and c.from_residual-in_err-test.result
    c.from_residual-in_err-test.ensures.1 in
    rw (e.1, e.2)
    (stop_here program p s.most b ts c.loop-suffix.suffix-index
    c.args.tried.words.items c.args.tried.cost c.loop-suffix.tried c.loop-suffix.invariant.appends
    c.suffix-item.result inside at c.in_err-test.field-0.0 (search rules)
    composed.letters
    (subst (λ w. IfWordStops program p s.most c.loop-suffix.tried.cost w c.in_err-test.field-0.0)
    c.in_ok-next.ensures.word c.in_err-test.ensures.stopped))

pub returns-in-Some-clause-found : goal.returns-in-Some-clause-found
returns-in-Some-clause-found c =
    let s = c.args.self.now in
    let program = loop_of s in
    let p = sought s in
    let ts = c.args.layer.now.items in
    let b = c.args.branch + 1 in
    let inside = in_list ts c.deref-suffix-items.result.now
    c.deref-suffix-items.ensures.value c.loop-suffix.suffix-index
    c.loop-suffix-test.true in
    let at = item_of ts c.deref-suffix-items.result.now
    c.deref-suffix-items.ensures.value c.loop-suffix.suffix-index
    c.suffix-item.result c.suffix-item.is in
    hit_here program p s.most b ts c.loop-suffix.suffix-index c.args.tried.words.items
    c.args.tried.cost c.loop-suffix.tried c.loop-suffix.invariant.appends c.suffix-item.result
    inside at
    (record { word = c.in_ok-next.next.word; image = c.in-Some.image }) c.in_ok-next.next
    c.in_ok-next.ensures.word c.in_ok-next.ensures.composes refl c.in_ok-test.test
    c.in_ok-test.ensures.tested c.in-Some.is

pub loop-suffix-preserved : goal.loop-suffix-preserved
loop-suffix-preserved c =
    let s = c.args.self.now in
    let program = loop_of s in
    let p = sought s in
    let ts = c.args.layer.now.items in
    let b = c.args.branch + 1 in
    let inside = in_list ts c.deref-suffix-items.result.now
    c.deref-suffix-items.ensures.value c.loop-suffix.suffix-index
    c.loop-suffix-test.true in
    let at = item_of ts c.deref-suffix-items.result.now
    c.deref-suffix-items.ensures.value c.loop-suffix.suffix-index
    c.suffix-item.result c.suffix-item.is in
    let composed = item_has ts c.deref-suffix-items.result.now
    c.deref-suffix-items.ensures.value c.loop-suffix.suffix-index
    (IsComposedWord program p) c.suffix-item.result c.requires.layer
    c.loop-suffix-test.true c.suffix-item.is in
    let none : c.in_ok-test.test.image ≡ None = search rules in
    record {
      appends = more_word program p s.most b ts c.loop-suffix.suffix-index
          c.args.tried.words.items c.args.tried.cost c.loop-suffix.tried
          c.loop-suffix.invariant.appends c.suffix-item.result inside at
          c.in_ok-next.next c.in_ok-next.ensures.word c.in_ok-next.ensures.composes
          c.in_ok-test.test c.in_ok-test.ensures.tested _ refl
          (subst (IsImageOf program p (word_in c.in_ok-next.next)) none
          c.in_ok-test.ensures.tested.image) c.in_ok-keep.ensures;
      known =
          known_at c.suffix-item.result.polynomial.arity (length program.names)
          (terms_each c.index-images.result.now.items) _ composed.stands.arity
          c.with_first_letter.ensures.known;
      at_start =
          known_at c.in_ok-next.next.polynomial.arity (length program.names)
          (terms_each s.maps.now.start.items) _ c.in_ok-next.ensures.composes.stands.arity
          c.test.ensures.known;
    }

pub with_first_letter-requires-clause-known : goal.with_first_letter-requires-clause-known
with_first_letter-requires-clause-known c =
    let program = loop_of c.args.self.now in
    let p = sought c.args.self.now in
    let ts = c.args.layer.now.items in
    let composed = item_has ts c.deref-suffix-items.result.now
    c.deref-suffix-items.ensures.value c.loop-suffix.suffix-index
    (IsComposedWord program p) c.suffix-item.result c.requires.layer
    c.loop-suffix-test.true c.suffix-item.is in
    known_at (length program.names) c.suffix-item.result.polynomial.arity
    (terms_each c.index-images.result.now.items) c.loop-suffix.known.items
    (sym composed.stands.arity) c.loop-suffix.invariant.known

pub test-requires-clause-known : goal.test-requires-clause-known
test-requires-clause-known c =
    let s = c.args.self.now in
    known_at (length (loop_of s).names) c.in_ok-next.next.polynomial.arity
    (terms_each s.maps.now.start.items) c.loop-suffix.known_at_start.items
    (sym c.in_ok-next.ensures.composes.stands.arity) c.loop-suffix.invariant.at_start
