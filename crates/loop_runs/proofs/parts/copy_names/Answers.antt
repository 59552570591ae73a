use Rattle.std.proofs.Common.{◌≡◌, ◌<◌, ℕ, List, [], ◌∷◌, ◌++◌, get_or, sym, ap₂, subst, ◌∙◌, arith, IsTrue, ◌≤◌, length, ap}
use Rattle.std.specs.Prelude.{Some, slice_get}
use Rattle.std.proofs.lemmas.List.{take_more, take_all, length-take-le}
use Rattle.std.proofs.lemmas.Option.{get_or_from_slice_get}
use Rattle.loops.specs.Limits.{most_bytes}
use Rattle.loop_model.specs.Names.{place_of}
use Rattle.loop_model.specs.Words.{is_plain_word}
use Rattle.loop_runs.proofs.ChainParts.{name_plain, name_short, name_new}
use Rattle.loop_runs.proofs.parts.copy_names.Goals as goal

-- the bytes of the name at a place
there : (names : List (List ℕ)) (i : ℕ) (w v : List ℕ) → slice_get names i ≡ Some w → v ≡ w
    → v ≡ get_or names i []
there names i w v e f = f ∙ sym (get_or_from_slice_get names i w [] e)

pub loop-index-init : goal.loop-index-init
loop-index-init c = c.empty-copy.ensures

pub push_new-requires-clause-plain : goal.push_new-requires-clause-plain
push_new-requires-clause-plain c =
    let inside : c.loop-index.index < length c.args.names.now = (let t = c.loop-index-test.true in
    let e = c.len-index-end.ensures.len in omega (arith, t, e)) in
    subst (λ w. IsTrue (is_plain_word w))
    (sym (there c.args.names.now c.loop-index.index _ _ c.name.ensures
    c.as_bytes.ensures.value)) (name_plain c.args.names.now c.len-index-end.ensures.names
    c.loop-index.index inside)

pub push_new-requires-clause-short : goal.push_new-requires-clause-short
push_new-requires-clause-short c =
    let inside : c.loop-index.index < length c.args.names.now = (let t = c.loop-index-test.true in
    let e = c.len-index-end.ensures.len in omega (arith, t, e)) in
    subst (λ w. length w ≤ most_bytes)
    (sym (there c.args.names.now c.loop-index.index _ _ c.name.ensures
    c.as_bytes.ensures.value)) (name_short c.args.names.now c.len-index-end.ensures.names
    c.loop-index.index inside)

pub push_new-requires-clause-other : goal.push_new-requires-clause-other
push_new-requires-clause-other c =
    let inside : c.loop-index.index < length c.args.names.now = (let t = c.loop-index-test.true in
    let e = c.len-index-end.ensures.len in omega (arith, t, e)) in
    ap₂ place_of c.loop-index.invariant (there c.args.names.now c.loop-index.index _ _
    c.name.ensures c.as_bytes.ensures.value)
    ∙ name_new c.args.names.now c.len-index-end.ensures.names c.loop-index.index inside

pub push_new-requires-clause-room : goal.push_new-requires-clause-room
push_new-requires-clause-room c =
    let t = c.loop-index-test.true in
    let e = c.len-index-end.ensures.len in
    let long = ap length c.loop-index.invariant ∙ length-take-le c.loop-index.index c.args.names.now
    (omega (arith, t, e)) in
    let few = c.len-index-end.ensures.few in
    omega (arith, t, e, long, few)

pub loop-index-preserved : goal.loop-index-preserved
loop-index-preserved c =
    let inside : c.loop-index.index < length c.args.names.now = (let t = c.loop-index-test.true in
    let e = c.len-index-end.ensures.len in omega (arith, t, e)) in
    c.in_ok-push_new.ensures.ok
    ∙ ap₂ (λ (ns : List (List ℕ)) (w : List ℕ). ns ++ w ∷ []) c.loop-index.invariant
    (there c.args.names.now c.loop-index.index _ _ c.name.ensures c.as_bytes.ensures.value)
    ∙ sym (take_more c.args.names.now c.loop-index.index [] inside)

pub returns : goal.returns
returns c =
    let t = c.loop-index-test.false in
    let e = c.len-index-end.ensures.len in
    c.loop-index.invariant ∙ take_all c.loop-index.index c.args.names.now (omega (arith, t, e))
