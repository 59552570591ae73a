use Rattle.std.proofs.Common.{◌≡◌, ◌<◌, ◌++◌, [], ◌∷◌, length, get_or, take, sym, ap, ◌∙◌, append_assoc, add-one, arith}
use Rattle.std.proofs.Math.Seq.{take-suc}
use Rattle.std.proofs.lemmas.List.{length-append, length-take}
use Rattle.std.proofs.lemmas.Option.{get_or_from_slice_get}
use Rattle.loop_model.specs.Names.{place_of}
use Rattle.program_model.specs.Names.{unknown_names}
use Rattle.program_checker.proofs.UnknownNames.{unknowns_count, name_other}
use Rattle.program_checker.proofs.unknowns.with_unknowns.Goals as goal
use Rattle.program_checker.proofs.unknowns.with_unknowns.Goals.{After-as_bytes}

-- the next of the names
module _ (c : After-as_bytes) where
  inside : c.loop-index.index < length c.args.names.now
  inside = omega (arith, c.loop-index-test.true, c.len-index-end.ensures.len)

  name_is : c.as_bytes.result.now ≡ get_or c.args.names.now c.loop-index.index []
  name_is = c.as_bytes.ensures.value
      ∙ sym (get_or_from_slice_get c.args.names.now c.loop-index.index _ [] c.name.ensures)

pub push_new-requires-clause-other : goal.push_new-requires-clause-other
push_new-requires-clause-other c =
    ap (λ ns. place_of ns c.as_bytes.result.now) c.loop-index.invariant
    ∙ ap (place_of (unknown_names c.args.unknowns ++ take c.loop-index.index c.args.names.now))
    (name_is c)
    ∙ name_other c.args.names.now c.len-index-end.ensures.names c.requires.free c.args.unknowns
    c.loop-index.index (inside c)

pub push_new-requires-clause-room : goal.push_new-requires-clause-room
push_new-requires-clause-room c =
    let within = inside c in
    let many = ap length c.loop-index.invariant
    ∙ length-append (unknown_names c.args.unknowns) (take c.loop-index.index c.args.names.now) in
    let first = unknowns_count c.args.unknowns in
    let rest = length-take c.loop-index.index c.args.names.now in
    omega (arith, within, many, first, rest, c.requires.room)

pub loop-index-preserved : goal.loop-index-preserved
loop-index-preserved c =
    let at = (goal.at.loop-index-preserved c).After-as_bytes in
    let names = c.args.names.now in
    let i = c.loop-index.index in
    c.in_ok-push_new.ensures.ok
    ∙ ap (λ ns. ns ++ c.as_bytes.result.now ∷ []) c.loop-index.invariant
    ∙ append_assoc (unknown_names c.args.unknowns) (take i names) (c.as_bytes.result.now ∷ [])
    ∙ ap (λ ns. unknown_names c.args.unknowns ++ ns) (ap (λ w. take i names ++ w ∷ []) (name_is at)
    ∙ sym (take-suc names i [] (inside at)) ∙ ap (λ k. take k names) (sym (add-one i)))
