use Rattle.std.proofs.Common.{◌≡◌, ◌<◌, ◌++◌, length, vec_len, rules, All, refl, sym, subst, arith}
use Rattle.std.proofs.lemmas.List.Elements.{All-nil, All-head, All-tail}
use Rattle.loop_model.specs.View.{program_of}
use Rattle.loop_runs.specs.Parts.{AreFurther, CanFollow, stages_in, stages_read}
use Rattle.loop_runs.proofs.ChainParts.{taken_first, stages_alike, stages_same}
use Rattle.loop_runs.proofs.parts.further_stages.Goals as goal

pub loop-alloc-init : goal.loop-alloc-init
loop-alloc-init c = record {
  alike = rw c.new-stages.ensures.items (All-nil _);
  same = rw c.new-stages.ensures.items refl;
  each = c.requires;
}

pub further_stage-requires : goal.further_stage-requires
further_stage-requires c =
    let xs = c.loop-alloc.parts.items in
    let some : 0 < length xs = (let a : length xs ≡ vec_len c.loop-alloc.parts = search rules in
    let b = c.remove-part.ensures.len in omega (arith, a, b)) in
    let split = taken_first xs c.remove-part.new.self.items c.remove-part.result some
    c.remove-part.ensures.value
    c.remove-part.ensures.items in
    All-head (CanFollow (program_of c.args.first.now)) c.remove-part.result
    c.remove-part.new.self.items
    (subst (All (CanFollow (program_of c.args.first.now))) split c.loop-alloc.invariant.each)

pub loop-alloc-preserved : goal.loop-alloc-preserved
loop-alloc-preserved c =
    let first = c.args.first.now in
    let xs = c.loop-alloc.parts.items in
    let ys = c.remove-part.new.self.items in
    let g = c.in_ok-further_stage.field-0 in
    let some : 0 < length xs = (let a : length xs ≡ vec_len c.loop-alloc.parts = search rules in
    let b = c.remove-part.ensures.len in omega (arith, a, b)) in
    let split = taken_first xs ys c.remove-part.result some c.remove-part.ensures.value
    c.remove-part.ensures.items in
    record {
      alike = subst (AreFurther first) (sym c.in_ok-push.ensures.items)
          (stages_alike first c.loop-alloc.stages.items g c.loop-alloc.invariant.alike
          c.in_ok-further_stage.ensures.alike);
      same = subst (λ gs. stages_in gs ++ stages_read ys ≡ stages_read c.args.parts.items)
          (sym c.in_ok-push.ensures.items)
          (stages_same first c.loop-alloc.stages.items g c.remove-part.result xs ys
          (stages_read c.args.parts.items) c.in_ok-further_stage.ensures.stage split
          c.loop-alloc.invariant.same);
      each = All-tail (CanFollow (program_of first)) c.remove-part.result ys
          (subst (All (CanFollow (program_of first))) split c.loop-alloc.invariant.each);
    }
