use Rattle.std.proofs.Common.{◌<◌, [], length, replicate, All, refl, sym, ap, subst, add-one, ◌∙◌}
use Rattle.std.proofs.lemmas.List.{length-map}
use Rattle.std.proofs.lemmas.Result.{err_from_is_err_and}
use Rattle.loops.proofs.Maps.{length-branch_map}
use Rattle.rounds.specs.Word.{branch_of}
use Rattle.poly.specs.Seen.{terms_in, terms_each}
use Rattle.poly.proofs.Standing.{stands_length}
use Rattle.ideal_ops.specs.Calls.{AreOver}
use Rattle.closures.specs.Certified.{placed}
use Rattle.closures.proofs.Listed.{stand_within}
use Rattle.closing.specs.Proving.{program_by}
use Rattle.closing.proofs.Testing.{images_over, element_over, cofactors_many, test_row, row_passed, row_past, row_out, row_going}
use Rattle.closing.proofs.proving.ProofInWork.row.Goals as goal

pub test-requires-clause-images : goal.test-requires-clause-images
test-requires-clause-images c =
    let program = program_by c.args.self.now in
    subst (λ n. AreOver n c.branch-images.result.now.items)
    (sym (element_over program c.args.self.now.closure.now c.args.self.now.elements c.requires.work
    c.args.place c.requires.place c.index-element.result.now c.index-element.ensures))
    (images_over program c.args.letter c.branch-images.result.now c.branch-images.ensures)

pub test-requires-clause-count : goal.test-requires-clause-count
test-requires-clause-count c =
    let program = program_by c.args.self.now in
    stands_length _ _ _ c.branch-images.ensures
    ∙ length-branch_map program (branch_of program c.args.letter)
    ∙ sym (element_over program c.args.self.now.closure.now c.args.self.now.elements c.requires.work
    c.args.place c.requires.place c.index-element.result.now c.index-element.ensures)

pub placed_row-requires-clause-count : goal.placed_row-requires-clause-count
placed_row-requires-clause-count c =
    ap length c.deref.ensures.value ∙ cofactors_many (program_by c.args.self.now)
    c.args.self.now.closure.now c.args.self.now.elements c.requires.work c.args.place
    c.requires.place c.index-element.result.now c.index-element.ensures c.args.letter
    c.branch-images.result.now c.branch-images.ensures (add-one c.args.place) c.args.meter.now
    c.test.new.meter c.in-Ok.division c.in-Ok.ensures.ran

pub placed_row-requires-clause-within : goal.placed_row-requires-clause-within
placed_row-requires-clause-within c =
    let f = c.requires.work in
    subst (λ n. All (λ k. k < n) c.args.self.now.elements.places.items)
    (length-map c.args.self.now.elements.list.items terms_in) (stand_within _ _ _
    (length-map c.args.self.now.closure.now terms_in ∙ sym f.count) f.stand)

pub returns-in_err-placed_row-in-Ok-clause-passes
    : goal.returns-in_err-placed_row-in-Ok-clause-passes
returns-in_err-placed_row-in-Ok-clause-passes c = λ P w a.
    let e = err_from_is_err_and c.from_residual.result c.from_residual.ensures.1 in
    let b = row_passed (program_by c.args.self.now) c.args.self.now.closure.now
    c.args.self.now.elements c.requires.work c.args.place c.requires.place
    c.index-element.result.now c.index-element.ensures c.args.letter c.branch-images.result.now
    c.branch-images.ensures (add-one c.args.place) c.args.meter.now c.test.new.meter P w a
    c.in-Ok.division c.in-Ok.ensures.ran in
    rw (e.1, e.2) (record { state = b.state; follows = b.follows })

pub returns-in_ok-placed_row-in-Ok-clause-row : goal.returns-in_ok-placed_row-in-Ok-clause-row
returns-in_ok-placed_row-in-Ok-clause-row c =
    let program = program_by c.args.self.now in
    test_row program c.args.self.now.closure.now c.args.self.now.elements c.requires.work
    c.args.place c.requires.place c.index-element.result.now c.index-element.ensures c.args.letter
    c.branch-images.result.now c.branch-images.ensures (add-one c.args.place) c.args.meter.now
    c.test.new.meter c.in-Ok.division c.in-Ok.ensures.ran _
    (c.in_ok-placed_row-in-Ok.ensures.placed (length program.names) c.args.self.now.closure.now
    c.requires.work ∙ ap (λ qs. placed c.args.self.now.elements.places.items (terms_each qs)
    (replicate (length c.args.self.now.elements.list.items) [])) c.deref.ensures.value)

pub returns-in_ok-placed_row-in-Ok-clause-passes
    : goal.returns-in_ok-placed_row-in-Ok-clause-passes
returns-in_ok-placed_row-in-Ok-clause-passes c = λ P w a.
    row_passed (program_by c.args.self.now) c.args.self.now.closure.now c.args.self.now.elements
    c.requires.work c.args.place c.requires.place c.index-element.result.now c.index-element.ensures
    c.args.letter c.branch-images.result.now c.branch-images.ensures (add-one c.args.place)
    c.args.meter.now c.test.new.meter P w a c.in-Ok.division c.in-Ok.ensures.ran

pub returns-in-Err-Wide-clause-passes : goal.returns-in-Err-Wide-clause-passes
returns-in-Err-Wide-clause-passes c = λ P w a.
    row_past (program_by c.args.self.now) c.args.self.now.closure.now c.args.self.now.elements
    c.requires.work c.args.place c.requires.place c.index-element.result.now c.index-element.ensures
    c.args.letter c.branch-images.result.now c.branch-images.ensures (add-one c.args.place)
    c.args.meter.now c.test.new.meter P w a c.args.letter refl refl c.in-Err-Wide.field-0
    c.in-Err-Wide.field-0-is c.in-Err-Wide.ensures.ran

pub returns-in-Err-Budget-clause-passes : goal.returns-in-Err-Budget-clause-passes
returns-in-Err-Budget-clause-passes c = λ P w a.
    row_out (program_by c.args.self.now) c.args.self.now.closure.now c.args.self.now.elements
    c.requires.work c.args.place c.requires.place c.index-element.result.now
    c.index-element.ensures c.args.letter c.branch-images.result.now c.branch-images.ensures
    (add-one c.args.place) c.args.meter.now c.test.new.meter P w a c.in-Err-Budget.field-0
    c.in-Err-Budget.field-0-is c.in-Err-Budget.ensures.ran

pub returns-in-Err-Memory-clause-passes : goal.returns-in-Err-Memory-clause-passes
returns-in-Err-Memory-clause-passes c = λ P w a.
    row_going (program_by c.args.self.now) c.args.self.now.closure.now c.args.self.now.elements
    c.requires.work c.args.place c.requires.place c.index-element.result.now
    c.index-element.ensures c.args.letter c.branch-images.result.now c.branch-images.ensures
    (add-one c.args.place) c.args.meter.now c.test.new.meter P w a c.in-Err-Memory.field-0
    c.in-Err-Memory.field-0-is c.in-Err-Memory.ensures.ran
