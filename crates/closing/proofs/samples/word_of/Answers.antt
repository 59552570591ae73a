use Rattle.std.proofs.Common.{length, map, take, refl, sym, ap, subst, ◌∙◌, arith, All}
use Rattle.std.proofs.lemmas.List.{length-map}
use Rattle.rounds.specs.Word.{IsLetter}
use Rattle.loop_model.specs.Parts.{statement_of}
use Rattle.loop_model.specs.View.{program_of}
use Rattle.closing.proofs.Letters.{are_letters}
use Rattle.closing.proofs.samples.word_of.Goals as goal

pub returns-clause-letters : goal.returns-clause-letters
returns-clause-letters c =
    let program = program_of c.args.lp.now in
    let count =
    sym (length-map c.branches.result.now (λ b. map statement_of b.items))
    ∙ ap length c.branches.ensures.branches in
    subst (All (IsLetter program)) (sym c.loop-number.invariant) (are_letters program
    (take c.loop-number.number-index c.args.numbers.now) refl
    (omega (arith, count, c.branches.ensures.some)))
