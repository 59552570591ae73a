use Rattle.std.proofs.Common.{◌∷◌, length, refl, ap, subst, ◌∙◌}
use Rattle.std.proofs.lemmas.Result.{err_from_is_err_and}
use Rattle.loops.specs.Map.{branch_map}
use Rattle.loops.proofs.Maps.{arity-branch_map}
use Rattle.rounds.specs.Word.{branch_of}
use Rattle.poly.specs.Seen.{terms_in}
use Rattle.closing.specs.LoopMaps.{program_in}
use Rattle.closing.specs.Compositions.{IfComposing, iteration_operations}
use Rattle.closing.proofs.Composing.{all_over}
use Rattle.closing.proofs.loop_maps.LoopMaps.after_iteration.Goals as goal

pub composition_of-requires : goal.composition_of-requires
composition_of-requires c =
    let program = program_in c.args.self.now in
    let map = branch_map program (branch_of program c.args.letter) in
    record {
      images =
          all_over c.args.from.now.polynomial c.requires.arity _ map c.branch-images.ensures
          (arity-branch_map program (branch_of program c.args.letter));
    }

pub returns-in_err-polynomial-clause-stopped : goal.returns-in_err-polynomial-clause-stopped
returns-in_err-polynomial-clause-stopped c =
    let program = program_in c.args.self.now in
    let map = branch_map program (branch_of program c.args.letter) in
    let p = err_from_is_err_and c.from_residual-in_err-polynomial.result
    c.from_residual-in_err-polynomial.ensures.1 in
    rw (p.1, p.2)
    (subst (λ w. IfComposing (length program.names)
    (iteration_operations program c.args.letter (terms_in c.args.from.now.polynomial)) w
    c.in_err-polynomial.field-0.0)
    (c.in_ok-word.ensures.word ∙ ap (λ w. c.args.letter ∷ w) c.deref.ensures.value)
    (c.in_err-polynomial.ensures.stopped (length program.names) map c.requires.arity
    c.branch-images.ensures (arity-branch_map program (branch_of program c.args.letter))))

pub returns-clause-turned : goal.returns-clause-turned
returns-clause-turned c =
    let program = program_in c.args.self.now in
    let map = branch_map program (branch_of program c.args.letter) in
    let h = c.in_ok-polynomial.ensures.composed (length program.names) map c.requires.arity
    c.branch-images.ensures (arity-branch_map program (branch_of program c.args.letter)) in
    record {
      of = refl;
      word = c.in_ok-word.ensures.word ∙ ap (λ w. c.args.letter ∷ w) c.deref.ensures.value;
      arity = h.arity;
      terms = h.terms;
    }
