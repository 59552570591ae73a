use Rattle.std.proofs.Common.{◌∷◌, length, ap, ◌∙◌}
use Rattle.loops.specs.Map.{branch_map}
use Rattle.rounds.specs.Word.{branch_of}
use Rattle.poly.proofs.Standing.{arity_over}
use Rattle.counter_run.specs.Search.{loop_of, sought}
use Rattle.counter_run.proofs.ComposedWords.{images_over, letter_composed, letter_limit, letter_wide}
use Rattle.counter_run.proofs.search.Search.with_first_letter.Goals as goal

pub compose-requires-clause-images : goal.compose-requires-clause-images
compose-requires-clause-images c =
    let s = c.args.self.now in
    images_over (loop_of s) (sought s)
    (arity_over (length (loop_of s).names) s.polynomial.now c.requires.search.arity)
    c.args.suffix.now c.requires.suffix c.args.images.now.items
    (branch_map (loop_of s) (branch_of (loop_of s) c.args.letter)) c.requires.images

pub returns-in-Ok-clause-composes : goal.returns-in-Ok-clause-composes
returns-in-Ok-clause-composes c =
    let s = c.args.self.now in
    letter_composed (loop_of s) (sought s)
    (arity_over (length (loop_of s).names) s.polynomial.now c.requires.search.arity)
    c.args.suffix.now c.requires.suffix c.args.letter c.requires.letter
    c.args.images.now.items c.requires.images
    (record {
      word = c.in_ok-word.word;
      polynomial = c.in-Ok.composition.polynomial;
      cost = c.in-Ok.composition.cost;
    })
    (c.in_ok-word.ensures.word ∙ ap (λ w. c.args.letter ∷ w) c.deref.ensures.value)
    c.in-Ok.ensures.composition

pub returns-in-Err-Limit-clause-stopped : goal.returns-in-Err-Limit-clause-stopped
returns-in-Err-Limit-clause-stopped c =
    let s = c.args.self.now in (
      c.in_ok-word.ensures.word ∙ ap (λ w. c.args.letter ∷ w) c.deref.ensures.value,
      letter_limit (loop_of s) (sought s)
          (arity_over (length (loop_of s).names) s.polynomial.now c.requires.search.arity)
          c.args.suffix.now c.requires.suffix c.args.letter c.requires.letter
          c.args.images.now.items c.requires.images
          c.compose.result c.in-Err-Limit.field-0 c.in-Err-Limit.field-0-0 c.in-Err-Limit.is
          c.in-Err-Limit.field-0-is c.compose.ensures.composition,
    )

pub returns-in-Err-Wide-clause-stopped : goal.returns-in-Err-Wide-clause-stopped
returns-in-Err-Wide-clause-stopped c =
    let s = c.args.self.now in (
      c.in_ok-word.ensures.word ∙ ap (λ w. c.args.letter ∷ w) c.deref.ensures.value,
      letter_wide (loop_of s) (sought s)
          (arity_over (length (loop_of s).names) s.polynomial.now c.requires.search.arity)
          c.args.suffix.now c.requires.suffix c.args.letter c.requires.letter
          c.args.images.now.items c.requires.images
          c.compose.result c.in-Err-Wide.field-0 c.in-Err-Wide.field-0-0 c.in-Err-Wide.is
          c.in-Err-Wide.field-0-is c.compose.ensures.composition,
    )
