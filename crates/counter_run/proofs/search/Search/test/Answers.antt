use Rattle.std.proofs.lemmas.List.Elements.{same_from_all_zip}
use Rattle.std.proofs.Common.{length}
use Rattle.loops.specs.Map.{start_map}
use Rattle.poly.proofs.Standing.{arity_over}
use Rattle.counter_run.specs.Search.{loop_of, sought}
use Rattle.counter_run.proofs.ComposedWords.{images_over, image_limit, image_wide}
use Rattle.counter_run.proofs.search.Search.test.Goals as goal

pub compose-requires-clause-images : goal.compose-requires-clause-images
compose-requires-clause-images c =
    let s = c.args.self.now in
    images_over (loop_of s) (sought s)
    (arity_over (length (loop_of s).names) s.polynomial.now c.requires.search.arity)
    c.args.word.now c.requires.word s.maps.now.start.items
    (start_map (loop_of s)) c.requires.search.maps.start

pub returns-in_ok-clone-in-Err-Limit-clause-stopped
    : goal.returns-in_ok-clone-in-Err-Limit-clause-stopped
returns-in_ok-clone-in-Err-Limit-clause-stopped c =
    let s = c.args.self.now in (
      same_from_all_zip _ _ _ c.in_ok-clone-in-Err-Limit.ensures.cases.0 (λ x y h. h),
      image_limit (loop_of s) (sought s)
          (arity_over (length (loop_of s).names) s.polynomial.now c.requires.search.arity)
          c.args.word.now c.requires.word s.maps.now.start.items c.requires.search.maps.start
          c.compose.result c.in-Err-Limit.field-0 c.in-Err-Limit.field-0-0 c.in-Err-Limit.is
          c.in-Err-Limit.field-0-is c.compose.ensures.composition,
    )

pub returns-in_ok-clone-in-Err-Wide-clause-stopped
    : goal.returns-in_ok-clone-in-Err-Wide-clause-stopped
returns-in_ok-clone-in-Err-Wide-clause-stopped c =
    let s = c.args.self.now in (
      same_from_all_zip _ _ _ c.in_ok-clone-in-Err-Wide.ensures.cases.0 (λ x y h. h),
      image_wide (loop_of s) (sought s)
          (arity_over (length (loop_of s).names) s.polynomial.now c.requires.search.arity)
          c.args.word.now c.requires.word s.maps.now.start.items c.requires.search.maps.start
          c.compose.result c.in-Err-Wide.field-0 c.in-Err-Wide.field-0-0 c.in-Err-Wide.is
          c.in-Err-Wide.field-0-is c.compose.ensures.composition,
    )
