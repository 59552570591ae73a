use Rattle.std.proofs.Common.{ap₂, sym, ◌∙◌, arith}
use Rattle.program_text.proofs.PlaceLaws.{next_line, next_column}
use Rattle.program_text.proofs.places.place_of.Goals as goal
use Rattle.program_text.proofs.places.place_of.Goals.{then-text-index-eq10, else-text-index-eq10}

pub loop-index-preserved : goal.loop-index-preserved
loop-index-preserved c =
    let i = c.loop-index.index in
    let l = c.loop-index.line in
    let k = c.loop-index.column in
    let seen = c.loop-index.invariant in
    elim c.if-text-index-eq10.branch [
      | then-text-index-eq10 w ↦ record {
        place = next_line c.args.text.now i l k (grind (
          arith,
          c.loop-index-test.true,
          c.min-index-end.ensures,
        )) seen.place (w.if-text-index-eq10.true)
            ∙ sym (ap₂ (λ a b. (a, b)) w.line-is w.column-is);
        line = omega (arith, w.line-is, seen.line);
        column = omega (arith, w.column-is, seen.column);
      }
      | else-text-index-eq10 w ↦ record {
        place = next_column c.args.text.now i l k (grind (
          arith,
          c.loop-index-test.true,
          c.min-index-end.ensures,
        )) seen.place (w.if-text-index-eq10.false)
            ∙ sym (ap₂ (λ a b. (a, b)) w.line-is w.column-is);
        line = omega (arith, w.line-is, seen.line);
        column = omega (arith, w.column-is, seen.column);
      }
    ]
