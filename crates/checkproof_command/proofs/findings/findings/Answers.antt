use Rattle.std.proofs.Common.{[], ◌∷◌, ◌+◌, ◌≡◌, ◌<◌, length, get_or, map, arith, ap, ◌∙◌, subst}
use Rattle.std.proofs.lemmas.List.{map-append}
use Rattle.program_checker.specs.View.{lists_of}
use Rattle.checkproof_command.specs.Found.{IsFound}
use Rattle.checkproof_command.specs.Views.{finding_view}
use Rattle.checkproof_command.proofs.Listing.{found_more, list_here}
use Rattle.checkproof_command.proofs.findings.findings.Goals as goal

pub loop-i-preserved : goal.loop-i-preserved
loop-i-preserved c =
    found_more (lists_of c.args.cert.now) c.args.graph.now.points.items
    (map finding_view c.loop-i.found.items) _ c.loop-i.i c.point-item.result
    (finding_view c.found_at.result) (subst (λ xs. c.loop-i.i < length xs)
    c.deref-point-items.ensures.value c.loop-i-test.true)
    (subst (λ xs. c.point-item.result ≡ get_or xs c.loop-i.i c.point-item.result)
    c.deref-point-items.ensures.value c.point-item.is)
    (ap (map finding_view) c.in_ok-push.ensures.items
    ∙ map-append finding_view c.loop-i.found.items (c.found_at.result ∷ []))
    c.loop-i.invariant
    (subst (λ ps. IsFound ps c.point-item.result (finding_view c.found_at.result))
    (list_here c.args.cert.now.lists.items (c.loop-i.i + 1) c.index.result.now
    (omega (arith, c.requires.count, c.loop-i-test.true, c.deref-point-items.ensures.len))
    c.index.ensures) c.found_at.ensures)
