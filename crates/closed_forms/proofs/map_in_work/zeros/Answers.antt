use Rattle.std.proofs.Common.{◌+◌, length, ap, ◌∙◌}
use Rattle.std.proofs.lemmas.List.Elements.{All-push, All-same}
use Rattle.std.proofs.lemmas.List.{length_push}
use Rattle.coprime_base.specs.Sizes.{sizes}
use Rattle.closed_forms.specs.Values.{IsExpoOver}
use Rattle.closed_forms.proofs.map_in_work.zeros.Goals as goal

pub loop-preserved : goal.loop-preserved
loop-preserved c =
    let bs = sizes c.args.base.now.items in
    let m = c.args.count in
    let n = length_push c.loop.polys.items c.in_ok-zero.field-0 in (
      ap length c.in_ok-push.ensures.items ∙ n ∙ ap (λ k. k + 1) c.loop.invariant.0,
      All-same (IsExpoOver bs m) _ _ c.in_ok-push.ensures.items
          (All-push (IsExpoOver bs m) _ _ c.loop.invariant.1 (record {
            over_base = c.in_ok-zero.ensures.base;
            over_vars = c.in_ok-zero.ensures.vars;
          })),
    )
