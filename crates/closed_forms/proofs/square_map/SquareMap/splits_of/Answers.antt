use Rattle.std.proofs.Common.{◌<◌, ◌+◌, [], length, sym, ap, subst, ◌∙◌, arith}
use Rattle.std.proofs.lemmas.List.{length_push}
use Rattle.algebra.proofs.In.{each_in}
use Rattle.closed_forms.specs.SquareMap.{polys_by}
use Rattle.solvable.proofs.Using.{length_each}
use Rattle.solvable_maps.specs.Classes.{IsClass, IsReachedClass}
use Rattle.closed_forms.specs.Splits.{groups_in, IsSplitAt, IfRefusedAt}
use Rattle.closed_forms.proofs.Ending.{refused_on}
use Rattle.closed_forms.proofs.Splitting.{classes_are, class_among, split_at, splits_none, splits_push, first_refused, map_of, refused_moved}
use Rattle.closed_forms.proofs.square_map.SquareMap.splits_of.Goals as goal

pub loop-first-init : goal.loop-first-init
loop-first-init c =
    let none = ap length c.new-splits.ensures.items in (
      splits_none (polys_by c.args.self.now) _ none,
      none,
    )

pub split_from-requires : goal.split_from-requires
split_from-requires c =
    classes_are (polys_by c.args.self.now) [] _ c.requires.classes

pub loop-first-preserved : goal.loop-first-preserved
loop-first-preserved c =
    let images = polys_by c.args.self.now in
    let groups = groups_in c.args.groups.now in
    let is = map_of _ c.args.self.now.square in
    let old = c.loop-first.splits.items in
    let found = c.in_ok-split_from.field-0 in
    let place = c.loop-first.invariant.1 in
    let n = length_each c.args.self.now.images.now.items in
    let low : length old < length images = omega (
      arith,
      n,
      place,
      c.args.self.now.images.now.ok.0,
      c.len-first-end.ensures,
      c.loop-first-test.true,
    ) in
    let more = c.in_ok-push.ensures.items in (
      splits_push images old found more low
          (subst (λ k. IsSplitAt images k found) (sym place)
          (split_at images groups (classes_are images [] groups c.requires.classes)
          (class_among images is groups c.requires.classes) found
          c.in_ok-split_from.ensures.split)) c.loop-first.invariant.0,
      ap length more ∙ length_push old found ∙ ap (λ k. k + 1) place,
    )

pub returns-clause-splits : goal.returns-clause-splits
returns-clause-splits c = record {
  count =
      let n = length_each c.args.self.now.images.now.items in
      let place = c.loop-first.invariant.1 in
      let few = c.loop-first.invariant.0.few in
      omega (
        arith,
        n,
        place,
        few,
        c.args.self.now.images.now.ok.0,
        c.len-first-end.ensures,
        c.loop-first-test.false,
      );
  each = c.loop-first.invariant.0.each;
}

pub returns-in_err-split_from-clause-refused : goal.returns-in_err-split_from-clause-refused
returns-in_err-split_from-clause-refused c =
    let images = polys_by c.args.self.now in
    let groups = groups_in c.args.groups.now in
    let all = classes_are images [] groups c.requires.classes in
    let e = c.in_err-split_from.field-0.0 in
    refused_on (IfRefusedAt images (IsReachedClass images)) e _ c.from_residual.ensures.1
    (refused_moved images _ _ (λ g h. first_refused images c.requires.solvable _
    c.loop-first.invariant.0.each g (each_in (IsClass images) groups g all h.0)
    (h.1 ∙ sym c.loop-first.invariant.1)) e c.in_err-split_from.ensures.refused)
