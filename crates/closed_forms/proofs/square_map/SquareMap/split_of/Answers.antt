use Rattle.std.proofs.Common.{◌≡◌, ◌<◌, ℕ, List, All, length, ap, ◌∙◌, subst, sym, arith, refl}
use Rattle.closed_forms.specs.SquareMap.{polys_by}
use Rattle.solvable_maps.specs.Classes.{class_matrix}
use Rattle.solvable_maps.proofs.Classwise.{class_few, class_some}
use Rattle.closed_forms.specs.Splits.{IfRefusedMatrix}
use Rattle.solvable.proofs.Using.{length_each}
use Rattle.closed_forms.proofs.Splitting.{class_inside, matrix_count, matrix_square, matrix_refused, refused_moved, split_is}
use Rattle.closed_forms.proofs.square_map.SquareMap.split_of.Goals as goal

pub class_matrix-requires : goal.class_matrix-requires
class_matrix-requires c =
    subst (λ (g : List ℕ). All (λ i. i < length c.args.self.now.images.now.items) g)
    (sym c.as_slice.ensures.value) (class_inside _ c.requires)

pub split-requires-clause-some : goal.split-requires-clause-some
split-requires-clause-some c =
    let images = polys_by c.args.self.now in
    let g = c.args.group.now.items in
    let n = matrix_count images g _ (c.in_ok-matrix.ensures
    ∙ ap (class_matrix (polys_by c.args.self.now)) c.as_slice.ensures.value) in
    let some = class_some images g c.requires in
    omega (arith, n, some)

pub split-requires-clause-size : goal.split-requires-clause-size
split-requires-clause-size c =
    let images = polys_by c.args.self.now in
    let g = c.args.group.now.items in
    let n = matrix_count images g _ (c.in_ok-matrix.ensures
    ∙ ap (class_matrix (polys_by c.args.self.now)) c.as_slice.ensures.value) in
    let few = class_few images g c.requires in
    let m = length_each c.args.self.now.images.now.items in
    let low = c.args.self.now.few in
    omega (arith, n, few, m, low)

pub split-requires-clause-square : goal.split-requires-clause-square
split-requires-clause-square c = matrix_square _ _ _ (c.in_ok-matrix.ensures
    ∙ ap (class_matrix (polys_by c.args.self.now)) c.as_slice.ensures.value)

pub returns-in-Ok-clause-split : goal.returns-in-Ok-clause-split
returns-in-Ok-clause-split c =
    split_is _ _ _ (c.in_ok-matrix.ensures ∙ ap (class_matrix (polys_by c.args.self.now))
    c.as_slice.ensures.value) c.in-Ok.found c.in-Ok.ensures.forms c.in-Ok.ensures.found
    (c.in-Ok.ensures.splits refl) (c.in-Ok.ensures.within refl)

pub returns-clause-refused : goal.returns-clause-refused
returns-clause-refused c =
    let images = polys_by c.args.self.now in
    let g = c.args.group.now.items in
    let same : c.in_ok-class-in-Err.class.items ≡ g =
    c.in_ok-class-in-Err.ensures.items_if_clones_equal (λ x y e. e)
    ∙ c.as_slice-in-Err.ensures.value in
    refused_moved images _ _ (λ h e. e ∙ same) _ (c.class_refusal.ensures images (subst (λ x.
    IfRefusedMatrix images x c.in-Err.error) (sym same) (matrix_refused images g _
    (c.in_ok-matrix.ensures ∙ ap (class_matrix (polys_by c.args.self.now))
    c.as_slice.ensures.value) c.in-Err.error c.in-Err.ensures.refused)))
