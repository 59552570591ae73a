use Rattle.std.proofs.Common.{◌<◌, map, refl, unsigned_abs, rules, SFits}
use Rattle.std.proofs.lemmas.Result.{on_ok_weaker}
use Rattle.std.proofs.lemmas.Int.{to_z-of_z}
use mir.Syntax.{w32}
use Rattle.expo.specs.Powers.{side_of}
use Rattle.closed_forms.proofs.Joining.{sides_next}
use Rattle.closed_forms.proofs.Mixing.{head_all, nothing_behind, tail_all}
use Rattle.closed_forms.proofs.powers.+push_sides.Goals as goal

pub returns-in_default : goal.returns-in_default
returns-in_default t c = nothing_behind (map (side_of c.args.below)) refl _ c.args.out.now.items
    c.in_default.ensures.cases

pub side-requires : goal.side-requires
side-requires t c =
    let fits : SFits w32 c.in-Some.exponent.now = search rules in
    simp to_z-of_z (head_all (λ z. unsigned_abs z < 128) c.in-Some.ensures.cases.0 c.requires)

pub push_sides-requires : goal.push_sides-requires
push_sides-requires t c = (
  search rules,
  tail_all (λ z. unsigned_abs z < 128) c.in-Some.ensures.cases.0 c.requires,
)

pub returns : goal.returns
returns t c =
    let fits : SFits w32 c.in-Some.exponent.now = search rules in
    let side = simp to_z-of_z at c.side.ensures in
    on_ok_weaker c.push_sides.result (λ h. sides_next c.args.below c.side.result _
    c.push_sides.new.out.items c.in-Some.ensures.cases.0 side c.in_ok-push.ensures.items h)
    c.push_sides.ensures
