use Rattle.std.proofs.Common.{◌≡◌, ◌++◌, take, drop, length, refl, ap, ◌∙◌, arith}
use Rattle.exponentials.specs.Keys.{excess}
use Rattle.solvable_maps.specs.NormalExponents.{normal_exponents}
use Rattle.expo.proofs.Outcomes.{ok_weaker}
use Rattle.expo.proofs.Stepping.{normal_parts, normal_long}
use Rattle.expo.proofs.exponents.normal_monomial.Goals as goal
use Rattle.expo.proofs.exponents.normal_monomial.Goals.{In_ok-extend_from_slice}

made : (c : In_ok-extend_from_slice) → c.extend_from_slice.new.self.items ≡ normal_exponents
    c.args.count c.args.mono.now
made c =
    let up = c.split_at-2.result.0.now in
    let down = c.split_at-3.result.0.now in
    let vars = c.split_at-3.result.1.now in
    normal_parts c.args.count c.args.mono.now _ _ up _ down vars _ _ _ (omega (arith, c.requires))
    (c.split_at.ensures.front ∙ ap (take 2) (c.as_slice.ensures
    ∙ c.exponents-list.ensures.exponents)) (c.split_at.ensures.back
    ∙ ap (drop 2) (c.as_slice.ensures ∙ c.exponents-list.ensures.exponents))
    c.split_at-2.ensures.front c.split_at-2.ensures.back c.split_at-3.ensures.front
    c.split_at-3.ensures.back refl refl
    (c.in_ok-extend_from_slice.ensures.items ∙ ap (λ l. l ++ vars) (c.in_ok-push_left-2.ensures
    ∙ ap (λ l. l ++ excess down up) (c.in_ok-push_left.ensures
    ∙ ap (λ l. l ++ excess up down) c.in_ok-exponents.ensures.items)))

pub new-requires : goal.new-requires
new-requires c =
    let long = normal_long c.args.count c.args.mono.now _ c.requires
    (made (goal.at.new-requires c).In_ok-extend_from_slice) in
    let own = ap length (c.as_slice.ensures ∙ c.exponents-list.ensures.exponents) in
    omega (arith, long, own, c.exponents-list.ensures.bound)

pub returns : goal.returns
returns c = record {
  ok = ok_weaker _ _
      (λ mono e. e ∙ made (goal.at.returns c).In_ok-extend_from_slice) c.new.result
      c.new.ensures.ok;
}
