use Rattle.std.proofs.Common.{◌≡◌, ◌++◌, []}
use Rattle.std.proofs.lemmas.List.Elements.{All-nil, All-same}
use Rattle.poly.specs.Seen.{arity_of}
use Rattle.ideal_ops.proofs.Lists.{over_left, over_right}
use Rattle.ideal_ops.proofs.operations.together.Goals as goal

pub returns-clause-arity : goal.returns-clause-arity
returns-clause-arity g c =
    let m = arity_of (c.args.a.now ++ c.args.b.now) in
    let none = All-same (λ p. p.arity ≡ m) c.new-gens.result.items [] c.new-gens.ensures.items
    (All-nil (λ p. p.arity ≡ m)) in
    c.in_ok-push_copies-2.ensures.arity m (c.in_ok-push_copies.ensures.arity m none
    (over_left m c.args.a.now c.args.b.now c.requires.alike))
    (over_right m c.args.a.now c.args.b.now c.requires.alike)
