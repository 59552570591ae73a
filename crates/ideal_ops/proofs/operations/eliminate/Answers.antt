use Rattle.std.proofs.Common.{◌≡◌, List, [], ◌∷◌, slice_get, Some, refl, sym, ap, subst, ◌∙◌}
use Rattle.monos.specs.declared.order.Blocks.{Blocks}
use Rattle.machines.specs.Machine.{Ran}
use Rattle.divide.specs.Outcomes.{outcome_of}
use Rattle.ideal_ops.specs.Calls.{elimination_way, elimination_of, IsListOf, first_block}
use Rattle.ideal_ops.proofs.operations.eliminate.Goals as goal

-- what is told of a list by its first
by_first : {X Y : Type 0} (of : List X → Y) (of_first : X → Y)
    → ((x : X) (xs : List X) → of (x ∷ xs) ≡ of_first x) → (xs : List X) (x : X)
    → Some x ≡ slice_get xs 0 → of xs ≡ of_first x
by_first of of_first each [] x e = absurd (let z : ⊥ = cc in z)
by_first of of_first each (y ∷ xs) x e = each y xs ∙ ap of_first (let q : y ≡ x = cc in q)

pub returns-clause-ran : goal.returns-clause-ran
returns-clause-ran g c =
    let gens = c.args.gens.now in
    let first = ap (λ (o : Blocks). o.first) c.order-first.ensures
    ∙ sym (by_first first_block (λ p. p.order.first) (λ p ps. refl) gens c.in-Some.leader.now
    c.in-Some.ensures.value) in
    subst (λ n. Ran (elimination_of (elimination_way n gens)) (IsListOf (elimination_way n gens))
    c.args.meter.now c.eliminate_block.new.meter (outcome_of c.eliminate_block.result)) first
    c.eliminate_block.ensures.ran
