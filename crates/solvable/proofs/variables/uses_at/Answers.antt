use Rattle.std.proofs.Common.{◌<◌, length, subst, sym, ap, ◌∙◌}
use Rattle.solvable_maps.specs.Uses.{any}
use Rattle.solvable.specs.Terms.{has_above}
use Rattle.solvable.proofs.Using.{poly_at-is, arity_at}
use Rattle.solvable.proofs.variables.uses_at.Goals as goal

pub has_term-requires : goal.has_term-requires
has_term-requires c =
    subst (λ n. c.args.other < n)
    (sym (arity_at c.args.images.now.items (length c.args.images.now.items) c.args.one
    c.index.result.now c.requires.one c.index.ensures c.requires.square)) c.requires.other

pub returns : goal.returns
returns c = c.has_term.ensures ∙ ap (any (has_above c.args.below c.args.other))
    (sym (poly_at-is c.args.images.now.items c.args.one c.index.result.now c.requires.one
    c.index.ensures))
