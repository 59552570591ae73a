use Rattle.std.proofs.Common.{◌≤◌, sym, subst}
use Rattle.std.specs.List.{All}
use Rattle.poly.proofs.GridRows.{grid_for_factors}
use Rattle.poly.proofs.grid.grid_for.Goals as goal

pub returns-then-places-products-clause-fits : goal.returns-then-places-products-clause-fits
returns-then-places-products-clause-fits g c =
    grid_for_factors g.K.Ring.scalars g.K.Ring.meaning c.args.arity c.args.left.now c.args.right.now
    c.from.result c.from-2.result c.requires.left c.requires.right
    (subst (λ n. All (λ t. All (λ e. e ≤ n) t.mono) c.args.left.now) (sym c.from.ensures)
    c.greatest.ensures)
    (subst (λ n. All (λ t. All (λ e. e ≤ n) t.mono) c.args.right.now) (sym c.from-2.ensures)
    c.greatest-2.ensures)
    c.if-base-gt65536.false (subst (λ n. n ≤ 1048576) c.in_ok-places.ensures.power
    c.in_ok-places.ensures.small)
