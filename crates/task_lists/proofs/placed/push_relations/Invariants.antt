use Rattle.std.proofs.Common.{◌≡◌, ◌+◌, ◌++◌, map, take}
use Rattle.algebra.specs.Fraction.{rationals}
use Rattle.polynomials.specs.Order.{grevlex, blocks}
use Rattle.machines.specs.Collect.{collect}
use Rattle.poly.specs.Seen.{terms_each}
use Rattle.rounds.specs.Form.{front, relations}
use Rattle.task_lists.specs.Placed.{HaveBlock}
use Rattle.task_lists.proofs.placed.push_relations.Given as goal

abbrev pub invariant-loop-place : goal.invariant-loop-place
invariant-loop-place l = record {
  list : terms_each l.gens.items ≡ terms_each l.fn.gens.items
      ++ map (collect rationals (blocks (front l.numbers + l.copies) grevlex grevlex))
      (take l.place (relations l.numbers (l.copies + l.variables)));
  block : HaveBlock (front l.numbers + l.copies) (front l.numbers + l.copies + l.variables)
      l.fn.gens.items → HaveBlock (front l.numbers + l.copies)
      (front l.numbers + l.copies + l.variables) l.gens.items;
}
