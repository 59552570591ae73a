use Rattle.std.proofs.Common.{◌≡◌, ◌+◌, map, take}
use Rattle.poly.specs.Seen.{terms_each}
use Rattle.rounds.specs.Form.{front, pulled_back_by}
use Rattle.task_lists.specs.Placed.{HaveBlock}
use Rattle.task_lists.specs.Starting.{numbers_of}
use Rattle.task_lists.proofs.orbit.orbit_list.Given as goal

abbrev pub invariant-loop-element : goal.invariant-loop-element
invariant-loop-element l =
    let r = numbers_of l.base in
    record {
      list : terms_each l.gens.items ≡ map (pulled_back_by r l.variables (terms_each l.back.items))
          (terms_each (take l.element-index l.list));
      block : HaveBlock (front r) (front r + l.variables) l.gens.items;
    }
