use Rattle.std.proofs.Common.{length}
use Rattle.solvable_maps.specs.Uses.{uses, strongly}
use Rattle.poly.specs.Seen.{terms_each}
use Rattle.solvable.proofs.Using.{is_map, linear_tables, answer_is, classes_are, some_answer, no_answer}
use Rattle.solvable.proofs.classes.Goals as goal

pub least_cycle-requires-clause-linear : goal.least_cycle-requires-clause-linear
least_cycle-requires-clause-linear c =
    linear_tables (length c.args.images.now.items) (terms_each c.args.images.now.items)
    (is_map c.args.images.now.items c.requires) c.in_ok-used.used.items
    c.in_ok-strong.strong.items c.in_ok-used.ensures c.in_ok-strong.ensures

pub returns-in-Some-clause-refused : goal.returns-in-Some-clause-refused
returns-in-Some-clause-refused c =
    let I = terms_each c.args.images.now.items in
    some_answer (uses I) (strongly I) c.in_ok-cycle.field-0 c.in-Some.cycle c.in-Some.is
    (answer_is c.args.images.now.items c.requires c.in_ok-used.used.items
    c.in_ok-strong.strong.items c.in_ok-cycle.field-0 (
      c.in_ok-used.ensures,
      c.in_ok-strong.ensures,
    ) c.in_ok-cycle.ensures)

pub returns-in_ok-classes_of_uses-in-None-clause-classes :
    goal.returns-in_ok-classes_of_uses-in-None-clause-classes
returns-in_ok-classes_of_uses-in-None-clause-classes c =
    classes_are c.args.images.now.items c.requires c.in_ok-used.used.items
    c.in_ok-strong.strong.items _ (c.in_ok-used.ensures, c.in_ok-strong.ensures)
    c.in_ok-classes_of_uses-in-None.ensures

pub returns-in_ok-classes_of_uses-in-None-clause-solvable :
    goal.returns-in_ok-classes_of_uses-in-None-clause-solvable
returns-in_ok-classes_of_uses-in-None-clause-solvable c = λ e.
    let I = terms_each c.args.images.now.items in
    no_answer (uses I) (strongly I) c.in_ok-cycle.field-0 c.in-None.is
    (answer_is c.args.images.now.items c.requires c.in_ok-used.used.items
    c.in_ok-strong.strong.items c.in_ok-cycle.field-0 (
      c.in_ok-used.ensures,
      c.in_ok-strong.ensures,
    ) c.in_ok-cycle.ensures)
