use Rattle.std.proofs.Common.{ℕ, ◌∷◌, Err, ap, arith, rules}
use Rattle.closed_forms.specs.MapInWork.{AreFormsBut}
use Rattle.closed_forms.specs.Splits.{groups_in}
use Rattle.closed_forms.proofs.InWork.{comes_next, next_class, next_some, next_inside, first_low, at_first, split_here, values_here, ready_here, forms_next, wide_first}
use Rattle.closed_forms.proofs.map_in_work.MapInWork.+fill.Goals as goal
use Rattle.closed_forms.proofs.map_in_work.MapInWork.+fill.Goals.{After-as_slice-class}

-- the class that comes next
here : (t : ℕ) (c : After-as_slice-class t) → AreFormsBut c.args.self.now
    (c.as_slice-class.result.now ∷ groups_in c.in-Some.classes.now) c.args.polys.now.items
here t c = comes_next c.in-Some.ensures.cases.0 c.as_slice-class.ensures.value c.requires.forms

pub bounds-class-0 : goal.bounds-class-0
bounds-class-0 t c = next_some c.requires.work
    (here t (goal.at.bounds-class-0 t c).After-as_slice-class)

pub index-requires : goal.index-requires
index-requires t c =
    let l = first_low c.requires.work (here t (goal.at.index-requires t c).After-as_slice-class) in
    omega (arith, l, c.args.self.now.splits.ok.0)

pub unreachable-requires : goal.unreachable-requires
unreachable-requires t c =
    let s = at_first c.requires.work
    (here t (goal.at.unreachable-requires t c).After-as_slice-class) c.index.ensures in
    c.in_default-index.not-Some s.0 s.1

pub closed_class-requires-clause-class : goal.closed_class-requires-clause-class
closed_class-requires-clause-class t c =
    let h = here t (goal.at.closed_class-requires-clause-class t c).After-as_slice-class in
    record {
      work = c.requires.work;
      class = next_class c.requires.work h;
      split = split_here c.requires.work h c.index.ensures c.in-Some-index.is;
      made = values_here c.requires.work h c.index.ensures c.in-Some-index.is;
    }

pub closed_class-requires-clause-ready : goal.closed_class-requires-clause-ready
closed_class-requires-clause-ready t c = record {
  over = c.requires.forms.over;
  ready = ready_here c.requires.work
      (here t (goal.at.closed_class-requires-clause-ready t c).After-as_slice-class)
      c.index.ensures c.in-Some-index.is;
}

pub put-requires-clause-inside : goal.put-requires-clause-inside
put-requires-clause-inside t c = next_inside c.requires.work
    (here t (goal.at.put-requires-clause-inside t c).After-as_slice-class)

pub fill-requires : goal.fill-requires
fill-requires t c = (
  search rules,
  (
    c.requires.work,
    forms_next c.requires.work (here t (goal.at.fill-requires t c).After-as_slice-class)
        c.index.ensures c.in-Some-index.is c.in-Ok.ensures.count c.in-Ok.ensures.over
        c.put.ensures c.in-Ok.ensures.variables,
  ),
)

pub returns-in-Err-Wide-clause-refused : goal.returns-in-Err-Wide-clause-refused
returns-in-Err-Wide-clause-refused t c =
    wide_first c.requires.work
    (here t (goal.at.returns-in-Err-Wide-clause-refused t c).After-as_slice-class) c.index.ensures
    c.in-Some-index.is (c.in-Err-Wide.ensures.wide (ap Err c.in-Err-Wide.field-0-is))
