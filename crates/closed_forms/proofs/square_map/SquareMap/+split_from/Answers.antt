use Rattle.std.proofs.Common.{◌≡◌, ℕ, rules, inl, inr, sym, ap, ◌∙◌, subst, arith}
use Rattle.std.proofs.lemmas.List.{length-map}
use Rattle.std.proofs.lemmas.Result.{IfErr-weaker, IfOk-weaker}
use Rattle.algebra.specs.In.{In}
use Rattle.closed_forms.specs.SquareMap.{polys_by}
use Rattle.solvable_maps.specs.Classes.{first_of}
use Rattle.solvable_maps.proofs.Classwise.{class_some}
use Rattle.closed_forms.specs.Splits.{groups_in}
use Rattle.closed_forms.proofs.Splitting.{among_none, among_skip, among_here, first_read, map_of, refused_moved, later_classes, this_class}
use Rattle.closed_forms.proofs.square_map.SquareMap.+split_from.Goals as goal
use Rattle.closed_forms.proofs.square_map.SquareMap.+split_from.Goals.{After-index}

pub returns-in_default-clause-split : goal.returns-in_default-clause-split
returns-in_default-clause-split t c =
    among_none (polys_by c.args.self.now) _ c.args.first (length-map c.args.groups.now _
    ∙ c.in_default.ensures.cases)

pub index-requires : goal.index-requires
index-requires t c =
    let some = class_some _ _ (this_class _ c.in-Some.ensures.cases.0 c.requires) in
    omega (arith, some, c.in-Some.group.now.ok.0)

pub split_from-requires : goal.split_from-requires
split_from-requires t c = (
  search rules,
  later_classes _
      c.in-Some.ensures.cases.0 c.requires,
)

-- the first variable of the first class
first : (t : ℕ) (c : After-index t) → c.index.result.now ≡ first_of c.in-Some.group.now.items
first t c = first_read _ (class_some _ _ (this_class (polys_by c.args.self.now)
    c.in-Some.ensures.cases.0 c.requires)) c.index.ensures

pub returns-then-index-first-clause-split : goal.returns-then-index-first-clause-split
returns-then-index-first-clause-split t c =
    let is = first t (goal.at.returns-then-index-first-clause-split t c).After-index in
    IfOk-weaker c.split_from.result _ _ (λ found h. among_skip (polys_by c.args.self.now)
    (map_of _ c.args.self.now.square) c.in-Some.group.now.items c.args.first found
    (ap groups_in c.in-Some.ensures.cases.0) (λ e. c.if-index-first.true (is ∙ e)) h)
    c.split_from.ensures.split

pub returns-then-index-first-clause-refused : goal.returns-then-index-first-clause-refused
returns-then-index-first-clause-refused t c =
    let images = polys_by c.args.self.now in
    IfErr-weaker _ _ _ (refused_moved images _ _ (λ g h. (
      subst (In g) (sym (ap groups_in c.in-Some.ensures.cases.0))
          (inr h.0),
      h.1,
    ))) c.split_from.ensures.refused

pub split_of-requires : goal.split_of-requires
split_of-requires t c = this_class _ c.in-Some.ensures.cases.0
    c.requires

pub returns-in-Ok-clause-split : goal.returns-in-Ok-clause-split
returns-in-Ok-clause-split t c =
    let is = first t (goal.at.returns-in-Ok-clause-split t c).After-index in
    among_here (polys_by c.args.self.now) (map_of _ c.args.self.now.square)
    c.in-Some.group.now.items c.args.first c.in-Ok.found (ap groups_in c.in-Some.ensures.cases.0)
    c.requires (sym is ∙ c.if-index-first.false) c.in-Ok.ensures.split

pub returns-in-Err-clause-refused : goal.returns-in-Err-clause-refused
returns-in-Err-clause-refused t c =
    let is = first t (goal.at.returns-in-Err-clause-refused t c).After-index in
    refused_moved (polys_by c.args.self.now) _ _ (λ h e. (
      subst (In h) (sym (ap groups_in c.in-Some.ensures.cases.0)) (inl e),
      ap first_of e ∙ sym is ∙ c.if-index-first.false,
    )) _ c.in-Err.ensures.refused
