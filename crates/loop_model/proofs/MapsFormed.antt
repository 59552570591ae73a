-- Where the maps of a program stop, and those of the first branches.
--   FormedTo program i       the operations of the first i branches pass no limit
--   formed_none, formed_more, formed_all, stops_here     one branch after another
--   free_all                 those of the start's map before them
use Rattle.std.proofs.Common.{◌≡◌, ℕ, suc, ◌<◌, ◌≤◌, ◌+◌, List, [], ◌∷◌, ◌++◌, length, get_or, take, drop, sym, ap, subst, ◌∙◌, add-one}
use Rattle.std.specs.List.{flat_map}
use Rattle.std.proofs.lemmas.List.{take_all, append-nil, take-append-drop, drop_more}
use Rattle.std.proofs.Math.Seq.{take-suc}
use Rattle.std.proofs.lemmas.Grind.{flat_map-append}
use Rattle.std.proofs.lemmas.List.Elements.{All-nil, All-append}
use Rattle.loops.specs.Program.{Expr, Statement, Program}
use Rattle.loop_model.specs.Operations.{Operation, IsFree, PassesLimit}
use Rattle.loop_model.specs.Stops.{Stops}
use Rattle.loop_model.specs.declared.map_error.MapError.{MapError}
use Rattle.loop_model.proofs.OperationLaws.{stops_front, stops_behind}
use Rattle.loop_model.specs.Maps.{start_operations, branch_operations, branches_operations, AreFree}

module _ (program : Program (Expr ℕ)) where
  abbrev m : ℕ
  m = length program.names

  abbrev of_branches : List (List (Statement (Expr ℕ))) → List Operation
  of_branches = flat_map (branch_operations program)

  unfoldable pub FormedTo : ℕ → Type 0
  FormedTo i = IsFree m (of_branches (take i program.branches))

  pub formed_none : FormedTo 0
  unfolding FormedTo
  formed_none = All-nil (λ o. ¬ (PassesLimit m o))

  pub formed_all : (i : ℕ) → length program.branches ≤ i → FormedTo i
      → IsFree (length program.names) (branches_operations program)
  unfolding FormedTo
  formed_all i past h = subst (λ bs. IsFree m (of_branches bs)) (take_all i program.branches past) h

  module _ (i : ℕ) (inside : i < length program.branches) (h : FormedTo i) where
    abbrev here : List (Statement (Expr ℕ))
    here = get_or program.branches i []

    one_more : of_branches (take (suc i) program.branches) ≡ of_branches (take i program.branches)
        ++ branch_operations program here
    one_more = ap of_branches (take-suc program.branches i [] inside)
        ∙ flat_map-append (branch_operations program) (take i program.branches) (here ∷ [])
        ∙ ap (λ os. of_branches (take i program.branches) ++ os)
        (append-nil (branch_operations program here))

    pub formed_more : IsFree (length program.names)
        (branch_operations program (get_or program.branches i [])) → FormedTo (i + 1)
    unfolding FormedTo
    formed_more free = subst (λ n. IsFree m (of_branches (take n program.branches)))
        (sym (add-one i))
        (subst (IsFree m) (sym one_more) (All-append (λ o. ¬ (PassesLimit m o)) _ _ h free))

    order : branches_operations program ≡ of_branches (take i program.branches)
        ++ (branch_operations program here ++ of_branches (drop (i + 1) program.branches))
    order = ap of_branches (sym (take-append-drop i program.branches))
        ∙ flat_map-append (branch_operations program) (take i program.branches)
        (drop i program.branches)
        ∙ ap (λ bs. of_branches (take i program.branches) ++ of_branches bs)
        (drop_more program.branches i [] inside)

    pub stops_here : (e : MapError)
        → Stops (length program.names) (branch_operations program (get_or program.branches i [])) e
        → Stops (length program.names) (branches_operations program) e
    unfolding FormedTo
    stops_here e f = subst (λ os. Stops m os e) (sym order)
        (stops_behind m _ _ e h (stops_front m _ _ e f))

  pub free_all : IsFree (length program.names) (start_operations program)
      → IsFree (length program.names) (branches_operations program) → AreFree program
  free_all start branches = All-append (λ o. ¬ (PassesLimit m o)) _ _ start branches
