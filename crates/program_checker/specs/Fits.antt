-- Which certificates of a graph the checker takes.
--   IsRow m n row            positions ascend below n, and there are as many cofactors, over m variables
--   AreRows m n k rows       k such rows
--   IsStepFor, AreStepsFor g lists ..     such rows for a transition, and for all, by the lists of the nodes
--   Fits g c                 lists over the variables for the nodes, none for node 0, and for each transition such rows
use Rattle.std.specs.Prelude.{◌≡◌, ℕ, ◌+◌, ◌<◌, [], map, length, get_or, All, Vec}
use Rattle.std.specs.declared.alloc.Global.{Global}
use Rattle.cert_form.specs.Cert.{Polys, HaveArity, polys_in}
use Rattle.program_checker.specs.Rows.{Ascend}
use Rattle.program_checker.specs.View.{lists_of}
use Rattle.program_model.specs.declared.graph.Transition.{Transition}
use Rattle.program_model.specs.declared.graph.Graph.{Graph}
use Rattle.program_checker.specs.declared.cert.Row.{Row}
use Rattle.program_checker.specs.declared.cert.ProgramCert.{ProgramCert}

pub record IsRow (m n : ℕ) (row : Row) : Type 0 where
  pub count : length row.positions.items ≡ length row.cofactors.items
  pub ascend : Ascend n row.positions.items
  pub arity : HaveArity m row.cofactors

pub record AreRows (m n k : ℕ) (rows : Vec Row Global) : Type 0 where
  pub count : length rows.items ≡ k
  pub each : All (IsRow m n) rows.items

-- the rows of the transition j, by the lists of the nodes
abbrev pub IsStepFor : Graph → Vec Polys Global → ℕ → Vec Row Global → Type 0
IsStepFor g lists j rows =
    (t : Transition) → t ≡ get_or g.transitions.items j t
    → AreRows (t.unknowns + g.variables)
    (length (get_or (map polys_in lists.items) t.from []) + length t.zeros.items)
    (length (get_or (map polys_in lists.items) t.to [])) rows

pub record AreStepsFor (g : Graph) (lists : Vec Polys Global) (steps : Vec (Vec Row Global)
    Global) : Type 0 where
  pub count : length steps.items ≡ length g.transitions.items
  pub each : (j : ℕ) (rows : Vec Row Global) → j < length g.transitions.items
      → rows ≡ get_or steps.items j rows → IsStepFor g lists j rows

pub record Fits (g : Graph) (c : ProgramCert) : Type 0 where
  pub nodes : length c.lists.items ≡ g.nodes
  pub start : get_or (lists_of c) 0 [] ≡ []
  pub lists : All (HaveArity g.variables) c.lists.items
  pub steps : AreStepsFor g c.lists c.steps
