-- The transition whose rows are read, and the lists of the nodes that it joins.
--   same_transition       it is the one that stands at its number
--   step_fits             rows as many and as wide as it asks for fit it
--   step_reads            what the definition reads is what the code reads;  steps_counted: of all transitions
use Rattle.std.proofs.Common.{◌≡◌, ℕ, ◌+◌, ◌<◌, List, [], ◌++◌, length, get_or, map, sym, ap, ap₂, subst, ◌∙◌, Vec, Global}
use Rattle.std.specs.Prelude.{vec_len, codes, option_and_then}
use Rattle.std.specs.Option.{ok_or}
use Rattle.std.proofs.lemmas.List.{get_or-map, get_or_default, length-map}
use Rattle.serde_json.specs.Data.{Data}
use Rattle.poly.specs.Seen.{terms_in}
use Rattle.flows.specs.Certificate.{no_transition, transition_at}
use Rattle.cert_form.specs.Cert.{Polys, polys_in}
use Rattle.serde_json.specs.Find.{get}
use Rattle.cert_form.specs.Form.{Reading, on, shape, parts, list_with}
use Rattle.program_model.specs.GraphView.{transition_of, graph_of}
use Rattle.program_model.specs.Names.{unknown_names}
use Rattle.program_model.specs.declared.graph.Graph.{Graph}
use Rattle.program_model.specs.declared.graph.Transition.{Transition}
use Rattle.program_checker.specs.Fits.{AreRows, IsStepFor}
use Rattle.program_checker.specs.Form.{RawRow, each_by, row_at, step_at, steps_from}
use Rattle.program_checker.specs.declared.cert.Row.{Row}

module _ (g : Graph) (lists : Vec Polys Global) (j : ℕ) (l : j < length g.transitions.items)
    (t : Transition) (is : t ≡ get_or g.transitions.items j t) (from to : Polys)
    (from_is : from ≡ get_or lists.items t.from from) (from_in : t.from < length lists.items)
    (to_is : to ≡ get_or lists.items t.to to) (to_in : t.to < length lists.items) where
  same_transition : (u : Transition) → u ≡ get_or g.transitions.items j u → t ≡ u
  same_transition u u_is = is ∙ get_or_default g.transitions.items j t u l ∙ sym u_is

  length_of : (v : ℕ) (ps : Polys) → v < length lists.items → ps ≡ get_or lists.items v ps
      → length (get_or (map polys_in lists.items) v []) ≡ length ps.items
  length_of v ps v_in at =
      ap length (get_or-map polys_in lists.items v ps [] v_in ∙ ap polys_in (sym at))
      ∙ length-map ps.items terms_in

  count_of : (v : ℕ) (ps : Polys) → v < length lists.items → ps ≡ get_or lists.items v ps
      → get_or (map vec_len lists.items) v 0 ≡ vec_len ps
  count_of v ps v_in at =
      get_or-map vec_len lists.items v ps 0 v_in ∙ ap vec_len (sym at)

  pub step_fits : (m k e : ℕ) → m ≡ t.unknowns + g.variables
      → k ≡ vec_len from + vec_len t.zeros → e ≡ vec_len to → (rows : Vec Row Global)
      → AreRows m k e rows → IsStepFor g lists j rows
  step_fits m k e m_is k_is e_is rows are u u_is =
      subst (λ (x : Transition). AreRows (x.unknowns + g.variables)
      (length (get_or (map polys_in lists.items) x.from []) + length x.zeros.items)
      (length (get_or (map polys_in lists.items) x.to [])) rows) (same_transition u u_is)
      (subst (λ n. AreRows n (length (get_or (map polys_in lists.items) t.from [])
      + length t.zeros.items) (length (get_or (map polys_in lists.items) t.to [])) rows) m_is
      (subst (λ n. AreRows m n (length (get_or (map polys_in lists.items) t.to [])) rows)
      (k_is ∙ ap₂ ◌+◌ (from.ok.0 ∙ sym (length_of t.from from from_in from_is)) t.zeros.ok.0)
      (subst (λ n. AreRows m k n rows)
      (e_is ∙ to.ok.0 ∙ sym (length_of t.to to to_in to_is)) are)))

  transition_here : transition_at (graph_of g) j ≡ transition_of t
  transition_here = get_or-map transition_of g.transitions.items j t no_transition l
      ∙ ap transition_of (sym is)

  pub step_reads : (names all : List (List ℕ)) (k e : ℕ) (path : List ℕ) (d : Data)
      → all ≡ unknown_names t.unknowns ++ names
      → k ≡ vec_len from + vec_len t.zeros → e ≡ vec_len to
      → step_at names (map vec_len lists.items) (transition_at (graph_of g) j) path d
      ≡ parts (row_at all k) path (list_with e d)
  step_reads names all k e path d all_is k_is e_is =
      ap (λ u. step_at names (map vec_len lists.items) u path d) transition_here
      ∙ ap (λ n. parts (row_at (unknown_names t.unknowns ++ names) n) path
      (list_with (get_or (map vec_len lists.items) t.to 0) d))
      (ap₂ ◌+◌ (count_of t.from from from_in from_is)
      (length-map t.zeros.items terms_in ∙ sym t.zeros.ok.0) ∙ sym k_is)
      ∙ ap (λ n. parts (row_at (unknown_names t.unknowns ++ names) k) path (list_with n d))
      (count_of t.to to to_in to_is ∙ sym e_is)
      ∙ ap (λ ns. parts (row_at ns k) path (list_with e d)) (sym all_is)

-- the steps of as many transitions as there are
abbrev pub steps_by : List (List ℕ) → List ℕ → Graph → ℕ → Data → Reading (List (List RawRow))
steps_by names counts g n d =
    on (each_by (λ j. step_at names counts (transition_at (graph_of g) j)) (codes "/steps") 0)
    (ok_or (option_and_then (list_with n) (get (codes "steps") d)) (shape (codes "/steps")))

pub steps_counted : (names : List (List ℕ)) (counts : List ℕ) (g : Graph) (n : ℕ) (d : Data)
    → n ≡ vec_len g.transitions → steps_from names counts (graph_of g) d
    ≡ steps_by names counts g n d
steps_counted names counts g n d is =
    ap (λ k. on (each_by (λ j. step_at names counts (transition_at (graph_of g) j))
    (codes "/steps") 0) (ok_or (option_and_then (list_with k) (get (codes "steps") d))
    (shape (codes "/steps")))) (length-map g.transitions.items transition_of
    ∙ sym g.transitions.ok.0 ∙ sym is)
