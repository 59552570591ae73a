-- The graph and the certificate that the checker takes are a graph and a certificate over it.
--   graph_stands       a graph
--   fits_over          lists over its variables, and cofactors over the unknowns too
use Rattle.std.proofs.Common.{◌≡◌, ◌⊎◌, inl, inr, ℕ, zero, suc, ◌+◌, ◌-◌, ◌<◌, ◌≤◌, List, [], ◌∷◌, map, replicate, get_or, length, All, refl, arith, sym, ap, subst, ◌∙◌}
use Rattle.std.proofs.lemmas.List.{get_or-map, length-map}
use Rattle.std.proofs.lemmas.List.Elements.{All-head, All-tail}
use Rattle.algebra.specs.Each.{Each}
use Rattle.algebra.proofs.Each.{each-append}
use Rattle.algebra.specs.Fraction.{Fraction}
use Rattle.polynomials.specs.Terms.{Terms}
use Rattle.polynomials.specs.Polynomial.{Arity, AllArity}
use Rattle.poly.specs.Seen.{terms_in}
use Rattle.poly.proofs.Standing.{arities_over}
use Rattle.cert_form.specs.Cert.{polys_in, HaveArity}
use Rattle.cert_form.proofs.Zip.{seen_all, at_or}
use Rattle.flows.specs.Graph as flows
use Rattle.flows.specs.Graph.{IsTransition, IsGraph}
use Rattle.flows.specs.Certificate.{AreOver, cofactors, no_transition, transition_at}
use Rattle.program_checker.specs.Rows.{filled, row_of}
use Rattle.program_model.specs.GraphView.{transition_of, graph_of}
use Rattle.program_checker.specs.View.{pairs_of, rows_of, pair_steps, certificate_of, lists_of}
use Rattle.program_model.specs.Graphs.{IsTransitionIn, IsGraphOf}
use Rattle.program_checker.specs.Fits.{IsRow, Fits}
use Rattle.program_model.specs.declared.graph.Transition.{Transition}
use Rattle.program_model.specs.declared.graph.Graph.{Graph}
use Rattle.program_checker.specs.declared.cert.Row.{Row}
use Rattle.program_checker.specs.declared.cert.ProgramCert.{ProgramCert}

none_over : (m : ℕ) → AllArity {A = Fraction} m []
unfolding Each
none_over m = tt

each_transition : (n k : ℕ) (ts : List Transition) → All (IsTransitionIn n k) ts
    → Each (IsTransition n k) (map transition_of ts)
unfolding Each
each_transition n k [] a = tt
each_transition n k (t ∷ ts) a =
    let h = All-head (IsTransitionIn n k) t ts a in (
      record {
        from_node = h.from_node;
        to_node = h.to_node;
        zeros = arities_over (t.unknowns + n) t.zeros.items h.zeros;
        images = arities_over (t.unknowns + n) t.images.items h.images;
        count = length-map t.images.items terms_in ∙ h.count;
      },
      each_transition n k ts (All-tail (IsTransitionIn n k) t ts a),
    )

pub graph_stands : (g : Graph) → IsGraphOf g → IsGraph (graph_of g)
graph_stands g is = each_transition g.variables g.nodes g.transitions.items is.transitions

zeros_over : (m d : ℕ) → AllArity {A = Fraction} m (replicate d [])
unfolding Each
zeros_over m zero = tt
zeros_over m (suc d) = (tt, zeros_over m d)

filled_over : (m k : ℕ) (js : List ℕ) (qs : List (Terms Fraction)) → AllArity m qs
    → AllArity m (filled k js qs)
unfolding Each filled
filled_over m k [] qs a = tt
filled_over m k (j ∷ js) [] a = tt
filled_over m k (j ∷ js) (q ∷ qs) a =
    each-append (Arity m) (replicate (j - k) []) (q ∷ filled (suc j) js qs) (zeros_over m (j - k))
    (a.0, filled_over m (suc j) js qs a.1)

rows_over : (m n : ℕ) (rows : List Row) → All (IsRow m n) rows
    → All (AllArity m) (map row_of (map pairs_of rows))
rows_over m n rows a = seen_all (λ r. AllArity m r.cofactors) (AllArity m) row_of
    (λ r h. filled_over m 0 r.positions r.cofactors h) (map pairs_of rows)
    (seen_all (IsRow m n) (λ r. AllArity m r.cofactors) pairs_of
    (λ row h. arities_over m row.cofactors.items h.arity) rows a)

past_get : {X : Type 0} (xs : List X) (j : ℕ) (d : X) → length xs ≤ j → get_or xs j d ≡ d
past_get [] j d l = refl
past_get (x ∷ xs) zero d l = absurd (omega arith)
past_get (x ∷ xs) (suc j) d l = past_get xs j d (omega arith)

item_there : {X : Type 0} (xs : List X) (j : ℕ) → j < length xs → (x : X) × (x ≡ get_or xs j x)
item_there [] j l = absurd (omega arith)
item_there (x ∷ xs) zero l = (x, refl)
item_there (x ∷ xs) (suc j) l = item_there xs j (omega arith)

module _ (g : Graph) (c : ProgramCert) (is : IsGraphOf g) (fits : Fits g c) where
  many : length (pair_steps c) ≡ length g.transitions.items
  many = length-map c.steps.items rows_of ∙ fits.steps.count

  abbrev Over : ℕ → List (Terms Fraction) → Type 0
  Over j qs = AllArity ((transition_at (graph_of g) j).unknowns + g.variables) qs

  inside_over : (j i : ℕ) → j < length g.transitions.items
      → Over j (cofactors (certificate_of c) j i)
  inside_over j i l =
      let (t, t_is) = item_there g.transitions.items j l in
      let (rows, rows_is) = item_there c.steps.items j (omega (arith, l, fits.steps.count)) in
      let m = t.unknowns + g.variables in
      let fit = fits.steps.each j rows l rows_is t t_is in
      let e : transition_of t ≡ transition_at (graph_of g) j =
      ap transition_of t_is
      ∙ sym (get_or-map transition_of g.transitions.items j t no_transition l) in
      let f : map row_of (rows_of rows) ≡ get_or (map (map row_of) (pair_steps c)) j [] =
      ap (λ r. map row_of (rows_of r)) rows_is
      ∙ ap (map row_of) (sym (get_or-map rows_of c.steps.items j rows []
      (omega (arith, l, fits.steps.count))))
      ∙ sym (get_or-map (map row_of) (pair_steps c) j [] [] (omega (arith, l, many))) in
      subst (λ (x : flows.Transition). AllArity (x.unknowns + g.variables)
      (cofactors (certificate_of c) j i)) e
      (subst (λ (rs : List (List (Terms Fraction))). AllArity m (get_or rs i [])) f
      (at_or (AllArity m) (none_over m) (map row_of (rows_of rows))
      (rows_over m _ rows.items fit.each) i))

  past_over : (j i : ℕ) → length g.transitions.items ≤ j
      → Over j (cofactors (certificate_of c) j i)
  past_over j i l =
      let m = (transition_at (graph_of g) j).unknowns + g.variables in
      subst (λ (rs : List (List (Terms Fraction))). AllArity m (get_or rs i []))
      (sym (past_get (map (map row_of) (pair_steps c)) j []
      (omega (arith, l, many, length-map (pair_steps c) (map row_of)))))
      (none_over m)

  pub fits_over : AreOver (graph_of g) (certificate_of c)
  fits_over = record {
    arities = λ v. at_or (AllArity g.variables) (none_over g.variables) (lists_of c)
        (seen_all (HaveArity g.variables) (AllArity g.variables) polys_in
        (λ ps h. arities_over g.variables ps.items h) c.lists.items fits.lists) v;
    cofactor_arities = λ j i. either j i (grind arith);
  }
    where
      either : (j i : ℕ) → (j < length g.transitions.items) ⊎ (length g.transitions.items ≤ j)
          → Over j (cofactors (certificate_of c) j i)
      either j i (inl l) = inside_over j i l
      either j i (inr l) = past_over j i l
