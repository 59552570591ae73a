-- The list of an orbit as an analysis has it: made normal and collected, it has the ideal of the graph.
--   alike_members       lists with the same values at all points, and with the relations, have one ideal
--   start_orbit         so it gives the orbit
use Rattle.std.proofs.Common.{◌≡◌, ℕ, Bool, false, ◌+◌, ◌<◌, List, [], ◌∷◌, ◌++◌, map, drop, length, arith, sym, ap, ap₂, subst, ◌∙◌}
use Rattle.algebra.specs.Each.{Each}
use Rattle.algebra.proofs.Each.{each-append, each-left, each-right}
use Rattle.exponentials.specs.Base.{Coprime}
use Rattle.algebra.specs.Fraction.{Fraction, ℚ, rationals}
use Rattle.algebra.proofs.Fractions.{ℚ_ring, ℚ_field}
use Rattle.polynomials.specs.Order.{Rank, IsMonomialOrder, grevlex}
use Rattle.polynomials.specs.Polynomial.{Arity, AllArity, IsPolynomial}
use Rattle.polynomials.specs.Terms.{Terms, variables, negate, compose}
use Rattle.polynomials.proofs.Arity.{arity-append, arity-negate}
use Rattle.polynomials.proofs.Orders.{grevlex_order, blocks_order}
use Rattle.polynomials.proofs.Same.{Same-sym}
use Rattle.polynomials.proofs.ValueAt.{value_at_same, value_at-append, value_at-negate}
use Rattle.solvable_maps.specs.Expo.{with_normal_keys}
use Rattle.solvable_maps.specs.Iterations as iterations
use Rattle.solvable_maps.specs.Iterations.{point, width, IsItself}
use Rattle.loops.specs.Map.{branch_map}
use Rattle.rounds.specs.Word.{branch_of}
use Rattle.solvable_maps.proofs.Lengths.{arity-normalized}
use Rattle.solvable_maps.proofs.Operations.{point-append, normal-value}
use Rattle.ideals.specs.Members.{IsMember}
use Rattle.ideals.proofs.FractionMembers.{member_same, member_nil, member_append, member_members}
use Rattle.machines.specs.Collect.{collect}
use Rattle.machines.proofs.Collecting.{collect-polynomial, collect-same}
use Rattle.machines.specs.Elimination.{in_front}
use Rattle.machines.proofs.Padding.{at, arity-pad}
use Rattle.loops.specs.Program.{Expr, Program}
use Rattle.rounds.specs.Form.{Form, front, point_of, relations, normal, passing, form_before, late_order, late_orbit_list}
use Rattle.rounds.specs.Orbit.{IsEliminated}
use Rattle.rounds.proofs.Independent.{points_of_base, points_are_independent, arity_relations}
use Rattle.rounds.proofs.Orbit.{nothing_at_point}
use Rattle.rounds.specs.Graph.{less, at_before}
use Rattle.rounds.specs.Round.{IsOrbitAt}
use Rattle.rounds.proofs.Graph.{each_place, members_each, split_same}
use Rattle.rounds.proofs.WayBack.{orbit_graph, late_orbit, late_graph_arity}

module _ (bs : List ℕ) (c : Coprime bs) (x : ℕ) where
  abbrev r : ℕ
  r = length bs

  abbrev w : ℕ
  w = front (length bs) + x

  abbrev rs : List (Terms Fraction)
  rs = relations (length bs) x

  -- with the same values at each point
  abbrev pub AreAlike : Terms Fraction → Terms Fraction → Type 0
  AreAlike p q = (n : ℕ) (s : List Fraction) → length s ≡ x
      → at p (point bs n s) ≡ at q (point bs n s)

  zero_member : (e : Terms Fraction) → Arity w e → ((n : ℕ) (s : List Fraction) → length s ≡ x
      → at e (point bs n s) ≡ ℚ.zero) → IsMember ℚ w rs e
  unfolding Each
  zero_member e a h = (points_are_independent bs c x).member [] tt e a
      (λ n. member_same x [] [] _ (nothing_at_point (front r) x (point_of bs) (points_of_base bs) n
      e (λ s l. ap (at e) (point-append bs n s) ∙ h n s l)) (member_nil x []))

  alike_member : (hs : List (Terms Fraction)) → AllArity w hs → Each (IsMember ℚ w hs) rs
      → (p q : Terms Fraction) → Arity w p → Arity w q → AreAlike p q → IsMember ℚ w hs q
      → IsMember ℚ w hs p
  alike_member hs ha rels p q a b h i =
      let d : Terms Fraction = p ++ negate ℚ q in
      let da : Arity w d = arity-append w p _ a (arity-negate w ℚ q b) in
      member_same w hs _ p (split_same w p q a b)
      (member_append w hs ha d q da b
      (member_members w rs hs d ha da (each_place (IsMember ℚ w hs) rs rels)
      (zero_member d da (λ n s l. value_at-append ℚ_ring p (negate ℚ q) (point bs n s)
      ∙ ap₂ ℚ.add (h n s l) (value_at-negate ℚ_ring q (point bs n s))
      ∙ ℚ_ring.add-neg (at q (point bs n s))))) i)

  -- each of a list, where each of one that is alike is
  pub AllAlike : List (Terms Fraction) → List (Terms Fraction) → Type 0
  AllAlike [] [] = Unit {0}
  AllAlike [] (q ∷ qs) = ⊥
  AllAlike (p ∷ ps) [] = ⊥
  AllAlike (p ∷ ps) (q ∷ qs) = AreAlike p q × AllAlike ps qs

  pub alike-append : (ps qs us vs : List (Terms Fraction)) → AllAlike ps qs → AllAlike us vs
      → AllAlike (ps ++ us) (qs ++ vs)
  unfolding AllAlike
  alike-append [] [] us vs h k = k
  alike-append [] (q ∷ qs) us vs h k = absurd h
  alike-append (p ∷ ps) [] us vs h k = absurd h
  alike-append (p ∷ ps) (q ∷ qs) us vs h k = (h.0, alike-append ps qs us vs h.1 k)

  alike_each : (hs : List (Terms Fraction)) → AllArity w hs → Each (IsMember ℚ w hs) rs
      → (ps qs : List (Terms Fraction)) → AllArity w ps → AllArity w qs → AllAlike ps qs
      → Each (IsMember ℚ w hs) qs → Each (IsMember ℚ w hs) ps
  unfolding Each AllAlike
  alike_each hs ha rels [] qs a b h i = tt
  alike_each hs ha rels (p ∷ ps) [] a b h i = absurd h
  alike_each hs ha rels (p ∷ ps) (q ∷ qs) a b h i = (
    alike_member hs ha rels p q a.0 b.0 h.0 i.0,
    alike_each hs ha rels ps qs a.1 b.1 h.1 i.1,
  )

  -- what is a member of the ideal of the one list is one of that of the other
  pub alike_members : (ps qs : List (Terms Fraction)) → AllArity (front (length bs) + x) ps
      → AllArity (front (length bs) + x) qs → AllAlike ps qs
      → Each (IsMember ℚ (front (length bs) + x) qs) (relations (length bs) x)
      → (p : Terms Fraction) → Arity (front (length bs) + x) p
      → IsMember ℚ (front (length bs) + x) ps p → IsMember ℚ (front (length bs) + x) qs p
  alike_members ps qs a b h rels p pa i = member_members w ps qs p b pa
      (each_place (IsMember ℚ w qs) ps (alike_each qs b rels ps qs a b h (members_each w qs b))) i

  pub turned_round : (ps qs : List (Terms Fraction)) → AllAlike ps qs → AllAlike qs ps
  unfolding AllAlike
  turned_round [] [] h = tt
  turned_round [] (q ∷ qs) h = absurd h
  turned_round (p ∷ ps) [] h = absurd h
  turned_round (p ∷ ps) (q ∷ qs) h = ((λ n s l. sym (h.0 n s l)), turned_round ps qs h.1)

  -- ---- made normal and collected
  module _ (O : Rank) (order : IsMonomialOrder O) where
    wide-is : width (length bs) x ≡ front (length bs) + x
    wide-is = omega arith

    normal_arity : (p : Terms Fraction) → Arity w p → Arity w (normal O r p)
    normal_arity p a = subst (λ n. Arity n (normal O r p)) wide-is
        ((collect-polynomial ℚ_field O order (width r x) (with_normal_keys r p)
        (arity-normalized r x p (subst (λ n. Arity n p) (sym wide-is) a))).arity)

    pub normals_arity : (ps : List (Terms Fraction)) → AllArity (front (length bs) + x) ps
        → AllArity (front (length bs) + x) (map (normal O (length bs)) ps)
    unfolding Each
    normals_arity [] a = tt
    normals_arity (p ∷ ps) a = (normal_arity p a.0, normals_arity ps a.1)

    pub normals_alike : (ps : List (Terms Fraction)) → AllArity (front (length bs) + x) ps
        → AllAlike (map (normal O (length bs)) ps) ps
    unfolding Each AllAlike
    normals_alike [] a = tt
    normals_alike (p ∷ ps) a = (
      (λ n s l.
          value_at_same ℚ_ring _ _ (point bs n s) (collect-same ℚ_field O order
          (with_normal_keys r p))
          ∙ normal-value bs c x p (subst (λ j. Arity j p) (sym wide-is) a.0) n s),
      normals_alike ps a.1,
    )

    pub collected_arity : (ps : List (Terms Fraction)) → AllArity (front (length bs) + x) ps
        → AllArity (front (length bs) + x) (map (collect rationals O) ps)
    unfolding Each
    collected_arity [] a = tt
    collected_arity (p ∷ ps) a = (
      (collect-polynomial ℚ_field O order w p a.0).arity,
      collected_arity ps a.1,
    )

    pub collected_alike : (ps : List (Terms Fraction)) → AllAlike (map (collect rationals O) ps) ps
    unfolding AllAlike
    collected_alike [] = tt
    collected_alike (p ∷ ps) = (
      (λ n s l. value_at_same ℚ_ring _ _ (point bs n s) (collect-same ℚ_field O order p)),
      collected_alike ps,
    )

    -- each of a list, collected, is a member where the list is among what is collected
    pub collected_members : (hs : List (Terms Fraction)) (ps : List (Terms Fraction))
        → Each (IsMember ℚ (front (length bs) + x) hs) (map (collect rationals O) ps)
        → Each (IsMember ℚ (front (length bs) + x) hs) ps
    unfolding Each
    collected_members hs [] h = tt
    collected_members hs (p ∷ ps) h = (
      member_same w hs _ _ (Same-sym ℚ (collect-same ℚ_field O order p)) h.0,
      collected_members hs ps h.1,
    )

-- ---- the orbit
module _ {At : Type 0} (program : Program (Expr At)) (b since : ℕ) (f : Form)
    (coprime : Coprime f.base)
    (is : iterations.IsClosedFormFrom f.base (branch_map program (branch_of program b)) since
    f.polys)
    (passes : ℕ → Bool)
    (stays : (i : ℕ) → i < length program.names → passes i ≡ false
    → IsItself f.base (length program.names) f.polys i) where
  abbrev m : ℕ
  m = length program.names

  abbrev k : ℕ
  k = front (length f.base)

  abbrev t : ℕ
  t = passing (length program.names) passes

  abbrev O : Rank
  O = late_order f (length program.names) passes

  order : IsMonomialOrder O
  order = blocks_order (k + t) grevlex grevlex grevlex_order grevlex_order

  wide : k + t + m ≡ k + (t + m)
  wide = omega arith

  module _ (gs : List (Terms Fraction)) (ga : AllArity (length program.names) gs) where
    abbrev elements : List (Terms Fraction)
    elements = map (λ g. compose ℚ (front (length f.base) + passing (length program.names) passes
        + length program.names) g (form_before f (length program.names) passes)) gs

    abbrev differences : List (Terms Fraction)
    differences = less (drop (front (length f.base) + passing (length program.names) passes)
        (variables ℚ (front (length f.base) + passing (length program.names) passes
        + length program.names)))
        (map (at_before (front (length f.base)) (passing (length program.names) passes)
        (length program.names) (form_before f (length program.names) passes)) f.polys)

    abbrev rels : List (Terms Fraction)
    rels = relations (length f.base) (passing (length program.names) passes + length program.names)

    graph : AllArity (k + (t + m)) (orbit_graph f m passes gs)
    graph = subst (λ n. AllArity n (orbit_graph f m passes gs)) wide
        (late_graph_arity program b since f coprime is passes stays gs ga)

    elements_arity : AllArity (k + (t + m)) elements
    elements_arity = each-left (Arity (k + (t + m))) elements (differences ++ rels) graph

    differences_arity : AllArity (k + (t + m)) differences
    differences_arity = each-left (Arity (k + (t + m))) differences rels
        (each-right (Arity (k + (t + m))) elements (differences ++ rels) graph)

    start_arity : AllArity (k + (t + m)) (late_orbit_list f m passes gs)
    start_arity = each-append (Arity (k + (t + m))) _ _ (normals_arity f.base coprime (t + m) O
        order elements elements_arity)
        (each-append (Arity (k + (t + m))) _ _ (normals_arity f.base coprime (t + m) O order
        differences differences_arity) (collected_arity f.base coprime (t + m) O order rels
        (arity_relations (length f.base) (t + m))))

    alike : AllAlike f.base coprime (t + m) (late_orbit_list f m passes gs)
        (orbit_graph f m passes gs)
    alike = alike-append f.base coprime (t + m) _ elements _ (differences ++ rels)
        (normals_alike f.base coprime (t + m) O order elements elements_arity)
        (alike-append f.base coprime (t + m) _ differences _ rels (normals_alike f.base coprime
        (t + m) O order differences differences_arity) (collected_alike f.base coprime
        (t + m) O order rels))

    relations_in_graph : Each (IsMember ℚ (k + (t + m)) (orbit_graph f m passes gs)) rels
    relations_in_graph = each-right (IsMember ℚ (k + (t + m)) (orbit_graph f m passes gs))
        differences rels
        (each-right (IsMember ℚ (k + (t + m)) (orbit_graph f m passes gs)) elements
        (differences ++ rels) (members_each (k + (t + m)) (orbit_graph f m passes gs) graph))

    relations_in_start : Each (IsMember ℚ (k + (t + m)) (late_orbit_list f m passes gs)) rels
    relations_in_start = collected_members f.base coprime (t + m) O order
        (late_orbit_list f m passes gs) rels
        (each-right (IsMember ℚ (k + (t + m)) (late_orbit_list f m passes gs))
        (map (normal O (length f.base)) differences) (map (collect rationals O) rels)
        (each-right (IsMember ℚ (k + (t + m)) (late_orbit_list f m passes gs))
        (map (normal O (length f.base)) elements) _
        (members_each (k + (t + m)) (late_orbit_list f m passes gs) start_arity)))

    to_graph : (p : Terms Fraction) → Arity m p
        → IsMember ℚ (k + t + m) (late_orbit_list f m passes gs) (in_front (k + t) p)
        → IsMember ℚ (k + t + m) (orbit_graph f m passes gs) (in_front (k + t) p)
    to_graph p a i = subst (λ n. IsMember ℚ n (orbit_graph f m passes gs) (in_front (k + t) p))
        (sym wide)
        (alike_members f.base coprime (t + m) (late_orbit_list f m passes gs)
        (orbit_graph f m passes gs) start_arity graph alike relations_in_graph
        (in_front (k + t) p) (subst (λ n. Arity n (in_front (k + t) p)) wide
        (arity-pad (k + t) m p a))
        (subst (λ n. IsMember ℚ n (late_orbit_list f m passes gs) (in_front (k + t) p)) wide i))

    to_start : (p : Terms Fraction) → Arity m p → IsMember ℚ (k + t + m) (orbit_graph f m passes gs)
        (in_front (k + t) p) → IsMember ℚ (k + t + m) (late_orbit_list f m passes gs)
        (in_front (k + t) p)
    to_start p a i = subst (λ n. IsMember ℚ n (late_orbit_list f m passes gs) (in_front (k + t) p))
        (sym wide)
        (alike_members f.base coprime (t + m) (orbit_graph f m passes gs)
        (late_orbit_list f m passes gs) graph start_arity (turned_round f.base coprime (t + m)
        _ _ alike) relations_in_start (in_front (k + t) p)
        (subst (λ n. Arity n (in_front (k + t) p)) wide (arity-pad (k + t) m p a))
        (subst (λ n. IsMember ℚ n (orbit_graph f m passes gs) (in_front (k + t) p)) wide i))

    normal_each : (ps : List (Terms Fraction)) → AllArity (k + (t + m)) ps
        → Each (IsPolynomial ℚ O (k + (t + m))) (map (normal O (length f.base)) ps)
    unfolding Each
    normal_each [] a = tt
    normal_each (p ∷ ps) a = (
      subst (λ n. IsPolynomial ℚ O n (normal O (length f.base) p)) (wide-is f.base coprime (t + m) O
          order)
          (collect-polynomial ℚ_field O order (width (length f.base) (t + m))
          (with_normal_keys (length f.base) p) (arity-normalized (length f.base) (t + m) p
          (subst (λ n. Arity n p) (sym (wide-is f.base coprime (t + m) O order)) a.0))),
      normal_each ps a.1,
    )

    collected_each : (ps : List (Terms Fraction)) → AllArity (k + (t + m)) ps
        → Each (IsPolynomial ℚ O (k + (t + m))) (map (collect rationals O) ps)
    unfolding Each
    collected_each [] a = tt
    collected_each (p ∷ ps) a = (
      collect-polynomial ℚ_field O order (k + (t + m)) p a.0,
      collected_each ps a.1,
    )

    pub start_polynomials : Each (IsPolynomial ℚ (late_order f (length program.names) passes)
        (front (length f.base) + passing (length program.names) passes + length program.names))
        (late_orbit_list f (length program.names) passes gs)
    start_polynomials = subst (λ n. Each (IsPolynomial ℚ O n) (late_orbit_list f m passes gs))
        (sym wide)
        (each-append (IsPolynomial ℚ O (k + (t + m))) _ _ (normal_each elements elements_arity)
        (each-append (IsPolynomial ℚ O (k + (t + m))) _ _
        (normal_each differences differences_arity)
        (collected_each rels (arity_relations (length f.base) (t + m)))))

    pub start_orbit : (ks : List (Terms Fraction))
        → IsEliminated (front (length f.base) + passing (length program.names) passes)
        (length program.names) (late_orbit_list f (length program.names) passes gs) ks
        → IsOrbitAt program gs b (λ n. since + n) ks
    start_orbit ks eliminated = late_orbit program b since f coprime is passes stays gs ks ga
        (record {
          arities = eliminated.arities;
          only = λ p a h. to_graph p a (eliminated.only p a h);
          all = λ p a h. eliminated.all p a (to_start p a h);
        })
