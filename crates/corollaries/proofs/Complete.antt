-- A full certificate that is valid lists a basis of all invariants.
--   covers_level           the list before a round has the invariants of that level
--   full_generates         its polynomials generate the invariants
use Rattle.std.proofs.Common.{ℕ, zero, suc, pred, ◌<◌, ◌≤◌, ◌+◌, List, [], ◌∷◌, replicate, get_or, length, arith}
use Rattle.algebra.specs.Each.{Each}
use Rattle.algebra.proofs.Each.{each_weaker}
use Rattle.algebra.specs.Fraction.{Fraction, ℚ}
use Rattle.algebra.proofs.Fractions.{ℚ_ring, ℚ_field}
use Rattle.polynomials.specs.Terms.{Terms, AllSame, combination, compose}
use Rattle.polynomials.specs.Order.{grevlex}
use Rattle.polynomials.specs.Polynomial.{Arity, AllArity, IsPolynomial}
use Rattle.polynomials.proofs.Arity.{arity-compose}
use Rattle.polynomials.proofs.Orders.{grevlex_order, blocks_order}
use Rattle.polynomials.proofs.Same.{Same-sym, Same-trans, AllSame-refl, same_combination}
use Rattle.exponentials.specs.Base.{Coprime}
use Rattle.solvable_maps.specs.Iterations as iterations
use Rattle.ideals.specs.Members.{IsMember}
use Rattle.ideals.proofs.FractionMembers.{member_same, member_members}
use Rattle.machines.specs.Elimination.{in_front}
use Rattle.machines.proofs.Meeting.{blend_members}
use Rattle.loops.specs.Program.{Expr, Program}
use Rattle.loops.specs.Inv.{Inv}
use Rattle.loops.specs.Map.{branch_map}
use Rattle.loops.specs.WellFormed.{IsWellFormed}
use Rattle.loops.proofs.Certificates.{certificate_lists_invariants}
use Rattle.loops.proofs.Invariants.{same_invariant, zero_invariant, sum_invariant, multiple_invariant}
use Rattle.loops.proofs.Maps.{length-branch_map}
use Rattle.rounds.specs.Word.{AtMost, Then, UpTo, IsLetter, branch_of, after_word, Stays, IsZeroAtStarts}
use Rattle.rounds.specs.Generate.{Generates}
use Rattle.rounds.specs.Orbit.{IsForm}
use Rattle.rounds.specs.Form.{Form, front, point_of, relations, orbit_list}
use Rattle.rounds.specs.Start.{start_list}
use Rattle.rounds.proofs.Independent.{points_of_base, points_are_independent}
use Rattle.rounds.proofs.Orbit.{form_at_point}
use Rattle.rounds.proofs.Relations.{relations_of_base}
use Rattle.rounds.proofs.Run.{stays_of_inv}
use Rattle.rounds.proofs.Start.{zero_member}
use Rattle.rounds.proofs.Round.{level_of_every}
use Rattle.rounds.proofs.PullBack.{form_of_closed, closed_form_pulls_back}
use Rattle.corollaries.specs.Cover.{Covers}
use Rattle.corollaries.specs.Stage.{block_order}
use Rattle.corollaries.specs.Full.{FullCertificate, Kind, orbit, meet, certificate, form_of, stage_of, so_far, front_of, before, starting, IsFullOver}
use Rattle.corollaries.specs.Parts.{AllHold}
use Rattle.corollaries.proofs.Lists.{each_place}
use Rattle.corollaries.proofs.Forms.{passing_is_closed}
use Rattle.corollaries.proofs.Levels.{covers_starts, covers_orbit, covers_first, covers_meet, covers_level}
use Rattle.corollaries.proofs.Stages.{stage_eliminates}
use Rattle.corollaries.proofs.EachPart.{is_valid, form_holds, start_holds, orbit_holds, meet_holds, end_holds}

module _ {At : Type 0} (program : Program (Expr At)) (w : IsWellFormed program)
    (c : FullCertificate) (over : IsFullOver program c) (full : AllHold program c) where
  abbrev m : ℕ
  m = length program.names

  abbrev I : Terms Fraction → Type 0
  I = IsZeroAtStarts program

  letter : (b : ℕ) → b < length program.branches → IsLetter program (suc b)
  letter b l = record { some = omega arith; within = omega (arith, l) }

  no_row : AllArity {A = Fraction} m []
  unfolding Each
  no_row = tt

  polynomials_arity : (ps : List (Terms Fraction)) → Each (IsPolynomial ℚ grevlex m) ps
      → AllArity m ps
  polynomials_arity ps h = each_weaker (IsPolynomial ℚ grevlex m) (Arity m) (λ q a. a.arity) ps h

  -- ---- the start
  start_arity : AllArity m c.start_out
  start_arity = polynomials_arity c.start_out over.start_out

  started : (i : ℕ) → i < length (start_list program) → IsMember ℚ m c.start_out
      (get_or (start_list program) i [])
  started i l = record {
    cofactors = get_or c.start_links i [];
    arity = each_place (AllArity m)
        c.start_links [] no_row over.start_links i;
    is = start_holds program c full i l;
  }

  starts_covered : Covers m c.start_out (IsZeroAtStarts program)
  starts_covered = record {
    arities = start_arity;
    all = λ p a z. member_members m (start_list program) c.start_out p start_arity a started
        (zero_member program w p a z);
  }

  -- ---- an orbit
  module _ (b : ℕ) (l : b < length program.branches) where
    abbrev f : Form
    f = form_of c b

    abbrev k : ℕ
    k = front (length (form_of c b).base)

    coprime : Coprime (form_of c b).base
    coprime = (form_holds program c full b l).coprime

    closed : iterations.IsClosedForm (form_of c b).base
        (branch_map program (branch_of program (suc b)))
        (form_of c b).polys
    closed = passing_is_closed (branch_map program (branch_of program (suc b))) m
        (length-branch_map program (branch_of program (suc b))) (form_of c b) (over.forms b)
        (form_holds program c full b l)

    form : IsForm program (suc b) (front (length (form_of c b).base)) (point_of (form_of c b).base)
        (form_of c b).polys
    form = form_of_closed program (suc b) (form_of c b) coprime closed

    orbit_upper : (gs : List (Terms Fraction)) → AllArity m gs → (p : Terms Fraction) → Arity m p
        → ((n : ℕ) → IsMember ℚ m gs (after_word program (replicate n (suc b)) p))
        → IsMember ℚ (k + m) (orbit_list (form_of c b) m gs) (in_front k p)
    orbit_upper gs ga p a h =
        ((closed_form_pulls_back program (suc b) f coprime closed gs ga).exactly p a).1
        ((points_are_independent f.base coprime m).member gs ga (compose ℚ (k + m) p f.polys)
        (arity-compose (k + m) ℚ p f.polys form.arities)
        (λ n. member_same m gs _ _ (form_at_point program (suc b) k (point_of f.base)
        (points_of_base f.base) (relations (length f.base) m) (relations_of_base f.base coprime m)
        f.polys form n p a) (h n)))

  -- ---- the levels
  module _ (r : ℕ) (below : r < length c.rounds) (covered : Covers m (before program c r)
      (Stays program I (AtMost r))) where
    out_arity : (b : ℕ) (kind : Kind) → AllArity m (stage_of c r b kind).out
    out_arity b kind = polynomials_arity (stage_of c r b kind).out (over.stages r b kind).out

    orbit_covered : (b : ℕ) → b < length program.branches → Covers m (stage_of c r b orbit).out
        (Stays program I (Then r (suc b)))
    orbit_covered b l = covers_orbit program I r (suc b) (before program c r)
        (stage_of c r b orbit).out (letter b l) covered (out_arity b orbit)
        (λ p a h. stage_eliminates (front_of c b orbit) m (starting program c r b orbit)
        (stage_of c r b orbit) (over.stages r b orbit) (orbit_holds program c full r b below l) p a
        (orbit_upper b l (before program c r) covered.arities p a h))

    so_far_covered : (b : ℕ) → b < length program.branches → Covers m (so_far c r b)
        (Stays program I (UpTo r (suc b)))
    unfolding so_far
    so_far_covered zero l = covers_first program I r (stage_of c r 0 orbit).out (orbit_covered 0 l)
    so_far_covered (suc b) l =
        let hs = so_far c r b in
        let ks = (stage_of c r (suc b) orbit).out in
        let earlier : Covers m (so_far c r b) (Stays program I (UpTo r (suc b))) =
        so_far_covered b (omega (arith, l)) in
        covers_meet program I r (suc b) hs ks (stage_of c r (suc b) meet).out earlier
        (orbit_covered (suc b) l) (out_arity (suc b) meet)
        (λ p a i j. stage_eliminates 1 m (starting program c r (suc b) meet)
        (stage_of c r (suc b) meet) (over.stages r (suc b) meet) (meet_holds program c full r b
        below l) p a
        ((blend_members ℚ_field m (block_order 1) (blocks_order 1 grevlex grevlex grevlex_order
        grevlex_order) hs ks earlier.arities (out_arity (suc b) orbit) p a).1 (i, j)))

    next_covered : Covers m (before program c (suc r)) (Stays program I (AtMost (suc r)))
    unfolding before
    next_covered =
        let some : 0 < length program.branches = w.some_branch in
        let n : pred (length program.branches) < length program.branches = grind (arith, some) in
        covers_level program I r (suc (pred (length program.branches)))
        (so_far c r (pred (length program.branches)))
        (so_far_covered (pred (length program.branches)) n)

  pub level_covered : (r : ℕ) → r ≤ length c.rounds → Covers m (before program c r)
      (Stays program (IsZeroAtStarts program) (AtMost r))
  unfolding before
  level_covered zero l = covers_starts program I c.start_out starts_covered
  level_covered (suc r) l = next_covered r (omega (arith, l)) (level_covered r (omega (arith, l)))

  -- ---- all invariants, and only these
  basis_arity : AllArity m c.basis
  basis_arity = over.basis.arities

  listed : (i : ℕ) → i < length c.basis → Inv program (get_or c.basis i [])
  listed i l = certificate_lists_invariants program (certificate c) over.basis
      (is_valid program c full) i l

  combination_invariant : (qs gs : List (Terms Fraction)) → AllArity m qs → ((i : ℕ) → i < length gs
      → Inv program (get_or gs i [])) → Inv program (combination ℚ qs gs)
  unfolding Each combination
  combination_invariant [] gs a h = zero_invariant program
  combination_invariant (q ∷ qs) [] a h = zero_invariant program
  combination_invariant (q ∷ qs) (g ∷ gs) a h = sum_invariant program _ _
      (multiple_invariant program q g a.0 (h 0 (omega arith))) (combination_invariant qs gs a.1
      (λ i l. h (suc i) (omega (arith, l))))

  same_members : (gs hs : List (Terms Fraction)) (p : Terms Fraction) → AllSame ℚ gs hs
      → IsMember ℚ m gs p → IsMember ℚ m hs p
  same_members gs hs p s i = record {
    cofactors = i.cofactors;
    arity = i.arity;
    is =
        Same-trans ℚ i.is (same_combination ℚ_ring i.cofactors i.cofactors gs hs
        (AllSame-refl ℚ i.cofactors) s);
  }

  pub full_generates : Generates (length program.names) c.basis (Inv program)
  full_generates = record {
    arities = basis_arity;
    only = λ p a i. same_invariant program (combination ℚ i.cofactors c.basis) p a (Same-sym ℚ i.is)
        (combination_invariant i.cofactors c.basis i.arity listed);
    all = λ p a i. same_members (before program c (length c.rounds)) c.basis p
        (end_holds program c full)
        ((level_covered (length c.rounds) (omega arith)).all p a (level_of_every program I
        (length c.rounds) p (stays_of_inv program p i)));
  }
