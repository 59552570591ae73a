-- A full certificate whose parts all hold, part by part.
--   is_valid                   the certificate in it is valid
--   form_holds, start_holds, orbit_holds, meet_holds, end_holds     its forms, its start, its stages, its end
use Rattle.std.proofs.Common.{ℕ, zero, suc, ◌<◌, List, [], ◌∷◌, ◌++◌, map, flat_map, length}
use Rattle.algebra.specs.Each.{Each}
use Rattle.algebra.proofs.Each.{each-left, each-right}
use Rattle.algebra.specs.Fraction.{Fraction}
use Rattle.polynomials.specs.Terms.{Terms}
use Rattle.machines.specs.Elimination.{free_part}
use Rattle.loops.specs.Program.{Expr, Program}
use Rattle.loops.specs.Certificate.{IsValid}
use Rattle.rounds.specs.Start.{start_list}
use Rattle.corollaries.specs.Representation.{pairs_of}
use Rattle.corollaries.specs.Stage.{Stage, Place, in_list, in_gens, in_pairs, in_links, StageHolds, below, places}
use Rattle.corollaries.specs.Full.{FullCertificate, Kind, orbit, meet, certificate, stage_of, front_of, starting}
use Rattle.corollaries.specs.Parts.{Part, in_basis, in_steps, in_forms, in_start, in_round, at_end, Holds, stage_parts, branch_parts, basis_parts, step_parts, form_parts, start_parts, round_parts, parts, AllHold}
use Rattle.corollaries.proofs.Lists.{among, each_flat, each_mapped}

module _ {At : Type 0} (program : Program (Expr At)) (c : FullCertificate)
    (full : AllHold program c) where
  abbrev Q : Part → Type 0
  Q = Holds program c

  all : Each Q (basis_parts program c ++ (step_parts program
      c ++ (form_parts program c ++ (start_parts program c ++ (round_parts program c ++ at_end
      ∷ [])))))
  unfolding parts
  all = full.each

  after_basis : Each Q (step_parts program c ++ (form_parts program c ++ (start_parts program
      c ++ (round_parts program c ++ at_end ∷ []))))
  after_basis = each-right Q (basis_parts program c) _ all

  after_steps : Each Q (form_parts program c ++ (start_parts program c ++ (round_parts program
      c ++ at_end ∷ [])))
  after_steps = each-right Q (step_parts program c) _ after_basis

  after_forms : Each Q (start_parts program c ++ (round_parts program c ++ at_end ∷ []))
  after_forms = each-right Q (form_parts program c) _ after_steps

  after_start : Each Q (round_parts program c ++ at_end ∷ [])
  after_start = each-right Q (start_parts program c) _ after_forms

  pub is_valid : IsValid program (certificate c)
  is_valid = record {
    starts = λ e l. each_mapped Q in_basis (below (length c.basis)) e
        (each-left Q (basis_parts program c) _ all) (among (length c.basis) e l);
    steps = λ b e k l. each_mapped Q (in_steps b) (below (length c.basis)) e
        (each_flat Q (λ b. map (in_steps b) (below (length c.basis)))
        (below (length program.branches)) b (each-left Q (step_parts program c) _ after_basis)
        (among (length program.branches) b k)) (among (length c.basis) e l);
  }

  pub form_holds : (b : ℕ) → b < length program.branches → Holds program c (in_forms b)
  form_holds b l = each_mapped Q in_forms (below (length program.branches)) b
      (each-left Q (form_parts program c) _ after_steps) (among (length program.branches) b l)

  pub start_holds : (i : ℕ) → i < length (start_list program) → Holds program c (in_start i)
  start_holds i l = each_mapped Q in_start (below (length (start_list program))) i
      (each-left Q (start_parts program c) _ after_forms) (among (length (start_list program)) i l)

  pub end_holds : Holds program c at_end
  unfolding Each
  end_holds = (each-right Q (round_parts program c) (at_end ∷ []) after_start).0

  branch_holds : (r b : ℕ) → r < length c.rounds → b < length program.branches
      → Each Q (branch_parts program c r b)
  branch_holds r b k l = each_flat Q (branch_parts program c r) (below (length program.branches)) b
      (each_flat Q (λ r. flat_map (branch_parts program c r) (below (length program.branches)))
      (below (length c.rounds)) r (each-left Q (round_parts program c) (at_end ∷ []) after_start)
      (among (length c.rounds) r k))
      (among (length program.branches) b l)

  -- ---- a stage
  module _ (r b : ℕ) (kind : Kind) (holds : Each Q (stage_parts program c r b kind)) where
    abbrev s : Stage
    s = stage_of c r b kind

    abbrev k : ℕ
    k = front_of c b kind

    abbrev hs : List (Terms Fraction)
    hs = starting program c r b kind

    abbrev T : Place → Type 0
    T place = Q (in_round r b kind place)

    unmap : (ps : List Place) → Each Q (map (in_round r b kind) ps) → Each T ps
    unfolding Each
    unmap [] h = tt
    unmap (p ∷ ps) h = (h.0, unmap ps h.1)

    every : Each T (map in_list (below (length s.list)) ++ (map in_gens (below (length hs))
        ++ (map in_pairs (below (length (pairs_of (length s.list)))) ++ map in_links
        (below (length (free_part k s.list))))))
    every = unmap (places k hs s) holds

    after_list : Each T (map in_gens (below (length hs))
        ++ (map in_pairs (below (length (pairs_of (length s.list)))) ++ map in_links
        (below (length (free_part k s.list)))))
    after_list = each-right T (map in_list (below (length s.list))) _ every

    after_gens : Each T (map in_pairs (below (length (pairs_of (length s.list)))) ++ map in_links
        (below (length (free_part k s.list))))
    after_gens = each-right T (map in_gens (below (length hs))) _ after_list

    pub all_hold : StageHolds (front_of c b kind) (starting program c r b kind)
        (stage_of c r b kind)
    all_hold = record {
      list = λ i l. each_mapped T in_list (below (length s.list)) i
          (each-left T (map in_list (below (length s.list))) _ every) (among (length s.list) i l);
      gens = λ i l. each_mapped T in_gens (below (length hs)) i
          (each-left T (map in_gens (below (length hs))) _ after_list) (among (length hs) i l);
      pairs = λ i l. each_mapped T in_pairs (below (length (pairs_of (length s.list)))) i
          (each-left T (map in_pairs (below (length (pairs_of (length s.list))))) _ after_gens)
          (among (length (pairs_of (length s.list))) i l);
      links = λ i l. each_mapped T in_links (below (length (free_part k s.list))) i
          (each-right T (map in_pairs (below (length (pairs_of (length s.list))))) _ after_gens)
          (among (length (free_part k s.list)) i l);
    }

  orbit_part : (r b : ℕ) → Each Q (branch_parts program c r b)
      → Each Q (stage_parts program c r b orbit)
  unfolding branch_parts
  orbit_part r zero h = h
  orbit_part r (suc b) h = each-left Q (stage_parts program c r (suc b) orbit)
      (stage_parts program c r (suc b) meet) h

  meet_part : (r b : ℕ) → Each Q (branch_parts program c r (suc b))
      → Each Q (stage_parts program c r (suc b) meet)
  unfolding branch_parts
  meet_part r b h = each-right Q (stage_parts program c r (suc b) orbit)
      (stage_parts program c r (suc b) meet) h

  pub orbit_holds : (r b : ℕ) → r < length c.rounds → b < length program.branches
      → StageHolds (front_of c b orbit) (starting program c r b orbit) (stage_of c r b orbit)
  orbit_holds r b k l = all_hold r b orbit (orbit_part r b (branch_holds r b k l))

  pub meet_holds : (r b : ℕ) → r < length c.rounds → suc b < length program.branches
      → StageHolds 1 (starting program c r (suc b) meet) (stage_of c r (suc b) meet)
  meet_holds r b k l = all_hold r (suc b) meet (meet_part r b (branch_holds r (suc b) k l))
