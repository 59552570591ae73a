-- A full certificate is valid where its certificate is, and its forms, its start, its stages and its end hold.
--   each_flat_map      what holds of each of the lists holds of each of a flat map
--   pairs_below        the pairs of places below n have the lower one first
--   all_parts
use Rattle.std.proofs.Common.{ℕ, zero, suc, ◌-◌, ◌<◌, List, [], ◌∷◌, map, flat_map, length, arith}
use Rattle.algebra.specs.Each.{Each}
use Rattle.algebra.proofs.Each.{each-append, each-map}
use Rattle.exponentials.specs.Table.{numbers}
use Rattle.exponentials.proofs.Table.{each_number}
use Rattle.machines.specs.Elimination.{free_part}
use Rattle.loops.specs.Program.{Expr, Program}
use Rattle.loops.specs.Certificate.{IsValid}
use Rattle.rounds.specs.Start.{start_list}
use Rattle.corollaries.specs.Representation.{pairs_of}
use Rattle.corollaries.specs.Stage.{Place, in_list, in_gens, in_pairs, in_links, StageHolds, below, places}
use Rattle.corollaries.specs.Full.{FullCertificate, Kind, orbit, meet, certificate, stage_of, front_of, starting}
use Rattle.corollaries.specs.Parts.{Part, in_basis, in_steps, in_forms, in_start, in_round, at_end, Holds, stage_parts, branch_parts, parts, AllHold}

pub each_flat_map : {X Y : Type 0} (P : Y → Type 0) (f : X → List Y) (xs : List X)
    → Each (λ x. Each P (f x)) xs → Each P (flat_map f xs)
unfolding Each
each_flat_map P f [] h = tt
each_flat_map P f (x ∷ xs) h = each-append P (f x) (flat_map f xs) h.0 (each_flat_map P f xs h.1)

pub pairs_below : (n : ℕ) → Each (λ (a : ℕ × ℕ). (a.0 < a.1) × (a.1 < n)) (pairs_of n)
unfolding pairs_of
pairs_below n = each_flat_map (λ (a : ℕ × ℕ). (a.0 < a.1) × (a.1 < n))
    (λ i. map (λ j. (i, j)) (numbers (suc i) (n - suc i))) (numbers 0 n)
    (each_number (λ i. Each (λ (a : ℕ × ℕ). (a.0 < a.1) × (a.1 < n))
    (map (λ j. (i, j)) (numbers (suc i) (n - suc i)))) 0 n
    (λ i l h. each-map (λ (a : ℕ × ℕ). (a.0 < a.1) × (a.1 < n)) (λ j. (i, j))
    (numbers (suc i) (n - suc i))
    (each_number (λ j. (i < j) × (j < n)) (suc i) (n - suc i) (λ j k g.
    (omega (arith, k), omega (arith, g, k))))))

below_each : (P : ℕ → Type 0) (n : ℕ) → ((i : ℕ) → i < n → P i) → Each P (below n)
below_each P n h = each_number P 0 n (λ i l g. h i (omega (arith, g)))

module _ {At : Type 0} (program : Program (Expr At)) (c : FullCertificate)
    (valid : IsValid program (certificate c))
    (forms : (b : ℕ) → b < length program.branches → Holds program c (in_forms b))
    (start : (i : ℕ) → i < length (start_list program) → Holds program c (in_start i))
    (orbits : (r b : ℕ) → r < length c.rounds → b < length program.branches
    → StageHolds (front_of c b orbit) (starting program c r b orbit) (stage_of c r b orbit))
    (meets : (r b : ℕ) → r < length c.rounds → suc b < length program.branches
    → StageHolds (front_of c (suc b) meet) (starting program c r (suc b) meet)
    (stage_of c r (suc b) meet))
    (end : Holds program c at_end) where
  abbrev Q : Part → Type 0
  Q = Holds program c

  mapped : (f : ℕ → Part) (n : ℕ) → ((i : ℕ) → i < n → Q (f i)) → Each Q (map f (below n))
  mapped f n h = each-map Q f (below n) (below_each (λ i. Q (f i)) n h)

  flat : (f : ℕ → List Part) (n : ℕ) → ((i : ℕ) → i < n → Each Q (f i))
      → Each Q (flat_map f (below n))
  flat f n h = each_flat_map Q f (below n) (below_each (λ i. Each Q (f i)) n h)

  placed : (r b : ℕ) (kind : Kind) → StageHolds (front_of c b kind) (starting program c r b kind)
      (stage_of c r b kind) → Each Q (stage_parts program c r b kind)
  placed r b kind s =
      let P : Place → Type 0 = λ place. Q (in_round r b kind place) in
      let spots : (f : ℕ → Place) (n : ℕ) → ((i : ℕ) → i < n → P (f i)) → Each P (map f (below n)) =
      λ f n h. each-map P f (below n) (below_each (λ i. P (f i)) n h) in
      each-map Q (in_round r b kind) (places (front_of c b kind)
      (starting program c r b kind) (stage_of c r b kind))
      (each-append P _ _ (spots in_list (length (stage_of c r b kind).list) s.list)
      (each-append P _ _ (spots in_gens (length (starting program c r b kind)) s.gens)
      (each-append P _ _ (spots in_pairs (length (pairs_of (length (stage_of c r b kind).list)))
      s.pairs)
      (spots in_links (length (free_part (front_of c b kind) (stage_of c r b kind).list))
      s.links))))

  branch : (r b : ℕ) → r < length c.rounds → b < length program.branches
      → Each Q (branch_parts program c r b)
  unfolding branch_parts
  branch r zero k l = placed r 0 orbit (orbits r 0 k l)
  branch r (suc b) k l = each-append Q _ _ (placed r (suc b) orbit (orbits r (suc b) k l))
      (placed r (suc b) meet (meets r b k l))

  pub all_parts : AllHold program c
  unfolding parts Each
  all_parts = record {
    each = each-append Q _ _ (mapped in_basis (length c.basis) valid.starts)
        (each-append Q _ _ (flat (λ b. map (in_steps b) (below (length c.basis)))
        (length program.branches) (λ b k. mapped (in_steps b) (length c.basis) (λ e l.
        valid.steps b e k l)))
        (each-append Q _ _ (mapped in_forms (length program.branches) forms)
        (each-append Q _ _ (mapped in_start (length (start_list program)) start)
        (each-append Q _ _
        (flat (λ r. flat_map (branch_parts program c r) (below (length program.branches)))
        (length c.rounds) (λ r k. flat (branch_parts program c r) (length program.branches)
        (λ b l. branch r b k l)))
        (end, tt)))));
  }
