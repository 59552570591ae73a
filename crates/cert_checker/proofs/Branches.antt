-- The stages of a branch, and the branches of a round.
--   before_none                    the list before the first round
--   round_at, branch_at, round_size     rounds and branches of the code at their places
--   given_is, before_is            the lists that the code takes are those of the definition
--   stage_all, stage_stops         what is told of the places of a stage, of the parts
--   orbit_alone, both_hold         the stages of a branch hold
--   orbit_stops, meet_stops        where they stop
use Rattle.std.proofs.Math.Path.{subst₃}
use Rattle.std.proofs.Common.{◌≡◌, ℕ, zero, suc, ◌-◌, ◌<◌, List, [], ◌++◌, get_or, length, true, true≢false, refl, sym, ap, ◌∙◌, inl, inr, arith}
use Rattle.std.specs.Prelude.{pred, Option, Some, None, is_some, Vec, vec_len}
use Rattle.std.specs.declared.alloc.Global.{Global}
use Rattle.std.proofs.lemmas.List.{append-nil, get_or-map, length-map}
use Rattle.algebra.specs.Each.{Each}
use Rattle.algebra.proofs.Each.{each-append, each-map}
use Rattle.algebra.specs.Fraction.{Fraction}
use Rattle.polynomials.specs.Terms.{Terms}
use Rattle.loops.specs.Program.{Expr, Program}
use Rattle.corollaries.specs.Stage.{Stage, Place, in_list, in_gens, in_pairs, in_links, HoldsAt, places}
use Rattle.corollaries.specs.Full.{FullCertificate, orbit, meet, of_option, stage_of, so_far, before, front_of, starting}
use Rattle.corollaries.specs.Parts.{Part, in_round, Holds, stage_parts, branch_parts}
use Rattle.corollaries.specs.Counts.{IsCounted, no_branch}
use Rattle.task_lists.specs.View.{branch_in, round_in, full_of}
use Rattle.task_lists.specs.declared.parts.FullBranch.{FullBranch}
use Rattle.task_lists.specs.declared.parts.FullCert.{FullCert}
use Rattle.cert_checker.specs.InverseForm.{given_by, given_list}
use Rattle.cert_checker.specs.Parts.{part_of, place_of, kind_of, stage_part}
use Rattle.cert_checker.specs.StageParts.{IsPastPlace}
use Rattle.cert_checker.specs.FullStops.{IsStop, stop_map}
use Rattle.cert_checker.specs.FullWide.{IsPastPart, IsPastBegun}
use Rattle.cert_checker.specs.declared.full_part.Kind.{Kind}
use Rattle.cert_checker.specs.declared.full_part.RowPlace.{RowPlace as Found}
use Rattle.cert_checker.specs.declared.full_part.Part.{Part as FoundPart}
use Rattle.cert_checker.specs.declared.full_stop.Stop.{Stop}
use Rattle.cert_checker.proofs.Stopping.{stop_in, stop_mapped, stop_weaker}

-- ---- lists
given_some : (s : Stage) (o : Option Stage) → is_some o ≡ true → given_by s o ≡ (of_option o).out
given_some s None e = absurd (true≢false (sym e))
given_some s (Some t) e = refl

module _ (program : Program (Expr ℕ)) (c : FullCertificate) (counted : IsCounted program c) where
  pub given_is : (r b : ℕ) → r < length c.rounds → b < length program.branches
      → given_list (get_or (get_or c.rounds r []) b no_branch) ≡ so_far c r b
  unfolding so_far
  given_is r zero k l = ap (given_by (stage_of c r 0 orbit)) (counted.first r k l)
  given_is r (suc b) k l = given_some (stage_of c r (suc b) orbit) _
      (counted.others r (suc b) k (omega arith) l)

  pub before_is : (r : ℕ) → 0 < r
      → before program c r ≡ so_far c (r - 1) (pred (length program.branches))
  unfolding before
  before_is zero l = absurd (omega arith)
  before_is (suc r) l =
      let e : r ≡ suc r - 1 = omega arith in
      ap (λ k. so_far c k (pred (length program.branches))) e

pub before_none : {At : Type 0} (program : Program (Expr At)) (c : FullCertificate) (r : ℕ)
    → r ≡ 0 → c.start_out ≡ before program c r
unfolding before
before_none program c zero e = refl
before_none program c (suc r) e = absurd (omega (arith, e))

-- of the code
module _ (cert : FullCert) (r : ℕ) (round : Vec FullBranch Global)
    (l : r < length cert.rounds.items) (is : round ≡ get_or cert.rounds.items r round) where
  pub round_at : round_in round ≡ get_or (full_of cert).rounds r []
  round_at = ap round_in is ∙ sym (get_or-map round_in cert.rounds.items r round [] l)

  pub branch_at : (b : ℕ) (branch : FullBranch) → b < length round.items
      → branch ≡ get_or round.items b branch
      → branch_in branch ≡ get_or (get_or (full_of cert).rounds r []) b no_branch
  branch_at b branch k at = ap branch_in at
      ∙ sym (get_or-map branch_in round.items b branch no_branch k)
      ∙ ap (λ xs. get_or xs b no_branch) round_at

  pub round_size : {At : Type 0} (program : Program (Expr At)) → IsCounted program (full_of cert)
      → vec_len round ≡ length program.branches
  round_size program counted = round.ok.0 ∙ sym (length-map round.items branch_in)
      ∙ ap length round_at ∙ counted.rounds r []
      (let n = length-map cert.rounds.items round_in in omega (arith, l, n))

pub last_branch : (n : ℕ) → pred n ≡ n - 1
last_branch zero = refl
last_branch (suc n) = omega arith

-- ---- the places of a stage
place_weaker : (V W : ℕ → Type 0) → ((i : ℕ) → V i → W i) → (s : Stage) (p : Place)
    → IsPastPlace V s p → IsPastPlace W s p
place_weaker V W h s (in_list i) x = x
place_weaker V W h s (in_gens i) (inl x) = inl (h i x)
place_weaker V W h s (in_gens i) (inr x) = inr x
place_weaker V W h s (in_pairs i) x = x
place_weaker V W h s (in_links i) x = x

module _ (program : Program (Expr ℕ)) (c : FullCertificate) where
  abbrev P : Part → Type 0
  P = Holds program c

  abbrev W : Part → Type 0
  W = IsPastPart program c

  module _ (r b : ℕ) (found : Kind) {k : ℕ} {hs : List (Terms Fraction)} {s : Stage}
      (e : k ≡ front_of c b (kind_of found)) (f : hs ≡ starting program c r b (kind_of found))
      (g : s ≡ stage_of c r b (kind_of found)) where
    pub stage_all : Each (HoldsAt k hs s) (places k hs s)
        → Each P (stage_parts program c r b (kind_of found))
    stage_all h = each-map P (in_round r b (kind_of found)) _
        (subst₃ (λ x y z. Each (HoldsAt x y z) (places x y z)) e f g h)

    pub stage_stops : (begun : ℕ → Type 0)
        → ((i : ℕ) → begun i → IsPastBegun program c r b (kind_of found) i) → (stop : Stop Found)
        → IsStop place_of (HoldsAt k hs s) (IsPastPlace begun s) (places k hs s) stop
        → IsStop part_of P W (stage_parts program c r b (kind_of found))
        (stop_map (stage_part r b found) stop)
    stage_stops begun past stop h = stop_mapped place_of part_of P W (in_round r b (kind_of found))
        (stage_part r b found) (λ q. refl) _ stop
        (subst₃ (λ x y z. IsStop place_of (HoldsAt x y z)
        (IsPastPlace (IsPastBegun program c r b (kind_of found)) z) (places x y z) stop) e f g
        (stop_weaker place_of (HoldsAt k hs s) (IsPastPlace begun s) _ (place_weaker begun _ past s)
        _ stop h))

  -- ---- the stages of a branch
  pub orbit_alone : (r b : ℕ) → b ≡ 0 → Each P (stage_parts program c r b orbit)
      → Each P (branch_parts program c r b)
  unfolding branch_parts
  orbit_alone r zero e h = h
  orbit_alone r (suc b) e h = absurd (omega arith)

  pub both_hold : (r b : ℕ) → 0 < b → Each P (stage_parts program c r b orbit)
      → Each P (stage_parts program c r b meet) → Each P (branch_parts program c r b)
  unfolding branch_parts
  both_hold r zero l h k = absurd (omega arith)
  both_hold r (suc b) l h k = each-append P _ _ h k

  pub orbit_stops : (r b : ℕ) (e : Stop FoundPart)
      → IsStop part_of P W (stage_parts program c r b orbit) e
      → IsStop part_of P W (branch_parts program c r b) e
  unfolding branch_parts Each
  orbit_stops r zero e s = s
  orbit_stops r (suc b) e s = stop_in _ _ W _ [] _ _ refl tt e s

  pub meet_stops : (r b : ℕ) → 0 < b → Each P (stage_parts program c r b orbit)
      → (e : Stop FoundPart) → IsStop part_of P W (stage_parts program c r b meet) e
      → IsStop part_of P W (branch_parts program c r b) e
  unfolding branch_parts
  meet_stops r zero l h e s = absurd (omega arith)
  meet_stops r (suc b) l h e s = stop_in _ _ W _ _ _ []
      (ap (λ ps. stage_parts program c r (suc b) orbit ++ ps)
      (sym (append-nil (stage_parts program c r (suc b) meet)))) h e s
