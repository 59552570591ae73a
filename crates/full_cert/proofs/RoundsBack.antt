-- The rounds of a full certificate that are written are read as themselves.
--   AreStagesReadable program c     the polynomials of its stages are readable
--   rounds_read      the rounds, where they have as many of all as they must
use Rattle.std.proofs.Common.{◌≡◌, ℕ, zero, suc, ◌+◌, ◌<◌, List, [], ◌∷◌, length, map, get_or, pred, refl, sym, ap, subst, ◌∙◌, arith, Ok}
use Rattle.std.specs.Prelude.{true, Option, Some, None, codes, is_some}
use Rattle.std.specs.Option.{ok_or, option_map_or}
use Rattle.serde_json.specs.Data.{Data}
use Rattle.serde_json.specs.View.{items_of}
use Rattle.serde_json.specs.Find.{get}
use Rattle.serde_json.proofs.OnLiterals.{serde_json_on_literals}
use Rattle.polynomials.specs.Order.{IsMonomialOrder, grevlex}
use Rattle.polynomials.proofs.Orders.{grevlex_order, blocks_order}
use Rattle.loops.specs.Program.{Expr, Program}
use Rattle.rounds.specs.Form.{front}
use Rattle.cert_form.specs.Form.{Reading, after, part, shape}
use Rattle.cert_form.specs.Path.{member_path}
use Rattle.cert_form.specs.Written.{list_data}
use Rattle.corollaries.specs.Stage.{Stage, block_order}
use Rattle.corollaries.specs.Full.{FullCertificate, WrittenForm, BranchStages, orbit, meet, form_of, stage_of, front_of, of_option, so_far, before}
use Rattle.corollaries.specs.Counts.{IsStageCounted, no_branch, IsCounted}
use Rattle.full_cert.specs.PartsForm.{object_at}
use Rattle.full_cert.specs.Form.{member_stage, meet_at, branch_at, given_by, branches_at, last_given, rounds_at, rounds_in}
use Rattle.full_cert.proofs.Counted.{no_form, AreBranches, as_many, AreRounds, last_of, orbit_begins, meet_begins}
use Rattle.full_cert.specs.Written.{stage_data, with_meet, branch_data, round_data}
use Rattle.cert_form.proofs.Documents.{on_read}
use Rattle.cert_form.proofs.ReadingBack.{with_count}
use Rattle.full_cert.proofs.PartsBack.{IsStageReadable, stage_reads}

block_is_order : (k : ℕ) → IsMonomialOrder (block_order k)
block_is_order k = blocks_order k grevlex grevlex grevlex_order grevlex_order

-- ---- a branch
abbrev HasMeet : ℕ → Option ℕ → ℕ → Option Stage → Type 0
HasMeet m None given o = o ≡ None
HasMeet m (Some n) given o = (t : Stage) × (o ≡ Some t) × IsStageReadable 1 m t
    × IsStageCounted 1 (n + given) t

record IsBranchReadable (m before : ℕ) (so_far : Option ℕ) (f : WrittenForm) (s : BranchStages)
    : Type 0 where
  orbit : IsStageReadable (front (length f.base)) m s.orbit_stage
  counted : IsStageCounted (front (length f.base)) (before + suc (length f.base)) s.orbit_stage
  meet : HasMeet m so_far (length s.orbit_stage.out) s.meet_stage

module _ (d : Data) where
  at_orbit : (o : Option Stage) → get (codes "orbit") (with_meet o d) ≡ Some d
  unfolding serde_json_on_literals
  at_orbit None = refl
  at_orbit (Some t) = refl

  at_meet : (t : Stage) → get (codes "meet") (with_meet (Some t) d) ≡ Some (stage_data t)
  unfolding serde_json_on_literals
  at_meet t = refl

member_reads : (k m n : ℕ) (path name : List ℕ) (d : Data) (s : Stage)
    → get name d ≡ Some (stage_data s) → IsStageReadable k m s → IsStageCounted k n s
    → member_stage k m n path name d ≡ Ok s
member_reads k m n path name d s there h c =
    on_read _ (ap (λ x. ok_or x (shape (member_path path name))) there)
    ∙ stage_reads k m n (member_path path name) s (block_is_order k) h c

an_object : (o : Option Stage) (d : Data) (path : List ℕ) (r : Reading BranchStages)
    → object_at path (with_meet o d) r ≡ r
an_object None d path r = refl
an_object (Some t) d path r = refl

meet_reads : (m : ℕ) (so_far : Option ℕ) (given : ℕ) (path : List ℕ) (o : Option Stage) (d : Data)
    → HasMeet m so_far given o → meet_at m so_far given path (with_meet o d) ≡ Ok o
meet_reads m None given path o d h = ap (λ x. Ok x) (sym h)
meet_reads m (Some n) given path o d h =
    let there : get (codes "meet") (with_meet o d) ≡ Some (stage_data h.0) =
    subst (λ x. get (codes "meet") (with_meet x d) ≡ Some (stage_data h.0)) (sym h.1)
    (at_meet d h.0) in
    on_read _ (member_reads 1 m (n + given) path (codes "meet") (with_meet o d) h.0 there h.2 h.3)
    ∙ ap (λ x. Ok x) (sym h.1)

branch_reads : (m before : ℕ) (so_far : Option ℕ) (f : WrittenForm) (path : List ℕ)
    (s : BranchStages)
    → IsBranchReadable m before so_far f s
    → branch_at m before so_far f path (branch_data s) ≡ Ok s
branch_reads m before so_far f path s h =
    let d : Data = stage_data s.orbit_stage in
    an_object s.meet_stage d path _
    ∙ on_read _ (member_reads (front (length f.base)) m (before + suc (length f.base)) path
    (codes "orbit") (branch_data s) s.orbit_stage (at_orbit d s.meet_stage) h.orbit h.counted)
    ∙ on_read _ (meet_reads m so_far (length s.orbit_stage.out) path s.meet_stage d h.meet)

-- ---- branches and rounds, one after another
abbrev AreBranchesReadable : ℕ → ℕ → Option ℕ → List WrittenForm → List BranchStages → Type 0
AreBranchesReadable m before = AreBranches (IsBranchReadable m before)

abbrev AreRoundsReadable : ℕ → ℕ → List WrittenForm → List (List BranchStages) → Type 0
AreRoundsReadable m before fs = AreRounds (λ n. AreBranchesReadable m n None fs) before

branches_read : (m before : ℕ) (so_far : Option ℕ) (fs : List WrittenForm) (path : List ℕ) (b : ℕ)
    (ss : List BranchStages) → AreBranchesReadable m before so_far fs ss
    → branches_at m before so_far fs path b (items_of (map branch_data ss)) ≡ Ok ss
branches_read m before so_far [] path b [] h = refl
branches_read m before so_far [] path b (s ∷ ss) h = absurd h
branches_read m before so_far (f ∷ fs) path b [] h = absurd h
branches_read m before so_far (f ∷ fs) path b (s ∷ ss) h =
    on_read _ (branch_reads m before so_far f (part path b) s h.0)
    ∙ ap (after (s ∷ []))
    (branches_read m before (Some (given_by s)) fs path (suc b) ss h.1)

each_round_reads : (m before : ℕ) (fs : List WrittenForm) (path : List ℕ) (r : ℕ)
    (rows : List (List BranchStages)) → AreRoundsReadable m before fs rows
    → rounds_at m before fs path r (items_of (map round_data rows)) ≡ Ok rows
each_round_reads m before fs path r [] h = refl
each_round_reads m before fs path r (row ∷ rows) h =
    on_read _ (on_read _ (ap (λ o. ok_or o (shape (part path r)))
    (with_count branch_data row (as_many (IsBranchReadable m before) None fs row h.0)))
    ∙ branches_read m before None fs (part path r) 0 row h.0)
    ∙ ap (after (row ∷ []))
    (each_round_reads m (last_given before row) fs path (suc r) rows h.1)

-- ---- from what each place has
branches_are_read_from : (m before : ℕ) (told : ℕ → Option ℕ) (fs : List WrittenForm)
    (ss : List BranchStages)
    → length ss ≡ length fs
    → ((b : ℕ) → b < length fs
    → IsBranchReadable m before (told b) (get_or fs b no_form) (get_or ss b no_branch))
    → ((b : ℕ) → b < length fs → told (suc b) ≡ Some (given_by (get_or ss b no_branch)))
    → AreBranchesReadable m before (told 0) fs ss
branches_are_read_from m before told [] [] many each next = tt
branches_are_read_from m before told [] (s ∷ ss) many each next = absurd (omega (arith, many))
branches_are_read_from m before told (f ∷ fs) [] many each next = absurd (omega (arith, many))
branches_are_read_from m before told (f ∷ fs) (s ∷ ss) many each next = (
  each 0 (omega arith),
  subst (λ x. AreBranchesReadable m before x fs ss) (next 0 (omega arith))
      (branches_are_read_from m before (λ b. told (suc b)) fs ss (omega (arith, many))
      (λ b l. each (suc b) (omega (arith, l))) (λ b l. next (suc b) (omega (arith, l)))),
)

rounds_from : (m : ℕ) (told : ℕ → ℕ) (fs : List WrittenForm) (rows : List (List BranchStages))
    → ((r : ℕ) → r < length rows → AreBranchesReadable m (told r) None fs (get_or rows r []))
    → ((r : ℕ) → r < length rows → told (suc r) ≡ last_given (told r) (get_or rows r []))
    → AreRoundsReadable m (told 0) fs rows
rounds_from m told fs [] each next = tt
rounds_from m told fs (row ∷ rows) each next = (
  each 0 (omega arith),
  subst (λ n. AreRoundsReadable m n fs rows) (next 0 (omega arith))
      (rounds_from m (λ r. told (suc r)) fs rows (λ r l. each (suc r) (omega (arith, l)))
      (λ r l. next (suc r) (omega (arith, l)))),
)

-- ---- the certificate
module _ {At : Type 0} (program : Program (Expr At)) (c : FullCertificate) where
  abbrev m : ℕ
  m = length program.names

  abbrev n : ℕ
  n = length program.branches

  pub record AreStagesReadable : Type 0 where
    pub orbit : (r b : ℕ) → r < length c.rounds → b < n
        → IsStageReadable (front_of c b orbit) m (stage_of c r b orbit)
    pub meet : (r b : ℕ) → r < length c.rounds → b < n → 0 < b
        → IsStageReadable 1 m (stage_of c r b meet)

  module _ (counted : IsCounted program c) (readable : AreStagesReadable) (r : ℕ)
      (within : r < length c.rounds) where
    abbrev row : List BranchStages
    row = get_or c.rounds r []

    abbrev told : ℕ → Option ℕ
    told zero = None
    told (suc b) = Some (length (so_far c r b))

    row_many : length row ≡ n
    row_many = counted.rounds r [] within

    some_meet : (o : Option Stage) → is_some o ≡ true → o ≡ Some (of_option o)
    some_meet None e = absurd (cc)
    some_meet (Some t) e = refl

    given : (b : ℕ) → b < n → length (so_far c r b) ≡ given_by (get_or row b no_branch)
    unfolding so_far
    given zero l = sym (ap (λ x. option_map_or (λ (s : Stage). length s.out) x
        (length (get_or row 0 no_branch).orbit_stage.out)) (counted.first r within l))
    given (suc b) l = sym (ap (λ x. option_map_or (λ (s : Stage). length s.out) x
        (length (get_or row (suc b) no_branch).orbit_stage.out))
        (some_meet (get_or row (suc b) no_branch).meet_stage
        (counted.others r (suc b) within (omega arith) l)))

    branch_at_place : (b : ℕ) → b < n
        → IsBranchReadable m (length (before program c r)) (told b) (get_or c.forms b no_form)
        (get_or row b no_branch)
    branch_at_place zero l = record {
      orbit = readable.orbit r 0 within l;
      counted = subst (λ k. IsStageCounted (front (length (form_of c 0).base)) k
          (stage_of c r 0 orbit)) (orbit_begins program c r 0) (counted.stages r 0 within l).orbit;
      meet = counted.first r within l;
    }
    branch_at_place (suc b) l = record {
      orbit = readable.orbit r (suc b) within l;
      counted = subst (λ k. IsStageCounted (front (length (form_of c (suc b)).base)) k
          (stage_of c r (suc b) orbit)) (orbit_begins program c r (suc b))
          (counted.stages r (suc b) within l).orbit;
      meet = (
        stage_of c r (suc b) meet,
        some_meet (get_or row (suc b) no_branch).meet_stage
            (counted.others r (suc b) within (omega arith) l),
        readable.meet r (suc b) within l (omega arith),
        subst (λ k. IsStageCounted 1 k (stage_of c r (suc b) meet)) (meet_begins program c r b)
            ((counted.stages r (suc b) within l).meet (omega arith)),
      );
    }

    round_readable : AreBranchesReadable m (length (before program c r)) None c.forms row
    round_readable =
        let many : length c.forms ≡ n = counted.forms in
        branches_are_read_from m (length (before program c r)) told c.forms row (row_many
        ∙ sym many)
        (λ b l. branch_at_place b (omega (arith, l, many)))
        (λ b l. ap Some (given b (omega (arith, l, many))))

    goes_on : 0 < n → length (before program c (suc r))
        ≡ last_given (length (before program c r)) row
    unfolding before
    goes_on some =
        let many : length row ≡ n = row_many in
        given (pred n) (omega (arith, some))
        ∙ ap (λ k. given_by (get_or row (pred k) no_branch)) (sym many)
        ∙ sym (last_of (length (before program c r)) row (omega (arith, some, many)))

  rounds_readable : IsCounted program c → AreStagesReadable → 0 < n
      → AreRoundsReadable m (length (before program c 0)) c.forms c.rounds
  rounds_readable counted readable some =
      rounds_from m (λ r. length (before program c r)) c.forms c.rounds
      (round_readable counted readable) (λ r l. goes_on counted readable r l some)

  first_before : length (before program c 0) ≡ length c.start_out
  unfolding before
  first_before = refl

  pub rounds_read : IsCounted program c → AreStagesReadable → 0 < n → (path : List ℕ)
      → rounds_in m (length c.start_out) c.forms path (Some (list_data round_data c.rounds))
      ≡ Ok c.rounds
  rounds_read counted readable some path =
      each_round_reads m (length c.start_out) c.forms path 0 c.rounds
      (subst (λ k. AreRoundsReadable m k c.forms c.rounds) first_before
      (rounds_readable counted readable some))
