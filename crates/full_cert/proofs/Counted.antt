-- A full certificate that was read has as many of all as it must.
--   counted_in         the full certificate in the bytes
--   AreBranches P n fs ss   P of each branch, by how many polynomials the list so far has, its form and its stages;  AreRounds P n rows: of each round
--   as_many            stages that have a form each are as many
--   same_ok            a reading reads one value
--   last_of            how many polynomials the last list of a round has;  orbit_begins, meet_begins: how many stages begin with
use Rattle.std.proofs.Common.{◌≡◌, ℕ, zero, suc, ◌+◌, ◌<◌, ◌≤◌, true, List, [], ◌∷◌, map, length, get_or, pred, Ok, refl, sym, ap, ap₂, subst, ◌∙◌, arith}
use Rattle.std.specs.Prelude.{All, Option, Some, None, option_and_then, is_some, codes}
use Rattle.std.specs.Option.{ok_or, option_map_or}
use Rattle.std.proofs.lemmas.List.{length-append, length-map}
use Rattle.std.proofs.lemmas.List.Elements.{All-nil, All-cons}
use Rattle.serde_json.specs.Data.{Data, Items, no_items, item}
use Rattle.serde_json.specs.Find.{get, as_object}
use Rattle.algebra.specs.Fraction.{Fraction, rationals}
use Rattle.polynomials.specs.Order.{grevlex}
use Rattle.polynomials.specs.Terms.{Terms}
use Rattle.solvable_maps.specs.Iterations.{width}
use Rattle.loops.specs.Program.{Expr, Program}
use Rattle.machines.specs.Collect.{collect}
use Rattle.rounds.specs.Form.{front, orbit_order, relations, relations_to}
use Rattle.cert_form.specs.Form.{Reading, after, part, list_with, shape, not_json, document, has_version, has_names}
use Rattle.cert_form.specs.Path.{member_path}
use Rattle.cert_form.proofs.Readings.{on_ok, after_ok, expect_ok, parts_all, parts_count}
use Rattle.full_cert.specs.Raw.{raw_at}
use Rattle.full_cert.specs.Tables.{table_at, raws_at}
use Rattle.corollaries.specs.Stage.{Stage}
use Rattle.corollaries.specs.Full.{FullCertificate, WrittenForm, BranchStages, orbit, meet, form_of, stage_of, of_option, so_far, before, starting}
use Rattle.corollaries.specs.Counts.{IsStageCounted, IsSquare, no_branch, IsBranchCounted, IsCounted}
use Rattle.full_cert.specs.PartsForm.{stage_at, Start, start_at, start_there, block_at, steps_at, base_at, polys_at, form_at, forms_at}
use Rattle.full_cert.proofs.PartsCounted.{member_count, table_counted, stage_counted}
use Rattle.full_cert.specs.Form.{member_stage, orbit_at, meet_at, branch_at, given_by, branches_at, last_given, round_at, rounds_at, rounds_in, has_kind, parts_of, full_value, full_in}

abbrev pub no_form : WrittenForm
no_form = record { base = []; polys = [] }

-- ---- each list goes on from the one before
abbrev MeetFollows : ℕ → Option Stage → Type 0
MeetFollows n None = ⊥
MeetFollows n (Some t) = IsStageCounted 1 n t

abbrev MeetAs : Option ℕ → ℕ → Option Stage → Type 0
MeetAs None given o = o ≡ None
MeetAs (Some n) given o = MeetFollows (n + given) o

record BranchFollows (before : ℕ) (so_far : Option ℕ) (f : WrittenForm) (s : BranchStages) : Type
    0 where
  orbit : IsStageCounted (front (length f.base)) (before + suc (length f.base)) s.orbit_stage
  meet : MeetAs so_far (length s.orbit_stage.out) s.meet_stage

module _ (P : Option ℕ → WrittenForm → BranchStages → Type 0) where
  abbrev pub AreBranches : Option ℕ → List WrittenForm → List BranchStages → Type 0
  AreBranches so_far [] [] = Unit {0}
  AreBranches so_far [] (s ∷ ss) = ⊥
  AreBranches so_far (f ∷ fs) [] = ⊥
  AreBranches so_far (f ∷ fs) (s ∷ ss) = P so_far f s × AreBranches (Some (given_by s)) fs ss

  pub as_many : (so_far : Option ℕ) (fs : List WrittenForm) (ss : List BranchStages)
      → AreBranches so_far fs ss → length ss ≡ length fs
  as_many so_far [] [] h = refl
  as_many so_far [] (s ∷ ss) h = absurd h
  as_many so_far (f ∷ fs) [] h = absurd h
  as_many so_far (f ∷ fs) (s ∷ ss) h = ap suc (as_many (Some (given_by s)) fs ss h.1)

abbrev pub AreRounds : (ℕ → List BranchStages → Type 0) → ℕ → List (List BranchStages) → Type 0
AreRounds P before [] = Unit {0}
AreRounds P before (row ∷ rows) = P before row × AreRounds P (last_given before row) rows

abbrev BranchesFollow : ℕ → Option ℕ → List WrittenForm → List BranchStages → Type 0
BranchesFollow before = AreBranches (BranchFollows before)

abbrev RoundsFollow : ℕ → List WrittenForm → List (List BranchStages) → Type 0
RoundsFollow before fs = AreRounds (λ n. BranchesFollow n None fs) before

-- ---- what was read follows
member_counted : (k m gens : ℕ) (path name : List ℕ) (d : Data) (s : Stage)
    → member_stage k m gens path name d ≡ Ok s → IsStageCounted k gens s
member_counted k m gens path name d s h =
    let stage = on_ok (stage_at k m gens (member_path path name))
    (ok_or (get name d) (shape (member_path path name))) s h in
    stage_counted k m gens (member_path path name) stage.part s stage.gives

meet_follows : (m : ℕ) (so_far : Option ℕ) (given : ℕ) (path : List ℕ) (d : Data) (o : Option Stage)
    → meet_at m so_far given path d ≡ Ok o → MeetAs so_far given o
meet_follows m None given path d o h = cc
meet_follows m (Some n) given path d o h =
    let t = on_ok _ (member_stage 1 m (n + given) path (codes "meet") d) o h in
    let e = t.gives in
    let same : Some t.part ≡ o = cc in
    subst (MeetFollows (n + given)) same
    (member_counted 1 m (n + given) path (codes "meet") d t.part t.is)

branch_follows : (m before : ℕ) (so_far : Option ℕ) (f : WrittenForm) (path : List ℕ) (d : Data)
    (s : BranchStages) → branch_at m before so_far f path d ≡ Ok s → BranchFollows before so_far f s
branch_follows m before so_far f path d s h =
    let o = on_ok _ (orbit_at m before f path d) s (expect_ok (is_some (as_object d)) path _ s h) in
    let t = on_ok _ (meet_at m so_far (length o.part.out) path d) s o.gives in
    let e = t.gives in
    let same : record { orbit_stage = o.part; meet_stage = t.part } ≡ s = cc in
    subst (BranchFollows before so_far f) same (record {
      orbit = member_counted (front (length f.base)) m (before + suc (length f.base)) path
          (codes "orbit") d o.part o.is;
      meet = meet_follows m so_far (length o.part.out) path d t.part t.is;
    })

branches_follow : (m before : ℕ) (so_far : Option ℕ) (fs : List WrittenForm) (path : List ℕ) (b : ℕ)
    (ds : Items) (ss : List BranchStages) → branches_at m before so_far fs path b ds ≡ Ok ss
    → BranchesFollow before so_far fs ss
branches_follow m before so_far [] path b ds ss h =
    let same : [] ≡ ss = cc in subst (BranchesFollow before so_far []) same tt
branches_follow m before so_far (f ∷ fs) path b no_items ss h = absurd (cc)
branches_follow m before so_far (f ∷ fs) path b (item d ds) ss h =
    let first = on_ok (λ s. after (s ∷ [])
    (branches_at m before (Some (given_by s)) fs path (suc b) ds))
    (branch_at m before so_far f (part path b) d) ss h in
    let behind = after_ok (first.part ∷ [])
    (branches_at m before (Some (given_by first.part)) fs path (suc b) ds) ss first.gives in
    subst (BranchesFollow before so_far (f ∷ fs)) (sym behind.joined) (
      branch_follows m before so_far f (part path b) d first.part first.is,
      branches_follow m before (Some (given_by first.part)) fs path (suc b) ds behind.rest
          behind.is,
    )

rounds_follow : (m before : ℕ) (fs : List WrittenForm) (path : List ℕ) (r : ℕ) (ds : Items)
    (rows : List (List BranchStages)) → rounds_at m before fs path r ds ≡ Ok rows
    → RoundsFollow before fs rows
rounds_follow m before fs path r no_items rows h =
    let same : [] ≡ rows = cc in subst (RoundsFollow before fs) same tt
rounds_follow m before fs path r (item d ds) rows h =
    let first = on_ok (λ row. after (row ∷ [])
    (rounds_at m (last_given before row) fs path (suc r) ds))
    (round_at m before fs (part path r) d) rows h in
    let behind = after_ok (first.part ∷ [])
    (rounds_at m (last_given before first.part) fs path (suc r) ds) rows first.gives in
    let list = on_ok (branches_at m before None fs (part path r) 0)
    (ok_or (list_with (length fs) d) (shape (part path r))) first.part first.is in
    subst (RoundsFollow before fs) (sym behind.joined) (
      branches_follow m before None fs (part path r) 0 list.part first.part list.gives,
      rounds_follow m (last_given before first.part) fs path (suc r) ds behind.rest behind.is,
    )

-- ---- at a round, at a branch
abbrev at_round : ℕ → List (List BranchStages) → ℕ → ℕ
at_round before rows zero = before
at_round before [] (suc r) = before
at_round before (row ∷ rows) (suc r) = at_round (last_given before row) rows r

round_at_place : (before : ℕ) (fs : List WrittenForm) (rows : List (List BranchStages)) (r : ℕ)
    → RoundsFollow before fs rows → r < length rows
    → BranchesFollow (at_round before rows r) None fs (get_or rows r [])
round_at_place before fs [] r h l = absurd (omega arith)
round_at_place before fs (row ∷ rows) zero h l = h.0
round_at_place before fs (row ∷ rows) (suc r) h l =
    round_at_place (last_given before row) fs rows r h.1 (omega arith)

round_after : (before : ℕ) (rows : List (List BranchStages)) (r : ℕ) → r < length rows
    → at_round before rows (suc r) ≡ last_given (at_round before rows r) (get_or rows r [])
round_after before [] r l = absurd (omega arith)
round_after before (row ∷ rows) zero l = refl
round_after before (row ∷ rows) (suc r) l = round_after (last_given before row) rows r (omega arith)

-- how many the list so far has before a branch
abbrev so_far_at : Option ℕ → List BranchStages → ℕ → Option ℕ
so_far_at n ss zero = n
so_far_at n ss (suc b) = Some (given_by (get_or ss b no_branch))

branch_at_place : (before : ℕ) (n : Option ℕ) (fs : List WrittenForm) (ss : List BranchStages)
    (b : ℕ) → BranchesFollow before n fs ss → b < length fs
    → BranchFollows before (so_far_at n ss b) (get_or fs b no_form) (get_or ss b no_branch)
branch_at_place before n [] ss b h l = absurd (omega arith)
branch_at_place before n (f ∷ fs) [] b h l = absurd h
branch_at_place before n (f ∷ fs) (s ∷ ss) zero h l = h.0
branch_at_place before n (f ∷ fs) (s ∷ ss) (suc zero) h l =
    branch_at_place before (Some (given_by s)) fs ss zero h.1 (omega arith)
branch_at_place before n (f ∷ fs) (s ∷ ss) (suc (suc b)) h l =
    branch_at_place before (Some (given_by s)) fs ss (suc b) h.1 (omega arith)

last_is : (before : ℕ) (s : BranchStages) (ss : List BranchStages)
    → last_given before (s ∷ ss) ≡ given_by (get_or (s ∷ ss) (length ss) no_branch)
last_is before s [] = refl
last_is before s (t ∷ ss) = last_is (given_by s) t ss

pub last_of : (before : ℕ) (ss : List BranchStages) → 0 < length ss
    → last_given before ss ≡ given_by (get_or ss (pred (length ss)) no_branch)
last_of before [] l = absurd (omega arith)
last_of before (s ∷ ss) l = last_is before s ss

rows_are : (before : ℕ) (fs : List WrittenForm) (rows : List (List BranchStages))
    → RoundsFollow before fs rows → All (λ row. length row ≡ length fs) rows
rows_are before fs [] h = All-nil (λ row. length row ≡ length fs)
rows_are before fs (row ∷ rows) h = All-cons (λ row. length row ≡ length fs) row rows
    (as_many (BranchFollows before) None fs row h.0) (rows_are (last_given before row) fs rows h.1)

-- ---- an intersection
meet_counted : (n : ℕ) (o : Option Stage) → MeetFollows n o → IsStageCounted 1 n (of_option o)
meet_counted n None h = absurd h
meet_counted n (Some t) h = h

meet_there : (n : ℕ) (o : Option Stage) → MeetFollows n o → is_some o ≡ true
meet_there n None h = absurd h
meet_there n (Some t) h = refl

meet_gives : (n k : ℕ) (o : Option Stage) → MeetFollows n o
    → length (of_option o).out ≡ option_map_or (λ (s : Stage). length s.out) o k
meet_gives n k None h = absurd h
meet_gives n k (Some t) h = refl

none_gives : (k : ℕ) (o : Option Stage) → o ≡ None
    → k ≡ option_map_or (λ (s : Stage). length s.out) o k
none_gives k o e = sym (ap (λ x. option_map_or (λ (s : Stage). length s.out) x k) e)

-- ---- how many polynomials stages begin with
length-relations_to : (r w n : ℕ) → length (relations_to r w n) ≡ n
unfolding relations_to
length-relations_to r w zero = refl
length-relations_to r w (suc n) =
    length-append (relations_to r w n) (_ ∷ [])
    ∙ (let h = length-relations_to r w n in omega (arith, h))

module _ {At : Type 0} (program : Program (Expr At)) (c : FullCertificate) (r b : ℕ) where
  pub orbit_begins : length (starting program c r b orbit)
      ≡ length (before program c r) + suc (length (form_of c b).base)
  orbit_begins =
      let n : ℕ = length (form_of c b).base in
      let m : ℕ = length program.names in
      let told : Terms Fraction → Terms Fraction = collect rationals (orbit_order n) in
      length-append (map _ (before program c r)) (map told (relations n m))
      ∙ ap₂ ◌+◌ (length-map (before program c r) _)
      (length-map (relations n m) told ∙ ap suc (length-relations_to n (front n + m) n))

  pub meet_begins : length (starting program c r (suc b) meet)
      ≡ length (so_far c r b) + length (stage_of c r (suc b) orbit).out
  meet_begins =
      length-append (map _ (so_far c r b)) (map _ (stage_of c r (suc b) orbit).out)
      ∙ ap₂ ◌+◌ (length-map (so_far c r b) _) (length-map (stage_of c r (suc b) orbit).out _)

-- ---- the certificate
module _ {At : Type 0} (program : Program (Expr At)) (c : FullCertificate)
    (some : 0 < length program.branches) (forms : length c.forms ≡ length program.branches)
    (follows : RoundsFollow (length c.start_out) c.forms c.rounds) where
  module _ (r : ℕ) (within : r < length c.rounds) where
    abbrev row : List BranchStages
    row = get_or c.rounds r []

    in_row : BranchesFollow (at_round (length c.start_out) c.rounds r) None c.forms row
    in_row = round_at_place (length c.start_out) c.forms c.rounds r follows within

    here : (b : ℕ) → b < length program.branches
        → BranchFollows (at_round (length c.start_out) c.rounds r) (so_far_at None row b)
        (get_or c.forms b no_form) (get_or row b no_branch)
    here b l = branch_at_place (at_round (length c.start_out) c.rounds r) None c.forms row b in_row
        (omega (arith, l, forms))

    given_here : (b : ℕ) → b < length program.branches
        → length (so_far c r b) ≡ given_by (get_or row b no_branch)
    unfolding so_far
    given_here zero l = none_gives _ _ (here 0 l).meet
    given_here (suc b) l = meet_gives _ _ _ (here (suc b) l).meet

  before_is : (r : ℕ) → r ≤ length c.rounds
      → length (before program c r) ≡ at_round (length c.start_out) c.rounds r
  unfolding before
  before_is zero l = refl
  before_is (suc r) l =
      let within : r < length c.rounds = omega (arith, l) in
      let many : length (row r within) ≡ length program.branches =
      as_many (BranchFollows (at_round (length c.start_out) c.rounds r)) None c.forms (row r within)
      (in_row r within) ∙ forms in
      given_here r within (pred (length program.branches)) (omega (arith, some))
      ∙ ap (λ n. given_by (get_or (row r within) (pred n) no_branch)) (sym many)
      ∙ sym (last_of (at_round (length c.start_out) c.rounds r) (row r within)
      (omega (arith, some, many)))
      ∙ sym (round_after (length c.start_out) c.rounds r within)

  orbit_many : (r b : ℕ) → r ≤ length c.rounds
      → length (starting program c r b orbit)
      ≡ at_round (length c.start_out) c.rounds r + suc (length (form_of c b).base)
  orbit_many r b l = orbit_begins program c r b
      ∙ ap (λ k. k + suc (length (form_of c b).base)) (before_is r l)

  meet_many : (r b : ℕ) (within : r < length c.rounds) → suc b < length program.branches
      → length (starting program c r (suc b) meet)
      ≡ given_by (get_or (row r within) b no_branch) + length (stage_of c r (suc b) orbit).out
  meet_many r b within l = meet_begins program c r b
      ∙ ap (λ k. k + length (stage_of c r (suc b) orbit).out)
      (given_here r within b (omega (arith, l)))

  branch_counted : (r b : ℕ) → r < length c.rounds → b < length program.branches
      → IsBranchCounted program c r b
  branch_counted r zero w l = record {
    orbit = subst (λ n. IsStageCounted (front (length (form_of c 0).base)) n (stage_of c r 0 orbit))
        (sym (orbit_many r 0 (omega (arith, w)))) (here r w 0 l).orbit;
    meet = λ k. absurd (omega (arith, k));
  }
  branch_counted r (suc b) w l = record {
    orbit = subst (λ n. IsStageCounted (front (length (form_of c (suc b)).base)) n
        (stage_of c r (suc b) orbit)) (sym (orbit_many r (suc b) (omega (arith, w))))
        (here r w (suc b) l).orbit;
    meet = λ k. subst (λ n. IsStageCounted 1 n (stage_of c r (suc b) meet))
        (sym (meet_many r b w l)) (meet_counted _ _ (here r w (suc b) l).meet);
  }

  others_there : (r b : ℕ) (w : r < length c.rounds) → 0 < b → b < length program.branches
      → is_some (get_or (get_or c.rounds r []) b no_branch).meet_stage ≡ true
  others_there r zero w k l = absurd (omega (arith, k))
  others_there r (suc b) w k l = meet_there _ _ (here r w (suc b) l).meet

-- ---- the other parts
square : (m n : ℕ) (path : List ℕ) (d : Data) (rows : List (List (Terms Fraction)))
    → block_at m n path d ≡ Ok rows → IsSquare n rows
square m n path d rows h =
    let t = table_counted n n grevlex m path (Some d) rows h in
    record { height = t.height; widths = t.widths }

form_counted : (m : ℕ) (path : List ℕ) (d : Data) (f : WrittenForm) → form_at m path d ≡ Ok f
    → length f.polys ≡ m
form_counted m path d f h =
    let b = on_ok _ (base_at (member_path path (codes "base")) (get (codes "base") d)) f
    (expect_ok (is_some (as_object d)) path _ f h) in
    let p = on_ok _ (polys_at m (length b.part) path d) f b.gives in
    let e = p.gives in
    let same : record { base = b.part; polys = p.part } ≡ f = cc in
    subst (λ (x : WrittenForm). length x.polys ≡ m) same
    (parts_count (raw_at grevlex (width (length b.part) m)) _ m _ p.part
    (member_count m (get (codes "polys") d)) p.is)

record IsStart (equations : ℕ) (s : Start) : Type 0 where
  links : length s.1 ≡ equations
  widths : All (λ row. length row ≡ length s.0) s.1

start_counted : (m equations : ℕ) (path : List ℕ) (d : Data) (s : Start)
    → start_at m equations path d ≡ Ok s → IsStart equations s
start_counted m equations path d s h =
    let o = on_ok _ (raws_at grevlex m (member_path path (codes "out")) (get (codes "out") d)) s
    (expect_ok (is_some (as_object d)) path _ s h) in
    let l = on_ok _ (table_at equations (length o.part) grevlex m (member_path path (codes "links"))
    (get (codes "links") d)) s o.gives in
    let t = table_counted equations (length o.part) grevlex m _ _ l.part l.is in
    let e = l.gives in
    let same : (o.part, l.part) ≡ s = cc in
    subst (IsStart equations) same (record { links = t.height; widths = t.widths })

-- ---- the whole
pub same_ok : {A : Type 0} {a b : A} {r : Reading A} → r ≡ Ok a → r ≡ Ok b → a ≡ b
same_ok h k = cc

abbrev whole : List (Terms Fraction) → List (List (List (Terms Fraction))) → List WrittenForm
    → Start → List (List BranchStages) → FullCertificate
whole basis steps forms start rounds = record {
  basis = basis;
  steps = steps;
  forms = forms;
  start_out = start.0;
  start_links = start.1;
  rounds = rounds;
}

module _ {At : Type 0} (program : Program (Expr At)) where
  abbrev m : ℕ
  m = length program.names

  abbrev n : ℕ
  n = length program.branches

  parts_counted : (d : Data) (c : FullCertificate) → parts_of program d ≡ Ok c → IsCounted program c
  parts_counted d c h =
      let b = on_ok _ (raws_at grevlex m (codes "/basis") (get (codes "basis") d)) c h in
      let t = on_ok _ (steps_at m (length b.part) n (codes "/steps") (get (codes "steps") d)) c
      b.gives in
      let f = on_ok _ (forms_at m n (codes "/forms") (get (codes "forms") d)) c t.gives in
      let s = on_ok _ (start_there m (length program.init) (codes "/start")
      (get (codes "start") d)) c f.gives in
      let object = on_ok (start_at m (length program.init) (codes "/start"))
      (ok_or (get (codes "start") d) (shape (codes "/start"))) s.part s.is in
      let start = start_counted m (length program.init) (codes "/start") object.part s.part
      object.gives in
      let r = on_ok _ (rounds_in m (length s.part.0) f.part (codes "/rounds")
      (get (codes "rounds") d)) c s.gives in
      let list = on_ok (rounds_at m (length s.part.0) f.part (codes "/rounds") 0) _ r.part r.is in
      let follows = rounds_follow m (length s.part.0) f.part (codes "/rounds") 0 list.part r.part
      list.gives in
      let forms : length f.part ≡ n = parts_count (form_at m) (codes "/forms") n
      (option_and_then (list_with n) (get (codes "forms") d)) f.part
      (member_count n (get (codes "forms") d)) f.is in
      let made : FullCertificate = whole b.part t.part f.part s.part r.part in
      let same : made ≡ c = same_ok {r = Ok made} refl r.gives in
      subst (IsCounted program) same (record {
        steps = parts_count (block_at m (length b.part)) _ n _ t.part
            (member_count n (get (codes "steps") d)) t.is;
        squares = parts_all (block_at m (length b.part)) (IsSquare (length b.part))
            (square m (length b.part)) _ _ t.part t.is;
        forms = forms;
        polys = parts_all (form_at m) (λ (x : WrittenForm). length x.polys ≡ m) (form_counted m)
            (codes "/forms") (option_and_then (list_with n) (get (codes "forms") d)) f.part f.is;
        links = start.links;
        links_widths = start.widths;
        rounds = subst (λ k. All (λ row. length row ≡ k) r.part) forms
            (rows_are (length s.part.0) f.part r.part follows);
        first = λ i w some. (here program made some forms follows i w 0 some).meet;
        others = λ i j w k l. others_there program made (omega (arith, l)) forms follows i j w k l;
        stages = λ i j w l. branch_counted program made (omega (arith, l)) forms follows i j w l;
      })

  pub counted_in : (bytes : List ℕ) (c : FullCertificate) → full_in program bytes ≡ Ok c
      → IsCounted program c
  unfolding full_in
  counted_in bytes c h =
      let d = on_ok (full_value program) (ok_or (document bytes) not_json) c h in
      parts_counted d.part c
      (expect_ok (has_names program.names d.part) _ _ c (expect_ok (has_kind d.part) _ _ c
      (expect_ok (has_version 1 d.part) _ _ c (expect_ok (is_some (as_object d.part)) _ _ c
      d.gives))))
