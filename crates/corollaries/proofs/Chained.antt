-- The branches and the rounds that a trace has told, by their places.
--   given bs b             the list so far after branch b
--   list_at n f rs r       the list before round r, where f is the first
--   branches_done, rounds_done
use Rattle.std.proofs.Common.{◌≡◌, ◌⊎◌, inl, inr, ℕ, zero, suc, pred, ◌+◌, ◌<◌, ◌≤◌, List, [], ◌∷◌, ◌++◌, length, get_or, Some, None, refl, sym, ap, subst, ◌∙◌, arith}
use Rattle.std.specs.Prelude.{is_some, true}
use Rattle.std.proofs.lemmas.List.{length-append, get_or_append_left, get_or-append-add}
use Rattle.algebra.specs.Fraction.{Fraction}
use Rattle.polynomials.specs.Terms.{Terms}
use Rattle.rounds.specs.Analysis as analysis
use Rattle.rounds.specs.Analysis.{Setting}
use Rattle.corollaries.specs.Stage.{Stage, no_stage}
use Rattle.corollaries.specs.Full.{BranchStages, orbit, meet, of_kind}
use Rattle.corollaries.proofs.Following.{WorkDone, Branches, first, further, Rounds, none, more}

abbrev pub no_branch : BranchStages
no_branch = record { orbit_stage = no_stage; meet_stage = None }

abbrev pub branch_of : List BranchStages → ℕ → BranchStages
branch_of bs b = get_or bs b (record { orbit_stage = no_stage; meet_stage = None })

unfoldable pub given : List BranchStages → ℕ → List (Terms Fraction)
given bs zero = (of_kind (branch_of bs 0) orbit).out
given bs (suc b) = (of_kind (branch_of bs (suc b)) meet).out

unfoldable pub list_at : ℕ → List (Terms Fraction) → List (List BranchStages) → ℕ
    → List (Terms Fraction)
list_at n f rs zero = f
list_at n f rs (suc r) = given (get_or rs r []) (pred n)

cases : (i j : ℕ) → i ≤ suc j → (i ≤ j) ⊎ (i ≡ suc j)
cases i j l = grind (arith, l)

at_last : {X : Type 0} (xs : List X) (x d : X) (i : ℕ) → length xs ≡ i → get_or (xs ++ x ∷ []) i d
    ≡ x
at_last xs x d i l = ap (λ n. get_or (xs ++ x ∷ []) n d) (let e : i ≡ length xs + 0 =
    omega (arith, l) in e) ∙ get_or-append-add xs (x ∷ []) 0 d

module _ (A : Setting) where
  pub record AreDone (k : ℕ) (gs : List (Terms Fraction)) (bs : List BranchStages) (n : ℕ)
      (hs : List (Terms Fraction)) : Type 0 where
    pub count : length bs ≡ suc n
    pub last : hs ≡ given bs n
    pub none : (branch_of bs 0).meet_stage ≡ None
    pub there : (b : ℕ) → suc b ≤ n → is_some (branch_of bs (suc b)).meet_stage ≡ true
    pub orbits : (b : ℕ) → b ≤ n → (so_far : List (Terms Fraction))
        × WorkDone A (analysis.orbit k b gs so_far) (of_kind (branch_of bs b) orbit)
    pub meets : (b : ℕ) → suc b ≤ n
        → WorkDone A (analysis.meet k (suc b) gs (given bs b) (of_kind (branch_of bs (suc b))
        orbit).out) (of_kind (branch_of bs (suc b)) meet)

  module _ (k : ℕ) (gs : List (Terms Fraction)) (bs : List BranchStages) (n : ℕ)
      (so_far : List (Terms Fraction)) (s t : Stage)
      (ih : AreDone k gs bs n so_far) (x : WorkDone A (analysis.orbit k (suc n) gs so_far) s)
      (y : WorkDone A (analysis.meet k (suc n) gs so_far s.out) t) where
    new : BranchStages
    new = record { orbit_stage = s; meet_stage = Some t }

    bs' : List BranchStages
    bs' = bs ++ record { orbit_stage = s; meet_stage = Some t } ∷ []

    at_old : (i : ℕ) → i ≤ n → branch_of bs' i ≡ branch_of bs i
    unfolding bs'
    at_old i l = get_or_append_left bs (record { orbit_stage = s; meet_stage = Some t } ∷ [])
        no_branch i (let c = ih.count in omega (arith, c, l))

    at_new : branch_of bs' (suc n) ≡ new
    unfolding bs' new
    at_new = at_last bs (record { orbit_stage = s; meet_stage = Some t }) no_branch (suc n) ih.count

    given_old : (i : ℕ) → i ≤ n → given bs' i ≡ given bs i
    unfolding given
    given_old zero l = ap (λ (b : BranchStages). (of_kind b orbit).out) (at_old 0 l)
    given_old (suc i) l = ap (λ (b : BranchStages). (of_kind b meet).out) (at_old (suc i) l)

    new_orbit : s ≡ of_kind (branch_of bs' (suc n)) orbit
    unfolding new
    new_orbit = sym (ap (λ (b : BranchStages). of_kind b orbit) at_new)

    new_meet : t ≡ of_kind (branch_of bs' (suc n)) meet
    unfolding new
    new_meet = sym (ap (λ (b : BranchStages). of_kind b meet) at_new)

    so_far_is : so_far ≡ given bs' n
    so_far_is = ih.last ∙ sym (given_old n (omega arith))

    longer : AreDone k gs (bs ++ record { orbit_stage = s; meet_stage = Some t } ∷ []) (suc n) t.out
    unfolding bs' given new
    longer = record {
      count = length-append bs (record { orbit_stage = s; meet_stage = Some t } ∷ [])
          ∙ (let c = ih.count in omega (arith, c));
      last = ap (λ (u : Stage). u.out) new_meet;
      none = ap (λ (z : BranchStages). z.meet_stage) (at_old 0 (omega arith)) ∙ ih.none;
      there = λ b l. there_at b (cases (suc b) n l);
      orbits = λ b l. orbit_at b (cases b n l);
      meets = λ b l. meet_at b (cases (suc b) n l);
    }
      where
        there_at : (b : ℕ) → (suc b ≤ n) ⊎ (suc b ≡ suc n)
            → is_some (branch_of bs' (suc b)).meet_stage ≡ true
        there_at b (inl l) = ap (λ (z : BranchStages). is_some z.meet_stage) (at_old (suc b) l)
            ∙ ih.there b l
        there_at b (inr e) = ap (λ c. is_some (branch_of bs' c).meet_stage) e
            ∙ ap (λ (z : BranchStages). is_some z.meet_stage) at_new

        orbit_at : (b : ℕ) → (b ≤ n) ⊎ (b ≡ suc n) → (sf : List (Terms Fraction))
            × WorkDone A (analysis.orbit k b gs sf) (of_kind (branch_of bs' b) orbit)
        orbit_at b (inl l) = let o = ih.orbits b l in (
          o.0,
          subst (λ (z : BranchStages). WorkDone A (analysis.orbit k b gs o.0)
              (of_kind z orbit)) (sym (at_old b l)) o.1,
        )
        orbit_at b (inr e) = (
          so_far,
          subst (λ c. WorkDone A (analysis.orbit k c gs so_far)
              (of_kind (branch_of bs' c) orbit)) (sym e)
              (subst (WorkDone A (analysis.orbit k (suc n) gs so_far)) new_orbit x),
        )

        here : WorkDone A (analysis.meet k (suc n) gs (given bs' n) (of_kind (branch_of bs' (suc n))
            orbit).out) (of_kind (branch_of bs' (suc n)) meet)
        here = subst
            (WorkDone A (analysis.meet k (suc n) gs (given bs' n) (of_kind (branch_of bs' (suc n))
            orbit).out)) new_meet
            (subst (λ l.
            WorkDone A (analysis.meet k (suc n) gs l (of_kind (branch_of bs' (suc n))
            orbit).out) t) so_far_is
            (subst (λ (u : Stage). WorkDone A (analysis.meet k (suc n) gs so_far u.out) t) new_orbit
            y))

        meet_at : (b : ℕ) → (suc b ≤ n) ⊎ (suc b ≡ suc n)
            → WorkDone A (analysis.meet k (suc b) gs (given bs' b) (of_kind (branch_of bs' (suc b))
            orbit).out) (of_kind (branch_of bs' (suc b)) meet)
        meet_at b (inl l) =
            subst (λ l.
            WorkDone A (analysis.meet k (suc b) gs l (of_kind (branch_of bs' (suc b))
            orbit).out) (of_kind (branch_of bs' (suc b)) meet))
            (sym (given_old b (omega (arith, l))))
            (subst (λ (z : BranchStages).
            WorkDone A (analysis.meet k (suc b) gs (given bs b) (of_kind z orbit).out)
            (of_kind z meet)) (sym (at_old (suc b) l)) (ih.meets b l))
        meet_at b (inr e) =
            let same : n ≡ b = omega (arith, e) in
            subst (λ c.
            WorkDone A (analysis.meet k (suc c) gs (given bs' c)
            (of_kind (branch_of bs' (suc c)) orbit).out) (of_kind (branch_of bs' (suc c))
            meet)) same here

  pub branches_done : (k : ℕ) (gs : List (Terms Fraction)) (bs : List BranchStages) (n : ℕ)
      (hs : List (Terms Fraction)) → Branches A k gs bs n hs → AreDone k gs bs n hs
  unfolding given
  branches_done k gs _ _ _ (first s x) = record {
    count = refl;
    last = refl;
    none = refl;
    there = λ b l. absurd (omega (arith, l));
    orbits = λ b l. only b l;
    meets = λ b l. absurd (omega (arith, l));
  }
    where
      only : (b : ℕ) → b ≤ 0 → (so_far : List (Terms Fraction))
          × WorkDone A (analysis.orbit k b gs so_far)
          (of_kind (branch_of (record { orbit_stage = s; meet_stage = None } ∷ []) b) orbit)
      only zero l = ([], x)
      only (suc b) l = absurd (omega (arith, l))
  branches_done k gs _ _ _ (further bs b so_far s t before x y) =
      longer k gs bs b so_far s t (branches_done k gs bs b so_far before) x y

  pub record RoundsDone (f : List (Terms Fraction)) (rs : List (List BranchStages)) (k : ℕ)
      (gs : List (Terms Fraction)) : Type 0 where
    pub count : length rs ≡ k
    pub last : gs ≡ list_at (length A.forms) f rs k
    pub each : (r : ℕ) → r < k → AreDone (suc r) (list_at (length A.forms) f rs r) (get_or rs r [])
        (pred (length A.forms)) (list_at (length A.forms) f rs (suc r))

  module _ (f : List (Terms Fraction)) (rs : List (List BranchStages)) (k : ℕ)
      (gs : List (Terms Fraction)) (bs : List BranchStages) (hs : List (Terms Fraction))
      (ih : RoundsDone f rs k gs) (x : AreDone (suc k) gs bs (pred (length A.forms)) hs) where
    abbrev n : ℕ
    n = length A.forms

    rs' : List (List BranchStages)
    rs' = rs ++ bs ∷ []

    round_old : (r : ℕ) → r < k → get_or rs' r [] ≡ get_or rs r []
    unfolding rs'
    round_old r l = get_or_append_left rs (bs ∷ []) [] r (let c = ih.count in omega (arith, c, l))

    round_new : get_or rs' k [] ≡ bs
    unfolding rs'
    round_new = at_last rs bs [] k ih.count

    list_old : (r : ℕ) → r ≤ k → list_at n f rs' r ≡ list_at n f rs r
    unfolding list_at
    list_old zero l = refl
    list_old (suc r) l = ap (λ z. given z (pred n)) (round_old r l)

    list_new : hs ≡ list_at n f rs' (suc k)
    unfolding list_at
    list_new = x.last ∙ sym (ap (λ z. given z (pred n)) round_new)

    round_cases : (r : ℕ) → r < suc k → (r < k) ⊎ (k ≡ r)
    round_cases r l = grind (arith, l)

    each_at : (r : ℕ) → (r < k) ⊎ (k ≡ r) → AreDone (suc r) (list_at n f rs' r) (get_or rs' r [])
        (pred n) (list_at n f rs' (suc r))
    each_at r (inl l) =
        subst (λ z. AreDone (suc r) z (get_or rs' r []) (pred n) (list_at n f rs' (suc r)))
        (sym (list_old r (omega (arith, l))))
        (subst (λ z. AreDone (suc r) (list_at n f rs r) z (pred n) (list_at n f rs' (suc r)))
        (sym (round_old r l))
        (subst (λ z. AreDone (suc r) (list_at n f rs r) (get_or rs r []) (pred n) z)
        (sym (list_old (suc r) l)) (ih.each r l)))
    each_at r (inr e) = subst (λ j. AreDone (suc j) (list_at n f rs' j) (get_or rs' j []) (pred n)
        (list_at n f rs' (suc j))) e
        (subst (λ z. AreDone (suc k) z (get_or rs' k []) (pred n) (list_at n f rs' (suc k)))
        (ih.last ∙ sym (list_old k (omega arith)))
        (subst (λ z. AreDone (suc k) gs z (pred n) (list_at n f rs' (suc k))) (sym round_new)
        (subst (λ z. AreDone (suc k) gs bs (pred n) z) list_new x)))

    one_round : RoundsDone f (rs ++ bs ∷ []) (suc k) hs
    unfolding rs'
    one_round = record {
      count = length-append rs (bs ∷ []) ∙ (let c = ih.count in omega (arith, c));
      last = list_new;
      each = λ r l. each_at r (round_cases r l);
    }

  pub rounds_done : (f : List (Terms Fraction)) (rs : List (List BranchStages)) (k : ℕ)
      (gs : List (Terms Fraction)) → Rounds A f rs k gs → RoundsDone f rs k gs
  unfolding list_at
  rounds_done f _ _ _ none = record {
    count = refl;
    last = refl;
    each = λ r l. absurd (omega (arith, l));
  }
  rounds_done f _ _ _ (more rs k gs bs hs before x) =
      one_round f rs k gs bs hs (rounds_done f rs k gs before)
      (branches_done (suc k) gs bs (pred (length A.forms)) hs x)
